-- A table that opening does not refuse passes the tests.
use Prim.Native.Nat.{ℕ}
use mathlib.Core.Path.{◌≡◌, sym, ap}
use mathlib.Core.Bool.{true}
use Rattle.refusals.specs.Refusals.{answered}
use Rattle.model.specs.declared.Codes.{Codes}
use Rattle.model.specs.declared.Opened.{Opened}
use Rattle.model.specs.declared.Table.{Table}
use Rattle.model.specs.Answers.{opened_of}
use Rattle.model.specs.Table.{opened, valid}
use Rattle.theorems.proofs.Openings.{opened_empty}

pub opened_valid : (codes : Codes) (payload_type ssrc origin : ℕ) (t : Table) → opened_of (answered t) ≡ opened codes payload_type ssrc origin
    → valid t ≡ true
opened_valid codes payload_type ssrc origin t e =
    rw (ap (λ (o : Opened). o.table) e) (opened_empty codes payload_type ssrc origin (ap (λ (o : Opened). o.refusal) (sym e))).passes
