-- The events are put into the text one by one.
use Prim.Native.Nat.{ℕ, ◌≤◌}
use mathlib.Core.Path.{◌≡◌}
use borrow.Author.Rules.{rules}
use Rattle.refusals.specs.Refusals.{answered}
use Rattle.model.specs.declared.Table.{Table}
use Rattle.model.specs.Answers.{listed_of}
use Rattle.model.specs.List.{list_answer}
use Rattle.events.proofs.Going.{given}

-- no more events come than there is room for
pub few : (t : Table) (n : ℕ) → listed_of (answered n) ≡ list_answer t 128 → n ≤ 128
few t n e = (given t 128 n e).1.1

pub ruleset printing_events = (rules, few)
