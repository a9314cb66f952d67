-- One block heard and entered.
use Prim.Native.Nat.{ℕ, ◌+◌, ◌-◌, ◌<◌}
use mathlib.Core.Path.{◌≡◌, refl, sym, ◌∙◌, ap}
use mathlib.Core.Bool.{Bool, ◌&&◌}
use mathlib.Core.List.{List}
use borrow.Author.Rules.{rules}
use lib.ListN.{length, set, take, drop}
use Rattle.model.specs.declared.Received.{Received}
use Rattle.blocks.specs.declared.step.Block.{Block}
use Rattle.model.specs.Table.{holding}
use Rattle.model.specs.Receive.{offset, hear}
use Rattle.model.specs.Redundant.{entry_of}
use Rattle.model.proofs.Minus.{wrapped}
use Rattle.receive.specs.declared.Tested.{Tested}
use Rattle.receive.specs.Receives.{in_table, Hears}
use Rattle.block_taking.specs.Enters.{report_at, InPlace, Ready, EntersBlock, EntersOrPasses}

module _ (t : Tested) (bs : List ℕ) (time : ℕ) (m : Bool) (b : Block) (i : ℕ) (entries : List ℕ) where
  pub enters : (own : ℕ) → own ≡ offset b.offset time → (counts : Bool) → counts ≡ (m && b.primary)
      → (got : Received) (t' : Tested) → Hears t own counts (take (b.end - b.start) (drop b.start bs)) got t'
      → (entries' : List ℕ) → entries' ≡ set entries i (entry_of got) → EntersBlock t bs time m b i entries t' entries'
  enters own is_own counts is_counts got t' r entries' is =
      let same : hear (in_table t) (record { timestamp = own; marked = counts; payload = take (b.end - b.start) (drop b.start bs) })
      ≡ hear (in_table t) (report_at bs time m b)
      = λ i. hear (in_table t) (record { timestamp = is_own i; marked = is_counts i; payload = take (b.end - b.start) (drop b.start bs) }) in
      let count : t'.head.count ≡ got.count = λ i. (r.head i).count in
      record {
        table = r.table ∙ (λ i. (same i).table);
        head = r.head ∙ ap (λ (n : ℕ). holding n t.head) (sym count);
        lent = r.lent;
        entered = is ∙ ap (λ (a : Received). set entries i (entry_of a)) (r.answer ∙ (λ i. (same i).answer));
      }

  pub ready_there : Ready t bs b i entries → b.payload_type ≡ t.head.payload_type → InPlace bs b i entries
  ready_there r e = r.is_of_type e

  pub ready_lent : Ready t bs b i entries → b.payload_type ≡ t.head.payload_type → i < length entries
  ready_lent r e = (r.is_of_type e).lent

  pub passes : (b.payload_type ≡ t.head.payload_type → ⊥) → EntersOrPasses t bs time m b i entries i t entries
  passes n = record { enters = λ e. absurd (n e); passes = λ k. (refl, refl, refl) }

  pub enters_it : b.payload_type ≡ t.head.payload_type → (t' : Tested) (entries' : List ℕ)
      → EntersBlock t bs time m b i entries t' entries' → EntersOrPasses t bs time m b i entries (i + 1) t' entries'
  enters_it e t' entries' w = record { enters = λ k. (w, refl); passes = λ n. absurd (n e) }

pub ruleset taking = (rules, wrapped, enters, ready_there, ready_lent, passes, enters_it)
