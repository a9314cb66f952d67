-- Bytes of a buffer moved to its front.
use Prim.Native.Nat.{ℕ, ◌+◌, ◌-◌, ◌≤◌}
use mathlib.Core.Path.{◌≡◌, refl, sym, ◌∙◌, ap}
use mathlib.Core.List.{List}
use native.Mathlib.Omega.{arith}
use borrow.Author.Rules.{rules}
use lib.ListN.{length, take, drop, length-drop}
use Rattle.std.specs.List.{copy_within}
use Rattle.std.proofs.lemmas.List.{drop-take}
use Rattle.std.proofs.lemmas.List.Edits.{length-paste, take-paste}
use Rattle.input.specs.Buffer.{Keeps}

module _ (b : List ℕ) (at n : ℕ) (order : at ≤ n) (inside : n ≤ length b) where
  front_of : take (n - at) (drop at b) ≡ drop at (take n b)
  front_of = let m : at + (n - at) ≡ n = omega arith in sym (drop-take at (n - at) b) ∙ ap (λ (k : ℕ). drop at (take k b)) m

  pub all_there : at ≡ 0 → Keeps at n b (n - at) b
  all_there e = record { same = refl; within = omega arith; front = (let z : b ≡ drop at b = rw e refl in ap (take (n - at)) z) ∙ front_of }

  pub moved : (b' : List ℕ) → b' ≡ copy_within b at n 0 → Keeps at n b (n - at) b'
  moved b' e =
      let room : n - at ≤ length (drop at b) = omega (arith, length-drop at b) in
      let same : length b' ≡ length b = ap length e ∙ length-paste b 0 (drop at b) (n - at) (omega arith) room in
      record {
        same = same;
        within = omega (arith, same);
        front = ap (take (n - at)) e ∙ (let z : n - at ≡ 0 + (n - at) = omega arith in ap (λ (k : ℕ). take k (copy_within b at n 0)) z) ∙ take-paste b 0 (drop at b) (n - at) (omega arith) room ∙ front_of;
      }

pub ruleset moves = (rules, all_there, moved)
