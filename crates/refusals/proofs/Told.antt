-- No two answers are told alike: each can be had back from what it tells. So a promise about what an answer tells determines the answer.
-- And what the answer is, where its telling is known.
use Prim.Native.Nat.{ℕ}
use mathlib.Core.Path.{◌≡◌, refl, ap, sym, ◌∙◌}
use mathlib.Core.Bool.{Bool, true, false, cond, false≢true}
use borrow.Author.Tests.{eqb-true}
use lib.Dec.{eqb}
use Rattle.std.specs.Prelude.{Result, Ok, Err}
use Rattle.refusals.specs.declared.Refusal.{Refusal}
use Rattle.refusals.specs.declared.Refusal.TheVariants as refusal
use Rattle.refusals.specs.Refusals.{Told, none, number_of, told, answered, refused_by, telling}

-- NUMBERS

numbered : ℕ → Refusal
numbered n =
    cond (eqb n 1) refusal.TooShort (
    cond (eqb n 2) refusal.WrongVersion (
    cond (eqb n 3) refusal.HeaderPastEnd (
    cond (eqb n 4) refusal.BadPadding (
    cond (eqb n 5) refusal.OtherPayloadType (
    cond (eqb n 6) refusal.OtherSsrc (
    cond (eqb n 7) refusal.NotOneReport (
    cond (eqb n 8) refusal.CodeNotInSet (
    cond (eqb n 9) refusal.NoDuration (
    cond (eqb n 10) refusal.OffsetTooLarge (
    cond (eqb n 11) refusal.TableFull (
    cond (eqb n 12) refusal.OutOfRange (
    cond (eqb n 13) refusal.NoSuchNumber (
    cond (eqb n 14) refusal.OutputTooSmall (
    cond (eqb n 15) refusal.ListTooSmall (
    cond (eqb n 16) refusal.InvalidTable (
    cond (eqb n 17) refusal.Packed (
    cond (eqb n 18) refusal.HeadersRunOut (
    cond (eqb n 19) refusal.BlocksTooLong (
    refusal.NoCodes)))))))))))))))))))

numbered_back : (r : Refusal) → numbered (number_of r) ≡ r
unfolding numbered
numbered_back refusal.TooShort = refl
numbered_back refusal.WrongVersion = refl
numbered_back refusal.HeaderPastEnd = refl
numbered_back refusal.BadPadding = refl
numbered_back refusal.OtherPayloadType = refl
numbered_back refusal.OtherSsrc = refl
numbered_back refusal.NotOneReport = refl
numbered_back refusal.CodeNotInSet = refl
numbered_back refusal.NoDuration = refl
numbered_back refusal.OffsetTooLarge = refl
numbered_back refusal.TableFull = refl
numbered_back refusal.OutOfRange = refl
numbered_back refusal.NoSuchNumber = refl
numbered_back refusal.OutputTooSmall = refl
numbered_back refusal.ListTooSmall = refl
numbered_back refusal.InvalidTable = refl
numbered_back refusal.Packed = refl
numbered_back refusal.HeadersRunOut = refl
numbered_back refusal.BlocksTooLong = refl
numbered_back refusal.NoCodes = refl

pub never_none : (r : Refusal) → eqb (number_of r) none ≡ false
never_none refusal.TooShort = refl
never_none refusal.WrongVersion = refl
never_none refusal.HeaderPastEnd = refl
never_none refusal.BadPadding = refl
never_none refusal.OtherPayloadType = refl
never_none refusal.OtherSsrc = refl
never_none refusal.NotOneReport = refl
never_none refusal.CodeNotInSet = refl
never_none refusal.NoDuration = refl
never_none refusal.OffsetTooLarge = refl
never_none refusal.TableFull = refl
never_none refusal.OutOfRange = refl
never_none refusal.NoSuchNumber = refl
never_none refusal.OutputTooSmall = refl
never_none refusal.ListTooSmall = refl
never_none refusal.InvalidTable = refl
never_none refusal.Packed = refl
never_none refusal.HeadersRunOut = refl
never_none refusal.BlocksTooLong = refl
never_none refusal.NoCodes = refl

-- TOLD ANSWERS

abbrev pub Determined : {A B : Type 0} → (A → Told B) → Type 0
Determined {A} tell = (a b : A) → tell a ≡ tell b → a ≡ b

module _ {A : Type 0} (zeros : A) where
  back : Told A → Result A Refusal
  back t = cond t.refused (Err (numbered t.number)) (Ok t.values)

  again : (a : Result A Refusal) → back (told zeros a) ≡ a
  unfolding back
  again (Ok v) = refl
  again (Err r) = ap Err (numbered_back r)

  pub determined : Determined (told zeros)
  determined a b e = sym (again a) ∙ ap back e ∙ again b

-- WHAT IS TOLD where a chain of tests tells it

module _ {A : Type 0} (n : ℕ) (zeros v : A) where
  pub given : (x : A) → answered x ≡ telling n zeros v → (n ≡ none) × (x ≡ v)
  given x = go (eqb n none) refl
    where
      go : (b : Bool) → eqb n none ≡ b → answered x ≡ cond b (answered v) (refused_by n zeros) → (n ≡ none) × (x ≡ v)
      go true t w = (eqb-true n none t, ap (λ (t : Told A). t.values) w)
      go false t w = absurd (false≢true (ap (λ (t : Told A). t.refused) w))

  pub refused : (k : ℕ) → refused_by k zeros ≡ telling n zeros v → (k ≡ n) × (eqb n none ≡ false)
  refused k = go (eqb n none) refl
    where
      go : (b : Bool) → eqb n none ≡ b → refused_by k zeros ≡ cond b (answered v) (refused_by n zeros) → (k ≡ n) × (eqb n none ≡ false)
      go true t w = absurd (false≢true (sym (ap (λ (t : Told A). t.refused) w)))
      go false t w = (ap (λ (t : Told A). t.number) w, t)
