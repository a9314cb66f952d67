-- The tests of refusal 16, column by column.
use Rattle.std.specs.Prelude.{◌≡◌, ℕ, ◌+◌, ◌/◌, ◌%◌, ◌<◌, ◌≤◌, Bool, true, false, List, length, take, slice_index, Option, Some, None}
use Rattle.model.specs.declared.Codes.{Codes}
use Rattle.model.specs.declared.Table.{Table}
use Rattle.model.specs.Codes.{is_in}
use Rattle.model.specs.Table.{valid}

-- the codes of the keys are at most so high
pub record AtMost (keys : List ℕ) (highest : ℕ) : Type 0 where
  pub each : (i : ℕ) → i < length keys → slice_index keys i % 256 ≤ highest

-- they are in the set
pub record CodesPass (codes : Codes) (keys : List ℕ) : Type 0 where
  pub each : (i : ℕ) → i < length keys → is_in codes (slice_index keys i % 256) ≡ true

-- each key is above the one before it, with an offset below 2^31
pub record KeysPass (keys : List ℕ) : Type 0 where
  pub near : (i : ℕ) → i < length keys → slice_index keys i < 0x80_0000_0000
  pub rise : (i : ℕ) → i + 1 < length keys → slice_index keys i < slice_index keys (i + 1)

-- what was heard is within its ranges: a duration, and the quietest, of 6 bits, not below the loudest
pub record InRange (told : ℕ) : Type 0 where
  pub long : 1 ≤ told % 0x1_0000
  pub ordered : told / 0x100_0000 ≤ told / 0x4_0000 % 64

-- so is each number
pub record HeardPass (heard : List ℕ) : Type 0 where
  pub each : (i : ℕ) → i < length heard → InRange (slice_index heard i)

-- bits 31 and 16
pub record Shows (r : ℕ) : Type 0 where
  pub top : 0x8000_0000 ≤ r
  pub odd : r / 0x1_0000 % 2 ≡ 1

-- they tell whether what was heard is within its ranges
pub record Weighs (told r : ℕ) : Type 0 where
  pub then : Shows r → InRange told
  pub if : InRange told → Shows r

-- an answer tells whether something holds
pub record Tells (b : Bool) (P : Type 0) : Type 0 where
  pub then : b ≡ true → P
  pub if : P → b ≡ true

-- no code of the keys is above a number found, and if there is none, the keys fail
abbrev pub Ranks : List ℕ → Option ℕ → Type 0
Ranks keys None = KeysPass keys → ⊥
Ranks keys (Some m) = KeysPass keys × AtMost keys m

-- a table that passes all tests but that of its codes, none of which is above m
pub record AllButCodes (t : Table) (m : ℕ) : Type 0 where
  pub few : t.head.count ≤ 128
  pub most : AtMost (take t.head.count t.keys) m
  pub decides : (b : Bool) → Tells b (CodesPass t.head.codes (take t.head.count t.keys)) → b ≡ valid t

-- a number found tells of such a table, and if there is none, the table fails a test
abbrev pub Highest : Table → Option ℕ → Type 0
Highest t None = false ≡ valid t
Highest t (Some m) = AllButCodes t m
