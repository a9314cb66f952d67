-- The tests of the first n numbers of a column, as they stand in it.
use Rattle.std.proofs.Common.{◌≡◌, ℕ, ◌+◌, ◌%◌, ◌<◌, ◌≤◌, true, List, length, get_or, take, arith}
use lib.Seq.{length-take-le, get_or-take}
use Rattle.model.specs.declared.Codes.{Codes}
use Rattle.model.specs.Codes.{is_in}
use Rattle.valid.specs.Passes.{KeysPass, CodesPass, HeardPass, InRange}

pub record FirstKeys (keys : List ℕ) (n : ℕ) : Type 0 where
  pub near : (i : ℕ) → i < n → get_or keys i 0 < 0x80_0000_0000
  pub rise : (i : ℕ) → i + 1 < n → get_or keys i 0 < get_or keys (i + 1) 0

pub record FirstHeard (heard : List ℕ) (n : ℕ) : Type 0 where
  pub each : (i : ℕ) → i < n → InRange (get_or heard i 0)

pub record FirstCodes (codes : Codes) (keys : List ℕ) (n : ℕ) : Type 0 where
  pub each : (i : ℕ) → i < n → is_in codes (get_or keys i 0 % 256) ≡ true

module _ (l : List ℕ) (n : ℕ) (within : n ≤ length l) where
  long : length (take n l) ≡ n
  long = length-take-le n l within

  -- what holds of each of the first n, and of each of these by themselves
  among : (P : ℕ → Type 0) → ((i : ℕ) → i < length (take n l) → P (get_or (take n l) i 0)) → (i : ℕ) → i < n → P (get_or l i 0)
  among P f i h = rw (get_or-take n l i 0 h) at (f i (rw long h))

  by_itself : (P : ℕ → Type 0) → ((i : ℕ) → i < n → P (get_or l i 0)) → (i : ℕ) → i < length (take n l) → P (get_or (take n l) i 0)
  by_itself P f i h = let k : i < n = rw long at h in rw (get_or-take n l i 0 k) (f i k)

  pub keys_there : KeysPass (take n l) → FirstKeys l n
  keys_there k = record {
    near = among (λ x. x < 0x80_0000_0000) k.near;
    rise = λ i h. rw (get_or-take n l i 0 (omega arith), get_or-take n l (i + 1) 0 h) at (k.rise i (rw long h));
  }

  pub keys_alone : FirstKeys l n → KeysPass (take n l)
  keys_alone k = record {
    near = by_itself (λ x. x < 0x80_0000_0000) k.near;
    rise = λ i h.
        let j : i + 1 < n = rw long at h in
        rw (get_or-take n l i 0 (omega arith), get_or-take n l (i + 1) 0 j) (k.rise i j);
  }

  pub heard_there : HeardPass (take n l) → FirstHeard l n
  heard_there k = record { each = among InRange k.each }

  pub heard_alone : FirstHeard l n → HeardPass (take n l)
  heard_alone k = record { each = by_itself InRange k.each }

  pub codes_there : (s : Codes) → CodesPass s (take n l) → FirstCodes s l n
  codes_there s k = record { each = among (λ x. is_in s (x % 256) ≡ true) k.each }

  pub codes_alone : (s : Codes) → FirstCodes s l n → CodesPass s (take n l)
  codes_alone s k = record { each = by_itself (λ x. is_in s (x % 256) ≡ true) k.each }
