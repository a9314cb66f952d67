-- Each way through the definition of a frame at a place, as a law over a buffer and its places.
use Prim.Native.Nat.{ℕ, ◌+◌, ◌-◌, ◌*◌, ◌≤◌, ◌<◌}
use mathlib.Core.Path.{◌≡◌, refl, sym}
use mathlib.Core.Bool.{Bool, true, false, cond}
use mathlib.Core.List.{List}
use native.Mathlib.Omega.{arith}
use borrow.Author.Rules.{rules}
use lib.ListN.{length, take, drop, length-drop}
use lib.Seq.{get_or-drop, drop-drop}
use Rattle.model.specs.Packet.{byte, number16}
use Rattle.model.specs.Frames.{frame_size, starts_whole, first_packet, after_first}
use Rattle.theorems.proofs.Frames.{whole_if, whole_then, cut_if}
use Rattle.std.specs.Prelude.{Some, None}
use Rattle.framing.specs.declared.Frame.{Frame}
use Rattle.framing.specs.Frame.{frame_at}

module _ (bs : List ℕ) (at : ℕ) where
  size_there : frame_size (drop at bs) ≡ 2 + (byte bs at * 256 + byte bs (at + 1))
  unfolding frame_size
  size_there = let here : at + 0 ≡ at = omega arith in rw (get_or-drop at bs 0 0, get_or-drop at bs 1 0, here)

  none_whole : length bs - at < frame_size (drop at bs) → None ≡ frame_at bs at
  unfolding frame_at
  none_whole h = rw (cut_if (drop at bs) (omega (arith, length-drop at bs)))

  pub length_cut : length bs - at < 2 → None ≡ frame_at bs at
  length_cut h = none_whole (omega (arith, size_there))

  module _ (two : 2 ≤ length bs - at) (n : ℕ) (is : n ≡ number16 bs at) where
    pub packet_cut : length bs - at - 2 < n → None ≡ frame_at bs at
    packet_cut h = none_whole (omega (arith, size_there, is))

    pub packet_whole : n ≤ length bs - at - 2 → Some (record { start = at + 2; end = at + 2 + n }) ≡ frame_at bs at
    unfolding frame_at
    packet_whole h =
        let size : at + frame_size (drop at bs) ≡ at + 2 + n = omega (arith, size_there, is) in
        rw (whole_if (drop at bs) (omega (arith, size_there, is, length-drop at bs)), size)

-- a whole frame at a place, with its packet and what comes after it
pub record WholeAt (bs : List ℕ) (at start end : ℕ) : Type 0 where
  pub whole : starts_whole (drop at bs) ≡ true
  pub ordered : start ≤ end
  pub size : end ≡ at + frame_size (drop at bs)
  pub within : end ≤ length bs
  pub passed : at + 2 ≤ end
  pub packet : take (end - start) (drop start bs) ≡ first_packet (drop at bs)
  pub after : drop end bs ≡ after_first (drop at bs)

module _ (bs : List ℕ) (at : ℕ) where
  stands : starts_whole (drop at bs) ≡ true → WholeAt bs at (at + 2) (at + frame_size (drop at bs))
  unfolding frame_size first_packet after_first
  stands w =
      let n = number16 (drop at bs) 0 in
      let l : 2 + n ≤ length (drop at bs) = whole_then (drop at bs) w in
      let p : at + (2 + n) - (at + 2) ≡ n = omega arith in
      record {
        whole = w;
        ordered = omega arith;
        size = refl;
        within = omega (arith, l, length-drop at bs);
        passed = omega arith;
        packet = rw (p, drop-drop 2 at bs);
        after = sym (drop-drop (2 + n) at bs);
      }

  abbrev there : Frame
  there = record { start = at + 2; end = at + frame_size (drop at bs) }

  -- a packet that is told of, and none
  module _ (p : Frame) (is : Some p ≡ frame_at bs at) where
    pub whole_there : WholeAt bs at p.start p.end
    unfolding frame_at
    whole_there = go (starts_whole (drop at bs)) refl is
      where
        go : (b : Bool) → starts_whole (drop at bs) ≡ b
            → Some p ≡ cond b (Some there) None → WholeAt bs at p.start p.end
        go false e x = let u : ◌≡◌ {A = ℕ} 0 1 = cc in absurd (omega (arith, u))
        go true e x =
            let q : p ≡ there = cc in
            rw q (stands e)

  pub no_whole_there : None ≡ frame_at bs at → starts_whole (drop at bs) ≡ false
  unfolding frame_at
  no_whole_there = go (starts_whole (drop at bs))
    where
      go : (b : Bool) → None ≡ cond b (Some there) None → b ≡ false
      go false x = refl
      go true x = let u : ◌≡◌ {A = ℕ} 0 1 = cc in absurd (omega (arith, u))

pub ruleset framing = (rules, length_cut, packet_cut, packet_whole)
