-- The laws of writing a redundant packet: what the tests of refusal 12 leave, all pieces together, and the ways through the call.
use Prim.Native.Nat.{ℕ, zero, suc, ◌+◌, ◌*◌, ◌≤◌, ◌<◌}
use mathlib.Core.Path.{◌≡◌, refl, sym, ◌∙◌, subst}
use mathlib.Core.Bool.{Bool, true, false, not}
use mathlib.Core.List.{List, [], ◌∷◌}
use native.Mathlib.Omega.{arith}
use borrow.Author.Rules.{rules}
use borrow.Author.Tests.{lt-ltb, le-ltb, not-true, not-false}
use lib.ListN.{length}
use Rattle.model.specs.declared.Codes.{Codes}
use Rattle.model.specs.declared.Report.{Report}
use Rattle.model.specs.declared.OlderReport.{OlderReport}
use Rattle.refusals.specs.Refusals.{answered, refused_by}
use Rattle.model.specs.Blocks.{headers_of, data_of}
use Rattle.model.specs.Table.{place}
use Rattle.model.specs.WriteRedundant.{older_given, older_in_range, all_older_in_range, redundant_packet_of, redundant_in_range, write_redundant}
use Rattle.refusals.proofs.Tests.{and_then}
use Rattle.theorems.proofs.Packets.{ranges, first_bytes}
use Rattle.theorems.proofs.WrittenBlocks.{Tested, older_ranges, tested, packet_type, bytes_length}
use Rattle.writer.specs.Pieces.{put_at}
use Rattle.block_pieces.specs.Pieces.{OlderAsked, EndsAsked, BlocksAsked, older_put, ends_put}

-- WHAT THE TESTS LEAVE

older_asked : (codes : Codes) (r : Report) (o : OlderReport) → r.payload_type ≤ 127 → older_in_range codes r o ≡ true → OlderAsked r o
older_asked codes r o t h =
    let k = older_ranges codes r o h in
    record { type = t; offset = k.offset; payload = record { code = omega (arith, k.byte); volume = k.volume; duration = k.most } }

blocks_asked : (codes : Codes) (r : Report) (type count : ℕ) (first second : OlderReport)
    → redundant_in_range codes r type count first second ≡ true → BlocksAsked r type count first second
unfolding all_older_in_range
blocks_asked codes r type count first second h = record { few = t.few; ends = ends; older_first = one; older_second = two }
  where
    t : Tested codes r type count first second
    t = tested codes r type count first second h

    ends : EndsAsked r type
    ends =
        let k = ranges codes r t.writable.report in
        record {
          type = k.type;
          other = packet_type codes r type (older_given count first second) t.writable;
          payload = record { code = omega (arith, k.byte); volume = k.volume; duration = k.most };
        }

    one : 1 ≤ count → OlderAsked r first
    one l = older_asked codes r first ends.type (go count l t.writable.older)
      where
        go : (n : ℕ) → 1 ≤ n → all_older_in_range codes r (older_given n first second) ≡ true → older_in_range codes r first ≡ true
        go zero l e = absurd (omega arith)
        go (suc n) l e = (and_then (older_in_range codes r first) _ e).0

    two : 2 ≤ count → OlderAsked r second
    two l = older_asked codes r second ends.type (go count l t.writable.older)
      where
        go : (n : ℕ) → 2 ≤ n → all_older_in_range codes r (older_given n first second) ≡ true → older_in_range codes r second ≡ true
        go zero l e = absurd (omega arith)
        go (suc zero) l e = absurd (omega arith)
        go (suc (suc n)) l e = (and_then (older_in_range codes r second) _ (and_then (older_in_range codes r first) _ e).1).0

module _ (r : Report) (type count : ℕ) (first second : OlderReport) (asked : BlocksAsked r type count first second) where
  pub at_most_two : count ≤ 2
  at_most_two = asked.few

  pub ends_asked : EndsAsked r type
  ends_asked = asked.ends

  pub first_asked : 1 ≤ count → OlderAsked r first
  first_asked = asked.older_first

  pub second_asked : 2 ≤ count → OlderAsked r second
  second_asked = asked.older_second

-- ALL PIECES

-- In an output whose first bytes are named one by one the pieces come to the packet.
module _ (r : Report) (type : ℕ) (first second : OlderReport) (output : List ℕ) where
  alone_put : 17 ≤ length output → ends_put r type 0 output ≡ place (redundant_packet_of r type []) output
  unfolding ends_put put_at redundant_packet_of headers_of data_of
  alone_put h =
      subst (λ (l : List ℕ). ends_put r type 0 l ≡ place (redundant_packet_of r type []) l) (first_bytes 17 output h) refl

  one_put : 25 ≤ length output
      → older_put r first 0 1 (ends_put r type 1 output) ≡ place (redundant_packet_of r type (first ∷ [])) output
  unfolding ends_put older_put put_at redundant_packet_of headers_of data_of
  one_put h =
      subst (λ (l : List ℕ). older_put r first 0 1 (ends_put r type 1 l) ≡ place (redundant_packet_of r type (first ∷ [])) l)
      (first_bytes 25 output h) refl

  two_put : 33 ≤ length output
      → older_put r second 1 2 (older_put r first 0 2 (ends_put r type 2 output))
      ≡ place (redundant_packet_of r type (first ∷ second ∷ [])) output
  unfolding ends_put older_put put_at redundant_packet_of headers_of data_of
  two_put h =
      subst
      (λ (l : List ℕ). older_put r second 1 2 (older_put r first 0 2 (ends_put r type 2 l))
      ≡ place (redundant_packet_of r type (first ∷ second ∷ [])) l)
      (first_bytes 33 output h) refl

  module _ (count : ℕ) (room : 17 + 8 * count ≤ length output) (one : List ℕ) (e : one ≡ ends_put r type count output) where
    pub alone_there : count < 1 → one ≡ place (redundant_packet_of r type (older_given count first second)) output
    alone_there h =
        let n : count ≡ 0 = omega arith in
        e ∙ rw n (alone_put (omega arith))

    module _ (two : List ℕ) (f : two ≡ older_put r first 0 count one) where
      pub one_there : 1 ≤ count → count < 2 → two ≡ place (redundant_packet_of r type (older_given count first second)) output
      one_there h k =
          let n : count ≡ 1 = omega arith in
          f ∙ rw (e, n) (one_put (omega arith))

      pub two_there : (three : List ℕ) → BlocksAsked r type count first second → 2 ≤ count
          → three ≡ older_put r second 1 count two → three ≡ place (redundant_packet_of r type (older_given count first second)) output
      two_there three q h g =
          let n : count ≡ 2 = omega (arith, q.few) in
          g ∙ rw (f, e, n) (two_put (omega arith))

-- THE CALL

module _ (codes : Codes) (r : Report) (type count : ℕ) (first second : OlderReport) where
  module _ (output : List ℕ) (b : Bool) (e : b ≡ redundant_in_range codes r type count first second) where
    module _ (h : not b ≡ true) where
      pub out_of_range : refused_by 12 tt ≡ (write_redundant codes r type count first second output).answer
      unfolding write_redundant
      out_of_range = rw (← e, not-true b h)

      pub out_of_range_stays : output ≡ (write_redundant codes r type count first second output).output
      unfolding write_redundant
      out_of_range_stays = rw (← e, not-true b h)

    module _ (h : not b ≡ false) where
      pub in_range_asked : BlocksAsked r type count first second
      in_range_asked = blocks_asked codes r type count first second (sym e ∙ not-false b h)

      bytes_there : length (redundant_packet_of r type (older_given count first second)) ≡ 17 + 8 * count
      bytes_there = bytes_length r type count first second in_range_asked.few

      module _ (k : length output < 17 + 8 * count) where
        pub too_small : refused_by 14 tt ≡ (write_redundant codes r type count first second output).answer
        unfolding write_redundant
        too_small = rw (← e, not-false b h, bytes_there, lt-ltb (length output) (17 + 8 * count) k)

        pub too_small_stays : output ≡ (write_redundant codes r type count first second output).output
        unfolding write_redundant
        too_small_stays = rw (← e, not-false b h, bytes_there, lt-ltb (length output) (17 + 8 * count) k)

      module _ (k : 17 + 8 * count ≤ length output) where
        pub blocks_written : answered tt ≡ (write_redundant codes r type count first second output).answer
        unfolding write_redundant
        blocks_written = rw (← e, not-false b h, bytes_there, le-ltb (length output) (17 + 8 * count) k)

        pub blocks_written_after : (after : List ℕ) → after ≡ place (redundant_packet_of r type (older_given count first second)) output
            → after ≡ (write_redundant codes r type count first second output).output
        unfolding write_redundant
        blocks_written_after after x = x ∙ rw (← e, not-false b h, bytes_there, le-ltb (length output) (17 + 8 * count) k) refl

pub ruleset writing_blocks = (
  rules,
  at_most_two,
  ends_asked,
  first_asked,
  second_asked,
  alone_there,
  one_there,
  two_there,
  out_of_range,
  out_of_range_stays,
  in_range_asked,
  too_small,
  too_small_stays,
  blocks_written,
  blocks_written_after,
)
