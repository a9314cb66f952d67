-- One delivery that demand 3 speaks of: two events of code 66, which the table's set has beside the keys, the second from the very unit
-- where the first ends. The first has two segments of the largest size, across the wrap of the wire's timestamps, the second three short
-- ones. Reports are lost, repeated and out of order, and strangers come between. Every hypothesis holds of it, the theorem is applied to
-- it, and its list is computed as well.
use Prim.Native.Nat.{ℕ, zero, suc, ◌+◌, ◌%◌}
use mathlib.Core.Path.{◌≡◌, refl, sym, ap, ◌∙◌}
use mathlib.Core.Bool.{true, false, false≢true}
use mathlib.Core.List.Memᴰ
use mathlib.Core.List.{List, [], ◌∷◌, map}
use lib.Dec.{lit<, lit≤}
use lib.ListN.{drop}
use Rattle.model.specs.declared.Segment.{Segment}
use Rattle.model.specs.declared.Table.{Table}
use Rattle.model.specs.Codes.{is_in}
use Rattle.model.specs.Packet.{after_header, payload, header_refusal, payload_refusal, packet_of}
use Rattle.model.specs.Plan.{cut_from, cut, interim, reports_of_all, mark_first, all_on_wire, reports, report_at, write_report}
use Rattle.model.specs.Segments.{rising}
use Rattle.model.specs.Table.{segments_from, opened, all_valid, valid, holds, put}
use Rattle.model.specs.Receive.{heard_by, unheard, hear_refusal, probes, hear, arrival_in, refusal_for, packet_refusal, receive, table_after}
use Rattle.model.specs.Events.{units, loudest, quietest, last_ended, continues_nearest, continuing, events_from}
use Rattle.model.specs.List.{events}
use Rattle.theorems.specs.Sizes.{as_listed, Sent, plan_of, Apart, segments_in_all, Sizes, FitsTypes}
use Rattle.theorems.specs.Demands.{Empty, Lists, Handed, sent, stranger, Admitted, Needed, Delivered, packets}
use Rattle.theorems.proofs.FirstAlone.{demand_3, demand_3_in_bytes, in_bytes}
use Rattle.theorems.proofs.Basics.{Mem}
use Rattle.model.proofs.CodeRows.{negotiated}

-- opened so that the wire's timestamps wrap 65,536 units after the origin
abbrev pub table : Table
table = (opened negotiated 101 0x11223344 0xFFFF_0000).table

-- eight reports: 30000 with M, 60000, 65535 three times; 4465, 4465 with E twice
abbrev pub long : Sent
long = record { code = 66; start = 100; length = 70000; volume = 10; period = 30000; segment_size = 65535; sequence = 65534 }

-- eleven reports: 200 with M, 400 three times; 200, 400 three times; 200, 200 with E twice
abbrev pub short : Sent
short = record { code = 66; start = 70100; length = 1000; volume = 3; period = 200; segment_size = 400; sequence = 7 }

abbrev pub sent_events : List Sent
sent_events = long ∷ short ∷ []

-- a good packet of another SSRC; one from before the origin; one of a code that is not in the set; none of their bytes are sent
abbrev other_source : List ℕ
other_source = packet_of (record { marker = true; payload_type = 101; sequence = 1; timestamp = 0xFFFF_0000; ssrc = 7; code = 5; ended = false; volume = 10; duration = 65535 })

abbrev too_early : List ℕ
too_early = packet_of (record { marker = true; payload_type = 101; sequence = 1; timestamp = 0xFFFE_FFFF; ssrc = 0x11223344; code = 5; ended = false; volume = 10; duration = 65535 })

abbrev other_code : List ℕ
other_code = packet_of (record { marker = true; payload_type = 101; sequence = 1; timestamp = 0xFFFF_0064; ssrc = 0x11223344; code = 67; ended = false; volume = 10; duration = 65535 })

abbrev pub handed : List Handed
handed =
    stranger []
    ∷ sent short 10
    ∷ sent long 8
    ∷ sent short 8
    ∷ stranger other_source
    ∷ sent long 4
    ∷ sent long 1
    ∷ sent long 4
    ∷ stranger too_early
    ∷ sent short 2
    ∷ sent short 1
    ∷ stranger other_code
    ∷ []

-- THE HYPOTHESES

each : (P : Sent → Type 0) → P long → P short → (e : Sent) → Mem e sent_events → P e
each P a b e (Memᴰ.head q) = rw q a
each P a b e (Memᴰ.tail (Memᴰ.head q)) = rw q b
each P a b e (Memᴰ.tail (Memᴰ.tail x8)) = elim x8 [ ]

-- what is in a list behind its first k is in the list
pub behind : {A : Type 0} {x : A} (k : ℕ) (l : List A) → Mem x (drop k l) → Mem x l
behind zero l m = m
behind (suc k) [] m = m
behind (suc k) (y ∷ l) m = Memᴰ.tail (behind k l m)

in_sizes : Sizes table sent_events
unfolding is_in Apart segments_in_all cut_from
in_sizes = record {
  ranges = each _ refl refl;
  apart = (lit≤ tt, tt);
  near = each _ (lit< tt) (lit< tt);
  few = lit≤ tt;
}

fits : FitsTypes table sent_events []
fits = record {
  ssrc = lit< tt;
  origin = lit< tt;
  sequences = each _ (lit< tt) (lit< tt);
  bytes = λ p m. absurd (Memᴰ.not-nil m);
}

empty : Empty table
unfolding is_in valid rising all_valid segments_from
empty = record { empty = refl; passes = refl }

-- one call, or one label, after another
infixr 5 ◌next◌
abbrev pub ◌next◌ : {A B : Type 0} → A → B → A × B
a next b = (a, b)

admitted : Admitted sent_events table table handed
unfolding is_in Admitted receive packet_refusal refusal_for hear hear_refusal unheard probes heard_by arrival_in valid rising all_valid segments_from holds put header_refusal after_header payload
    payload_refusal write_report packet_of report_at reports all_on_wire mark_first reports_of_all interim cut_from
admitted =
    refl
    next (second, lit≤ tt, lit≤ tt)
    next (first, lit≤ tt, lit≤ tt)
    next (second, lit≤ tt, lit≤ tt)
    next refl
    next (first, lit≤ tt, lit≤ tt)
    next (first, lit≤ tt, lit≤ tt)
    next (first, lit≤ tt, lit≤ tt)
    next refl
    next (second, lit≤ tt, lit≤ tt)
    next (second, lit≤ tt, lit≤ tt)
    next refl
    next tt
  where
    first : Mem long sent_events
    first = Memᴰ.head refl

    second : Mem short sent_events
    second = Memᴰ.tail (Memᴰ.head refl)

long_needed : Needed table handed long
unfolding is_in cut_from report_at reports all_on_wire mark_first reports_of_all interim
long_needed = record { first = mark; full = full; ended = (8, end, refl) }
  where
    mark : Mem (sent long 1) handed
    mark = behind 6 handed (Memᴰ.head refl)

    end : Mem (sent long 8) handed
    end = behind 2 handed (Memᴰ.head refl)

    whole : Mem (sent long 4) handed
    whole = behind 5 handed (Memᴰ.head refl)

    Full : Segment → Type 0
    Full g = (k : ℕ) × Mem (sent long k) handed × ((report_at (plan_of table long) k).timestamp ≡ ((plan_of table long).start + g.offset) % 0x1_0000_0000)
        × ((report_at (plan_of table long) k).duration ≡ g.duration)

    full : (g : Segment) → Mem g (cut (plan_of table long)) → g.ended ≡ false → Full g
    full g (Memᴰ.head e) h = rw e (4, whole, refl, refl)
    full g (Memᴰ.tail (Memᴰ.head e)) h = absurd (false≢true (sym h ∙ ap (λ (s : Segment). s.ended) e))
    full g (Memᴰ.tail (Memᴰ.tail x9)) h = elim x9 [ ]

short_needed : Needed table handed short
unfolding is_in cut_from report_at reports all_on_wire mark_first reports_of_all interim
short_needed = record { first = mark; full = full; ended = (10, end, refl) }
  where
    mark : Mem (sent short 1) handed
    mark = behind 10 handed (Memᴰ.head refl)

    whole : Mem (sent short 2) handed
    whole = behind 9 handed (Memᴰ.head refl)

    next_whole : Mem (sent short 8) handed
    next_whole = behind 3 handed (Memᴰ.head refl)

    end : Mem (sent short 10) handed
    end = behind 1 handed (Memᴰ.head refl)

    Full : Segment → Type 0
    Full g = (k : ℕ) × Mem (sent short k) handed × ((report_at (plan_of table short) k).timestamp ≡ ((plan_of table short).start + g.offset) % 0x1_0000_0000)
        × ((report_at (plan_of table short) k).duration ≡ g.duration)

    full : (g : Segment) → Mem g (cut (plan_of table short)) → g.ended ≡ false → Full g
    full g (Memᴰ.head e) h = rw e (2, whole, refl, refl)
    full g (Memᴰ.tail (Memᴰ.head e)) h = rw e (8, next_whole, refl, refl)
    full g (Memᴰ.tail (Memᴰ.tail (Memᴰ.head e))) h = absurd (false≢true (sym h ∙ ap (λ (s : Segment). s.ended) e))
    full g (Memᴰ.tail (Memᴰ.tail (Memᴰ.tail x13))) h = elim x13 [ ]

pub delivered : Delivered table sent_events handed
delivered = record { empty = empty; sizes = in_sizes; fits = fits; admitted = admitted; needed = each _ long_needed short_needed }

-- THE THEOREM APPLIED
pub lists : Lists (table_after table (packets table handed)) (map as_listed sent_events)
lists = demand_3 table sent_events handed delivered

-- and in bytes
pub lists_in_bytes : Lists (table_after table (packets table handed)) (map as_listed sent_events)
lists_in_bytes = demand_3_in_bytes table sent_events (packets table handed) (in_bytes table sent_events handed delivered)

-- THE LIST, COMPUTED
pub list_computed : events (table_after table (packets table handed)) ≡ map as_listed sent_events
unfolding is_in table_after receive packet_refusal refusal_for hear hear_refusal unheard probes heard_by arrival_in valid rising all_valid segments_from holds put header_refusal after_header payload
    payload_refusal write_report packet_of report_at reports all_on_wire mark_first reports_of_all interim cut_from units loudest quietest last_ended
    continues_nearest continuing events_from
list_computed = refl
