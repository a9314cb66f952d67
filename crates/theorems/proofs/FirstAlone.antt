-- 01's DEMAND 3, with labels and in bytes: the calls are of its receiver alone, so it is an instance of the claim over both.
use Prim.Native.Nat.{ℕ}
use mathlib.Core.Path.{◌≡◌, refl, sym, ap, ◌∙◌, subst}
use mathlib.Core.List.Memᴰ
use mathlib.Core.List.{List, [], ◌∷◌, map}
use mathlib.Core.Logic.{inl, inr, ⊎_elim}
use native.Mathlib.Omega.{arith}
use Rattle.model.specs.declared.Table.{Table}
use Rattle.model.specs.Receive.{arrival_in, receive, arrivals}
use Rattle.theorems.specs.Sizes.{as_listed, Sent, plan_of}
use Rattle.theorems.specs.Demands.{
  Lists,
  Handed,
  sent,
  stranger,
  bytes_of,
  Fair,
  Admitted,
  Delivered,
  packets,
  Demand3,
  Demand3Corollary,
  packet_at,
  AdmittedBytes,
  ArrivesBytes,
  DeliveredBytes,
  Demand3InBytes,
  Demand3InBytesCorollary,
}
use Rattle.theorems.specs.Redundancy.{
  Receipt,
  by_first,
  after_receipts,
  arrivals_of,
  report,
  Given,
  first,
  receipts,
  AdmittedGiven,
  labels,
  sent_arrival,
  DeliveredGiven,
  AdmittedReceipts,
  heard_all,
  BringsReport,
  DeliveredReceipts,
}
use Rattle.theorems.proofs.Calls.{of_first, first_calls, first_arrivals}
use Rattle.theorems.proofs.Sends.{some_report}
use Rattle.theorems.proofs.Arrives.{along_empty}
use Rattle.theorems.proofs.Demand3.{
  packet_heard,
  demand_3_redundant_in_bytes,
  demand_3_redundant_in_bytes_corollary,
  demand_3_redundant,
  demand_3_redundant_corollary,
}
use Rattle.theorems.proofs.Basics.{Mem, mem_map}

-- WITH LABELS

abbrev pub alone : List Handed → List Given
alone hs = map first hs

alone_admitted : (es : List Sent) (t u : Table) (hs : List Handed) → Admitted es t u hs → AdmittedGiven es t u (alone hs)
unfolding Admitted AdmittedGiven
alone_admitted es t u [] w = tt
alone_admitted es t u (h ∷ hs) w = (w.0, alone_admitted es t (receive u (bytes_of t h)).table hs w.1)

alone_labelled : (hs : List Handed) (e : Sent) (k : ℕ) → Mem (sent e k) hs → Mem (report e k) (labels (alone hs))
unfolding labels
alone_labelled [] e k m = absurd (Memᴰ.not-nil m)
alone_labelled (sent f j ∷ hs) e k m =
    ⊎_elim (λ (q : sent e k ≡ sent f j). Memᴰ.head cc) (λ n. Memᴰ.tail (alone_labelled hs e k n)) (Memᴰ.cases_cons m)
alone_labelled (stranger b ∷ hs) e k m =
    ⊎_elim (λ (q : sent e k ≡ stranger b). absurd (no q)) (λ n. Memᴰ.tail (alone_labelled hs e k n)) (Memᴰ.cases_cons m)
  where
    no : sent e k ≡ stranger b → ⊥
    no q = let u : ◌≡◌ {A = ℕ} 0 1 = cc in omega (arith, u)

pub as_given : (t : Table) (es : List Sent) (hs : List Handed) → Delivered t es hs → DeliveredGiven t es (alone hs)
as_given t es hs d = record {
  empty = d.empty;
  sizes = d.sizes;
  fits = d.fits;
  admitted = alone_admitted es t t hs d.admitted;
  needed = λ e m.
      let n = d.needed e m in
      record {
        first = alone_labelled hs e 1 n.first;
        full = λ g i h. let y = n.full g i h in (y.0, inl (alone_labelled hs e y.0 y.1), y.2, y.3);
        ended = let y = n.ended in (y.0, inl (alone_labelled hs e y.0 y.1), y.2);
      };
}

alone_receipts : (t : Table) (hs : List Handed) → receipts t (alone hs) ≡ of_first (packets t hs)
alone_receipts t [] = refl
alone_receipts t (h ∷ hs) = ap (λ (l : List Receipt). by_first (bytes_of t h) ∷ l) (alone_receipts t hs)

pub demand_3 : Demand3
demand_3 t es hs d =
    subst (λ (u : Table). Lists u (map as_listed es)) (ap (after_receipts t) (alone_receipts t hs) ∙ first_calls t (packets t hs))
    (demand_3_redundant t es (alone hs) (as_given t es hs d))

-- the packets that arrive, as reports
alone_arrivals : (t : Table) (hs : List Handed) → arrivals_of t (receipts t (alone hs)) ≡ map arrival_in (arrivals t (packets t hs))
alone_arrivals t hs = ap (arrivals_of t) (alone_receipts t hs) ∙ first_arrivals t (packets t hs)

pub demand_3_corollary : Demand3Corollary
demand_3_corollary t u es fs hs ks same_type same_source same_origin d c e =
    demand_3_redundant_corollary t u es fs (alone hs) (alone ks) same_type same_source same_origin (as_given t es hs d) (as_given u fs ks c)
    (alone_arrivals t hs ∙ (ap (map arrival_in) e ∙ sym (alone_arrivals u ks)))

-- IN BYTES

bytes_admitted : (es : List Sent) (t u : Table) (ps : List (List ℕ)) → AdmittedBytes es t u ps → AdmittedReceipts es t u (of_first ps)
unfolding AdmittedBytes AdmittedReceipts
bytes_admitted es t u [] w = tt
bytes_admitted es t u (p ∷ ps) w = (w.0, bytes_admitted es t (receive u p).table ps w.1)

pub as_receipts : (t : Table) (es : List Sent) (ps : List (List ℕ)) → DeliveredBytes t es ps → DeliveredReceipts t es (of_first ps)
as_receipts t es ps d = record {
  empty = d.empty;
  sizes = d.sizes;
  fits = d.fits;
  admitted = admitted;
  needed = λ e m.
      let n = d.needed e m in
      record {
        first = heard e 1 m (record { low = omega arith; high = some_report (plan_of t e); packet = n.first });
        full = λ g i h. let y = n.full g i h in (y.0, brings e y.0 m y.1, y.2, y.3);
        ended = let y = n.ended in (y.0, brings e y.0 m y.1, y.2);
      };
}
  where
    admitted : AdmittedReceipts es t t (of_first ps)
    admitted = bytes_admitted es t t ps d.admitted

    heard : (e : Sent) (k : ℕ) → Mem e es → ArrivesBytes t ps e k → Mem (sent_arrival t e k) (heard_all t (of_first ps))
    heard e k m a =
        packet_heard t es d.sizes d.fits (of_first ps) t ([], along_empty t es d.sizes d.fits d.empty) admitted e k (m, a.low, a.high)
        (mem_map by_first ps (packet_at t e k) a.packet)

    brings : (e : Sent) (k : ℕ) → Mem e es → ArrivesBytes t ps e k → BringsReport (heard_all t (of_first ps)) t e k
    brings e k m a = (a.low, a.high, inl (heard e k m a))

pub demand_3_in_bytes : Demand3InBytes
demand_3_in_bytes t es ps d =
    subst (λ (u : Table). Lists u (map as_listed es)) (first_calls t ps) (demand_3_redundant_in_bytes t es (of_first ps) (as_receipts t es ps d))

pub demand_3_in_bytes_corollary : Demand3InBytesCorollary
demand_3_in_bytes_corollary t u es fs ps qs same_type same_source same_origin d c e =
    demand_3_redundant_in_bytes_corollary t u es fs (of_first ps) (of_first qs) same_type same_source same_origin (as_receipts t es ps d) (as_receipts u fs qs c)
    (first_arrivals t ps ∙ (ap (map arrival_in) e ∙ sym (first_arrivals u qs)))

-- A DELIVERY WITH LABELS IS ONE IN BYTES

labels_dropped : (es : List Sent) (t u : Table) (hs : List Handed) → Admitted es t u hs → AdmittedBytes es t u (packets t hs)
unfolding AdmittedBytes Admitted
labels_dropped es t u [] w = tt
labels_dropped es t u (sent e k ∷ hs) w = (inl (e, k, w.0.0, w.0.1, w.0.2, refl), labels_dropped es t (receive u (packet_at t e k)).table hs w.1)
labels_dropped es t u (stranger b ∷ hs) w = (inr w.0, labels_dropped es t (receive u b).table hs w.1)

-- a packet that was handed over arrived
arrived : (es : List Sent) (t u : Table) (hs : List Handed) → Admitted es t u hs → (e : Sent) (k : ℕ) → Mem (sent e k) hs → ArrivesBytes t (packets t hs) e k
unfolding Admitted
arrived es t u [] w e k m = absurd (Memᴰ.not-nil m)
arrived es t u (h ∷ hs) w e k m = ⊎_elim (here h w.0) (λ n. behind (arrived es t (receive u (bytes_of t h)).table hs w.1 e k n)) (Memᴰ.cases_cons m)
  where
    here : (g : Handed) → Fair es t u g → sent e k ≡ g → ArrivesBytes t (bytes_of t g ∷ packets t hs) e k
    here g f q = let o = subst (Fair es t u) (sym q) f in record { low = o.1; high = o.2; packet = Memᴰ.head (ap (bytes_of t) q) }

    behind : ArrivesBytes t (packets t hs) e k → ArrivesBytes t (bytes_of t h ∷ packets t hs) e k
    behind a = record { low = a.low; high = a.high; packet = Memᴰ.tail a.packet }

pub in_bytes : (t : Table) (es : List Sent) (hs : List Handed) → Delivered t es hs → DeliveredBytes t es (packets t hs)
in_bytes t es hs d = record {
  empty = d.empty;
  sizes = d.sizes;
  fits = d.fits;
  admitted = labels_dropped es t t hs d.admitted;
  needed = λ e m.
      let n = d.needed e m in
      let came = arrived es t t hs d.admitted e in
      record {
        first = mem_map (bytes_of t) hs (sent e 1) n.first;
        full = λ g i h. let y = n.full g i h in (y.0, came y.0 y.1, y.2, y.3);
        ended = let y = n.ended in (y.0, came y.0 y.1, y.2);
      };
}
