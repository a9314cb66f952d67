-- DEMAND 3 over the calls of both receivers: what they look at is what was sent, a copy or refused, so the list is the events sent. The
-- table after the calls follows from the arrivals alone, so equal arrivals mean equal events.
use Prim.Native.Nat.{ℕ}
use mathlib.Core.Path.{◌≡◌, refl, sym, ap, ◌∙◌, subst}
use mathlib.Core.Bool.{Bool, true, false, cond}
use mathlib.Core.List.Memᴰ
use mathlib.Core.List.{
  List,
  [],
  ◌∷◌,
  ◌++◌,
  map,
}
use mathlib.Core.Logic.{◌⊎◌, inl, inr, ⊎_elim}
use lib.Dec.{eqb}
use borrow.Author.Tests.{eqb-true}
use Rattle.model.specs.declared.Report.{Report}
use Rattle.model.specs.declared.Table.{Table}
use Rattle.refusals.specs.Refusals.{none}
use Rattle.model.specs.Plan.{report_at}
use Rattle.model.specs.Receive.{Arrival, arrival_in, hear, packet_refusal, refuses}
use Rattle.model.specs.Redundant.{table_after_reports}
use Rattle.theorems.specs.Sizes.{as_listed, Sent, plan_of, Sizes, FitsTypes}
use Rattle.theorems.specs.Demands.{sent, stranger, bytes_of, FairBytes}
use Rattle.theorems.specs.Redundancy.{
  Receipt,
  by_first,
  by_second,
  after_receipt,
  heard_at,
  Label,
  report,
  copy,
  other,
  Given,
  first,
  second,
  receipt_of,
  receipts,
  sent_arrival,
  unmarked,
  OneOf,
  FairLabel,
  FairLabels,
  FairGiven,
  AdmittedGiven,
  labels_in,
  labels,
  Brings,
  DeliveredGiven,
  Demand3Redundant,
  Demand3RedundantCorollary,
  SentReport,
  FairReports,
  FairReceipt,
  AdmittedReceipts,
  heard_all,
  BringsReport,
  DeliveredReceipts,
  Demand3RedundantInBytes,
  Demand3RedundantInBytesCorollary,
}
use Rattle.theorems.proofs.Packets.{packet_header}
use Rattle.theorems.proofs.Receives.{read_if, heard_if}
use Rattle.theorems.proofs.Calls.{after_receipt_lem, after_all, arrivals_all}
use Rattle.theorems.proofs.Runs.{lists_events}
use Rattle.theorems.proofs.Sends.{sent_bytes, sent_report, sent_arrives}
use Rattle.theorems.proofs.Arrives.{Along, along_empty, along_sent, along_refused}
use Rattle.theorems.proofs.Brought.{Brought, final, events_after, same_events}
use Rattle.theorems.proofs.Basics.{Mem}

-- REPORT BY REPORT

fair_both : (es : List Sent) (t u : Table) (xs ys : List Arrival) → FairReports es t u xs → FairReports es t (table_after_reports u xs) ys
    → FairReports es t u (xs ++ ys)
unfolding FairReports table_after_reports
fair_both es t u [] ys f g = g
fair_both es t u (x ∷ xs) ys f g = (f.0, fair_both es t (hear u x).table xs ys f.1 g)

module _ (t : Table) (es : List Sent) (sizes : Sizes t es) (fits : FitsTypes t es []) where
  abbrev OnTheWay : Table → Type 0
  OnTheWay u = (rs : List _) × Along t es sizes fits rs u

  on_all : (more : List Arrival) (u : Table) → OnTheWay u → FairReports es t u more → OnTheWay (table_after_reports u more)
  unfolding FairReports table_after_reports
  on_all [] u w f = w
  on_all (a ∷ more) u w f = on_all more (hear u a).table (go f.0) f.1
    where
      go : SentReport es t a ⊎ (refuses (hear u a).answer ≡ true) → OnTheWay (hear u a).table
      go (inl s) = (_, along_sent t es sizes fits w.0 u w.1 a s)
      go (inr r) = (_, along_refused t es sizes fits w.0 u a w.1 r)

  -- CALL BY CALL

  -- 01's receiver looks at the report of a sent packet
  module _ (u : Table) (w : OnTheWay u) (e : Sent) (k : ℕ) (o : OneOf es t e k) where
    abbrev bytes : List ℕ
    bytes = bytes_of t (sent e k)

    sent_read : packet_refusal u bytes ≡ none
    sent_read =
        let range = sizes.ranges e o.0 in
        let q = sent_report t e range k o.1 o.2 fits.ssrc in
        rw (sent_bytes t e range k o.1 o.2) (read_if u _ (record {
          passes = w.1.reached.passes;
          header = packet_header (report_at (plan_of t e) k);
          type = ap (λ (x : Report). x.payload_type) q ∙ sym w.1.type;
          source = ap (λ (x : Report). x.ssrc) q ∙ sym w.1.source;
        }))

    sent_is : arrival_in bytes ≡ sent_arrival t e k
    sent_is = let range = sizes.ranges e o.0 in ap arrival_in (sent_bytes t e range k o.1 o.2) ∙ sent_arrives t e range k o.1 o.2 fits.ssrc

    pub sent_heard : heard_at u (by_first bytes) ≡ sent_arrival t e k ∷ []
    sent_heard = rw (sent_read, sent_is)

  fair_packet : (u : Table) (p : List ℕ) → OnTheWay u → FairBytes es t u p → FairReports es t u (heard_at u (by_first p))
  unfolding FairReports
  fair_packet u p w (inl s) =
      let o : OneOf es t s.0 s.1 = (s.2, s.3, s.4) in
      rw (s.5, sent_heard u w s.0 s.1 o) (inl (s.0, s.1, o, inl refl), tt)
  fair_packet u p w (inr r) = go (eqb (packet_refusal u p) none) refl
    where
      go : (b : Bool) → eqb (packet_refusal u p) none ≡ b → FairReports es t u (cond b (arrival_in p ∷ []) [])
      go true q = (inr ((λ i. refuses (sym (heard_if u p (eqb-true (packet_refusal u p) none q)) i).answer) ∙ r), tt)
      go false q = tt

  fair_receipt : (u : Table) (c : Receipt) → OnTheWay u → FairReceipt es t u c → FairReports es t u (heard_at u c)
  fair_receipt u (by_first p) w f = fair_packet u p w f
  fair_receipt u (by_second bs lent) w f = f

  on_receipt : (u : Table) (c : Receipt) → OnTheWay u → FairReceipt es t u c → OnTheWay (after_receipt u c)
  on_receipt u c w f = rw (after_receipt_lem u c) (on_all (heard_at u c) u w (fair_receipt u c w f))

  fair_all : (cs : List Receipt) (u : Table) → OnTheWay u → AdmittedReceipts es t u cs → FairReports es t u (heard_all u cs)
  unfolding AdmittedReceipts heard_all FairReports
  fair_all [] u w f = tt
  fair_all (c ∷ cs) u w f =
      let here = fair_receipt u c w f.0 in
      let later = fair_all cs (after_receipt u c) (on_receipt u c w f.0) f.1 in
      fair_both es t u (heard_at u c) (heard_all (after_receipt u c) cs) here
      (subst (λ (x : Table). FairReports es t x (heard_all (after_receipt u c) cs)) (after_receipt_lem u c) later)

  -- a sent packet that is handed to 01's receiver is looked at
  pub packet_heard : (cs : List Receipt) (u : Table) → OnTheWay u → AdmittedReceipts es t u cs → (e : Sent) (k : ℕ) → OneOf es t e k
      → Mem (by_first (bytes_of t (sent e k))) cs → Mem (sent_arrival t e k) (heard_all u cs)
  unfolding AdmittedReceipts heard_all
  packet_heard [] u w f e k o m = absurd (Memᴰ.not-nil m)
  packet_heard (c ∷ cs) u w f e k o m =
      go (packet_heard cs (after_receipt u c) (on_receipt u c w f.0) f.1 e k o) (Memᴰ.cases_cons m)
    where
      go : (Mem (by_first (bytes_of t (sent e k))) cs → Mem (sent_arrival t e k) (heard_all (after_receipt u c) cs))
          → (by_first (bytes_of t (sent e k)) ≡ c) ⊎ Mem (by_first (bytes_of t (sent e k))) cs
          → Mem (sent_arrival t e k) (heard_at u c ++ heard_all (after_receipt u c) cs)
      go ih (inl q) =
          let here : Mem (sent_arrival t e k) (heard_at u c) = rw (← q, sent_heard u w e k o) (Memᴰ.head refl) in
          Memᴰ.append_left (heard_all (after_receipt u c) cs) here
      go ih (inr n) = Memᴰ.append_right (heard_at u c) (ih n)

-- IN BYTES

pub brought : (t : Table) (es : List Sent) (cs : List Receipt) → DeliveredReceipts t es cs → Brought t es (heard_all t cs)
brought t es cs d = record {
  empty = d.empty;
  sizes = d.sizes;
  fits = d.fits;
  fair = fair_all t es d.sizes d.fits cs t ([], along_empty t es d.sizes d.fits d.empty) d.admitted;
  needed = d.needed;
}

pub demand_3_redundant_in_bytes : Demand3RedundantInBytes
demand_3_redundant_in_bytes t es cs d =
    let b = brought t es cs d in
    rw (after_all t cs)
    (lists_events (table_after_reports t (heard_all t cs)) (final t es (heard_all t cs) b).passes (map as_listed es) (events_after t es (heard_all t cs) b))

pub demand_3_redundant_in_bytes_corollary : Demand3RedundantInBytesCorollary
demand_3_redundant_in_bytes_corollary t u es fs cs ds same_type same_source same_origin d c e =
    same_events t u es fs (heard_all t cs) (heard_all u ds) same_origin (brought t es cs d) (brought u fs ds c)
    (sym (arrivals_all t cs) ∙ (e ∙ arrivals_all u ds))

-- WITH LABELS

-- labels forgotten
unlabelled : (es : List Sent) (t u : Table) (more : List Arrival) (ls : List Label) → FairLabels es t u more ls → FairReports es t u more
unfolding FairLabels FairReports
unlabelled es t u [] [] f = tt
unlabelled es t u [] (l ∷ ls) f = absurd f
unlabelled es t u (a ∷ more) [] f = absurd f
unlabelled es t u (a ∷ more) (report e k ∷ ls) f = (inl (e, k, f.0.0, inl f.0.1), unlabelled es t (hear u a).table more ls f.1)
unlabelled es t u (a ∷ more) (copy e k ∷ ls) f = (inl (e, k, f.0.0, inr f.0.1), unlabelled es t (hear u a).table more ls f.1)
unlabelled es t u (a ∷ more) (other ∷ ls) f = (inr f.0, unlabelled es t (hear u a).table more ls f.1)

-- what a label says was looked at
abbrev HeardAs : List Sent → Table → Label → List Arrival → Type 0
HeardAs es t (report e k) more = OneOf es t e k × Mem (sent_arrival t e k) more
HeardAs es t (copy e k) more = OneOf es t e k × Mem (unmarked (sent_arrival t e k)) more
HeardAs es t other more = Unit {0}

heard_left : (es : List Sent) (t : Table) (l : Label) (xs ys : List Arrival) → HeardAs es t l xs → HeardAs es t l (xs ++ ys)
heard_left es t (report e k) xs ys h = (h.0, Memᴰ.append_left ys h.1)
heard_left es t (copy e k) xs ys h = (h.0, Memᴰ.append_left ys h.1)
heard_left es t other xs ys h = tt

heard_right : (es : List Sent) (t : Table) (l : Label) (xs ys : List Arrival) → HeardAs es t l ys → HeardAs es t l (xs ++ ys)
heard_right es t (report e k) xs ys h = (h.0, Memᴰ.append_right xs h.1)
heard_right es t (copy e k) xs ys h = (h.0, Memᴰ.append_right xs h.1)
heard_right es t other xs ys h = tt

label_heard : (es : List Sent) (t u : Table) (a : Arrival) (l : Label) → FairLabel es t u a l → HeardAs es t l (a ∷ [])
label_heard es t u a (report e k) f = (f.0, Memᴰ.head (sym f.1))
label_heard es t u a (copy e k) f = (f.0, Memᴰ.head (sym f.1))
label_heard es t u a other f = tt

labels_heard : (es : List Sent) (t u : Table) (more : List Arrival) (ls : List Label) → FairLabels es t u more ls → (l : Label) → Mem l ls → HeardAs es t l more
unfolding FairLabels
labels_heard es t u [] [] f l m = absurd (Memᴰ.not-nil m)
labels_heard es t u [] (x ∷ ls) f l m = absurd f
labels_heard es t u (a ∷ more) [] f l m = absurd f
labels_heard es t u (a ∷ more) (x ∷ ls) f l m =
    ⊎_elim (λ (q : l ≡ x). rw q (heard_left es t x (a ∷ []) more (label_heard es t u a x f.0)))
    (λ n. heard_right es t l (a ∷ []) more (labels_heard es t (hear u a).table more ls f.1 l n)) (Memᴰ.cases_cons m)

module _ (t : Table) (es : List Sent) (sizes : Sizes t es) (fits : FitsTypes t es []) where
  fair_given : (u : Table) (g : Given) → FairGiven es t u g → FairReceipt es t u (receipt_of t g)
  fair_given u (first (sent e k)) f = inl (e, k, f.0, f.1, f.2, refl)
  fair_given u (first (stranger b)) f = inr f
  fair_given u (second bs lent ls) f = unlabelled es t u (heard_at u (by_second bs lent)) ls f

  admitted_given : (gs : List Given) (u : Table) → AdmittedGiven es t u gs → AdmittedReceipts es t u (receipts t gs)
  unfolding AdmittedGiven AdmittedReceipts
  admitted_given [] u f = tt
  admitted_given (g ∷ gs) u f = (fair_given u g f.0, admitted_given gs (after_receipt u (receipt_of t g)) f.1)

  given_heard : (u : Table) (g : Given) → OnTheWay t es sizes fits u → FairGiven es t u g → (l : Label) → Mem l (labels_in g)
      → HeardAs es t l (heard_at u (receipt_of t g))
  given_heard u (first (sent e k)) w f l m =
      ⊎_elim (λ (q : l ≡ report e k). rw (q, sent_heard t es sizes fits u w e k f) (f, Memᴰ.head refl))
      (λ n. absurd (Memᴰ.not-nil n)) (Memᴰ.cases_cons m)
  given_heard u (first (stranger b)) w f l m = ⊎_elim (λ (q : l ≡ other). rw q tt) (λ n. absurd (Memᴰ.not-nil n)) (Memᴰ.cases_cons m)
  given_heard u (second bs lent ls) w f l m = labels_heard es t u (heard_at u (by_second bs lent)) ls f l m

  all_heard : (gs : List Given) (u : Table) → OnTheWay t es sizes fits u → AdmittedGiven es t u gs → (l : Label) → Mem l (labels gs)
      → HeardAs es t l (heard_all u (receipts t gs))
  unfolding AdmittedGiven labels heard_all
  all_heard [] u w f l m = absurd (Memᴰ.not-nil m)
  all_heard (g ∷ gs) u w f l m =
      go (all_heard gs (after_receipt u (receipt_of t g)) (on_receipt t es sizes fits u (receipt_of t g) w (fair_given u g f.0)) f.1 l)
      (Memᴰ.append_cases (labels_in g) m)
    where
      more : List Arrival
      more = heard_all (after_receipt u (receipt_of t g)) (receipts t gs)

      go : (Mem l (labels gs) → HeardAs es t l more) → Mem l (labels_in g) ⊎ Mem l (labels gs) → HeardAs es t l (heard_at u (receipt_of t g) ++ more)
      go ih (inl n) = heard_left es t l (heard_at u (receipt_of t g)) more (given_heard u g w f.0 l n)
      go ih (inr n) = heard_right es t l (heard_at u (receipt_of t g)) more (ih n)

pub without_labels : (t : Table) (es : List Sent) (gs : List Given) → DeliveredGiven t es gs → DeliveredReceipts t es (receipts t gs)
without_labels t es gs d = record {
  empty = d.empty;
  sizes = d.sizes;
  fits = d.fits;
  admitted = admitted_given t es d.sizes d.fits gs t d.admitted;
  needed = λ e m.
      let n = d.needed e m in
      record {
        first = (heard (report e 1) n.first).1;
        full = λ g i h. let y = n.full g i h in (y.0, brings e y.0 y.1, y.2, y.3);
        ended = let y = n.ended in (y.0, brings e y.0 y.1, y.2);
      };
}
  where
    heard : (l : Label) → Mem l (labels gs) → HeardAs es t l (heard_all t (receipts t gs))
    heard = all_heard t es d.sizes d.fits gs t ([], along_empty t es d.sizes d.fits d.empty) d.admitted

    brings : (e : Sent) (k : ℕ) → Brings (labels gs) e k → BringsReport (heard_all t (receipts t gs)) t e k
    brings e k (inl n) = let h = heard (report e k) n in (h.0.1, h.0.2, inl h.1)
    brings e k (inr n) = let h = heard (copy e k) n in (h.0.1, h.0.2, inr h.1)

pub demand_3_redundant : Demand3Redundant
demand_3_redundant t es gs d = demand_3_redundant_in_bytes t es (receipts t gs) (without_labels t es gs d)

pub demand_3_redundant_corollary : Demand3RedundantCorollary
demand_3_redundant_corollary t u es fs gs hs same_type same_source same_origin d c =
    demand_3_redundant_in_bytes_corollary t u es fs (receipts t gs) (receipts u hs) same_type same_source same_origin
    (without_labels t es gs d) (without_labels u fs hs c)
