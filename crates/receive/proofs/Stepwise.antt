-- Each way through the steps of receiving, as a law over a head, two columns and a packet's bytes.
use Prim.Native.Nat.{ℕ}
use mathlib.Core.Path.{◌≡◌, refl, sym, ◌∙◌}
use mathlib.Core.Bool.{Bool, true}
use mathlib.Core.List.{List}
use borrow.Author.Rules.{rules}
use borrow.Author.Tests.{eq-eqb, ne_eqb}
use lib.Dec.{eqb}
use Rattle.refusals.specs.Refusals.{Told, none, answered, refused_by}
use Rattle.model.specs.declared.Head.{Head}
use Rattle.model.specs.declared.Received.{Received}
use Rattle.model.specs.Packet.{header_refusal, payload, marker, payload_type, timestamp, ssrc}
use Rattle.model.specs.Receive.{arrival_in, refusal_for, refused_with}
use Rattle.header.specs.Reads.{Refuses}
use Rattle.table.specs.Columns.{Takes}
use Rattle.hearing.specs.declared.Heard.{Heard}
use Rattle.hearing.specs.Sayings.{arrival, nothing_heard, hearing_of}
use Rattle.receive.specs.Steps.{hearing_in, TakesHeard}

-- THE HEADER OF A PACKET THAT IS THE TABLE'S

module _ (h : Head) (bs : List ℕ) where
  pub not_read : (k : ℕ) → Refuses k (header_refusal bs) → Refuses k (refusal_for h bs)
  unfolding refusal_for
  not_read k r = rw (r.number, r.is_one) (record { number = refl; is_one = r.is_one })

  module _ (unrefused : header_refusal bs ≡ none) (type : ℕ) (is_type : type ≡ payload_type bs) where
    pub other_type : (type ≡ h.payload_type → ⊥) → Refuses 5 (refusal_for h bs)
    unfolding refusal_for
    other_type n = rw (unrefused, ne_eqb (payload_type bs) h.payload_type (λ e. n (is_type ∙ e))) (record { number = refl; is_one = refl })

    module _ (is_of_type : type ≡ h.payload_type) (from : ℕ) (is_source : from ≡ ssrc bs) where
      right_type : eqb (payload_type bs) h.payload_type ≡ true
      right_type = eq-eqb (payload_type bs) h.payload_type (sym is_type ∙ is_of_type)

      pub other_source : (from ≡ h.ssrc → ⊥) → Refuses 6 (refusal_for h bs)
      unfolding refusal_for
      other_source n = rw (unrefused, right_type, ne_eqb (ssrc bs) h.ssrc (λ e. n (is_source ∙ e))) (record { number = refl; is_one = refl })

      pub for_it : from ≡ h.ssrc → refusal_for h bs ≡ none
      unfolding refusal_for
      for_it e = rw (unrefused, right_type, eq-eqb (ssrc bs) h.ssrc (sym is_source ∙ e))

-- ITS PAYLOAD

module _ (h : Head) (bs : List ℕ) where
  pub not_for_it : (k : ℕ) → Refuses k (refusal_for h bs) → refused_by k nothing_heard ≡ hearing_in h bs
  unfolding hearing_in
  not_for_it k r = rw (r.number, r.is_one)

  pub heard_it : refusal_for h bs ≡ none → (time : ℕ) → time ≡ timestamp bs → (m : Bool) → m ≡ marker bs → (p : List ℕ) → p ≡ payload bs
      → (said : Told Heard) → said ≡ hearing_of h (arrival time m p) → said ≡ hearing_in h bs
  unfolding hearing_in arrival_in
  heard_it unrefused time is_time m is_m p is_p said x = x ∙ rw (is_p, is_time, is_m, unrefused)

-- THE TABLE

module _ (h : Head) (keys heard : List ℕ) (said : Told Heard) where
  pub took : (v : Heard) → answered v ≡ said → (a : Received) (keys' heard' : List ℕ) → Takes h keys heard v.key v.told a keys' heard'
      → TakesHeard h keys heard said a keys' heard'
  took v x a keys' heard' e = rw (← x) (record { answer = e.answer; table = e.table })

  pub not_heard : (k : ℕ) → refused_by k nothing_heard ≡ said → (a : Received) → a ≡ refused_with k h.count 0
      → TakesHeard h keys heard said a keys heard
  not_heard k x a e = rw (← x) (record { answer = e; table = rw e })

pub ruleset steps = (rules, not_read, other_type, other_source, for_it, not_for_it, heard_it)
