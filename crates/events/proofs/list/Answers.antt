use Rattle.std.proofs.Common.{◌≡◌, ℕ, length, get_or, refl, ap, ◌∙◌, add-one, arith}
use Rattle.model.specs.declared.Listed.{Listed}
use Rattle.model.specs.Answers.{no_event}
use Rattle.model.specs.Table.{table_of}
use Rattle.model.specs.List.{list_answer, events}
use Rattle.grouping.proofs.Laws.{in_ranges, all_after}
use Rattle.events.proofs.Going.{given, still_to_come, comes_next, goes_on_behind}
use Rattle.events.proofs.Records.{filled, filled_all}
use Rattle.events.proofs.list.Goals as goal

pub of-held-requires : goal.of-held-requires
of-held-requires c = in_ranges _ _ c.args.table.head (given _ _ _ c.in_ok-n.ensures).0

pub loop-k-init : goal.loop-k-init
loop-k-init c = record {
  written = refl;
  to_come = all_after c.of-held.result.keys.now c.of-held.result.heard.now (length c.of-held.result.keys.now) ∙ c.of-held.ensures.events;
}

pub event_place-place-requires : goal.event_place-place-requires
event_place-place-requires c =
    let t = table_of c.args.table.head c.args.table.keys.now c.args.table.heard.now in
    let all : c.in_ok-n.n ≡ length (events t) = (given _ _ _ c.in_ok-n.ensures).1.0 in
    still_to_come t c.loop-k.k _ (omega (arith, all)) c.loop-k.invariant.to_come

pub loop-k-preserved : goal.loop-k-preserved
loop-k-preserved c =
    let t = table_of c.args.table.head c.args.table.keys.now c.args.table.heard.now in
    let e : c.event_from.result ≡ get_or (events t) c.loop-k.k no_event =
    c.event_from.ensures ∙ c.event_place-place.ensures.event ∙ comes_next t c.loop-k.k _ c.loop-k.invariant.to_come in
    record {
      written = rw (add-one c.loop-k.k, e, c.loop-k.invariant.written) refl;
      to_come = goes_on_behind t c.loop-k.k _ _ c.loop-k.invariant.to_come c.event_place-place.ensures.rest;
    }

pub returns-clause-out_after : goal.returns-clause-out_after
returns-clause-out_after c =
    let t = table_of c.args.table.head c.args.table.keys.now c.args.table.heard.now in
    let all : c.in_ok-n.n ≡ (list_answer t (length c.args.out.now)).events = ap (λ (a : Listed). a.events) c.in_ok-n.ensures in
    let same : c.loop-k.k ≡ (list_answer t (length c.args.out.now)).events = omega (arith, all, c.loop-k.auto.k-end) in
    c.loop-k.invariant.written ∙ ap (λ (j : ℕ). filled t j c.args.out.now) same ∙ filled_all t c.args.out.now
