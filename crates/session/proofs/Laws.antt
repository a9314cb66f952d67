-- Each way through the definition of a session, as a law over its three lines.
use Prim.Native.Nat.{ℕ, ◌≤◌}
use mathlib.Core.Path.{◌≡◌, refl, sym, ◌∙◌}
use mathlib.Core.Bool.{cond}
use mathlib.Core.List.{List}
use borrow.Author.Tests.{eq-eqb, ne_eqb}
use lib.Dec.{eqb}
use lib.ListN.{length}
use Rattle.lines.specs.declared.Fault.{Fault}
use Rattle.lines.specs.declared.Fault.TheVariants.{MoreText}
use Rattle.lines.specs.declared.Line.{Line}
use Rattle.lines.specs.Lines.{line_at}
use Rattle.lines.proofs.Laws.{line_within}
use Rattle.std.specs.Prelude.{Result, Ok, Err}
use Rattle.session.specs.declared.Session.{Session}
use Rattle.session.specs.declared.bad_line.BadLine.{BadLine}
use Rattle.session.specs.Session.{type_name, source_name, origin_name, given, bad, in_line, after, session_of}

-- ONE LINE

pub within : (name bs : List ℕ) (at k : ℕ) (r : Result Line BadLine) → r ≡ in_line k (line_at name bs at) → (a : Line) → r ≡ Ok a → a.end ≤ length bs
within name bs at k r is a e = go (line_at name bs at) refl (sym is ∙ e)
  where
    go : (l : Result Line Fault) → line_at name bs at ≡ l → in_line k l ≡ Ok a → a.end ≤ length bs
    go (Ok line) f h = let same : line ≡ a = cc in line_within bs at a.number a.end name (line_at name bs at) refl (f ∙ (λ i. Ok (same i)))
    go (Err fault) f h = absurd cc

after_bad : (k : ℕ) (l : Result Line Fault) (next : ℕ → ℕ → Result Session BadLine) (e : BadLine) → in_line k l ≡ Err e → after k l next ≡ Err e
after_bad k (Ok line) next e h = absurd cc
after_bad k (Err f) next e h = cc

after_good : (k : ℕ) (l : Result Line Fault) (next : ℕ → ℕ → Result Session BadLine) (line : Line) → in_line k l ≡ Ok line → after k l next ≡ next line.number line.end
after_good k (Ok line') next line h = let e : line' ≡ line = cc in λ i. next (e i).number (e i).end
after_good k (Err f) next line h = absurd cc

-- THE THREE LINES

module _ (bs : List ℕ) (first : Result Line BadLine) (is_first : first ≡ in_line 1 (line_at type_name bs 0)) where
  pub no_type : (e : BadLine) → first ≡ Err e → Err e ≡ session_of bs
  unfolding session_of
  no_type e w = sym (after_bad 1 (line_at type_name bs 0) _ e (sym is_first ∙ w))

  module _ (a : Line) (one : first ≡ Ok a) (second : Result Line BadLine) (is_second : second ≡ in_line 2 (line_at source_name bs a.end)) where
    pub no_source : (e : BadLine) → second ≡ Err e → Err e ≡ session_of bs
    unfolding session_of
    no_source e w = sym (after_good 1 (line_at type_name bs 0) _ a (sym is_first ∙ one) ∙ after_bad 2 (line_at source_name bs a.end) _ e (sym is_second ∙ w))

    module _ (b : Line) (two : second ≡ Ok b) (third : Result Line BadLine) (is_third : third ≡ in_line 3 (line_at origin_name bs b.end)) where
      pub no_origin : (e : BadLine) → third ≡ Err e → Err e ≡ session_of bs
      unfolding session_of
      no_origin e w =
          sym (after_good 1 (line_at type_name bs 0) _ a (sym is_first ∙ one) ∙ after_good 2 (line_at source_name bs a.end) _ b (sym is_second ∙ two)
          ∙ after_bad 3 (line_at origin_name bs b.end) _ e (sym is_third ∙ w))

      module _ (c : Line) (three : third ≡ Ok c) where
        all_three : session_of bs ≡ cond (eqb c.end (length bs)) (given a.number b.number c.number) (bad 4 MoreText)
        unfolding session_of
        all_three =
            after_good 1 (line_at type_name bs 0) _ a (sym is_first ∙ one) ∙ after_good 2 (line_at source_name bs a.end) _ b (sym is_second ∙ two)
            ∙ after_good 3 (line_at origin_name bs b.end) _ c (sym is_third ∙ three)

        pub more_text : (c.end ≡ length bs → ⊥) → bad 4 MoreText ≡ session_of bs
        more_text e = rw (all_three, ne_eqb c.end (length bs) e)

        pub all_given : c.end ≡ length bs → given a.number b.number c.number ≡ session_of bs
        all_given e = rw (all_three, eq-eqb c.end (length bs) e)
