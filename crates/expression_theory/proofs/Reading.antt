-- Signs that are read one after the other.
use Rattle.std.proofs.Common.{◌≡◌, Option, Some, None, List, [], ◌∷◌, ◌++◌, refl, ap, ◌∙◌}
use Rattle.expression_theory.specs.Grammar.{Sign}
use Rattle.expression_theory.specs.Frames.{Frame, step, and_then, run}
use Rattle.expression_theory.specs.Scan.{Class, Skipped, Unknown, Strange, Good, signs_in}

-- signs behind others
pub run_append : (fs : List Frame) (u v : List Sign)
    → run fs (u ++ v) ≡ and_then (run fs u) (λ gs. run gs v)
run_append fs [] v = refl
run_append fs (x ∷ u) v = by (λ gs. run_append gs u v) (step fs x)
  where
    by : ((gs : List Frame) → run gs (u ++ v) ≡ and_then (run gs u) (λ hs. run hs v))
        → (o : Option (List Frame)) →
        and_then o (λ gs. run gs (u ++ v)) ≡ and_then (and_then o (λ gs. run gs u)) (λ hs. run hs v)
    by again None = refl
    by again (Some gs) = again gs

-- signs of a text behind another
pub signs_append : (cs ds : List Class) → signs_in (cs ++ ds) ≡ signs_in cs ++ signs_in ds
signs_append [] ds = refl
signs_append (Skipped ∷ cs) ds = signs_append cs ds
signs_append (Unknown ∷ cs) ds = signs_append cs ds
signs_append (Strange ∷ cs) ds = signs_append cs ds
signs_append (Good s ∷ cs) ds = ap (λ w. s ∷ w) (signs_append cs ds)

-- one byte more
pub run_more : (es fs gs : List Frame) (cs : List Class) (c : Class)
    → run es (signs_in cs) ≡ Some fs → run fs (signs_in (c ∷ [])) ≡ Some gs
    → run es (signs_in (cs ++ c ∷ [])) ≡ Some gs
run_more es fs gs cs c e f =
    ap (run es) (signs_append cs (c ∷ [])) ∙ run_append es (signs_in cs) (signs_in (c ∷ []))
    ∙ ap (λ o. and_then o (λ hs. run hs (signs_in (c ∷ [])))) e ∙ f
