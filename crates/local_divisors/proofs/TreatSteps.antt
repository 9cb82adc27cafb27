-- The steps of treating an instance, by the values that their calls give.
use Rattle.std.proofs.Common.{◌≡◌, ◌∙◌, ◌<◌, ◌-◌, ℕ, suc, List, Option, length, slice_index, sym, ap, subst, arith}
use Rattle.star_free_theory.specs.declared.nodes.SfNode.{SfNode}
use Rattle.star_free_theory.specs.Construction.{Outcome, Task, bind, done, free, is_none_left}
use Rattle.star_free_theory.specs.Construction.{treat_within}
use Rattle.local_divisors.specs.Instances.{Multiplication, IsMultiplication}
use Rattle.local_divisors.specs.Tasks.{Flat, AreShown, task_with}
use Rattle.local_divisors.specs.Finishing.{finished}
use Rattle.local_divisors.specs.Recursion.{CanDivide, IsSecond, AreSecondNodes, first_flat}
use Rattle.local_divisors.specs.Recursion.{second_nodes}
use Rattle.local_divisors.proofs.Steps.{bind_done, GaveTable}
use Rattle.local_divisors.proofs.Recursing.{second_side, can_finish, first_shown, first_next}
use Rattle.local_divisors.proofs.Recursing.{letters_next, second_shown, second_is, last_step}
use Rattle.local_divisors.proofs.Recursing.{after_first, after_letters, after_both, local, middle}

pub below : (d : ℕ) → ¬ (d ≡ 0) → suc (d - 1) ≡ d
below d h = omega arith

module _ (p : Multiplication) (t : Flat) (l : ℕ) (os S D : List ℕ) (k : CanDivide p t l os S D)
    (mul : ℕ → ℕ → ℕ) (img nod : ℕ → ℕ) (s : AreShown p t mul img nod) (most : Option ℕ)
    (n d : ℕ) (deep : suc n ≡ d) (xs : List SfNode) where
  abbrev pub whole : Outcome (List SfNode × (ℕ → ℕ))
  whole = treat_within most d xs (task_with t mul img nod)

  -- the first instance
  module _ (ys : List SfNode) (f : Flat) (i : (u : ℕ)
      × (free most (is_none_left os) xs (slice_index t.nodes l) t.universe ≡ done (ys, u))
      × (f ≡ first_flat t os S u)) where
    pub shown_first : AreShown p f mul img nod
    shown_first = subst (λ (z : Flat). AreShown p z mul img nod) (sym i.2)
        (first_shown p t l os S D k mul img nod s most n i.0)

    abbrev pub first_step : Outcome (List SfNode × (ℕ → ℕ))
    first_step = treat_within most n ys (task_with f mul img nod)

    pub from_first : whole ≡ bind first_step (after_first p t l os S D k mul img nod s most n)
    from_first = first_next p t l os S D k mul img nod s most n d xs ys i.0 f deep i.1 i.2

    -- the nodes of the second instance's letters
    module _ (zs : List SfNode) (e read : List ℕ) (g : GaveTable first_step zs e)
        (long : length e ≡ p.table.side) (is_read : read ≡ e) where
      abbrev pub letters_step : Outcome (List SfNode × ((ℕ → ℕ) × ℕ))
      letters_step = second_nodes most t l os S read zs

      pub from_letters : whole
          ≡ bind letters_step (after_letters p t l os S D k mul img nod s most n g.0)
      from_letters =
          letters_next p t l os S D k mul img nod s most n whole first_step zs e g.0 from_first g.1
          long g.2
          ∙ ap (λ (o : Outcome (List SfNode × ((ℕ → ℕ) × ℕ))). bind o
          (after_letters p t l os S D k mul img nod s most n g.0))
          (ap (λ (es : List ℕ). second_nodes most t l os S es zs) (sym is_read))

      -- the second instance
      module _ (ws : List SfNode) (b : List ℕ) (u : ℕ) (r : (a : (ℕ → ℕ) × ℕ)
          × (letters_step ≡ done (ws, a)) × AreSecondNodes p b u a) (wf : IsMultiplication p)
          (q : Multiplication) (s2 : Flat) (j : IsSecond p t l S D b u q s2) where
        abbrev pub product : ℕ → ℕ → ℕ
        product = local p t l os S D k wf b u q s2 j r.2.long mul img nod s r.0.0 r.2.told

        abbrev pub image : ℕ → ℕ
        image = middle p t l os S D k wf b u q s2 j r.2.long mul img nod s r.0.0 r.2.told

        pub shown_second : AreShown q s2 product image r.0.0
        shown_second =
            second_shown p t l os S D k wf b u q s2 j r.2.long mul img nod s r.0.0 r.2.told

        abbrev pub second_step : Outcome (List SfNode × (ℕ → ℕ))
        second_step = treat_within most n ws (task_with s2 product image r.0.0)

        abbrev pub after_second : List SfNode × (ℕ → ℕ) → Outcome (List SfNode × (ℕ → ℕ))
        after_second f2 =
            after_both p t l os S D k mul img nod s most n g.0 (f2.0, (r.0.0, f2.1))

        pub from_second : whole ≡ bind second_step after_second
        from_second =
            from_letters
            ∙ bind_done letters_step (after_letters p t l os S D k mul img nod s most n g.0)
            (ws, r.0) r.1
            ∙ ap (λ (z : Task). bind (treat_within most n ws z) after_second)
            (second_is p t l os S D k wf b u q s2 j r.2.long mul img nod s r.0.0 r.2.told r.0.1
            r.2.universe_is)

        pub from_both : (vs : List SfNode) (f2 : List ℕ) → GaveTable second_step vs f2
            → length f2 ≡ q.table.side → whole ≡ finished most p t.elements S D e b f2 vs
        from_both vs f2 h side =
            let own : length f2 ≡ p.table.side =
            side ∙ second_side p t l os S D k wf b u q s2 j r.2.long in
            from_second
            ∙ bind_done second_step after_second (vs, h.0) h.1
            ∙ last_step p t l os S D k mul img nod s most n e b f2 g.0 r.0.0 h.0 g.2 r.2.told h.2
            (can_finish p t l os S D k e b f2 long r.2.long own) vs
