-- The last steps of treating an instance, by the values that their calls give.
use Rattle.std.proofs.Common.{◌≡◌, ◌∙◌, ◌<◌, ℕ, List, [], Option, Some, None, replicate, length, slice_index}
use Rattle.std.proofs.Common.{slice_index_or, All, sym, ap, subst, arith}
use Rattle.std.proofs.lemmas.List.{length-replicate}
use Rattle.star_free_theory.specs.declared.nodes.SfNode.{SfNode}
use Rattle.star_free_theory.specs.Construction.{Outcome, bind, each, join_all, pairs, ends, when, has}
use Rattle.star_free_theory.specs.Construction.{keep, is_some_pair}
use Rattle.local_divisors.specs.Instances.{Multiplication, times, AreGroups}
use Rattle.local_divisors.specs.Finishing.{finished, AreStarts, CanFinish}
use Rattle.local_divisors.specs.Building.{CanJoin}
use Rattle.local_divisors.proofs.Steps.{bind_done, GaveTable}
use Rattle.local_divisors.proofs.Choosing.{all_among, among_all}
use Rattle.local_divisors.proofs.Finishing.{can_join, ends_are, ends_in, us, us_within, first_each}
use Rattle.local_divisors.proofs.Finishing.{second_each}

-- the groups of lists that are read as others
pub groups_of : (p : Multiplication) (rs ts xs ys : List ℕ) (groups : List (List (ℕ × ℕ)))
    → rs ≡ xs → ts ≡ ys → AreGroups p rs ts groups → AreGroups p xs ys groups
groups_of p rs ts xs ys groups e f g =
    subst (λ (zs : List ℕ). AreGroups p xs zs groups) f
    (subst (λ (zs : List ℕ). AreGroups p zs ts groups) e g)

module _ (most : Option ℕ) (p : Multiplication) (els S D e b f : List ℕ)
    (c : CanFinish p.table.side els S D e b f) where
  pub ends_made : (last : List (List (ℕ × ℕ))) (found : List ℕ) → AreGroups p D S last
      → found ≡ keep (λ u. is_some_pair (slice_index_or last u [])) els
      → found ≡ us most p els S D e b f c
  ends_made last found g is = is ∙ ends_are p D S last els g c.elements_within

  pub ends_within : (found : List ℕ) → found ≡ us most p els S D e b f c
      → All (λ u. u < p.table.side) found
  ends_within found is = subst (All (λ u. u < p.table.side)) (sym is)
      (among_all p.table.side (us most p els S D e b f c) (us_within most p els S D e b f c))

  -- the joins of the ends
  module _ (last : List (List (ℕ × ℕ))) (none : List (Option ℕ)) (found : List ℕ)
      (g : AreGroups p D S last) (n : none ≡ replicate p.table.side None)
      (is : found ≡ us most p els S D e b f c) where
    none_long : length none ≡ p.table.side
    none_long = ap (λ (zs : List (Option ℕ)). length zs) n ∙ length-replicate p.table.side None

    pub can_join_ends : CanJoin (length f) (length b) (length none) last found
    can_join_ends = subst (λ (m : ℕ). CanJoin (length f) (length b) m last found) (sym none_long)
        (can_join p D S (length f) (length b) last found g (ends_within found is)
        (λ x i. let l = all_among p.table.side D x c.div_within i in let m =
        c.second_long in omega arith)
        (λ x i. let l = all_among p.table.side S x c.sub_within i in let m =
        c.letters_long in omega arith))

    module _ (xs : List SfNode) where
      abbrev pub ends_step : Outcome (List SfNode × (ℕ → ℕ))
      ends_step = each (λ ys u. join_all most (slice_index f) (slice_index b)
          (slice_index_or none u None) (slice_index_or last u []) ys) found (λ x. 0) xs

      abbrev pub after_ends : List SfNode × (ℕ → ℕ) → Outcome (List SfNode × (ℕ → ℕ))
      after_ends r = each (λ ys u. join_all most (slice_index e) r.1
          (when (has S u) (slice_index e u)) (pairs (times p) S (us most p els S D e b f c) u) ys)
          els (λ x. 0) r.0

      pub from_ends : finished most p els S D e b f xs ≡ bind ends_step after_ends
      from_ends =
          let first : Outcome (List SfNode × (ℕ → ℕ)) = each (λ ys u. join_all most (slice_index f)
          (slice_index b) None (pairs (times p) D S u) ys) (us most p els S D e b f c) (λ x. 0) xs
          in
          let same : ends_step ≡ first =
          rw is (first_each most p els S D e b f c last none g n xs) in
          ap (λ (o : Outcome (List SfNode × (ℕ → ℕ))). bind o after_ends) (sym same)

      -- the joins of all elements
      module _ (list : List SfNode) (behind : List ℕ) (w : GaveTable ends_step list behind)
          (whole : List (List (ℕ × ℕ))) (starts : List (Option ℕ)) (read : List ℕ) where
        abbrev pub whole_step : Outcome (List SfNode × (ℕ → ℕ))
        whole_step = each (λ ys u. join_all most (slice_index e) (slice_index read)
            (slice_index_or starts u None) (slice_index_or whole u []) ys) els (λ x. 0) list

        pub from_whole : AreGroups p S (us most p els S D e b f c) whole → AreStarts S e starts
            → length behind ≡ length none → read ≡ behind
            → finished most p els S D e b f xs ≡ whole_step
        from_whole h st long is_read = from_ends
            ∙ bind_done ends_step after_ends (list, w.0) w.1
            ∙ sym (second_each most p els S D e b f c whole starts behind w.0 h st w.2
            (long ∙ none_long) list)
            ∙ ap (λ (zs : List ℕ). each (λ ys u. join_all most (slice_index e) (slice_index zs)
            (slice_index_or starts u None) (slice_index_or whole u []) ys) els (λ x. 0) list)
            (sym is_read)

  pub can_join_whole : (whole : List (List (ℕ × ℕ))) (starts : List (Option ℕ))
      (read : List ℕ) → AreGroups p S (us most p els S D e b f c) whole → AreStarts S e starts
      → length read ≡ p.table.side → CanJoin (length e) (length read) (length starts) whole els
  can_join_whole whole starts read h st long =
      subst (λ (m : ℕ). CanJoin (length e) (length read) m whole els)
      (sym (st.long ∙ c.first_long))
      (can_join p S (us most p els S D e b f c) (length e) (length read) whole els h
      c.elements_within
      (λ x i. let l = all_among p.table.side S x c.sub_within i in let m =
      c.first_long in omega arith)
      (λ x i. let l = us_within most p els S D e b f c x i in omega arith))
