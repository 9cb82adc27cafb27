-- The last steps of treating an instance: what the tables give is what the definitions give.
use Rattle.std.proofs.Common.{◌≡◌, ◌∙◌, ◌<◌, ℕ, zero, suc, List, [], ◌∷◌, ◌++◌, length, slice_index}
use Rattle.std.proofs.Common.{slice_index_or, set, All, sym, ap, subst, inl, inr, arith, refl, true}
use Rattle.std.proofs.Common.{Option, Some, None, replicate, cond, eqb}
use Rattle.std.proofs.lemmas.Bool.Decides.{eqb_tells}
use Rattle.std.proofs.lemmas.Bool.{cases_Bool}
use Rattle.std.proofs.lemmas.List.{length-set, get_or-set_same, get_or-set_other, get_or-replicate}
use Rattle.std.proofs.lemmas.List.{length-replicate}
use Rattle.star_free_theory.specs.declared.nodes.SfNode.{SfNode}
use Rattle.star_free_theory.specs.declared.nodes.SfNode.TheVariants as node
use Rattle.star_free_theory.specs.Instance.{Among}
use Rattle.star_free_theory.specs.Construction.{Outcome, bind, done, take as taking, join}
use Rattle.star_free_theory.specs.Construction.{join_pairs, join_all, or_empty, each, with, pairs}
use Rattle.star_free_theory.specs.Construction.{ends, when, has, keep, is_some_pair, treat_ends}
use Rattle.star_free_theory.specs.Construction.{treat_whole, divisor, submonoid}
use Rattle.star_free_theory.proofs.Pairs.{AmongPairs, pairs_among}
use Rattle.star_free_theory.proofs.FiniteLists.{keep_among, has_among}
use Rattle.local_divisors.specs.Instances.{Multiplication, times, AreGroups}
use Rattle.local_divisors.specs.Tasks.{Flat, IsReady, AreShown, task_with}
use Rattle.local_divisors.specs.Finishing.{finished, AreStarts, CanFinish}
use Rattle.local_divisors.specs.Building.{ArePairsWithin, CanJoin}
use Rattle.local_divisors.proofs.Tables.{keep_same}
use Rattle.local_divisors.proofs.Alike.{pairs_same}
use Rattle.local_divisors.proofs.Choosing.{all_among}
use Rattle.local_divisors.proofs.Making.{sub, div, sub_in, div_in, submonoid_is, divisor_is}

pub join_pairs_same : (most : Option ℕ) (f f' g g' : ℕ → ℕ) (s : Option ℕ) (ps : List (ℕ × ℕ))
    (xs : List SfNode) → ((a b : ℕ) → AmongPairs ps a b → (f a ≡ f' a) × (g b ≡ g' b))
    → join_pairs most f g s ps xs ≡ join_pairs most f' g' s ps xs
join_pairs_same most f f' g g' s [] xs h = refl
join_pairs_same most f f' g g' s (p ∷ ps) xs h =
    let e = h p.0 p.1 (inl (refl, refl)) in
    ap (λ (z : ℕ × ℕ). bind (taking most xs (node.Cat z.0 z.1)) (λ r. bind (join most s r.0 r.1)
    (λ o. join_pairs most f g (Some o.1) ps o.0))) {y = (f' p.0, g' p.1)} (λ j. (e.0 j, e.1 j))
    ∙ ap (λ (k : List SfNode × ℕ → Outcome (List SfNode × Option ℕ)). bind
    (taking most xs (node.Cat (f' p.0) (g' p.1))) (λ r. bind (join most s r.0 r.1) k))
    (λ j o. join_pairs_same most f f' g g' (Some o.1) ps o.0 (λ a b i. h a b (inr i)) j)

pub join_all_same : (most : Option ℕ) (f f' g g' : ℕ → ℕ) (s s' : Option ℕ) (ps ps' : List (ℕ × ℕ))
    (xs : List SfNode) → s ≡ s' → ps ≡ ps'
    → ((a b : ℕ) → AmongPairs ps' a b → (f a ≡ f' a) × (g b ≡ g' b)) → join_all most f g s ps xs
    ≡ join_all most f' g' s' ps' xs
join_all_same most f f' g g' s s' ps ps' xs e d h =
    ap (λ (z : Option ℕ). join_all most f g z ps xs) e
    ∙ ap (λ (qs : List (ℕ × ℕ)). join_all most f g s' qs xs) d
    ∙ ap (λ (o : Outcome (List SfNode × Option ℕ)). bind o (λ r. done (r.0, or_empty r.1)))
    (join_pairs_same most f f' g g' s' ps' xs h)

pub each_same : (f g : List SfNode → ℕ → Outcome (List SfNode × ℕ)) (ts : List ℕ) (E : ℕ → ℕ)
    (xs : List SfNode) → ((ys : List SfNode) (t : ℕ) → Among ts t → f ys t ≡ g ys t)
    → each f ts E xs ≡ each g ts E xs
each_same f g [] E xs h = refl
each_same f g (t ∷ ts) E xs h =
    ap (λ (o : Outcome (List SfNode × ℕ)). bind o (λ r. each f ts (with E t r.1) r.0))
    (h xs t (inl refl))
    ∙ ap (λ (k : List SfNode × ℕ → Outcome (List SfNode × (ℕ → ℕ))). bind (g xs t) k)
    (λ j r. each_same f g ts (with E t r.1) r.0 (λ ys u i. h ys u (inr i)) j)

-- starts

pub starts_none : (e : List ℕ) (starts : List (Option ℕ)) → starts ≡ replicate (length e) None
    → AreStarts [] e starts
starts_none e starts d = record {
  long = ap (λ zs. length zs) d ∙ length-replicate (length e) None;
  each = λ u l. ap (λ zs. slice_index_or zs u None) d ∙ get_or-replicate (length e) u None None l;
}

has-push' : (ys : List ℕ) (j x : ℕ) → has (ys ++ j ∷ []) x ≡ cond (eqb x j) true (has ys x)
has-push' [] j x = refl
has-push' (y ∷ ys) j x = elim (cases_Bool (eqb x y)) [
  | inl e ↦ rw e (elim (cases_Bool (eqb x j)) [ inl f ↦ rw f refl | inr f ↦ rw f refl ])
  | inr e ↦ rw e (has-push' ys j x)
]

pub starts_more : (some e : List ℕ) (starts : List (Option ℕ)) (t : ℕ) → t < length e
    → AreStarts some e starts → AreStarts (some ++ t ∷ []) e (set starts t (Some (slice_index e t)))
starts_more some e starts t l h = record {
  long = length-set starts t (Some (slice_index e t)) ∙ h.long;
  each = λ u k. elim (eqb_tells u t) [
    | inl d ↦ rw (has-push' some t u, d.0)
        (ap (λ (z : ℕ). slice_index_or (set starts t (Some (slice_index e t))) z None) d.1
        ∙ get_or-set_same starts t (Some (slice_index e t)) None (let g = h.long in omega arith)
        ∙ ap (λ (z : ℕ). Some (slice_index e z)) (sym d.1))
    | inr d ↦ rw (has-push' some t u, d.0) (get_or-set_other starts t u (Some (slice_index e t))
        None d.1 ∙ h.each u k)
  ];
}

-- groups

pub pairs_within : (p : Multiplication) (rs ts : List ℕ) (n m u : ℕ)
    → ((r : ℕ) → Among rs r → r < n) → ((t : ℕ) → Among ts t → t < m)
    → ArePairsWithin n m (pairs (times p) rs ts u)
pairs_within p rs ts n m u f g = record {
  within = all (pairs (times p) rs ts u) (λ a b i. let z =
      (pairs_among (times p) rs ts u a b).0 i in (f a z.0, g b z.1));
}
  where
    all : (ps : List (ℕ × ℕ)) → ((a b : ℕ) → AmongPairs ps a b → (a < n) × (b < m))
        → All (λ q. (q.0 < n) × (q.1 < m)) ps
    all [] h k d l = absurd (omega arith)
    all (q ∷ ps) h zero d l = h q.0 q.1 (inl (refl, refl))
    all (q ∷ ps) h (suc k) d l = all ps (λ a b i. h a b (inr i)) k d (omega arith)

pub can_join : (p : Multiplication) (rs ts : List ℕ) (n m : ℕ) (groups : List (List (ℕ × ℕ)))
    (elements : List ℕ) → AreGroups p rs ts groups → All (λ u. u < p.table.side) elements
    → ((r : ℕ) → Among rs r → r < n) → ((t : ℕ) → Among ts t → t < m)
    → CanJoin n m p.table.side groups elements
can_join p rs ts n m groups elements h w f g = record {
  long = h.long;
  elements_within = w;
  pairs = λ u l. subst (ArePairsWithin n m) (sym (h.each u l)) (pairs_within p rs ts n m u f g);
}

pub ends_are : (p : Multiplication) (rs ts : List ℕ) (groups : List (List (ℕ × ℕ)))
    (elements : List ℕ) → AreGroups p rs ts groups → All (λ u. u < p.table.side) elements
    → keep (λ u. is_some_pair (slice_index_or groups u [])) elements ≡ ends (times p) rs ts elements
ends_are p rs ts groups elements h w = keep_same (λ u. is_some_pair (slice_index_or groups u []))
    (λ u. is_some_pair (pairs (times p) rs ts u)) elements (λ x i. ap is_some_pair
    (h.each x (all_among p.table.side elements x w i)))

pub ends_in : (p : Multiplication) (rs ts elements : List ℕ) (x : ℕ)
    → Among (ends (times p) rs ts elements) x → Among elements x
ends_in p rs ts elements x i = (keep_among (λ u. is_some_pair (pairs (times p) rs ts u)) elements x
    i).0

-- the functions of a task give the same as the tables
module _ (p : Multiplication) (t : Flat) (h : IsReady p t) (many : ¬ (length t.elements ≡ 1))
    (mul : ℕ → ℕ → ℕ) (img nod : ℕ → ℕ) (s : AreShown p t mul img nod) where
  abbrev S : List ℕ
  S = sub p t h many

  abbrev D : List ℕ
  D = div p t h many

  pairs_at_ends : (u : ℕ) → pairs (times p) D S u ≡ pairs mul D S u
  pairs_at_ends u = pairs_same (times p) mul D S u (λ a b i j. s.products a b
      (div_in p t h many a i) (sub_in p t h many b j))

  ends_same : ends (times p) D S t.elements ≡ ends mul D S t.elements
  ends_same = keep_same (λ u. is_some_pair (pairs (times p) D S u))
      (λ u. is_some_pair (pairs mul D S u)) t.elements (λ u i. ap is_some_pair (pairs_at_ends u))

  module _ (most : Option ℕ) (e b f : List ℕ) (E B F : ℕ → ℕ) (he : (x : ℕ) → x < length e → E x
      ≡ slice_index e x) (hb : (x : ℕ) → x < length b → B x ≡ slice_index b x) (hf : (x : ℕ)
      → x < length f → F x ≡ slice_index f x) (c : CanFinish p.table.side t.elements S D e b f)
    where
      S_in : (x : ℕ) → Among S x → x < p.table.side
      S_in x i = all_among p.table.side S x c.sub_within i

      D_in : (x : ℕ) → Among D x → x < p.table.side
      D_in x i = all_among p.table.side D x c.div_within i

      ends_step : (ys : List SfNode) (u : ℕ) → join_all most F B None (pairs mul D S u) ys
          ≡ join_all most (slice_index f) (slice_index b) None (pairs (times p) D S u) ys
      ends_step ys u = join_all_same most F (slice_index f) B (slice_index b) None None
          (pairs mul D S u) (pairs (times p) D S u) ys refl (sym (pairs_at_ends u))
          (λ x y i. let z = (pairs_among (times p) D S u x y).0 i in (
            hf x (let l = D_in x z.0 in let g = c.second_long in omega arith),
            hb y (let l =
                S_in y z.1 in let g = c.letters_long in omega arith),
          ))

      starts_same : (u : ℕ) → when (has S u) (E u) ≡ when (has S u) (slice_index e u)
      starts_same u = elim (cases_Bool (has S u)) [
        | inl k ↦ rw k (ap (λ (z : ℕ). Some z) (he u (let l = S_in u (has_among S u k) in let g =
            c.first_long in omega arith)))
        | inr k ↦ rw k refl
      ]

      pairs_at_whole : (u : ℕ) → pairs mul S (ends mul D S t.elements) u ≡ pairs (times p) S
          (ends (times p) D S t.elements) u
      pairs_at_whole u =
          ap (λ (us : List ℕ). pairs mul S us u) (sym ends_same)
          ∙ sym (pairs_same (times p) mul S (ends (times p) D S t.elements) u (λ a b i j. s.products
          a
          b (sub_in p t h many a i) (ends_in p D S t.elements b j)))

      whole_step : (G : ℕ → ℕ) (ys : List SfNode) (u : ℕ) → join_all most E G (when (has S u) (E u))
          (pairs mul S (ends mul D S t.elements) u) ys ≡ join_all most (slice_index e) G
          (when (has S u) (slice_index e u)) (pairs (times p) S (ends (times p) D S t.elements) u)
          ys
      whole_step G ys u = join_all_same most E (slice_index e) G G (when (has S u) (E u))
          (when (has S u) (slice_index e u)) (pairs mul S (ends mul D S t.elements) u)
          (pairs (times p) S (ends (times p) D S t.elements) u) ys (starts_same u)
          (pairs_at_whole u)
          (λ x y i. let z = (pairs_among (times p) S (ends (times p) D S t.elements) u x y).0 i in
          (he x (let l = S_in x z.0 in let g = c.first_long in omega arith), refl))

      pub finished_is : (xs : List SfNode) → bind (treat_ends most B F xs (task_with t mul img nod))
          (λ g. treat_whole most E g.1 g.0 (task_with t mul img nod)) ≡ finished most p t.elements S
          D
          e b f xs
      finished_is xs =
          let T = task_with t mul img nod in
          let first : List ℕ → List ℕ → List ℕ → Outcome (List SfNode × (ℕ → ℕ)) = λ ds ss us. each
          (λ ys u. join_all most F B None (pairs mul ds ss u) ys) us (λ x. 0) xs in
          let second : List ℕ → List ℕ → List SfNode × (ℕ → ℕ) → Outcome (List SfNode × (ℕ → ℕ)) =
          λ ds ss g. each (λ ys u. join_all most E g.1 (when (has ss u) (E u))
          (pairs mul ss (ends mul ds ss t.elements) u) ys) t.elements (λ x. 0) g.0 in
          let both : List ℕ → List ℕ → Outcome (List SfNode × (ℕ → ℕ)) =
          λ ds ss. bind (first ds ss (ends mul ds ss t.elements)) (second ds ss) in
          let e1 : both (divisor T) (submonoid T) ≡ both D S =
          ap (λ (ds : List ℕ). both ds (submonoid T)) (divisor_is p t h many mul img nod s)
          ∙ ap (both D) (submonoid_is p t h many mul img nod s) in
          let e2 : first D S (ends mul D S t.elements) ≡ each (λ ys u. join_all most (slice_index f)
          (slice_index b) None (pairs (times p) D S u) ys) (ends (times p) D S t.elements)
          (λ x. 0) xs =
          ap (first D S) (sym ends_same)
          ∙ each_same (λ ys u. join_all most F B None (pairs mul D S u) ys) (λ ys u. join_all most
          (slice_index f) (slice_index b) None (pairs (times p) D S u) ys)
          (ends (times p) D S t.elements) (λ x. 0) xs (λ ys u i. ends_step ys u) in
          let third : List SfNode × (ℕ → ℕ) → Outcome (List SfNode × (ℕ → ℕ)) =
          λ g. each (λ ys u. join_all most (slice_index e) g.1 (when (has S u) (slice_index e u))
          (pairs (times p) S (ends (times p) D S t.elements) u) ys) t.elements (λ x. 0) g.0 in
          let e3 : (g : List SfNode × (ℕ → ℕ)) → second D S g ≡ third g = λ g. each_same
          (λ ys u. join_all most E g.1 (when (has S u) (E u))
          (pairs mul S (ends mul D S t.elements) u) ys) (λ ys u. join_all most (slice_index e) g.1
          (when (has S u) (slice_index e u)) (pairs (times p) S (ends (times p) D S t.elements) u)
          ys) t.elements (λ x. 0) g.0 (λ ys u i. whole_step g.1 ys u) in
          e1 ∙ ap (λ (o : Outcome (List SfNode × (ℕ → ℕ))). bind o (second D S)) e2
          ∙ ap (λ (k : List SfNode × (ℕ → ℕ) → Outcome (List SfNode × (ℕ → ℕ))). bind
          (each (λ ys u. join_all most (slice_index f) (slice_index b) None
          (pairs (times p) D S u) ys) (ends (times p) D S t.elements) (λ x. 0) xs) k)
          (λ j g. e3 g j)

-- what the tables of both joins give
module _ (most : Option ℕ) (p : Multiplication) (els S D e b f : List ℕ) (c : CanFinish p.table.side
    els S D e b f) where
  abbrev pub us : List ℕ
  us = ends (times p) D S els

  pub us_within : (x : ℕ) → Among us x → x < p.table.side
  us_within x i = all_among p.table.side els x c.elements_within (ends_in p D S els x i)

  pub first_each : (groups : List (List (ℕ × ℕ))) (none : List (Option ℕ)) → AreGroups p D S groups
      → none ≡ replicate p.table.side None → (xs : List SfNode)
      → each (λ ys u. join_all most (slice_index f) (slice_index b) (slice_index_or none u None)
      (slice_index_or groups u []) ys) us (λ x. 0) xs
      ≡ each (λ ys u. join_all most (slice_index f) (slice_index b) None (pairs (times p) D S u) ys)
      us (λ x. 0) xs
  first_each groups none g n xs = each_same (λ ys u. join_all most (slice_index f) (slice_index b)
      (slice_index_or none u None) (slice_index_or groups u []) ys) (λ ys u. join_all most
      (slice_index f) (slice_index b) None (pairs (times p) D S u) ys) us (λ x. 0) xs
      (λ ys u i. join_all_same most (slice_index f) (slice_index f) (slice_index b) (slice_index b)
      (slice_index_or none u None) None (slice_index_or groups u []) (pairs (times p) D S u) ys
      (ap (λ zs. slice_index_or zs u None) n ∙ get_or-replicate p.table.side u None None
      (us_within u i)) (g.each u (us_within u i)) (λ x y j. (refl, refl)))

  pub second_each : (groups : List (List (ℕ × ℕ))) (starts : List (Option ℕ)) (v : List ℕ)
      (G : ℕ → ℕ) → AreGroups p S us groups → AreStarts S e starts
      → ((x : ℕ) → x < length v → G x ≡ slice_index v x) → length v ≡ p.table.side
      → (xs : List SfNode)
      → each (λ ys u. join_all most (slice_index e) (slice_index v) (slice_index_or starts u None)
      (slice_index_or groups u []) ys) els (λ x. 0) xs
      ≡ each (λ ys u. join_all most (slice_index e) G (when (has S u) (slice_index e u))
      (pairs (times p) S us u) ys) els (λ x. 0) xs
  second_each groups starts v G g s h l xs = each_same (λ ys u. join_all most (slice_index e)
      (slice_index v) (slice_index_or starts u None) (slice_index_or groups u []) ys)
      (λ ys u. join_all most (slice_index e) G (when (has S u) (slice_index e u))
      (pairs (times p) S us u) ys) els (λ x. 0) xs
      (λ ys u i.
      let k : u < p.table.side = all_among p.table.side els u c.elements_within i in
      join_all_same most (slice_index e) (slice_index e) (slice_index v) G (slice_index_or starts u
      None) (when (has S u) (slice_index e u)) (slice_index_or groups u [])
      (pairs (times p) S us u) ys
      (s.each u (let m = c.first_long in omega arith)) (g.each u k)
      (λ x y j. let z = (pairs_among (times p) S us u x y).0 j in
      (refl, sym (h y (let w = us_within y z.1 in omega arith)))))
