-- Factors of a word, the places of their marks, and what the marks tell.
use Rattle.std.proofs.Common.{◌≡◌, ◌∙◌, ◌<◌, ◌≤◌, ◌+◌, ◌*◌, ◌%◌, ◌/◌, ◌-◌, ℕ, zero, suc, Bool, true, false, List, [], ◌∷◌, ◌++◌, length, slice_index, slice_range, take, drop, refl, sym, ap, subst, append_assoc, inl, inr, ◌↔◌, arith}
use Rattle.std.proofs.lemmas.Bool.{cases_lt}
use Rattle.std.proofs.lemmas.List.{length-append, length-drop, append-nil, get_or_append_left, take_at, take-append-drop, length-take-le}
use Rattle.std.proofs.lemmas.List.Folds.{drop_split}
use Rattle.std.proofs.lemmas.Nat.{mul-add-lt, div-mul-add, mod-mul-add}
use Rattle.std.proofs.Math.Seq.{get_or-append_seam, drop-append_seam, split_at}
use Rattle.language_theory.specs.Automaton.{is_marked}
use Rattle.language_theory.specs.Words.{Over}
use Rattle.language_theory.proofs.Shortlex.{over_prefix, over_suffix}
use Rattle.star_free_theory.specs.declared.nodes.SfNode.TheVariants as node
use Rattle.star_free_theory.specs.declared.nodes.SfNode.{SfNode}
use Rattle.star_free_theory.specs.StarFree.{Meaning, Denotes, NameEarlier, NamesBelow}
use Rattle.star_free_theory.specs.Pruning.{node_at}
use Rattle.star_free_theory.proofs.Denoting.{denotes_at, earlier_at}
use Rattle.star_free_lists.specs.Accepting.{mark_place, HasMark, AreMarks, Tells, CanTell}

-- factors

factor_is : (p f q w : List ℕ) (s e : ℕ) → p ++ (f ++ q) ≡ w → s ≡ length p
    → e ≡ length p + length f → slice_range w s e ≡ f
factor_is p f q w s e h i j =
    let a : drop s w ≡ f ++ q = ap (λ (n : ℕ). drop n w) i ∙ ap (drop (length p)) (sym h)
    ∙ drop-append_seam p (f ++ q) in
    ap (take (e - s)) a ∙ take_at f q (e - s) (omega arith)

factor_splits : (w : List ℕ) (s e : ℕ) → s ≤ e
    → take s w ++ (slice_range w s e ++ drop e w) ≡ w
factor_splits w s e l = ap (λ (z : List ℕ). take s w ++ z) (sym (drop_split w s e l))
    ∙ take-append-drop s w

length_factor : (w : List ℕ) (s e : ℕ) → s ≤ e → e ≤ length w
    → s + length (slice_range w s e) ≡ e
length_factor w s e l m =
    let a : length (drop s w) ≡ length w - s = length-drop s w in
    let b : length (slice_range w s e) ≡ e - s = length-take-le (e - s) (drop s w) (omega arith) in
    omega arith

factor_empty : (w : List ℕ) (s : ℕ) → slice_range w s s ≡ []
factor_empty w s = let e : s - s ≡ 0 = omega arith in
    ap (λ (n : ℕ). take n (drop s w)) e

-- two factors that meet make one
factor_join : (w : List ℕ) (s m e : ℕ) → s ≤ m → m ≤ e → e ≤ length w
    → slice_range w s m ++ slice_range w m e ≡ slice_range w s e
factor_join w s m e i j l =
    let f = slice_range w s m in
    let g = slice_range w m e in
    let a : f ++ drop m w ≡ drop s w = sym (drop_split w s m i) in
    let b : (f ++ g) ++ drop e w ≡ drop s w = append_assoc f g (drop e w)
    ∙ ap (λ (z : List ℕ). f ++ z) (sym (drop_split w m e j)) ∙ a in
    let c : s + length f ≡ m = length_factor w s m i (omega arith) in
    let d : m + length g ≡ e = length_factor w m e j l in
    let k : length (f ++ g) ≡ length f + length g = length-append f g in
    sym (factor_is (take s w) (f ++ g) (drop e w) w s e
    (ap (λ (z : List ℕ). take s w ++ z) b ∙ take-append-drop s w)
    (sym (length-take-le s w (omega arith)))
    (let n : length (take s w) ≡ s = length-take-le s w (omega arith) in omega arith))

-- the parts of a factor are factors
factor_cut : (w : List ℕ) (s e : ℕ) (u v : List ℕ) → s ≤ e → e ≤ length w
    → u ++ v ≡ slice_range w s e → (s + length u ≤ e)
    × (slice_range w s (s + length u) ≡ u) × (slice_range w (s + length u) e ≡ v)
factor_cut w s e u v i l h =
    let n : length (take s w) ≡ s = length-take-le s w (omega arith) in
    let k : length (u ++ v) ≡ length u + length v = length-append u v in
    let o : length (u ++ v) ≡ length (slice_range w s e) = ap (λ (z : List ℕ). length z) h in
    let f = length_factor w s e i l in
    let t = take s w in
    let d = drop e w in
    let whole : t ++ ((u ++ v) ++ d) ≡ w = ap (λ (z : List ℕ). t ++ (z ++ d)) h
    ∙ factor_splits w s e i in
    let r : length (t ++ u) ≡ length t + length u = length-append t u in (
      omega arith,
      factor_is t u (v ++ d) w s (s + length u)
          (ap (λ (z : List ℕ). t ++ z) (sym (append_assoc u v d)) ∙ whole) (sym n) (omega arith),
      factor_is (t ++ u) v d w (s + length u) e
          (append_assoc t u (v ++ d) ∙ ap (λ (z : List ℕ). t ++ z) (sym (append_assoc u v d))
          ∙ whole)
          (omega arith) (omega arith),
    )

factor_one : (w : List ℕ) (s e : ℕ) → s + 1 ≡ e → e ≤ length w
    → slice_range w s e ≡ slice_index w s ∷ []
factor_one w s e h l =
    let n : length (take s w) ≡ s = length-take-le s w (omega arith) in
    factor_is (take s w) (slice_index w s ∷ []) (drop (suc s) w) w s e
    (sym (split_at w s 0 (omega arith))) (sym n) (omega arith)

factor_over : (k : ℕ) (w : List ℕ) (s e : ℕ) → s ≤ e → Over k w → Over k (slice_range w s e)
factor_over k w s e l o =
    over_prefix k (slice_range w s e) (drop e w)
    (over_suffix k (take s w) (slice_range w s e ++ drop e w)
    (subst (Over k) (sym (factor_splits w s e l)) o))

over_at : (k : ℕ) (w : List ℕ) (s : ℕ) → Over k w → s < length w → slice_index w s < k
over_at k [] s o l = absurd (omega arith)
over_at k (a ∷ w) zero o l = o.0
over_at k (a ∷ w) (suc s) o l = over_at k w s o.1 (omega arith)

factor_whole : (w : List ℕ) → slice_range w 0 (length w) ≡ w
factor_whole w = factor_is [] w [] w 0 (length w) (append-nil w) refl (omega arith)

-- places of marks

place_below : (w : List ℕ) (n m s e : ℕ) → n < m → s ≤ length w → e ≤ length w
    → mark_place w n s e < mark_place w m 0 0
place_below w n m s e l i j =
    let side = length w + 1 in
    let a : n * side + s < side * m = mul-add-lt n side s m l (omega arith) in
    let b : (n * side + s) * side + e < side * (side * m) =
    mul-add-lt (n * side + s) side e (side * m) a (omega arith) in
    omega arith

pub mark_within : (w : List ℕ) (marks : List Bool) (n m s e : ℕ) → n < m → s ≤ length w
    → e ≤ length w → mark_place w m 0 0 ≤ length marks → mark_place w n s e < length marks
mark_within w marks n m s e l i j k = let p = place_below w n m s e l i j in omega arith

parts_one : (side a b c d : ℕ) → a < side → b < side → c * side + a ≡ d * side + b
    → (c ≡ d) × (a ≡ b)
parts_one side a b c d l m h = (
  sym (div-mul-add c side a l) ∙ ap (λ (z : ℕ). z / side) h ∙ div-mul-add d side b m,
  sym (mod-mul-add c side a l) ∙ ap (λ (z : ℕ). z % side) h ∙ mod-mul-add d side b m,
)

place_one : (w : List ℕ) (n s e m t f : ℕ) → s ≤ length w → e ≤ length w → t ≤ length w
    → f ≤ length w → mark_place w n s e ≡ mark_place w m t f → (n ≡ m) × (s ≡ t) × (e ≡ f)
place_one w n s e m t f i j k l h =
    let side = length w + 1 in
    let a = parts_one side e f (n * side + s) (m * side + t) (omega arith) (omega arith) h in
    let b = parts_one side s t n m (omega arith) (omega arith) a.0 in
    (b.0, b.1, a.1)

pub marks_none : (nodes : List SfNode) (w : List ℕ) → AreMarks nodes w []
marks_none nodes w = record { each = λ k n s e o l m i. absurd (omega arith) }

pub marks_push : (nodes : List SfNode) (w : List ℕ) (marks : List Bool) (n s e : ℕ) (b : Bool)
    → AreMarks nodes w marks → s ≤ length w → e ≤ length w → length marks ≡ mark_place w n s e
    → ((k : ℕ) → Over k w → s ≤ e → b ≡ true ↔ Denotes k nodes n (slice_range w s e))
    → AreMarks nodes w (marks ++ b ∷ [])
marks_push nodes w marks n s e b h i j l g = record {
  each = λ k m t f o r q z.
      let p = mark_place w m t f in
      let long : length (marks ++ b ∷ []) ≡ length marks + 1 = length-append marks (b ∷ []) in
      elim (cases_lt p (length marks)) [
        | inl c ↦ subst (λ (x : Bool). (x ≡ true) ↔ Denotes k nodes m (slice_range w t f))
            (sym (get_or_append_left marks (b ∷ []) false p c)) (h.each k m t f o r q c)
        | inr c ↦
            let a : mark_place w n s e ≡ p = omega arith in
            let one = place_one w n s e m t f i j (omega arith) q a in
            let here : is_marked (marks ++ b ∷ []) (mark_place w n s e) ≡ b =
            ap (is_marked (marks ++ b ∷ [])) (sym l)
            ∙ get_or-append_seam marks b [] false in
            let bs = marks ++ b ∷ [] in
            let base : HasMark w bs n s e ↔ Denotes k nodes n (slice_range w s e) =
            subst (λ (x : Bool). (x ≡ true) ↔ Denotes k nodes n (slice_range w s e)) (sym here)
            (g k o (omega (arith, one.1, one.2))) in
            subst (λ (z : ℕ). HasMark w bs z t f ↔ Denotes k nodes z (slice_range w t f)) one.0
            (subst (λ (z : ℕ). HasMark w bs n z f ↔ Denotes k nodes n (slice_range w z f)) one.1
            (subst (λ (z : ℕ). HasMark w bs n s z ↔ Denotes k nodes n (slice_range w s z)) one.2
            base))
      ];
}

-- what marks tell

module _ (k : ℕ) (nodes : List SfNode) (w : List ℕ) (marks : List Bool) (m : ℕ)
    (h : AreMarks nodes w marks) (long : mark_place w m 0 0 ≤ length marks) (o : Over k w) where
  mark_means : (i s e : ℕ) → i < m → s ≤ e → e ≤ length w
      → HasMark w marks i s e ↔ Denotes k nodes i (slice_range w s e)
  mark_means i s e l a b = h.each k i s e o a b
      (let p = place_below w i m s e l (omega arith) b in omega arith)

  tells_meaning : (x : SfNode) (s e : ℕ) → NamesBelow m x → s ≤ e → e ≤ length w
      → Tells w marks x s e ↔ Meaning k x (Denotes k nodes) (slice_range w s e)
  tells_meaning node.Empty s e l a b = (λ i. i, λ i. i)
  tells_meaning node.Eps s e l a b = (
    λ q. subst (λ (z : ℕ). slice_range w s z ≡ []) q (factor_empty w s),
    λ q. let f = length_factor w s e a b in
        let g : length (slice_range w s e) ≡ 0 = ap (λ (z : List ℕ). length z) q in omega arith,
  )
  tells_meaning (node.Letter c) s e l a b = (
    λ q. (
      subst (λ (z : ℕ). z < k) q.1 (over_at k w s o (let f = q.0 in omega arith)),
      factor_one w s e q.0 b ∙ ap (λ (z : ℕ). z ∷ []) q.1,
    ),
    λ r.
        let f = length_factor w s e a b in
        let g : length (slice_range w s e) ≡ 1 = ap (λ (z : List ℕ). length z) r.1 in
        let d : s + 1 ≡ e = omega arith in
        let one : slice_index w s ∷ [] ≡ c ∷ [] = sym (factor_one w s e d b) ∙ r.1 in
        (d, cc),
  )
  tells_meaning (node.Not i) s e l a b = let f = mark_means i s e l a b in
      (λ q. (factor_over k w s e a o, λ d. q (f.1 d)), λ r t. r.1 (f.0 t))
  tells_meaning (node.Cat i j) s e l a b = (
    λ q. (
      slice_range w s q.0,
      slice_range w q.0 e,
      (mark_means i s q.0 l.0 q.1 (let d = q.2 in omega arith)).0 q.3,
      (mark_means j q.0 e l.1 q.2 b).0 q.4,
      factor_join w s q.0 e q.1 q.2 b,
    ),
    λ r.
        let d = factor_cut w s e r.0 r.1 a b r.4 in
        let t = s + length r.0 in
        let x : t ≤ e = d.0 in (
          t,
          omega arith,
          x,
          (mark_means i s t l.0 (omega arith) (omega arith)).1
              (subst (Denotes k nodes i) (sym d.1) r.2),
          (mark_means j t e l.1 x b).1 (subst (Denotes k nodes j) (sym d.2) r.3),
        ),
  )
  tells_meaning (node.Or i j) s e l a b =
      let f = mark_means i s e l.0 a b in
      let g = mark_means j s e l.1 a b in (
        elim [ inl z ↦ inl (f.0 z) | inr z ↦ inr (g.0 z) ],
        elim [ inl z ↦ inl (f.1 z) | inr z ↦ inr (g.1 z) ],
      )
  tells_meaning (node.And i j) s e l a b =
      let f = mark_means i s e l.0 a b in
      let g = mark_means j s e l.1 a b in
      (λ z. (f.0 z.0, g.0 z.1), λ z. (f.1 z.0, g.1 z.1))

pub can_tell : (nodes : List SfNode) (w : List ℕ) (marks : List Bool) (n s e : ℕ)
    → NameEarlier 0 nodes → n < length nodes → s ≤ e → e ≤ length w
    → mark_place w n 0 0 ≤ length marks → CanTell w marks (node_at nodes n) s e
can_tell nodes w marks n s e h l a b m = record {
  ordered = a;
  within = b;
  count = n;
  below = let f : 0 + n ≡ n = omega arith in
      subst (λ (z : ℕ). NamesBelow z (node_at nodes n)) f (earlier_at 0 nodes n h l);
  long = m;
}

pub tells_denotes : (k : ℕ) (nodes : List SfNode) (w : List ℕ) (marks : List Bool) (n s e : ℕ)
    → AreMarks nodes w marks → NameEarlier 0 nodes → n < length nodes
    → CanTell w marks (node_at nodes n) s e → Over k w
    → Tells w marks (node_at nodes n) s e ↔ Denotes k nodes n (slice_range w s e)
tells_denotes k nodes w marks n s e h i l t o =
    let f = tells_meaning k nodes w marks t.count h t.long o (node_at nodes n) s e t.below
    t.ordered t.within in
    let g = denotes_at k nodes n i l (slice_range w s e) in
    (λ z. g.1 (f.0 z), λ z. f.1 (g.0 z))

pub whole_marked : (k : ℕ) (nodes : List SfNode) (w : List ℕ) (marks : List Bool) (root : ℕ)
    → AreMarks nodes w marks → length marks ≡ mark_place w (length nodes) 0 0
    → root < length nodes → Over k w
    → HasMark w marks root 0 (length w) ↔ Denotes k nodes root w
whole_marked k nodes w marks root h l r o =
    let p = place_below w root (length nodes) 0 (length w) r (omega arith) (omega arith) in
    subst (λ (u : List ℕ). HasMark w marks root 0 (length w) ↔ Denotes k nodes root u)
    (factor_whole w) (h.each k root 0 (length w) o (omega arith) (omega arith) (omega arith))
