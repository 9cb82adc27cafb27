-- The words of a node settle: from the settling number on, one more power changes nothing.
use Rattle.std.proofs.Common.{◌≡◌, ℕ, zero, suc, ◌+◌, ◌-◌, ◌<◌, ◌≤◌, Bool, true, false, cond, eqb}
use Rattle.std.proofs.Common.{List, [], ◌∷◌, ◌++◌, ◌↔◌, append_assoc, sym, subst, ◌∙◌, ap, refl}
use Rattle.std.proofs.Common.{◌⊎◌, inl, inr, arith, length, reverse}
use Rattle.std.proofs.lemmas.Bool.{cases_lt}
use Rattle.std.proofs.lemmas.List.{length-append}
use Rattle.language_theory.specs.Words.{Over, power}
use Rattle.language_theory.proofs.Shortlex.{over_append, over_prefix, over_suffix}
use Rattle.monoid_theory.proofs.Exponents.{over_power}
use Rattle.monoid_theory.specs.Powers.{NeverSettle}
use Rattle.star_free_theory.specs.declared.nodes.SfNode.TheVariants as node
use Rattle.star_free_theory.specs.StarFree.{Choice, Concat, Denotes, Meaning, Means, SfNode}
use Rattle.star_free_theory.specs.StarFree.{settling, settling_newest, settling_of}

abbrev pub at : List ℕ → List ℕ → List ℕ → ℕ → List ℕ
at u x v n = u ++ (power n x ++ v)

-- from h on, one more x between u and v changes nothing
pub record Settles (k h : ℕ) (P : List ℕ → Type 0) : Type 0 where
  pub settles : (n : ℕ) → h ≤ n → (u x v : List ℕ) → Over k u → Over k x → Over k v → P (at u x v n)
      ↔ P (at u x v (suc n))

pub settles_from : (k h g : ℕ) (P : List ℕ → Type 0) → h ≤ g → Settles k h P → Settles k g P
settles_from k h g P l s = record { settles = λ n i. s.settles n (omega arith) }

over_at : (k : ℕ) (u x v : List ℕ) (n : ℕ) → Over k u → Over k x → Over k v → Over k (at u x v n)
over_at k u x v n ou ox ov = over_append k u (power n x ++ v) ou
    (over_append k (power n x) v (over_power k n x ox) ov)

-- powers of the empty word, and of others

power_of_empty : (n : ℕ) → power n [] ≡ []
power_of_empty zero = refl
power_of_empty (suc n) = power_of_empty n

long_power : (n a : ℕ) (x : List ℕ) → n ≤ length (power n (a ∷ x))
long_power zero a x = omega arith
long_power (suc n) a x = let l : n ≤ length (power n (a ∷ x)) = long_power n a x in
    let e = length-append x (power n (a ∷ x)) in omega arith

long_at : (u x v : List ℕ) (n a : ℕ) → n ≤ length (at u (a ∷ x) v n)
long_at u x v n a =
    let l : n ≤ length (power n (a ∷ x)) = long_power n a x in
    let e = length-append u (power n (a ∷ x) ++ v) in
    let f = length-append (power n (a ∷ x)) v in
    omega arith

-- a word of bounded length has no long powers in it
short_settles : (k h : ℕ) (P : List ℕ → Type 0) → ((w : List ℕ) → P w → length w < h)
    → Settles k h P
short_settles k h P f = record { settles = λ n l u x v ou ox ov. by n l u x v }
  where
    by : (n : ℕ) → h ≤ n → (u x v : List ℕ) → P (at u x v n) ↔ P (at u x v (suc n))
    by n l u [] v =
        let e : at u [] v n ≡ at u [] v (suc n) = ap (λ z. u ++ (z ++ v))
        (power_of_empty n ∙ sym (power_of_empty (suc n))) in
        (λ p. subst P e p, λ p. subst P (sym e) p)
    by n l u (a ∷ x) v = (
      λ p. absurd (let i = f (at u (a ∷ x) v n) p in let j = long_at u x v n a in omega arith),
      λ p. absurd (let i = f (at u (a ∷ x) v (suc n)) p in let j = long_at u x v (suc n) a in
          omega arith),
    )

-- where two words together are two others, one cuts the other

split_two : (s t p q : List ℕ) → s ++ t ≡ p ++ q → ((m : List ℕ) × (p ≡ s ++ m) × (t ≡ m ++ q))
    ⊎ ((m : List ℕ) × (s ≡ p ++ m) × (m ++ t ≡ q))
split_two [] t p q e = inl (p, refl, e)
split_two (a ∷ s) t [] q e = inr (a ∷ s, refl, e)
split_two (a ∷ s) t (b ∷ p) q e =
    let f : a ≡ b = cc in
    let g : s ++ t ≡ p ++ q = cc in
    elim (split_two s t p q g) [
      | inl (m, i, j) ↦ inl (m, let d : b ∷ p ≡ a ∷ (s ++ m) = cc in d, j)
      | inr (m, i, j) ↦ inr (m, let d : a ∷ s ≡ b ∷ (p ++ m) = cc in d, j)
    ]

-- the cut is in one of the copies of x, or behind them
abbrev pub IsCutIn : (s t x v : List ℕ) → ℕ → Type 0
IsCutIn s t x v n = (a b : ℕ) × (y z : List ℕ) × (suc (a + b) ≡ n) × (y ++ z ≡ x)
    × (s ≡ power a x ++ y) × (t ≡ z ++ (power b x ++ v))

split_power : (n : ℕ) (s t x v : List ℕ) → s ++ t ≡ power n x ++ v → IsCutIn s t x v n
    ⊎ ((m : List ℕ) × (s ≡ power n x ++ m) × (m ++ t ≡ v))
split_power zero s t x v e = inr (s, refl, e)
split_power (suc n) s t x v e
    = elim (split_two s t x (power n x ++ v) (e ∙ append_assoc x (power n x) v)) [
      | inl (m, i, j) ↦ inl (0, n, s, m, omega arith, sym i, refl, j)
      | inr (m, i, j) ↦ elim (split_power n m t x v j) [
        | inl (a, b, y, z, c, d, f, g) ↦ inl (
          suc a,
          b,
          y,
          z,
          omega (arith, c),
          d,
          i ∙ ap (λ q. x ++ q) f
              ∙ sym (append_assoc x (power a x) y),
          g,
        )
        | inr (q, f, g) ↦ inr (q, i ∙ ap (λ r. x ++ r) f ∙ sym (append_assoc x (power n x) q), g)
      ]
    ]

power_around : (a b : ℕ) (x : List ℕ) → power a x ++ (x ++ power b x) ≡ power (suc (a + b)) x
power_around zero b x = let e : suc b ≡ suc (0 + b) = omega arith in ap (λ (m : ℕ). power m x) e
power_around (suc a) b x =
    let e : suc (suc (a + b)) ≡ suc (suc a + b) = omega arith in
    append_assoc x (power a x) (x ++ power b x) ∙ ap (λ z. x ++ z) (power_around a b x)
    ∙ ap (λ (m : ℕ). power m x) e

-- the copies around a cut, put together again
joined_cut_at : (u v x y z : List ℕ) (a b : ℕ) → y ++ z ≡ x
    → (u ++ (power a x ++ y)) ++ (z ++ (power b x ++ v)) ≡ at u x v (suc (a + b))
joined_cut_at u v x y z a b e =
    append_assoc u (power a x ++ y) (z ++ (power b x ++ v))
    ∙ ap (λ q. u ++ q)
    (append_assoc (power a x) y (z ++ (power b x ++ v))
    ∙ ap (λ q. power a x ++ q)
    (sym (append_assoc y z (power b x ++ v)) ∙ ap (λ q. q ++ (power b x ++ v)) e
    ∙ sym (append_assoc x (power b x) v))
    ∙ sym (append_assoc (power a x) (x ++ power b x) v)
    ∙ ap (λ q. q ++ v) (power_around a b x))

module _ (k : ℕ) (L K : List ℕ → Type 0) (h g : ℕ) (hl : Settles k h L) (hk : Settles k g K) where
  abbrev C : List ℕ → Type 0
  C = Concat L K

  module _ (n : ℕ) (l : h + g + 1 ≤ n) (u x v : List ℕ) (ou : Over k u) (ox : Over k x)
      (ov : Over k v) where
    -- one copy more: in the first part, where it has enough, else in the second
    more : C (at u x v n) → C (at u x v (suc n))
    more (s, t, i, j, e) = elim (split_two s t u (power n x ++ v) e) [
      | inl (m, d, f) ↦
          let om : Over k m = over_suffix k s m (subst (Over k) d ou) in (
            s,
            at m x v (suc n),
            i,
            (hk.settles n (omega arith) m x v om ox ov).0 (subst K f j),
            sym
                (append_assoc s m (power (suc n) x ++ v))
                ∙ ap (λ q. q ++ (power (suc n) x ++ v)) (sym d),
          )
      | inr (m, d, f) ↦ elim (split_power n m t x v f) [
        | inr (q, c, b) ↦
            let oq : Over k q = over_prefix k q t (subst (Over k) (sym b) ov) in (
              at u x q (suc n),
              t,
              (hl.settles n (omega arith) u x q ou ox oq).0 (subst L (d ∙ ap (λ z. u ++ z) c) i),
              j,
              append_assoc u (power (suc n) x ++ q) t
                  ∙ ap (λ z. u ++ z) (append_assoc (power (suc n) x) q t
                  ∙ ap (λ z. power (suc n) x ++ z) b),
            )
        | inl (a, b, y, z, c, yz, sy, tz) ↦
            let oy : Over k y = over_prefix k y z (subst (Over k) (sym yz) ox) in
            let oz : Over k z = over_suffix k y z (subst (Over k) (sym yz) ox) in
            let si : L (at u x y a) = subst L (d ∙ ap (λ q. u ++ q) sy) i in
            let tj : K (at z x v b) = subst K tz j in
            elim (cases_lt a h) [
              | inr big ↦ let w : suc (suc a + b) ≡ suc n = omega (arith, c) in (
                at u x y (suc a),
                at z x v b,
                (hl.settles a big u x y ou ox oy).0 si,
                tj,
                joined_cut_at u v x y z (suc a) b yz ∙ ap (λ (q : ℕ). at u x v q) w,
              )
              | inl small ↦ let w : suc (a + suc b) ≡ suc n = omega (arith, c) in (
                at u x y a,
                at z x v (suc b),
                si,
                (hk.settles b (omega (arith, c, l, small)) z x v oz ox ov).0 tj,
                joined_cut_at u v
                    x y z a (suc b) yz ∙ ap (λ (q : ℕ). at u x v q) w,
              )
            ]
      ]
    ]

    fewer_copies : C (at u x v (suc n)) → C (at u x v n)
    fewer_copies (s, t, i, j, e) = elim (split_two s t u (power (suc n) x ++ v) e) [
      | inl (m, d, f) ↦
          let om : Over k m = over_suffix k s m (subst (Over k) d ou) in (
            s,
            at m x v n,
            i,
            (hk.settles n (omega arith) m x v om ox ov).1 (subst K f j),
            sym
                (append_assoc s m (power n x ++ v)) ∙ ap (λ q. q ++ (power n x ++ v)) (sym d),
          )
      | inr (m, d, f) ↦ elim (split_power (suc n) m t x v f) [
        | inr (q, c, b) ↦
            let oq : Over k q = over_prefix k q t (subst (Over k) (sym b) ov) in (
              at u x q n,
              t,
              (hl.settles n (omega arith) u x q ou ox oq).1 (subst L (d ∙ ap (λ z. u ++ z) c) i),
              j,
              append_assoc u (power n x ++ q) t
                  ∙ ap (λ z. u ++ z) (append_assoc (power n x) q t ∙ ap (λ z. power n x ++ z) b),
            )
        | inl (a, b, y, z, c, yz, sy, tz) ↦
            let oy : Over k y = over_prefix k y z (subst (Over k) (sym yz) ox) in
            let oz : Over k z = over_suffix k y z (subst (Over k) (sym yz) ox) in
            let si : L (at u x y a) = subst L (d ∙ ap (λ q. u ++ q) sy) i in
            let tj : K (at z x v b) = subst K tz j in
            elim (cases_lt h a) [
              | inl big ↦
                  let f : suc (a - 1) ≡ a = omega arith in
                  let w : suc ((a - 1) + b) ≡ n = omega (arith, c, big) in (
                    at u x y (a - 1),
                    at z x v b,
                    (hl.settles (a - 1) (omega arith) u x y ou ox oy).1
                        (subst (λ q. L (at u x y q)) (sym f) si),
                    tj,
                    joined_cut_at u v x y z (a - 1)
                        b yz ∙ ap (λ (q : ℕ). at u x v q) w,
                  )
              | inr small ↦
                  let f : suc (b - 1) ≡ b = omega (arith, c, l, small) in
                  let w : suc (a + (b - 1)) ≡ n = omega (arith, c, l, small) in (
                    at u x y a,
                    at z x v (b - 1),
                    si,
                    (hk.settles (b - 1) (omega (arith, c, l, small)) z x v oz ox ov).1
                        (subst (λ q. K (at z x v q)) (sym f) tj),
                    joined_cut_at u v x y z a (b - 1) yz
                        ∙ ap (λ (q : ℕ). at u x v q) w,
                  )
            ]
      ]
    ]

  concat_settles : Settles k (h + g + 1) C
  concat_settles = record
      { settles = λ n l u x v ou ox ov. (more n l u x v ou ox ov, fewer_copies n l u x v ou ox ov) }

meaning_settles : (k : ℕ) (x : SfNode) (M : ℕ → List ℕ → Type 0) (h : ℕ → ℕ)
    → ((i : ℕ) → Settles k (h i) (M i)) → Settles k (settling_of x h) (Meaning k x M)
meaning_settles k node.Empty M h f = record { settles = λ n l u x v ou ox ov. (λ p. p, λ p. p) }
meaning_settles k node.Eps M h f = short_settles k 1 (Meaning k node.Eps M)
    (λ w e. let g : length w ≡ 0 = ap (λ (z : List ℕ). length z) e in omega arith)
meaning_settles k (node.Letter a) M h f = short_settles k 2 (Meaning k (node.Letter a) M)
    (λ w e. let g : length w ≡ 1 = ap (λ (z : List ℕ). length z) e.1 in omega arith)
meaning_settles k (node.Not i) M h f = record {
  settles = λ n l u x v ou ox ov. let s = (f i).settles n l u x v ou ox ov in (
    λ p. (over_at k u x v (suc n) ou ox ov, λ q. p.1 (s.1 q)),
    λ p. (over_at k u x v n ou ox ov, λ q. p.1 (s.0 q)),
  );
}
meaning_settles k (node.Cat i j) M h f = concat_settles k (M i) (M j) (h i) (h j) (f i) (f j)
meaning_settles k (node.Or i j) M h f = record {
  settles = λ n l u x v ou ox ov. let s = (f i).settles n (omega arith) u x v ou ox ov in
      let t = (f j).settles n (omega arith) u x v ou ox ov in (
        elim [ inl p ↦ inl (s.0 p) | inr p ↦ inr (t.0 p) ],
        elim [ inl p ↦ inl (s.1 p) | inr p ↦ inr (t.1 p) ],
      );
}
meaning_settles k (node.And i j) M h f = record {
  settles = λ n l u x v ou ox ov. let s = (f i).settles n (omega arith) u x v ou ox ov in
      let t = (f j).settles n (omega arith) u x v ou ox ov in (
        λ p. (s.0 p.0, t.0 p.1),
        λ p. (s.1 p.0, t.1 p.1),
      );
}

choice_settles : (k : ℕ) (b : Bool) (h g : ℕ) (P Q : List ℕ → Type 0) → Settles k h P
    → Settles k g Q → Settles k (cond b h g) (λ w. Choice b (P w) (Q w))
choice_settles k true h g P Q s t = record { settles = s.settles }
choice_settles k false h g P Q s t = record { settles = t.settles }

means_settle : (k : ℕ) (xs : List SfNode) (n : ℕ) → Settles k (settling_newest xs n) (Means k xs n)
means_settle k [] n = record { settles = λ m l u x v ou ox ov. (λ p. p, λ p. p) }
means_settle k (x ∷ xs) n =
    let s = choice_settles k (eqb n (length xs)) (settling_of x (settling_newest xs))
    (settling_newest xs n) (Meaning k x (Means k xs)) (Means k xs n)
    (meaning_settles k x (Means k xs) (settling_newest xs) (means_settle k xs))
    (means_settle k xs n) in
    record { settles = s.settles }

pub denotes_settles : (k : ℕ) (list : List SfNode) (i n : ℕ) (u x v : List ℕ) → Over k u → Over k x
    → Over k v → settling list i ≤ n
    → Denotes k list i (u ++ (power n x ++ v)) ↔ Denotes k list i (u ++ (power (n + 1) x ++ v))
denotes_settles k list i n u x v ou ox ov l = let e : suc n ≡ n + 1 = omega arith in
    subst (λ (m : ℕ). Denotes k list i (u ++ (power n x ++ v))
    ↔ Denotes k list i (u ++ (power m x ++ v))) e
    ((means_settle k (reverse list) i).settles n l u x v ou ox ov)

-- all powers from h on are alike
from_settling : (k h : ℕ) (P : List ℕ → Type 0) → Settles k h P → (u x v : List ℕ) → Over k u
    → Over k x → Over k v → (d : ℕ) → P (at u x v h) ↔ P (at u x v (d + h))
from_settling k h P s u x v ou ox ov zero = let e : h ≡ 0 + h = omega arith in
    (λ p. subst (λ (m : ℕ). P (at u x v m)) e p, λ p. subst (λ (m : ℕ). P (at u x v m)) (sym e) p)
from_settling k h P s u x v ou ox ov (suc d) =
    let r = from_settling k h P s u x v ou ox ov d in
    let t = s.settles (d + h) (omega arith) u x v ou ox ov in
    let e : suc (d + h) ≡ suc d + h = omega arith in (
      λ p. subst (λ (m : ℕ). P (at u x v m)) e (t.0 (r.0 p)),
      λ p. r.1
          (t.1 (subst (λ (m : ℕ). P (at u x v m)) (sym e) p)),
    )

pub never_star_free : (k : ℕ) (L : List ℕ → Type 0) (u x v : List ℕ) → Over k u → Over k x
    → Over k v → NeverSettle L u x v
    → (list : List SfNode) (root : ℕ) → ((w : List ℕ) → Over k w → L w ↔ Denotes k list root w) → ⊥
never_star_free k L u x v ou ox ov never list root same =
    let h = settling list root in
    let s : Settles k h (Denotes k list root) = means_settle k (reverse list) root in
    let (i, j, li, lj, here, there) = never h in
    let alike : (n : ℕ) → h ≤ n → Denotes k list root (at u x v h)
    ↔ Denotes k list root (at u x v n) = λ n l. let e : (n - h) + h ≡ n = omega arith in
    subst (λ m. Denotes k list root (at u x v h) ↔ Denotes k list root (at u x v m)) e
    (from_settling k h (Denotes k list root) s u x v ou ox ov (n - h)) in
    there ((same (at u x v j) (over_at k u x v j ou ox ov)).1
    ((alike j lj).0 ((alike i li).1 ((same (at u x v i) (over_at k u x v i ou ox ov)).0 here))))
