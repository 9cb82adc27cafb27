-- Powers as walls: words that repeat or swap what stands between long powers have the same key.
use Rattle.std.proofs.Common.{◌≡◌, ◌↔◌, ◌⊎◌, inl, inr, ℕ, ◌+◌, ◌-◌, ◌<◌, ◌≤◌, List, ◌++◌, length, ap, sym, subst, ◌∙◌, arith, append_assoc, length-append}
use Rattle.language_theory.specs.Words.{IsFactor, power}
use Rattle.language_theory.proofs.Congruences.{both_directions}
use Rattle.factor_keys.specs.Keys.{prefix, suffix, SameKey}
use Rattle.factor_keys.specs.Walls.{with_one, with_two}
use Rattle.factor_keys.specs.WordParts.{factor_halves, prefix_front, suffix_back, power_long}

pub or_both : {P Q R S : Type 0} → P ↔ R → Q ↔ S → (P ⊎ Q) ↔ (R ⊎ S)
or_both {P} {Q} {R} {S} f g = (to, from)
  where
    to : P ⊎ Q → R ⊎ S
    to (inl p) = inl (f.0 p)
    to (inr q) = inr (g.0 q)

    from : R ⊎ S → P ⊎ Q
    from (inl r) = inl (f.1 r)
    from (inr s) = inr (g.1 s)

or_twice : {P A C : Type 0} → (P ⊎ (A ⊎ C)) ↔ (P ⊎ (A ⊎ (A ⊎ C)))
or_twice {P} {A} {C} = (to, from)
  where
    to : P ⊎ (A ⊎ C) → P ⊎ (A ⊎ (A ⊎ C))
    to (inl p) = inl p
    to (inr (inl a)) = inr (inl a)
    to (inr (inr c)) = inr (inr (inr c))

    from : P ⊎ (A ⊎ (A ⊎ C)) → P ⊎ (A ⊎ C)
    from (inl p) = inl p
    from (inr (inl a)) = inr (inl a)
    from (inr (inr (inl a))) = inr (inl a)
    from (inr (inr (inr c))) = inr (inr c)

or_swap : {P A B C : Type 0} → P ⊎ (A ⊎ (B ⊎ C)) → P ⊎ (B ⊎ (A ⊎ C))
or_swap (inl p) = inl p
or_swap (inr (inl a)) = inr (inr (inl a))
or_swap (inr (inr (inl b))) = inr (inl b)
or_swap (inr (inr (inr c))) = inr (inr (inr c))

long_behind : (n : ℕ) (p w : List ℕ) → n ≤ length w → n ≤ length (p ++ w)
long_behind n p w l = let more : length (p ++ w) ≡ length p + length w = simp length-append in
    omega arith

long_front : (n : ℕ) (w q : List ℕ) → n ≤ length w → n ≤ length (w ++ q)
long_front n w q l = let more : length (w ++ q) ≡ length w + length q = simp length-append in
    omega arith

-- walls s, each at least k letters long
module _ (k : ℕ) (s : List ℕ) (wall : k ≤ length s) where
  -- a factor lies before the second wall, or behind the first
  factors_of_block : (x y r : List ℕ) → length x ≡ k → IsFactor x (s ++ (y ++ (s ++ r)))
      ↔ (IsFactor x (s ++ (y ++ s)) ⊎ IsFactor x (s ++ r))
  factors_of_block x y r l =
      let h = factor_halves x (s ++ y) s r (omega arith) in
      subst (λ (w : List ℕ). IsFactor x w ↔ (IsFactor x (s ++ (y ++ s)) ⊎ IsFactor x (s ++ r)))
      (append_assoc s y (s ++ r))
      (subst (λ (w : List ℕ). IsFactor x ((s ++ y) ++ (s ++ r))
      ↔ (IsFactor x w ⊎ IsFactor x (s ++ r))) (append_assoc s y s) h)

  factors_of_one : (u y v x : List ℕ) → length x ≡ k → IsFactor x (u ++ (s ++ (y ++ (s ++ v))))
      ↔ (IsFactor x (u ++ s) ⊎ (IsFactor x (s ++ (y ++ s)) ⊎ IsFactor x (s ++ v)))
  factors_of_one u y v x l = both_directions (factor_halves x u s (y ++ (s ++ v)) (omega arith))
      (or_both (λ f. f, λ f. f) (factors_of_block x y v l))

  factors_of_two : (u y z v x : List ℕ) → length x ≡ k
      → IsFactor x (u ++ (s ++ (y ++ (s ++ (z ++ (s ++ v))))))
      ↔ (IsFactor x (u ++ s)
      ⊎ (IsFactor x (s ++ (y ++ s)) ⊎ (IsFactor x (s ++ (z ++ s)) ⊎ IsFactor x (s ++ v))))
  factors_of_two u y z v x l = both_directions
      (factor_halves x u s (y ++ (s ++ (z ++ (s ++ v)))) (omega arith))
      (or_both (λ f. f, λ f. f)
      (both_directions (factors_of_block x y (z ++ (s ++ v)) l)
      (or_both (λ f. f, λ f. f) (factors_of_block x z v l))))

  prefix_of_walled : (u r : List ℕ) → prefix (k - 1) (u ++ (s ++ r)) ≡ prefix (k - 1) (u ++ s)
  prefix_of_walled u r = ap (prefix (k - 1)) (sym (append_assoc u s r))
      ∙ prefix_front (k - 1) (u ++ s) r (let l = long_behind k u s wall in omega arith)

  behind_wall : (v : List ℕ) → k ≤ length (s ++ v)
  behind_wall v = long_front k s v wall

  suffix_of_walled : (p v : List ℕ) → suffix (k - 1) (p ++ (s ++ v)) ≡ suffix (k - 1) (s ++ v)
  suffix_of_walled p v = suffix_back (k - 1) p (s ++ v) (let l = behind_wall v in omega arith)

  suffix_of_one : (u y v : List ℕ) → suffix (k - 1) (u ++ (s ++ (y ++ (s ++ v))))
      ≡ suffix (k - 1) (s ++ v)
  suffix_of_one u y v = ap (suffix (k - 1)) regroup ∙ suffix_of_walled (u ++ (s ++ y)) v
    where
      regroup : u ++ (s ++ (y ++ (s ++ v))) ≡ (u ++ (s ++ y)) ++ (s ++ v)
      regroup = simp append_assoc

  suffix_of_two : (u y z v : List ℕ) → suffix (k - 1) (u ++ (s ++ (y ++ (s ++ (z ++ (s ++ v))))))
      ≡ suffix (k - 1) (s ++ v)
  suffix_of_two u y z v = ap (suffix (k - 1)) regroup
      ∙ suffix_of_walled (u ++ (s ++ (y ++ (s ++ z)))) v
    where
      regroup : u ++ (s ++ (y ++ (s ++ (z ++ (s ++ v))))) ≡ (u ++ (s ++ (y ++ (s ++ z))))
          ++ (s ++ v)
      regroup = simp append_assoc

  long_walled : (u r : List ℕ) → k ≤ length (u ++ (s ++ r))
  long_walled u r = long_behind k u (s ++ r) (behind_wall r)

  pub walled_repeat : (u y v : List ℕ)
      → SameKey k (u ++ (s ++ (y ++ (s ++ v)))) (u ++ (s ++ (y ++ (s ++ (y ++ (s ++ v))))))
  walled_repeat u y v = inr (
    long_walled u (y ++ (s ++ v)),
    long_walled u (y ++ (s ++ (y ++ (s ++ v)))),
    record {
      prefix = prefix_of_walled u (y ++ (s ++ v))
          ∙ sym (prefix_of_walled u (y ++ (s ++ (y ++ (s ++ v)))));
      suffix = suffix_of_one u y v ∙ sym (suffix_of_two u y y v);
      factors = λ x l. both_directions (factors_of_one u y v x l)
          (both_directions or_twice (let h = factors_of_two u y y v x l in (h.1, h.0)));
    },
  )

  pub walled_swap : (u y z v : List ℕ)
      → SameKey k (u ++ (s ++ (y ++ (s ++ (z ++ (s ++ v))))))
      (u ++ (s ++ (z ++ (s ++ (y ++ (s ++ v))))))
  walled_swap u y z v = inr (
    long_walled u (y ++ (s ++ (z ++ (s ++ v)))),
    long_walled u (z ++ (s ++ (y ++ (s ++ v)))),
    record {
      prefix = prefix_of_walled u (y ++ (s ++ (z ++ (s ++ v))))
          ∙ sym (prefix_of_walled u (z ++ (s ++ (y ++ (s ++ v)))));
      suffix = suffix_of_two u y z v ∙ sym (suffix_of_two u z y v);
      factors = λ x l. both_directions (factors_of_two u y z v x l)
          (both_directions (or_swap, or_swap) (let h = factors_of_two u z y v x l in (h.1, h.0)));
    },
  )

-- u x^n y x^n v and u x^n y x^n y x^n v have the same key at each level up to n
pub repeat_alike : (n k : ℕ) (u x y v : List ℕ) → 0 < length x → k ≤ n
    → SameKey k (with_one n u x y v) (with_two n u x y y v)
repeat_alike n k u x y v some up =
    walled_repeat k (power n x) (let l = power_long n x some in omega arith) u y v

-- u x^n y x^n z x^n v and u x^n z x^n y x^n v have the same key at each level up to n
pub swap_alike : (n k : ℕ) (u x y z v : List ℕ) → 0 < length x → k ≤ n
    → SameKey k (with_two n u x y z v) (with_two n u x z y v)
swap_alike n k u x y z v some up =
    walled_swap k (power n x) (let l = power_long n x some in omega arith) u y z v
