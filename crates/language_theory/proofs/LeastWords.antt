-- A property of words that can be tested, and that some word over k letters has, has a least word.
use Rattle.std.proofs.Common.{◌≡◌, ℕ, zero, suc, ◌<◌, ◌⊎◌, inl, inr, List, [], ◌∷◌, length, refl, subst, arith}
use Rattle.std.specs.declared.cmp.Ordering.TheVariants.{Less}
use Rattle.std.specs.Ordering.{nat_cmp}
use Rattle.std.specs.Cmp.Lexicographic.{slice_cmp}
use Rattle.std.proofs.Common.{Bool, IsTrue}
use Rattle.language_theory.specs.Words.{Over}
use Rattle.language_theory.specs.Languages.{IsLeastWord}
use Rattle.language_theory.proofs.Shortlex.{letters_cases, shortlex_neither, shortlex_cases}
use Rattle.language_theory.proofs.Numbers.{true_or_not, least_or_none, least_number}

-- w is the least of the words of length n
record IsLeastOf (n k : ℕ) (Q : List ℕ → Type 0) (w : List ℕ) : Type 0 where
  over : Over k w
  long : length w ≡ n
  holds : Q w
  least : (v : List ℕ) → Over k v → length v ≡ n → Q v → ¬ (slice_cmp nat_cmp v w ≡ Less)

abbrev LeastOrNone : ℕ → ℕ → (List ℕ → Type 0) → Type 0
LeastOrNone n k Q =
    ((w : List ℕ) × IsLeastOf n k Q w) ⊎ ((w : List ℕ) → Over k w → length w ≡ n → ¬ Q w)

empty_word : (k : ℕ) (Q : List ℕ → Type 0) → Q [] ⊎ ¬ Q [] → LeastOrNone 0 k Q
empty_word k Q (inl h) = inl ([], record { over = tt; long = refl; holds = h; least = least })
  where
    least : (v : List ℕ) → Over k v → length v ≡ 0 → Q v → ¬ (slice_cmp nat_cmp v [] ≡ Less)
    least [] o e q l = cc
    least (a ∷ v) o e q l = omega arith
empty_word k Q (inr n) = inr none
  where
    none : (w : List ℕ) → Over k w → length w ≡ 0 → ¬ Q w
    none [] o e q = n q
    none (a ∷ w) o e q = omega arith

module _ (n k : ℕ) (Q : List ℕ → Type 0) (rest : (a : ℕ) → LeastOrNone n k (λ w. Q (a ∷ w))) where
  -- a word that begins with a has the property
  abbrev Begins : ℕ → Type 0
  Begins a = (w : List ℕ) × IsLeastOf n k (λ w. Q (a ∷ w)) w

  begins_or_not : (a : ℕ) → Begins a ⊎ ¬ Begins a
  begins_or_not a =
      elim (rest a) [
        | inl h ↦ inl h
        | inr f ↦
            inr (λ b. let (w, l) = b in f w l.over l.long l.holds)
      ]

  begins : (a : ℕ) (w : List ℕ) → Over k w → length w ≡ n → Q (a ∷ w) → Begins a
  begins a w o e q = elim (rest a) [ inl h ↦ h | inr f ↦ absurd (f w o e q) ]

  more_letters : LeastOrNone (suc n) k Q
  more_letters = elim (least_or_none Begins begins_or_not k) [
    | inl (a, h, (w, l), before) ↦
        inl (
          a ∷ w,
          record {
            over = (h, l.over);
            long = (let e = l.long in omega arith);
            holds =
                l.holds;
            least = least a w l before;
          },
        )
    | inr f ↦ inr (none f)
  ]
    where
      least : (a : ℕ) (w : List ℕ) → IsLeastOf n k (λ w. Q (a ∷ w)) w
          → ((b : ℕ) → b < a → ¬ Begins b) → (v : List ℕ) → Over k v → length v ≡ suc n → Q v
          → ¬ (slice_cmp nat_cmp v (a ∷ w) ≡ Less)
      least a w l before [] o e q h = omega arith
      least a w l before (b ∷ v) o e q h = elim (letters_cases b a v w h) [
        | inl g ↦ before b g (begins b v o.1 (omega arith) q)
        | inr (s, g) ↦ l.least v o.1 (omega arith) (subst (λ c. Q (c ∷ v)) s q) g
      ]

      none : ((a : ℕ) → a < k → ¬ Begins a) → (w : List ℕ) → Over k w → length w ≡ suc n → ¬ Q w
      none f [] o e q = omega arith
      none f (b ∷ w) o e q = f b o.0 (begins b w o.1 (omega arith) q)

least_of_length : (n k : ℕ) (Q : List ℕ → Type 0) → ((w : List ℕ) → Q w ⊎ ¬ Q w) → LeastOrNone n k Q
least_of_length zero k Q tell = empty_word k Q (tell [])
least_of_length (suc n) k Q tell =
    more_letters n k Q (λ a. least_of_length n k (λ w. Q (a ∷ w)) (λ w. tell (a ∷ w)))

module _ (k : ℕ) (Q : List ℕ → Type 0) (tell : (w : List ℕ) → Q w ⊎ ¬ Q w) where
  -- a word of length n has the property
  abbrev Has : ℕ → Type 0
  Has n = (v : List ℕ) × IsLeastOf n k Q v

  has_or_not : (n : ℕ) → Has n ⊎ ¬ Has n
  has_or_not n =
      elim (least_of_length n k Q tell)
      [ inl h ↦ inl h | inr f ↦ inr (λ b. let (v, l) = b in f v l.over l.long l.holds) ]

  has : (v : List ℕ) → Over k v → Q v → Has (length v)
  has v o q =
      elim (least_of_length (length v) k Q tell) [ inl h ↦ h | inr f ↦ absurd (f v o refl q) ]

  pub least_word : (w : List ℕ) → Over k w → Q w → (v : List ℕ) × IsLeastWord k Q v
  least_word w o q =
      let (n, h, (v, l), before) = least_number Has has_or_not (length w) (has w o q) in (
        v,
        record {
          over = l.over;
          holds = l.holds;
          least = λ u p r g. let e = l.long in elim (shortlex_cases u v g) [
            | inl s ↦ before (length u) (omega arith) (has u p r)
            | inr (s, t) ↦ l.least u p (omega arith) r t
          ];
        },
      )

pub least_word_of_test : (k : ℕ) (test : List ℕ → Bool) (w : List ℕ) → Over k w → IsTrue (test w)
    → (v : List ℕ) × IsLeastWord k (λ u. IsTrue (test u)) v
least_word_of_test k test = least_word k (λ u. IsTrue (test u)) (λ u. true_or_not (test u))

-- two least words are equal
pub least_words_equal : (k : ℕ) (Q : List ℕ → Type 0) (u v : List ℕ) → IsLeastWord k Q u
    → IsLeastWord k Q v → u ≡ v
least_words_equal k Q u v a b =
    shortlex_neither u v (b.least u a.over a.holds) (a.least v b.over b.holds)
