-- The laws of the shortlex order.
use Rattle.std.proofs.Common.{◌≡◌, ℕ, zero, suc, ◌<◌, ◌⊎◌, inl, inr, List, [], ◌∷◌, ◌++◌, length, refl, ap, sym, subst, ◌∙◌, arith, length-append}
use Rattle.std.specs.declared.cmp.Ordering.{Ordering}
use Rattle.std.specs.declared.cmp.Ordering.TheVariants.{Less, Equal, Greater}
use Rattle.std.specs.Ordering.{nat_cmp, ordering_then, ordering_reverse, MatchOrdering}
use Rattle.std.specs.Cmp.{nat_cmp_is, IsTotalOrder}
use Rattle.std.specs.Cmp.Lexicographic.{slice_cmp}
use Rattle.std.proofs.lemmas.Bool.{cases_lt}
use Rattle.std.proofs.lemmas.Cmp.{ranked, nat_cmp_total, nat_list_cmp_total, on_total, then_total, tied_itself}
use Rattle.language_theory.specs.Words.{Over, shortlex, ◌⊏◌}

pub shortlex_total : IsTotalOrder shortlex
shortlex_total = then_total (on_total length nat_cmp_total) nat_list_cmp_total

-- what an outcome of a comparison of two numbers says
pub nat_less : (a b : ℕ) → a < b → nat_cmp a b ≡ Less
nat_less a b h = sym (nat_cmp_is a b Less h)

pub nat_equal : (a b : ℕ) → a ≡ b → nat_cmp a b ≡ Equal
nat_equal a b h = sym (nat_cmp_is a b Equal h)

pub nat_greater : (a b : ℕ) → b < a → nat_cmp a b ≡ Greater
nat_greater a b h = sym (nat_cmp_is a b Greater h)

-- the outcome of two comparisons, one after the other, by cases
then_less : (a b : ℕ) (o r : Ordering) → nat_cmp a b ≡ o → ordering_then o r ≡ Less
    → (a < b) ⊎ ((a ≡ b) × (r ≡ Less))
then_less a b Less r e h = inl (ranked a b Less (sym e))
then_less a b Equal r e h = inr (ranked a b Equal (sym e), h)
then_less a b Greater r e h = cc

-- a shorter word comes first
pub shortlex_shorter : (u v : List ℕ) → length u < length v → u ⊏ v
shortlex_shorter u v h = rw (nat_less (length u) (length v) h)

-- words of one length are compared letter by letter
pub shortlex_same_length : (u v : List ℕ) → length u ≡ length v → slice_cmp nat_cmp u v ≡ Less
    → u ⊏ v
shortlex_same_length u v e h = rw (nat_equal (length u) (length v) e) h

pub shortlex_cases : (u v : List ℕ) → u ⊏ v → (length u < length v)
    ⊎ ((length u ≡ length v) × (slice_cmp nat_cmp u v ≡ Less))
shortlex_cases u v h =
    then_less (length u) (length v) (nat_cmp (length u) (length v)) (slice_cmp nat_cmp u v) refl h

pub letters_cases : (a b : ℕ) (u v : List ℕ) → slice_cmp nat_cmp (a ∷ u) (b ∷ v) ≡ Less
    → (a < b) ⊎ ((a ≡ b) × (slice_cmp nat_cmp u v ≡ Less))
letters_cases a b u v h = then_less a b (nat_cmp a b) (slice_cmp nat_cmp u v) refl h

pub shortlex_irrefl : (u : List ℕ) → ¬ (u ⊏ u)
shortlex_irrefl u h = let e : shortlex u u ≡ Equal = tied_itself shortlex_total u in cc

pub shortlex_trans : (u v w : List ℕ) → u ⊏ v → v ⊏ w → u ⊏ w
shortlex_trans = shortlex_total.trans

pub shortlex_asymm : (u v : List ℕ) → u ⊏ v → ¬ (v ⊏ u)
shortlex_asymm u v h g = shortlex_irrefl u (shortlex_trans u v u h g)

letters_equal : (u v : List ℕ) → slice_cmp nat_cmp u v ≡ Equal → u ≡ v
letters_equal [] [] h = refl
letters_equal [] (b ∷ v) h = cc
letters_equal (a ∷ u) [] h = cc
letters_equal (a ∷ u) (b ∷ v) h = by (nat_cmp a b) refl h (letters_equal u v)
  where
    by : (o : Ordering) → nat_cmp a b ≡ o → ordering_then o (slice_cmp nat_cmp u v) ≡ Equal
        → (slice_cmp nat_cmp u v ≡ Equal → u ≡ v) → a ∷ u ≡ b ∷ v
    by Less e g rest = cc
    by Greater e g rest = cc
    by Equal e g rest =
        let first : a ≡ b = ranked a b Equal (sym e) in let tail : u ≡ v = rest g in cc

pub shortlex_equal : (u v : List ℕ) → shortlex u v ≡ Equal → u ≡ v
shortlex_equal u v h = by (nat_cmp (length u) (length v)) h
  where
    by : (o : Ordering) → ordering_then o (slice_cmp nat_cmp u v) ≡ Equal → u ≡ v
    by Less g = cc
    by Greater g = cc
    by Equal g = letters_equal u v g

-- of two words the first is smaller, or they are equal, or the second is smaller
pub shortlex_trichotomy : (u v : List ℕ) → (u ⊏ v) ⊎ ((u ≡ v) ⊎ (v ⊏ u))
shortlex_trichotomy u v = by (shortlex u v) refl
  where
    by : (o : Ordering) → shortlex u v ≡ o → (u ⊏ v) ⊎ ((u ≡ v) ⊎ (v ⊏ u))
    by Less e = inl e
    by Equal e = inr (inl (shortlex_equal u v e))
    by Greater e = inr (inr (shortlex_total.antisymm v u ∙ ap ordering_reverse e))

pub word_equal_or_not : (u v : List ℕ) → (u ≡ v) ⊎ ¬ (u ≡ v)
word_equal_or_not u v = elim (shortlex_trichotomy u v) [
  | inl h ↦ inr (λ e. shortlex_irrefl v (subst (λ (w : List ℕ). w ⊏ v) e h))
  | inr (inl e) ↦ inl e
  | inr (inr h) ↦ inr (λ e. shortlex_irrefl v (subst (λ (w : List ℕ). v ⊏ w) e h))
]

-- two words of which neither is smaller are equal
pub shortlex_neither : (u v : List ℕ) → ¬ (u ⊏ v) → ¬ (v ⊏ u) → u ≡ v
shortlex_neither u v n m =
    elim (shortlex_trichotomy u v) [
      | inl h ↦ absurd (n h)
      | inr (inl e) ↦ e
      | inr (inr h) ↦
          absurd (m h)
    ]

pub shortlex_then_not_greater : (u v w : List ℕ) → u ⊏ v → ¬ (w ⊏ v) → u ⊏ w
shortlex_then_not_greater u v w h n = elim (shortlex_trichotomy v w) [
  | inl g ↦ shortlex_trans u v w h g
  | inr (inl e) ↦ subst (λ (x : List ℕ). u ⊏ x) e h
  | inr (inr g) ↦ absurd (n g)
]

pub shortlex_not_greater_trans : (u v w : List ℕ) → ¬ (v ⊏ u) → ¬ (w ⊏ v) → ¬ (w ⊏ u)
shortlex_not_greater_trans u v w n m h = m (shortlex_then_not_greater w u v h n)

-- no word comes before the empty one
pub shortlex_nil : (u : List ℕ) → ¬ (u ⊏ [])
shortlex_nil [] h = cc
shortlex_nil (a ∷ u) h =
    elim (shortlex_cases (a ∷ u) [] h) [ inl l ↦ omega arith | inr l ↦ omega (arith, l.0) ]

-- ---- words put together

letters_first : (u v x y : List ℕ) → length u ≡ length v → slice_cmp nat_cmp u v ≡ Less
    → slice_cmp nat_cmp (u ++ x) (v ++ y) ≡ Less
letters_first [] [] x y e h = cc
letters_first [] (b ∷ v) x y e h = absurd (omega arith)
letters_first (a ∷ u) [] x y e h = absurd (omega arith)
letters_first (a ∷ u) (b ∷ v) x y e h = elim (letters_cases a b u v h) [
  | inl l ↦ rw (nat_less a b l)
  | inr (s, l) ↦ rw (nat_equal a b s) (letters_first u v x y (omega arith) l)
]

-- a smaller word stays smaller with words of one length behind both
pub shortlex_append : (u v x y : List ℕ) → length x ≡ length y → u ⊏ v → (u ++ x) ⊏ (v ++ y)
shortlex_append u v x y e h = elim (shortlex_cases u v h) [
  | inl l ↦ shortlex_shorter (u ++ x) (v ++ y) (simp length-append (omega arith))
  | inr (s, l) ↦ shortlex_same_length (u ++ x) (v ++ y) (simp length-append (omega arith))
      (letters_first u v x y s l)
]

pub shortlex_append_word : (u v w : List ℕ) → u ⊏ v → (u ++ w) ⊏ (v ++ w)
shortlex_append_word u v w h = shortlex_append u v w w refl h

pub shortlex_append_letters : (u v : List ℕ) (a b : ℕ) → u ⊏ v → (u ++ a ∷ []) ⊏ (v ++ b ∷ [])
shortlex_append_letters u v a b h = shortlex_append u v (a ∷ []) (b ∷ []) refl h

nat_cmp_suc : (a b : ℕ) → nat_cmp (suc a) (suc b) ≡ nat_cmp a b
nat_cmp_suc a b = by (nat_cmp a b) (ranked a b (nat_cmp a b) refl)
  where
    by : (o : Ordering) → MatchOrdering o (a < b) (a ≡ b) (b < a) → nat_cmp (suc a) (suc b) ≡ o
    by Less h = nat_less (suc a) (suc b) (omega arith)
    by Equal h = nat_equal (suc a) (suc b) (omega arith)
    by Greater h = nat_greater (suc a) (suc b) (omega arith)

shortlex_letter : (a : ℕ) (u v : List ℕ) → shortlex (a ∷ u) (a ∷ v) ≡ shortlex u v
shortlex_letter a u v = rw (nat_cmp_suc (length u) (length v), nat_equal a a refl)

-- a word before both changes nothing
pub shortlex_before : (w u v : List ℕ) → shortlex (w ++ u) (w ++ v) ≡ shortlex u v
shortlex_before [] u v = refl
shortlex_before (a ∷ w) u v = shortlex_letter a (w ++ u) (w ++ v) ∙ shortlex_before w u v

pub shortlex_append_last : (u : List ℕ) (a b : ℕ) → a < b → (u ++ a ∷ []) ⊏ (u ++ b ∷ [])
shortlex_append_last u a b h =
    shortlex_before u (a ∷ []) (b ∷ []) ∙ shortlex_same_length (a ∷ []) (b ∷ []) refl
    (rw (nat_less a b h))

pub shortlex_append_longer : (u : List ℕ) (a : ℕ) → u ⊏ (u ++ a ∷ [])
shortlex_append_longer u a = shortlex_shorter u (u ++ a ∷ []) (simp length-append (omega arith))

-- ---- induction

pub strong_induction : (Q : ℕ → Type 0) → ((n : ℕ) → ((m : ℕ) → m < n → Q m) → Q n) → (n : ℕ) → Q n
strong_induction Q step n = step n (below n)
  where
    below : (n m : ℕ) → m < n → Q m
    below zero m h = absurd (omega arith)
    below (suc n) m h = step m (λ j g. below n j (omega arith))

-- among the words of one length
letters_induction : (n : ℕ) (Q : List ℕ → Type 0)
    → ((w : List ℕ) → length w ≡ n → ((u : List ℕ) → length u ≡ n → slice_cmp nat_cmp u w ≡ Less
    → Q u) → Q w) → (w : List ℕ) → length w ≡ n → Q w
letters_induction zero Q step [] e = step [] e none
  where
    none : (u : List ℕ) → length u ≡ 0 → slice_cmp nat_cmp u [] ≡ Less → Q u
    none [] g h = cc
    none (b ∷ u) g h = absurd (omega arith)
letters_induction zero Q step (a ∷ w) e = absurd (omega arith)
letters_induction (suc n) Q step [] e = absurd (omega arith)
letters_induction (suc n) Q step (a ∷ w) e =
    strong_induction (λ a. (w : List ℕ) → length w ≡ n → Q (a ∷ w))
    (λ a before. letters_induction n (λ w. Q (a ∷ w))
    (λ w e rest. step (a ∷ w) (omega arith) (lower a before w rest))) a w (omega arith)
  where
    lower : (a : ℕ) → ((b : ℕ) → b < a → (w : List ℕ) → length w ≡ n → Q (b ∷ w)) → (w : List ℕ)
        → ((u : List ℕ) → length u ≡ n → slice_cmp nat_cmp u w ≡ Less → Q (a ∷ u)) → (u : List ℕ)
        → length u ≡ suc n → slice_cmp nat_cmp u (a ∷ w) ≡ Less → Q u
    lower a before w rest [] g h = absurd (omega arith)
    lower a before w rest (b ∷ u) g h = elim (letters_cases b a u w h) [
      | inl l ↦ before b l u (omega arith)
      | inr (s, l) ↦ subst (λ (c : ℕ). Q (c ∷ u)) (sym s) (rest u (omega arith) l)
    ]

pub word_induction : (Q : List ℕ → Type 0) → ((w : List ℕ) → ((u : List ℕ) → u ⊏ w → Q u) → Q w)
    → (w : List ℕ) → Q w
word_induction Q step w =
    strong_induction (λ n. (w : List ℕ) → length w ≡ n → Q w) of_length (length w) w refl
  where
    of_length : (n : ℕ) → ((m : ℕ) → m < n → (w : List ℕ) → length w ≡ m → Q w) → (w : List ℕ)
        → length w ≡ n → Q w
    of_length n shorter = letters_induction n Q below
      where
        below : (w : List ℕ) → length w ≡ n
            → ((u : List ℕ) → length u ≡ n → slice_cmp nat_cmp u w ≡ Less → Q u) → Q w
        below w e rest = step w (λ u h. elim (shortlex_cases u w h) [
          | inl l ↦ shorter (length u) (omega arith) u refl
          | inr (s, l) ↦ rest u (s ∙ e) l
        ])

-- what holds of a word where it holds of each smaller one holds of all, among words over k letters
pub shortlex_induction : (k : ℕ) (P : List ℕ → Type 0)
    → ((w : List ℕ) → Over k w → ((u : List ℕ) → Over k u → u ⊏ w → P u) → P w) → (w : List ℕ)
    → Over k w → P w
shortlex_induction k P step =
    word_induction (λ w. Over k w → P w) (λ w rest o. step w o (λ u p h. rest u h p))

-- ---- the letters of a word

pub over_append : (k : ℕ) (u v : List ℕ) → Over k u → Over k v → Over k (u ++ v)
over_append k [] v o p = p
over_append k (a ∷ u) v o p = (o.0, over_append k u v o.1 p)

pub over_prefix : (k : ℕ) (u v : List ℕ) → Over k (u ++ v) → Over k u
over_prefix k [] v o = tt
over_prefix k (a ∷ u) v o = (o.0, over_prefix k u v o.1)

pub over_suffix : (k : ℕ) (u v : List ℕ) → Over k (u ++ v) → Over k v
over_suffix k [] v o = o
over_suffix k (a ∷ u) v o = over_suffix k u v o.1

pub over_last : (k : ℕ) (u : List ℕ) (a : ℕ) → Over k u → a < k → Over k (u ++ a ∷ [])
over_last k u a o h = over_append k u (a ∷ []) o (h, tt)

pub over_or_not : (k : ℕ) (w : List ℕ) → Over k w ⊎ ¬ Over k w
over_or_not k [] = inl tt
over_or_not k (a ∷ w) = elim (cases_lt a k) [
  | inl h ↦ elim (over_or_not k w) [ inl o ↦ inl (h, o) | inr n ↦ inr (λ o. n o.1) ]
  | inr h ↦ inr (λ o. let l : a < k = o.0 in omega arith)
]

-- an empty word, or a word and its last letter
pub last_letter : (w : List ℕ) → (w ≡ []) ⊎ ((u : List ℕ) × (a : ℕ) × (w ≡ u ++ a ∷ []))
last_letter [] = inl refl
last_letter (b ∷ w) = inr (elim (last_letter w) [
  | inl e ↦ ([], b, ap (λ (v : List ℕ). b ∷ v) e)
  | inr (u, a, e) ↦ (b ∷ u, a, ap (λ (v : List ℕ). b ∷ v) e)
])

-- a word ends with one letter, behind one word
pub last_letter_is_one : (u v : List ℕ) (a b : ℕ) → u ++ a ∷ [] ≡ v ++ b ∷ [] → (u ≡ v) × (a ≡ b)
last_letter_is_one [] [] a b e = (refl, cc)
last_letter_is_one [] (y ∷ v) a b e =
    absurd (let l = ap length e in let m = length-append v (b ∷ []) in omega arith)
last_letter_is_one (x ∷ u) [] a b e =
    absurd (let l = ap length e in let m = length-append u (a ∷ []) in omega arith)
last_letter_is_one (x ∷ u) (y ∷ v) a b e =
    let t : u ++ a ∷ [] ≡ v ++ b ∷ [] = cc in
    let (r, l) = last_letter_is_one u v a b t in
    (cc, l)
