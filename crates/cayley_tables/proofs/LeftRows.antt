-- The next target in the left Cayley graph: why it is the number of the letter with the word behind
-- it.
use Rattle.std.proofs.Common.{◌≡◌, ℕ, zero, suc, ◌+◌, ◌*◌, ◌<◌, ◌≤◌, ◌⊎◌, inl, inr, List, [], ◌∷◌, ◌++◌, Option, Some, length, take, ap, sym, subst, ◌∙◌, arith, length-append}
use Rattle.std.specs.Prelude.{slice_index}
use Rattle.std.proofs.lemmas.List.{get_or_append_left, get_or_push, take-take, length-take}
use Rattle.std.proofs.Math.Nat.{mul-le-mul_right, min-le_right}
use Rattle.language_theory.specs.Words.{Over, ◌⊏◌, word_at}
use Rattle.language_theory.proofs.Shortlex.{shortlex_not_greater_trans}
use Rattle.exploration.proofs.Places.{place_before_or_last}
use Rattle.cayley_tables.specs.Links.{LinkLists}
use Rattle.cayley_tables.specs.LeftRows.{AreLeftNumbers, IsKnownFor, CanGoOn, GoesOn, left_target}
use Rattle.cayley_tables.proofs.Order.{not_smaller_with_letters, not_longer}

-- t is the number of the letter a with the word of element i behind it, and has no greater word
pub record IsLeftNumber (number : List ℕ → Option ℕ) (words : List (List ℕ))
    (i a t : ℕ) : Type 0 where
  pub within : t < length words
  pub leads : number (a ∷ word_at words i) ≡ Some t
  pub least : ¬ ((a ∷ word_at words i) ⊏ word_at words t)

pub known_fewer : (k : ℕ) (number : List ℕ → Option ℕ) (words : List (List ℕ)) (right : List ℕ)
    (l : LinkLists) (m n : ℕ) → n ≤ m → IsKnownFor k number words right l m
    → IsKnownFor k number words right l n
known_fewer k number words right l m n h f = record {
  numbers = f.numbers;
  few = let e = f.few in omega arith;
  linked = f.linked;
  enough = let e = f.enough in omega arith;
  links = f.links;
  ready = λ i j hi hj s. f.ready i j (omega arith) hj s;
}

module _ (k : ℕ) (number : List ℕ → Option ℕ) (words : List (List ℕ)) (right : List ℕ)
    (l : LinkLists) (m : ℕ) (left : List ℕ) (h : IsKnownFor k number words right l m)
    (f : AreLeftNumbers k number words left) where
  -- the target of the prefix is there
  pub prefix_place : (i a : ℕ) → 0 < i → i < m → length left ≡ i * k + a → 0 < k
      → slice_index l.prefix i * k + a < length left
  prefix_place i a z hi e hk =
      let enough = h.enough in
      let before : slice_index l.prefix i < i = h.links.earlier i z (omega arith) in
      omega (arith, mul-le-mul_right {m = slice_index l.prefix i + 1} {n = i} k (omega arith))

  -- what is known of the target of the prefix
  prefix_target : (i a : ℕ) → 0 < i → i < m → a < k → length left ≡ i * k + a
      → IsLeftNumber number words (slice_index l.prefix i) a
      (slice_index left (slice_index l.prefix i * k + a))
  prefix_target i a z hi ha e =
      let place = prefix_place i a z hi e (omega arith) in
      record {
        within = f.within (slice_index l.prefix i) a ha place;
        leads =
            f.leads (slice_index l.prefix i) a ha place;
        least =
            f.least (slice_index l.prefix i) a ha place;
      }

  -- its right row is known
  pub right_place : (i a : ℕ) → 0 < i → i < m → a < k → length left ≡ i * k + a
      → slice_index left (slice_index l.prefix i * k + a) * k + slice_index l.last i < length right
  right_place i a z hi ha e =
      let enough = h.enough in
      let t = prefix_target i a z hi ha e in
      let q = slice_index l.prefix i in
      let c = slice_index l.last i in
      let hc : c < k = h.links.last i z (omega arith) in
      let splits : word_at words i ≡ word_at words q ++ c ∷ [] =
      (h.links.prefix i z (omega arith)).splits in
      let long : length (word_at words i) ≡ length (word_at words q) + 1 =
      ap length splits ∙ simp length-append in
      let shorter : length (word_at words (slice_index left (q * k + a)))
      ≤ length (a ∷ word_at words q) =
      not_longer (a ∷ word_at words q) (word_at words (slice_index left (q * k + a))) t.least in
      let row = h.ready i (slice_index left (q * k + a)) hi t.within (omega arith) in
      omega arith

  first_target : (a : ℕ) → 0 < m → a < k → IsLeftNumber number words 0 a (slice_index right a)
  first_target a hm ha =
      let some : 0 < length words = (let e = h.few in omega arith) in
      let row = h.ready 0 0 hm some (omega arith) in
      let at : 0 * k + a ≡ a = omega arith in
      let place : 0 * k + a < length right = omega arith in
      let n = h.numbers in
      let empty : number [] ≡ Some 0 = ap number (sym h.links.root) ∙ n.own 0 some in
      record {
        within = subst (λ (p : ℕ). slice_index right p < length words) at (n.within 0 a ha place);
        leads = ap (λ (w : List ℕ). number (a ∷ w)) h.links.root ∙ n.next 0 a [] ha place tt empty
            ∙ ap (λ (p : ℕ). Some (slice_index right p)) at;
        least = λ s. n.least 0 a ha place
            (subst (λ (w : List ℕ). (w ++ a ∷ []) ⊏ word_at words (slice_index right (0 * k + a)))
            (sym h.links.root)
            (subst (λ (p : ℕ). (a ∷ []) ⊏ word_at words (slice_index right p)) (sym at)
            (subst (λ (w : List ℕ). (a ∷ w) ⊏ word_at words (slice_index right a)) h.links.root
            s)));
      }

  later_target : (i a : ℕ) → 0 < i → i < m → a < k → length left ≡ i * k + a
      → IsLeftNumber number words i a
      (slice_index right
      (slice_index left (slice_index l.prefix i * k + a) * k + slice_index l.last i))
  later_target i a z hi ha e =
      let enough = h.enough in
      let n = h.numbers in
      let q = slice_index l.prefix i in
      let c = slice_index l.last i in
      let p = slice_index left (q * k + a) in
      let t : IsLeftNumber number words q a p = prefix_target i a z hi ha e in
      let hc : c < k = h.links.last i z (omega arith) in
      let link = h.links.prefix i z (omega arith) in
      let splits : word_at words i ≡ word_at words q ++ c ∷ [] = link.splits in
      let place : p * k + c < length right = right_place i a z hi ha e in
      let over : Over k (a ∷ word_at words q) = (ha, n.over q link.prefix) in
      record {
        within = n.within p c hc place;
        leads = ap (λ (w : List ℕ). number (a ∷ w)) splits
            ∙ n.next p c (a ∷ word_at words q) hc place over t.leads;
        least = λ s. shortlex_not_greater_trans (word_at words (slice_index right (p * k + c)))
            (word_at words p ++ c ∷ []) ((a ∷ word_at words q) ++ c ∷ []) (n.least p c hc place)
            (not_smaller_with_letters (a ∷ word_at words q) (word_at words p) c t.least)
            (subst (λ (w : List ℕ). (a ∷ w) ⊏ word_at words (slice_index right (p * k + c))) splits
            s);
      }

  next_target : (i a : ℕ) → i < m → a < k → length left ≡ i * k + a
      → IsLeftNumber number words i a (left_target k right l left i a)
  next_target zero a hi ha e = first_target a hi ha
  next_target (suc i) a hi ha e = later_target (suc i) a (omega arith) hi ha e

  -- with the next target as much is known
  pub left_push : (i a : ℕ) → i < m → a < k → length left ≡ i * k + a
      → AreLeftNumbers k number words (left ++ left_target k right l left i a ∷ [])
  left_push i a hi ha e = record {
    within = λ j b hb p. (each j b hb p).within;
    leads = λ j b hb p. (each j b hb p).leads;
    least = λ j b hb p. (each j b hb p).least;
  }
    where
      t : ℕ
      t = left_target k right l left i a

      by : (j b : ℕ) → b < k → (j * k + b < length left) ⊎ ((j ≡ i) × (b ≡ a))
          → IsLeftNumber number words j b (slice_index (left ++ t ∷ []) (j * k + b))
      by j b hb (inl o) =
          subst (IsLeftNumber number words j b)
          (sym (get_or_append_left left (t ∷ []) 0 (j * k + b) o))
          (record {
            within = f.within j b hb o;
            leads = f.leads j b hb o;
            least =
                f.least j b hb o;
          })
      by j b hb (inr o) =
          let at : length left ≡ j * k + b = rw (o.0, o.1) e in
          let last : slice_index (left ++ t ∷ []) (j * k + b) ≡ t =
          get_or_push left t 0 (j * k + b) at in
          subst (IsLeftNumber number words j b) (sym last)
          (subst (λ (c : ℕ). IsLeftNumber number words j c t) (sym o.1)
          (subst (λ (n : ℕ). IsLeftNumber number words n a t) (sym o.0)
          (next_target i a hi ha e)))

      each : (j b : ℕ) → b < k → j * k + b < length (left ++ t ∷ [])
          → IsLeftNumber number words j b (slice_index (left ++ t ∷ []) (j * k + b))
      each j b hb p = by j b hb (place_before_or_last j b i a k left t hb ha e p)

module _ (k : ℕ) (right : List ℕ) (l : LinkLists) where
  pub goes_on_refl : (m : ℕ) (left : List ℕ) → GoesOn k right l m left left
  goes_on_refl m left = record { numbers = λ number words h f. f }

  pub goes_on_trans : (m : ℕ) (a b c : List ℕ) → GoesOn k right l m a b → GoesOn k right l m b c
      → GoesOn k right l m a c
  goes_on_trans m a b c f g =
      record { numbers = λ number words h s. g.numbers number words h (f.numbers number words h s) }

  pub goes_on_more : (m n : ℕ) (old new : List ℕ) → n ≤ m → GoesOn k right l n old new
      → GoesOn k right l m old new
  goes_on_more m n old new h f =
      record {
        numbers =
            λ number words g s. f.numbers number words
            (known_fewer k number words right l m n h g) s;
      }

  pub goes_on_push : (m i a : ℕ) (old new : List ℕ) → i < m → a < k → length new ≡ i * k + a
      → GoesOn k right l m old new
      → GoesOn k right l m old (new ++ left_target k right l new i a ∷ [])
  goes_on_push m i a old new hi ha e f =
      record {
        numbers =
            λ number words h s. left_push k number words right l m new h
            (f.numbers number words h s) i a hi ha e;
      }

  pub can_go_on : (m : ℕ) (old new : List ℕ) → CanGoOn k right l m old → GoesOn k right l m old new
      → CanGoOn k right l m new
  can_go_on m old new h f =
      record {
        number = h.number;
        words = h.words;
        known = h.known;
        numbers =
            f.numbers h.number h.words h.known h.numbers;
      }

  pub can_fewer : (m n : ℕ) (left : List ℕ) → n ≤ m → CanGoOn k right l m left
      → CanGoOn k right l n left
  can_fewer m n left e h =
      record {
        number = h.number;
        words = h.words;
        known =
            known_fewer k h.number h.words right l m n e h.known;
        numbers = h.numbers;
      }

-- what begins with a list that begins with another begins with that one
pub kept_trans : (a b c : List ℕ) → take (length a) b ≡ a → take (length b) c ≡ b
    → take (length a) c ≡ a
kept_trans a b c e f =
    let few = subst (λ (n : ℕ). n ≤ length b) (sym (length-take (length a) b) ∙ ap length e)
    (min-le_right (length a) (length b)) in
    sym (take-take (length a) (length b) c few) ∙ (ap (take (length a)) f ∙ e)
