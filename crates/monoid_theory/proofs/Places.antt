-- Laws on products of classes that are named by their places.
use Rattle.std.proofs.Common.{◌≡◌, ◌↔◌, ℕ, ◌<◌, List, [], ◌∷◌, ◌++◌, length, append_assoc, append-nil}
use Rattle.language_theory.specs.Words.{Over, word_at}
use Rattle.language_theory.specs.Congruence.{IsEquivalence, IsRightCongruence, IsCongruence}
use Rattle.language_theory.specs.Representatives.{IsPlaceOf, AreRepresentatives}
use Rattle.monoid_theory.specs.Products.{IsProduct, IsRight, IsLeft}
use Rattle.language_theory.proofs.Shortlex.{over_append}
use Rattle.language_theory.proofs.Representatives.{place_is_one, place_of_related, place_of_listed, list_is_not_empty, first_is_empty}

pub product_is_one : (same : List ℕ → List ℕ → Type 0) (words : List (List ℕ)) (i j r s : ℕ)
    → IsProduct same words i j r → IsProduct same words i j s → r ≡ s
product_is_one same words i j r s a b =
    place_is_one same words (word_at words i ++ word_at words j) r s a.place b.place

pub product_exists : (k : ℕ) (same : List ℕ → List ℕ → Type 0) (words : List (List ℕ))
    → AreRepresentatives k same words → (i j : ℕ) → i < length words → j < length words
    → (r : ℕ) × IsProduct same words i j r
product_exists k same words l i j h g =
    let (r, p) = l.place (word_at words i ++ word_at words j)
    (over_append k (word_at words i) (word_at words j) (l.over i h) (l.over j g)) in
    (r, record { left = h; right = g; place = p })

module _ (k : ℕ) (same : List ℕ → List ℕ → Type 0) (words : List (List ℕ))
    (e : IsEquivalence k same) (l : AreRepresentatives k same words) where
  -- the place of the empty word is the identity
  pub product_with_first : (j : ℕ) → j < length words → IsProduct same words 0 j j
  product_with_first j h =
      record {
        left = list_is_not_empty k same words l;
        right = h;
        place =
            rw (first_is_empty k same words l e) (place_of_listed k same words l e j h);
      }

  pub product_by_first : (i : ℕ) → i < length words → IsProduct same words i 0 i
  product_by_first i h =
      record {
        left = h;
        right = list_is_not_empty k same words l;
        place =
            rw (first_is_empty k same words l e, append-nil (word_at words i))
            (place_of_listed k same words l e i h);
      }

module _ (k : ℕ) (same : List ℕ → List ℕ → Type 0) (words : List (List ℕ))
    (c : IsRightCongruence k same) (l : AreRepresentatives k same words) where
  -- a letter behind takes the place of any word to the place of the word with the letter
  pub right_of_word : (w : List ℕ) (i a r : ℕ) → Over k w → a < k → IsPlaceOf same words w i
      → IsPlaceOf same words (w ++ a ∷ []) r ↔ IsRight same words i a r
  right_of_word w i a r o h p = (
    λ f. record {
      within = p.within;
      place =
          move w (word_at words i) o i_over
          (c.equivalence.symm (word_at words i) w i_over o p.related) f;
    },
    λ f. move (word_at words i) w i_over o p.related f.place,
  )
    where
      i_over : Over k (word_at words i)
      i_over = l.over i p.within

      move : (u v : List ℕ) → Over k u → Over k v → same u v → IsPlaceOf same words (u ++ a ∷ []) r
          → IsPlaceOf same words (v ++ a ∷ []) r
      move u v ou ov s =
          place_of_related k same words l c.equivalence (u ++ a ∷ []) (v ++ a ∷ []) r
          (over_append k u (a ∷ []) ou (h, tt)) (over_append k v (a ∷ []) ov (h, tt))
          (c.right u v (a ∷ []) ou ov (h, tt) s)

module _ (k : ℕ) (same : List ℕ → List ℕ → Type 0) (words : List (List ℕ)) (c : IsCongruence k same)
    (l : AreRepresentatives k same words) where
  -- related words, put together, are related
  pub related_joined : (u v x y : List ℕ) → Over k u → Over k v → Over k x → Over k y → same u x
      → same v y → same (u ++ v) (x ++ y)
  related_joined u v x y ou ov ox oy s t =
      c.equivalence.trans (u ++ v) (x ++ v) (x ++ y) (over_append k u v ou ov)
      (over_append k x v ox ov) (over_append k x y ox oy) (c.right u x v ou ox ov s)
      (c.left v y x ov oy ox t)

  -- the product of two places is the place of any two of their words, put together
  pub product_of_words : (u v : List ℕ) (i j r : ℕ) → Over k u → Over k v → IsPlaceOf same words u i
      → IsPlaceOf same words v j → IsPlaceOf same words (u ++ v) r ↔ IsProduct same words i j r
  product_of_words u v i j r ou ov p q = (
    λ h. record {
      left = p.within;
      right = q.within;
      place = place_of_related k same words l c.equivalence (u ++ v) (x ++ y) r
          (over_append k u v ou ov) (over_append k x y ox oy)
          (related_joined u v x y ou ov ox oy (c.equivalence.symm x u ox ou p.related)
          (c.equivalence.symm y v oy ov q.related)) h;
    },
    λ h. place_of_related k same words l c.equivalence (x ++ y) (u ++ v) r (over_append k x y ox oy)
        (over_append k u v ou ov) (related_joined x y u v ox oy ou ov p.related q.related) h.place,
  )
    where
      x : List ℕ
      x = word_at words i

      y : List ℕ
      y = word_at words j

      ox : Over k x
      ox = l.over i p.within

      oy : Over k y
      oy = l.over j q.within

  -- (i j) m is i (j m)
  pub product_is_associative : (i j m r s t : ℕ) → IsProduct same words i j r
      → IsProduct same words r m s → IsProduct same words j m t → IsProduct same words i t s
  product_is_associative i j m r s t p q o =
      (product_of_words x (y ++ z) i t s ox (over_append k y z oy oz) (listed i p.left) o.place).0
      (rw (← append_assoc x y z)
      ((product_of_words (x ++ y) z r m s (over_append k x y ox oy) oz p.place
      (listed m q.right)).1 q))
    where
      x : List ℕ
      x = word_at words i

      y : List ℕ
      y = word_at words j

      z : List ℕ
      z = word_at words m

      ox : Over k x
      ox = l.over i p.left

      oy : Over k y
      oy = l.over j p.right

      oz : Over k z
      oz = l.over m q.right

      listed : (n : ℕ) → n < length words → IsPlaceOf same words (word_at words n) n
      listed = place_of_listed k same words l c.equivalence

  -- a letter before takes the place of any word to the place of the letter and the word
  pub left_of_word : (w : List ℕ) (a i r : ℕ) → Over k w → a < k → IsPlaceOf same words w i
      → IsPlaceOf same words (a ∷ w) r ↔ IsLeft same words a i r
  left_of_word w a i r o h p = (
    λ f. record {
      within = p.within;
      place =
          move w (word_at words i) o i_over
          (c.equivalence.symm (word_at words i) w i_over o p.related) f;
    },
    λ f. move (word_at words i) w i_over o p.related f.place,
  )
    where
      i_over : Over k (word_at words i)
      i_over = l.over i p.within

      move : (u v : List ℕ) → Over k u → Over k v → same u v → IsPlaceOf same words (a ∷ u) r
          → IsPlaceOf same words (a ∷ v) r
      move u v ou ov s =
          place_of_related k same words l c.equivalence (a ∷ u) (a ∷ v) r (h, ou) (h, ov)
          (c.left u v (a ∷ []) ou ov (h, tt) s)
