-- One image of a map that is set.
use Rattle.std.proofs.Common.{◌≡◌, ◌≢◌, ℕ, ◌+◌, ◌*◌, ◌<◌, ◌≤◌, ◌⊎◌, inl, inr, List, [], ◌++◌, length, set, refl, ap, ◌∙◌, arith, length-append}
use Rattle.std.specs.Prelude.{slice_index, map, All}
use Rattle.std.specs.List.{range_with_len}
use Rattle.std.proofs.lemmas.Bool.{cases_lt}
use Rattle.std.proofs.lemmas.List.FromFn.{length-map-range_with_len, get_or-map-range_with_len}
use Rattle.std.proofs.lemmas.Nat.{same_from_place}
use Rattle.std.proofs.lemmas.List.{get_or-set_other, get_or_append_left, get_or-append-add}
use Rattle.std.proofs.lemmas.List.Elements.{All-append, All-nil}
use Rattle.std.proofs.lemmas.Grind.{get_or-set_at}
use Rattle.language_theory.proofs.Graphs.{row_place}
use Rattle.froidure_pin.specs.Maps.{Maps, AreMaps, AreOwn, IsSetAt}

-- the maps with the image q of the point p by the letter a
abbrev pub set_image : Maps → ℕ → ℕ → ℕ → Maps
set_image m a p q =
    record { points = m.points; letters = m.letters; images = set m.images (a * m.points + p) q }

pub set_maps : (m : Maps) (a p q : ℕ) → AreMaps m → a < m.letters → p < m.points
    → IsSetAt m (set_image m a p q) a p q
set_maps m a p q h ha hp = record {
  points = refl;
  letters = refl;
  set = get_or-set_at m.images (a * m.points + p) (a * m.points + p) q 0 refl (let e = h.long in
      omega (arith, row_place a p m.letters m.points ha hp));
  others = λ r b hr hb other. get_or-set_other m.images (a * m.points + p) (b * m.points + r) q 0
      (λ e. apart r b other (same_from_place b r a p m.points hr hp e));
}
  where
    apart : (r b : ℕ) → (r ≢ p) ⊎ (b ≢ a) → (b ≡ a) × (r ≡ p) → ⊥
    apart r b (inl n) (e, f) = n f
    apart r b (inr n) (e, f) = n e

-- the points in order
own_long : (n : ℕ) → length (map (λ (p : ℕ). p) (range_with_len 0 n)) ≡ n
own_long n = length-map-range_with_len (λ (p : ℕ). p) 0 n

own_at : (n p d : ℕ) → p < n → slice_index (map (λ (p : ℕ). p) (range_with_len 0 n)) p ≡ p
own_at n p d h = get_or-map-range_with_len (λ (p : ℕ). p) 0 n p p 0 h (omega arith)

own_within : (n : ℕ) → All (λ p. p < n) (map (λ (p : ℕ). p) (range_with_len 0 n))
own_within n i d h = let e = own_long n in let inside : i < n = omega arith in
    rw (get_or-map-range_with_len (λ (p : ℕ). p) 0 n i i d inside (omega arith)) inside

pub own_none : (n : ℕ) → AreOwn n 0 []
own_none n =
    record {
      long = omega arith;
      within = All-nil (λ p. p < n);
      each =
          λ p a hp ha. absurd (omega arith);
    }

-- the images by one more letter
pub own_push : (n k : ℕ) (images : List ℕ) → AreOwn n k images
    → AreOwn n (k + 1) (images ++ map (λ p. p) (range_with_len 0 n))
own_push n k images h = record {
  long = let w : length (images ++ map (λ (p : ℕ). p) (range_with_len 0 n))
      ≡ length images + length (map (λ (p : ℕ). p) (range_with_len 0 n)) = simp length-append in
      let e = own_long n in let f = h.long in omega arith;
  within = All-append (λ p. p < n) images (map (λ (p : ℕ). p) (range_with_len 0 n)) h.within
      (own_within n);
  each = λ p a hp ha. by p a hp ha (cases_lt a k);
}
  where
    by : (p a : ℕ) → p < n → a < k + 1 → (a < k) ⊎ (k ≤ a)
        → slice_index (images ++ map (λ (p : ℕ). p) (range_with_len 0 n)) (a * n + p) ≡ p
    by p a hp ha (inl o) =
        get_or_append_left images (map (λ (p : ℕ). p) (range_with_len 0 n)) 0 (a * n + p) (let e =
        h.long in omega (arith, row_place a p k n o hp)) ∙ h.each p a hp o
    by p a hp ha (inr o) =
        let last : a ≡ k = omega arith in
        let at : a * n + p ≡ length images + p =
        (let e = h.long in let f : a * n ≡ k * n = ap (λ (b : ℕ). b * n) last in omega arith) in
        ap (slice_index (images ++ map (λ (p : ℕ). p) (range_with_len 0 n))) at
        ∙ get_or-append-add images (map (λ (p : ℕ). p) (range_with_len 0 n)) p 0
        ∙ own_at n p 0 hp

-- and so the maps in which each letter takes each point to itself
pub own_maps : (n k : ℕ) (images : List ℕ) → 1 ≤ n → n ≤ 4096 → 1 ≤ k → k ≤ 60 → AreOwn n k images
    → AreMaps (record { points = n; letters = k; images = images })
own_maps n k images a b c d h =
    record { some = a; points = b; letter = c; letters = d; long = h.long; within = h.within }
