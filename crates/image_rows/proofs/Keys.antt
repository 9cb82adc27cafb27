-- Keys that are seen through a function: the places and the insertions are the same.
use Rattle.std.proofs.Common.{◌≡◌, ℕ, ◌+◌, Bool, true, false, cond, List, [], ◌∷◌, ◌++◌, refl, ap, sym, ◌∙◌}
use Rattle.std.specs.Prelude.{map, not, ◌||◌}
use Rattle.std.specs.List.{list_any, position_or_len}
use Rattle.indexmap.specs.IndexSet.{insert_key}

module _ {X Y : Type 0} (f : X → Y) (q : Y → Bool) where
  pub list_any_map : (xs : List X) → list_any q (map f xs) ≡ list_any (λ x. q (f x)) xs
  list_any_map [] = refl
  list_any_map (x ∷ xs) = ap (λ (b : Bool). q (f x) || b) (list_any_map xs)

  pub place_map : (xs : List X) → position_or_len q (map f xs) ≡ position_or_len (λ x. q (f x)) xs
  place_map [] = refl
  place_map (x ∷ xs) = ap (λ (n : ℕ). cond (not (q (f x))) (1 + n) 0) (place_map xs)

module _ {X Y : Type 0} (f : X → Y) (eq : Y → Y → Bool) where
  map_push : (xs : List X) (x : X) → map f (xs ++ x ∷ []) ≡ map f xs ++ f x ∷ []
  map_push [] x = refl
  map_push (y ∷ xs) x = ap (λ (ys : List Y). f y ∷ ys) (map_push xs x)

  pub insert_map : (xs : List X) (x : X)
      → map f (insert_key (λ a b. eq (f a) (f b)) xs x) ≡ insert_key eq (map f xs) (f x)
  insert_map xs x = by (list_any (λ b. eq (f x) (f b)) xs) refl
    where
      by : (b : Bool) → list_any (λ b. eq (f x) (f b)) xs ≡ b
          → map f (insert_key (λ a b. eq (f a) (f b)) xs x) ≡ insert_key eq (map f xs) (f x)
      by true e = ap (λ (b : Bool). map f (cond b xs (xs ++ x ∷ []))) e
          ∙ sym (ap (λ (b : Bool). cond b (map f xs) (map f xs ++ f x ∷ []))
          (list_any_map f (eq (f x)) xs ∙ e))
      by false e =
          ap (λ (b : Bool). map f (cond b xs (xs ++ x ∷ []))) e ∙ map_push xs x
          ∙ sym (ap (λ (b : Bool). cond b (map f xs) (map f xs ++ f x ∷ []))
          (list_any_map f (eq (f x)) xs ∙ e))
