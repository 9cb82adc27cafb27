-- A depth that is enough: both instances made from one need less.
use Rattle.std.proofs.Common.{◌≡◌, ℕ, zero, suc, ◌+◌, ◌≤◌, ◌<◌, List, [], ◌∷◌, sym, ◌∙◌, ap, refl}
use Rattle.std.proofs.Common.{◌⊎◌, inl, inr, arith, length}
use Rattle.std.proofs.lemmas.Bool.Decides.{eqb_tells}
use Rattle.star_free_theory.specs.Construction.{first_other}
use Rattle.star_free_theory.specs.Instance.{AllAmong, Among, Distinct, IsGenerated, room, value}

pub room_rises : (a b : ℕ) → a ≤ b → room a ≤ room b
room_rises zero b l = omega arith
room_rises (suc a) zero l = absurd (omega arith)
room_rises (suc a) (suc b) l = let i : room a ≤ room b = room_rises a b (omega arith) in omega arith

pub room_gap : (a b : ℕ) → a < b → suc b + room a ≤ room b
room_gap a zero l = absurd (omega arith)
room_gap a (suc b) l = let i : room a ≤ room b = room_rises a b (omega arith) in omega arith

pub room_some : (a : ℕ) → 1 ≤ a → 1 ≤ room a
room_some zero l = l
room_some (suc a) l = omega arith

-- all letters have the identity as image, or the first other one is found
others_or : (img : ℕ → ℕ) (one : ℕ) (ls : List ℕ) → ((a : ℕ) → Among ls a → img a ≡ one)
    ⊎ (Among ls (first_other img one ls) × ¬ (img (first_other img one ls) ≡ one))
others_or img one [] = inl (λ a i. absurd i)
others_or img one (a ∷ ls) = elim (eqb_tells (img a) one) [
  | inr k ↦ rw k.0 (inr (inl refl, k.1))
  | inl k ↦ rw k.0 (elim (others_or img one ls) [
    | inl f ↦ inl (λ b. elim [ inl e ↦ ap img e ∙ k.1 | inr i ↦ f b i ])
    | inr (i, n) ↦ inr (inr i, n)
  ])
]

all_one : (xs : List ℕ) (o : ℕ) → Distinct xs → Among xs o → ((x : ℕ) → Among xs x → x ≡ o)
    → length xs ≡ 1
all_one [] o d i f = elim i [ ]
all_one (x ∷ []) o d i f = refl
all_one (x ∷ y ∷ xs) o d i f = absurd (d.0 (inl (f x (inl refl) ∙ sym (f y (inr (inl refl))))))

module _ (els letters : List ℕ) (mul : ℕ → ℕ → ℕ) (one : ℕ) (img : ℕ → ℕ)
    (h : IsGenerated els letters mul one img) where
  value_one : ((a : ℕ) → Among letters a → img a ≡ one) → (ls : List ℕ) → AllAmong letters ls
      → value mul one img ls ≡ one
  value_one f [] i = refl
  value_one f (a ∷ ls) i = ap (λ z. mul z (value mul one img ls)) (f a i.0)
      ∙ ap (mul one) (value_one f ls i.1) ∙ h.monoid.left one h.monoid.one_in

  -- where there is more than one element, some letter's image is not the identity
  pub other_found : ¬ (length els ≡ 1) → Among letters (first_other img one letters)
      × ¬ (img (first_other img one letters) ≡ one)
  other_found n = elim (others_or img one letters) [
    | inr k ↦ k
    | inl f ↦ absurd (n (all_one els one h.distinct h.monoid.one_in
        (λ x i. let r = h.spelled x i in sym r.2 ∙ value_one f r.0 r.1)))
  ]

  pub has_some : 1 ≤ length els
  has_some = some_in els h.monoid.one_in
    where
      some_in : (xs : List ℕ) → Among xs one → 1 ≤ length xs
      some_in [] i = elim i [ ]
      some_in (x ∷ xs) i = omega arith
