-- Powers of a word of an idempotent class stand for the word, so a repeat or a swap separates at
-- every level.
use Rattle.std.proofs.Common.{◌≡◌, ◌↔◌, inl, inr, ℕ, zero, suc, ◌≤◌, List, [], ◌++◌, ap, sym, subst, ◌∙◌, arith, append_assoc}
use Rattle.std.proofs.lemmas.List.{append-nil}
use Rattle.language_theory.specs.Words.{Over, power}
use Rattle.language_theory.specs.Languages.{ExactlyOne}
use Rattle.language_theory.specs.Congruence.{Syntactic, IsCongruence}
use Rattle.monoid_theory.specs.Green.{IsIdempotent}
use Rattle.language_theory.proofs.Shortlex.{over_append}
use Rattle.monoid_theory.proofs.Exponents.{over_power}
use Rattle.language_theory.proofs.Congruences.{both_directions, other_direction, syntactic_congruence}
use Rattle.level_search.specs.Levels.{Suffices}
use Rattle.factor_keys.specs.Keys.{SameKey}
use Rattle.local_submonoids.specs.LocalSubmonoids.{local, IsIdempotentWord, IsLocallyIdempotentAndCommutative}
use Rattle.factor_keys.specs.Walls.{with_one, with_two}
use Rattle.locally_testable.specs.Witness.{AreToldApart}
use Rattle.local_submonoids.specs.Witness.{IsRepeat, IsSwap}
use Rattle.local_submonoids.proofs.LocalWords.{join}
use Rattle.factor_keys.proofs.Repeats.{repeat_alike, swap_alike}

-- exactly one of two facts, moved along equivalences
one_of_both : {P Q R S : Type 0} → P ↔ R → Q ↔ S → ExactlyOne P Q → ExactlyOne R S
one_of_both f g (inl (p, n)) = inl (f.0 p, λ s. n (g.1 s))
one_of_both f g (inr (n, q)) = inr (λ r. n (f.1 r), g.0 q)

not_both : {P Q : Type 0} → P ↔ Q → ExactlyOne P Q → ⊥
not_both f (inl (p, n)) = n (f.0 p)
not_both f (inr (n, q)) = n (f.1 q)

module _ (k : ℕ) (same : List ℕ → List ℕ → Type 0) (c : IsCongruence k same) where
  itself : (s : List ℕ) → Over k s → same s s
  itself = c.equivalence.refl

  module _ (x : List ℕ) (h : IsIdempotentWord k same x) where
    power_stands : (n : ℕ) → same (power (suc n) x) x
    power_stands zero = subst (λ (s : List ℕ). same s x) (sym (append-nil x)) (itself x h.over)
    power_stands (suc n) = c.equivalence.trans (x ++ power (suc n) x) (x ++ x) x
        (over_append k x (power (suc n) x) h.over (over_power k (suc n) x h.over))
        (over_append k x x h.over h.over) h.over
        (c.left (power (suc n) x) x x (over_power k (suc n) x h.over) h.over h.over
        (power_stands n)) h.idempotent

    -- x^n y x^n stands for x y x
    pub one_stands : (n : ℕ) (y : List ℕ) → Over k y
        → same (power (suc n) x ++ (y ++ power (suc n) x)) (local x y)
    one_stands n y oy =
        let p = power (suc n) x in
        let op = over_power k (suc n) x h.over in
        let s = power_stands n in
        join k same c p x (y ++ p) (y ++ x) op h.over (over_append k y p oy op)
        (over_append k y x oy h.over) s (c.left p x y op h.over oy s)

    -- x y x z x stands for x y x x z x
    middle : (y z : List ℕ) → Over k y → Over k z
        → same (x ++ (y ++ (x ++ (z ++ x)))) (local x y ++ local x z)
    middle y z oy oz =
        let oz_x = over_append k z x oz h.over in
        let once = over_append k x (z ++ x) h.over oz_x in
        let twice = over_append k (x ++ x) (z ++ x) (over_append k x x h.over h.over) oz_x in
        let inside : same (x ++ (z ++ x)) ((x ++ x) ++ (z ++ x)) =
        c.equivalence.symm ((x ++ x) ++ (z ++ x)) (x ++ (z ++ x)) twice once
        (c.right (x ++ x) x (z ++ x) (over_append k x x h.over h.over) h.over oz_x
        h.idempotent) in
        let behind_y = c.left (x ++ (z ++ x)) ((x ++ x) ++ (z ++ x)) y once twice oy inside in
        let behind_x = c.left (y ++ (x ++ (z ++ x))) (y ++ ((x ++ x) ++ (z ++ x))) x
        (over_append k y (x ++ (z ++ x)) oy once)
        (over_append k y ((x ++ x) ++ (z ++ x)) oy twice) h.over behind_y in
        let regroup : x ++ (y ++ ((x ++ x) ++ (z ++ x))) ≡ local x y ++ local x z =
        simp append_assoc in
        subst (same (x ++ (y ++ (x ++ (z ++ x))))) regroup behind_x

    -- x^n y x^n z x^n stands for x y x x z x
    pub two_stands : (n : ℕ) (y z : List ℕ) → Over k y → Over k z
        → same (power (suc n) x ++ (y ++ (power (suc n) x ++ (z ++ power (suc n) x))))
        (local x y ++ local x z)
    two_stands n y z oy oz =
        let p = power (suc n) x in
        let op = over_power k (suc n) x h.over in
        let s = power_stands n in
        let last = one_stands n z oz in
        let olast = over_append k p (z ++ p) op (over_append k z p oz op) in
        let ozx = over_append k x (z ++ x) h.over (over_append k z x oz h.over) in
        let behind_y = c.left (p ++ (z ++ p)) (x ++ (z ++ x)) y olast ozx oy last in
        let oy_last = over_append k y (p ++ (z ++ p)) oy olast in
        let oy_x = over_append k y (x ++ (z ++ x)) oy ozx in
        let first = join k same c p x (y ++ (p ++ (z ++ p))) (y ++ (x ++ (z ++ x))) op h.over
        oy_last oy_x s behind_y in
        c.equivalence.trans (p ++ (y ++ (p ++ (z ++ p)))) (x ++ (y ++ (x ++ (z ++ x))))
        (local x y ++ local x z) (over_append k p (y ++ (p ++ (z ++ p))) op oy_last)
        (over_append k x (y ++ (x ++ (z ++ x))) h.over oy_x)
        (over_append k (local x y) (local x z)
        (over_append k x (y ++ x) h.over (over_append k y x oy h.over)) ozx) first
        (middle y z oy oz)

module _ (k : ℕ) (L : List ℕ → Type 0) (u x v : List ℕ) (ou : Over k u) (ov : Over k v)
    (h : IsIdempotentWord k (Syntactic k L) x) where
  -- u x^n y x^n v is in L exactly where u x y x v is
  one_member_suc : (n : ℕ) (y : List ℕ) → Over k y → L (with_one (suc n) u x y v)
      ↔ L (u ++ (local x y ++ v))
  one_member_suc n y oy =
      let p = power (suc n) x in
      let regroup : u ++ ((p ++ (y ++ p)) ++ v) ≡ with_one (suc n) u x y v =
      ap (λ (w : List ℕ). u ++ w) (append_assoc p (y ++ p) v
      ∙ ap (λ (w : List ℕ). p ++ w) (append_assoc y p v)) in
      subst (λ (w : List ℕ). L w ↔ L (u ++ (local x y ++ v))) regroup
      (one_stands k (Syntactic k L) (syntactic_congruence k L) x h n y oy u v ou ov)

  two_member_suc : (n : ℕ) (y z : List ℕ) → Over k y → Over k z → L (with_two (suc n) u x y z v)
      ↔ L (u ++ ((local x y ++ local x z) ++ v))
  two_member_suc n y z oy oz =
      let p = power (suc n) x in
      let inner : (p ++ (y ++ (p ++ (z ++ p)))) ++ v ≡ p ++ (y ++ (p ++ (z ++ (p ++ v)))) =
      append_assoc p (y ++ (p ++ (z ++ p))) v
      ∙ ap (λ (w : List ℕ). p ++ w) (append_assoc y (p ++ (z ++ p)) v
      ∙ ap (λ (w : List ℕ). y ++ w) (append_assoc p (z ++ p) v
      ∙ ap (λ (w : List ℕ). p ++ w) (append_assoc z p v))) in
      let regroup : u ++ ((p ++ (y ++ (p ++ (z ++ p)))) ++ v) ≡ with_two (suc n) u x y z v =
      ap (λ (w : List ℕ). u ++ w) inner in
      subst (λ (w : List ℕ). L w ↔ L (u ++ ((local x y ++ local x z) ++ v))) regroup
      (two_stands k (Syntactic k L) (syntactic_congruence k L) x h n y z oy oz u v ou ov)

  pub one_member : (n : ℕ) → 1 ≤ n → (y : List ℕ) → Over k y → L (with_one n u x y v)
      ↔ L (u ++ (local x y ++ v))
  one_member zero pos y oy = absurd (omega arith)
  one_member (suc n) pos y oy = one_member_suc n y oy

  pub two_member : (n : ℕ) → 1 ≤ n → (y z : List ℕ) → Over k y → Over k z → L (with_two n u x y z v)
      ↔ L (u ++ ((local x y ++ local x z) ++ v))
  two_member zero pos y z oy oz = absurd (omega arith)
  two_member (suc n) pos y z oy oz = two_member_suc n y z oy oz

-- ---- witnesses

pub repeat_tells_apart : (k : ℕ) (L : List ℕ → Type 0) (u x y v : List ℕ) → IsRepeat k L u x y v
    → (n : ℕ) → 1 ≤ n → AreToldApart L n (with_one n u x y v) (with_two n u x y y v)
repeat_tells_apart k L u x y v h n pos = record {
  keys = λ m low up. repeat_alike n m u x y v h.idempotent.some up;
  one = one_of_both
      (other_direction (one_member k L u x v h.before h.behind h.idempotent n pos y h.inner))
      (other_direction
      (two_member k L u x v h.before h.behind h.idempotent n pos y y h.inner h.inner)) h.separates;
}

pub swap_tells_apart : (k : ℕ) (L : List ℕ → Type 0) (u x y z v : List ℕ) → IsSwap k L u x y z v
    → (n : ℕ) → 1 ≤ n → AreToldApart L n (with_two n u x y z v) (with_two n u x z y v)
swap_tells_apart k L u x y z v h n pos = record {
  keys = λ m low up. swap_alike n m u x y z v h.idempotent.some up;
  one = one_of_both
      (other_direction
      (two_member k L u x v h.before h.behind h.idempotent n pos y z h.first h.second))
      (other_direction
      (two_member k L u x v h.before h.behind h.idempotent n pos z y h.second h.first)) h.separates;
}

over_one : (k n : ℕ) (u x y v : List ℕ) → Over k u → Over k x → Over k y → Over k v
    → Over k (with_one n u x y v)
over_one k n u x y v ou ox oy ov = let op = over_power k n x ox in
    over_append k u (power n x ++ (y ++ (power n x ++ v))) ou
    (over_append k (power n x) (y ++ (power n x ++ v)) op
    (over_append k y (power n x ++ v) oy (over_append k (power n x) v op ov)))

over_two : (k n : ℕ) (u x y z v : List ℕ) → Over k u → Over k x → Over k y → Over k z → Over k v
    → Over k (with_two n u x y z v)
over_two k n u x y z v ou ox oy oz ov = let op = over_power k n x ox in
    over_append k u (power n x ++ (y ++ (power n x ++ (z ++ (power n x ++ v))))) ou
    (over_append k (power n x) (y ++ (power n x ++ (z ++ (power n x ++ v)))) op
    (over_append k y (power n x ++ (z ++ (power n x ++ v))) oy (over_one k n [] x z v tt ox oz ov)))

-- with a repeat or a swap no level suffices
pub repeat_no_level : (k : ℕ) (L : List ℕ → Type 0) (u x y v : List ℕ) → IsRepeat k L u x y v
    → (n : ℕ) → 1 ≤ n → ¬ Suffices k L (SameKey n)
repeat_no_level k L u x y v h n pos s =
    let apart = repeat_tells_apart k L u x y v h n pos in
    not_both
    (s.alike (with_one n u x y v) (with_two n u x y y v)
    (over_one k n u x y v h.before h.idempotent.over h.inner h.behind)
    (over_two k n u x y y v h.before h.idempotent.over h.inner h.inner h.behind)
    (apart.keys n pos (omega arith))) apart.one

pub swap_no_level : (k : ℕ) (L : List ℕ → Type 0) (u x y z v : List ℕ) → IsSwap k L u x y z v
    → (n : ℕ) → 1 ≤ n → ¬ Suffices k L (SameKey n)
swap_no_level k L u x y z v h n pos s =
    let apart = swap_tells_apart k L u x y z v h n pos in
    not_both
    (s.alike (with_two n u x y z v) (with_two n u x z y v)
    (over_two k n u x y z v h.before h.idempotent.over h.first h.second h.behind)
    (over_two k n u x z y v h.before h.idempotent.over h.second h.first h.behind)
    (apart.keys n pos (omega arith))) apart.one

-- where a level suffices, the local submonoids are idempotent and commutative
pub level_makes_local : (k n : ℕ) (L : List ℕ → Type 0) → 1 ≤ n → Suffices k L (SameKey n)
    → IsLocallyIdempotentAndCommutative k (Syntactic k L)
level_makes_local k n L pos s = record { idempotent = idempotent; commute = commute }
  where
    idempotent : (e : List ℕ) → IsIdempotentWord k (Syntactic k L) e → (y : List ℕ) → Over k y
        → IsIdempotent (Syntactic k L) (local e y)
    idempotent e h y oy p q op oq =
        let alike = s.alike (with_one n p e y q) (with_two n p e y y q)
        (over_one k n p e y q op h.over oy oq) (over_two k n p e y y q op h.over oy oy oq)
        (repeat_alike n n p e y q h.some (omega arith)) in
        both_directions (other_direction (two_member k L p e q op oq h n pos y y oy oy))
        (both_directions (other_direction alike) (one_member k L p e q op oq h n pos y oy))

    commute : (e : List ℕ) → IsIdempotentWord k (Syntactic k L) e → (y z : List ℕ) → Over k y
        → Over k z → Syntactic k L (local e y ++ local e z) (local e z ++ local e y)
    commute e h y z oy oz p q op oq =
        let alike = s.alike (with_two n p e y z q) (with_two n p e z y q)
        (over_two k n p e y z q op h.over oy oz oq) (over_two k n p e z y q op h.over oz oy oq)
        (swap_alike n n p e y z q h.some (omega arith)) in
        both_directions (other_direction (two_member k L p e q op oq h n pos y z oy oz))
        (both_directions alike (two_member k L p e q op oq h n pos z y oz oy))
