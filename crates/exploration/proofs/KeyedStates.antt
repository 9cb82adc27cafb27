-- Machines that keep the keys of their seen states in the order in which they were seen: the start,
-- the next state, and
-- the states seen after one more was seen. A word leads to the key `state_of w`, and a letter from
-- key to key by `step`.
use Rattle.std.proofs.Common.{◌≡◌, ℕ, ◌<◌, Bool, true, List, [], ◌∷◌, ◌++◌, Some, length, ap, sym, subst, ◌∙◌, arith, get_or}
use Rattle.std.specs.Prelude.{position}
use Rattle.std.specs.Bool.{Decides}
use Rattle.std.specs.List.{position_or_len}
use Rattle.std.proofs.lemmas.List.Sums.{passes_at_first}
use Rattle.indexmap.specs.IndexSet.{insert_key}
use Rattle.language_theory.specs.Words.{Over}
use Rattle.language_theory.proofs.Shortlex.{over_last}
use Rattle.exploration.specs.States.{AreKept, IsNext}
use Rattle.exploration.specs.Interning.{AreReached}
use Rattle.exploration.specs.NumberedKeys.{position_is}
use Rattle.exploration.proofs.Interning.{insert_keeps, insert_numbers}

module _ {X : Type 0} (eq : X → X → Bool) (decides : (x y : X) → Decides (eq x y) (x ≡ y)) (k : ℕ)
    (state_of : List ℕ → X) where
  -- the number of a word's state leads back to its key
  pub key_at : (keys : List X) (d : X) (w : List ℕ) (n : ℕ)
      → position (eq (state_of w)) keys ≡ Some n
      → state_of w ≡ get_or keys n d
  key_at keys d w n e =
      let (a, h) = position_is (eq (state_of w)) keys n e in
      let passes = passes_at_first (eq (state_of w)) keys d (omega arith) in
      (decides (state_of w) (get_or keys n d)).0
      (subst (λ (m : ℕ). eq (state_of w) (get_or keys m d) ≡ true) a passes)

  -- each state keeps its number when one more is seen
  pub seen_keeps : (keys : List X) (x : X)
      → AreKept k (λ w. position (eq (state_of w)) keys)
      (λ w. position (eq (state_of w)) (insert_key eq keys x))
  seen_keeps keys x = record { kept = λ w n o e. insert_keeps eq decides keys (state_of w) x n e }

  -- the state of the empty word gets the number that the insertion answers
  pub seen_first : (keys : List X) (x : X) → state_of [] ≡ x
      → position (eq (state_of [])) (insert_key eq keys x) ≡ Some (position_or_len (eq x) keys)
  seen_first keys x e =
      subst (λ (y : X). position (eq y) (insert_key eq keys x) ≡ Some (position_or_len (eq x) keys))
      (sym e)
      (insert_numbers eq decides keys x)

  -- what holds of the state of each word holds of each seen key
  pub seen_holds : (P : X → Type 0) (keys : List X) (d : X) (n : ℕ) → AreReached eq k state_of keys
      → n < length keys
      → ((w : List ℕ) → Over k w → P (state_of w)) → P (get_or keys n d)
  seen_holds P keys d n h l all =
      let (w, o, e) = h.reached n l in
      subst P (key_at keys d w n e) (all w o)

  module _ (step : X → ℕ → X)
      (goes : (w : List ℕ) (a : ℕ) → state_of (w ++ a ∷ []) ≡ step (state_of w) a) where
    step_from : (keys : List X) (d : X) (w : List ℕ) (p a : ℕ)
        → position (eq (state_of w)) keys ≡ Some p
        → state_of (w ++ a ∷ []) ≡ step (get_or keys p d) a
    step_from keys d w p a e = goes w a ∙ ap (λ (y : X). step y a) (key_at keys d w p e)

    -- the state to which a letter leads from a seen one gets the number that the insertion answers
    pub seen_next : (keys : List X) (d : X) (p a : ℕ) (x : X) → x ≡ step (get_or keys p d) a
        → IsNext k (λ w. position (eq (state_of w)) keys)
        (λ w. position (eq (state_of w)) (insert_key eq keys x)) p a
        (position_or_len (eq x) keys)
    seen_next keys d p a x f = record {
      leads = λ w o e.
          let at : state_of (w ++ a ∷ []) ≡ x = step_from keys d w p a e ∙ sym f in
          subst (λ (y : X). position (eq y) (insert_key eq keys x)
          ≡ Some (position_or_len (eq x) keys)) (sym at)
          (insert_numbers eq decides keys x);
    }

    -- the state to which a letter leads from a seen one is the state of a word
    pub next_reached : (keys : List X) (d : X) (p a : ℕ) → AreReached eq k state_of keys
        → p < length keys → a < k
        → (w : List ℕ) × Over k w × (state_of w ≡ step (get_or keys p d) a)
    next_reached keys d p a h hp ha =
        let (w, o, e) = h.reached p hp in
        (w ++ a ∷ [], over_last k w a o ha, step_from keys d w p a e)
