-- The letters of the construction's list are those of the monoid.
use Rattle.std.proofs.Common.{◌≡◌, ℕ, zero, suc, ◌<◌, ◌++◌, List, [], ◌∷◌, length, ◌-◌, Some, inl, inr, sym, ap, ◌∙◌, arith, subst}
use Rattle.std.proofs.lemmas.Bool.{cases_lt}
use Rattle.std.proofs.lemmas.List.{get_or_append_left}
use Rattle.std.proofs.Math.Seq.{get_or-append_right}
use Rattle.star_free_theory.specs.declared.nodes.SfNode.{SfNode}
use Rattle.star_free_theory.specs.declared.nodes.SfNode.TheVariants as node
use Rattle.star_free_theory.specs.Construction.{Algebra, construction, done, opening}
use Rattle.star_free_theory.specs.Pruning.{node_at}
use Rattle.star_free_lists.specs.SfList.{AreLettersBelow}
use Rattle.local_divisors.proofs.Keeping.{IsLetterBelow, kept_construction}

module _ (k : ℕ) where
  letter_is : (x : SfNode) (a : ℕ) → IsLetterBelow k x → x ≡ node.Letter a → a < k
  letter_is x a h e = subst (λ (y : SfNode). IsLetterBelow k y) e h

  lone_letter : (x : SfNode) (j a : ℕ) → IsLetterBelow k x
      → node_at (x ∷ []) j ≡ node.Letter a → a < k
  lone_letter x zero a h e = letter_is x a h e
  lone_letter x (suc j) a h e = cc

  letters_push : (xs : List SfNode) (x : SfNode) → IsLetterBelow k x → AreLettersBelow k xs
      → AreLettersBelow k (xs ++ x ∷ [])
  letters_push xs x f h n a e = elim (cases_lt n (length xs)) [
    | inl l ↦ h n a (sym (get_or_append_left xs (x ∷ []) node.Empty n l) ∙ e)
    | inr l ↦ lone_letter x (n - length xs) a f
        (sym (get_or-append_right xs (x ∷ []) n node.Empty (omega (arith, l))) ∙ e)
  ]

  opening_letters : AreLettersBelow k opening
  opening_letters zero a e = cc
  opening_letters (suc zero) a e = cc
  opening_letters (suc (suc zero)) a e = cc
  opening_letters (suc (suc (suc n))) a e = cc

  pub letters_constructed : (most n : ℕ) (A : Algebra) (finals : List ℕ) (list : List SfNode)
      (root : ℕ) → construction (Some most) n k A finals ≡ done (list, root)
      → AreLettersBelow k list
  letters_constructed most n A finals list root e =
      kept_construction k (Some most) (AreLettersBelow k) (λ xs x f new room h. letters_push xs x f h) n A
      finals opening_letters (list, root) e
