-- What is answered of powers and star-free lists, and the letters of the answers.
use Rattle.std.proofs.Common.{◌≡◌, ◌↔◌, ◌≤◌, ℕ, Bool, IsTrue, List, length, sym, subst}
use Rattle.std.specs.Cmp.{both_ways}
use Rattle.language_theory.specs.Words.{Over}
use Rattle.syntactic_monoid.specs.SyntacticMonoid.{SyntacticMonoid, IsSyntacticMonoid}
use Rattle.local_divisors.specs.Constructing.{most_depth, algebra_of}
use Rattle.local_divisors.proofs.Letters.{letters_constructed}
use Rattle.star_free_lists.proofs.PrunedLetters.{letters_pruned}
use Rattle.answers.specs.declared.powers.Loop.{Loop}
use Rattle.answers.specs.declared.powers.SfAnswer.{SfAnswer}
use Rattle.answers.specs.declared.powers.SfAnswer.TheVariants as answer
use Rattle.star_free.specs.Loops.{IsFirstLoopWord, IsLoop}
use Rattle.star_free.specs.Answer.{IsStarFreeAnswer, images_of, finals_of}
use Rattle.star_free.proofs.OneList.{one_answer_of}
use Rattle.report_text.specs.StarFreeSection.{IsLoopOver, IsStarFreeOver}

module _ (k : ℕ) (L : List ℕ → Type 0) where
  -- one answer, where there is a table exactly within its limit
  pub one_answer_of_lists : (m n : SyntacticMonoid) → m ≡ n → IsSyntacticMonoid k L m
      → (has other : Bool) (side : ℕ) → IsTrue has ↔ (length m.graphs.words ≤ side)
      → IsTrue other ↔ (length n.graphs.words ≤ side) → (most : ℕ) (a b : SfAnswer)
      → IsStarFreeAnswer k L m most has a → IsStarFreeAnswer k L n most other b → a ≡ b
  one_answer_of_lists m n same is has other side h g most a b x y =
      one_answer_of k L m is most has a b x
      (subst (λ (t : Bool). IsStarFreeAnswer k L m most t b) (sym tables)
      (subst (λ (o : SyntacticMonoid). IsStarFreeAnswer k L o most other b) (sym same) y))
    where
      g-again : IsTrue other ↔ (length m.graphs.words ≤ side)
      g-again = subst (λ (o : SyntacticMonoid). IsTrue other ↔ (length o.graphs.words ≤ side))
          (sym same) g

      tables : has ≡ other
      tables = both_ways has other (λ t. g-again.1 (h.0 t)) (λ t. h.1 (g-again.0 t))

  powers_over : (x : List ℕ) (i p : ℕ) → IsFirstLoopWord k L x i p → Over k x
  powers_over x i p (words, e, l, f, is) = rw is (l.over e f.within)

  loop_over : (l : Loop) → IsLoop k L l → IsLoopOver k l
  loop_over l h = record {
    first = h.context.before.over;
    powers = powers_over l.x l.index l.period h.word;
    last = h.context.behind.over;
  }

  -- the letters and the words of an answer are over the letters
  pub star_free_over : (m : SyntacticMonoid) (most : ℕ) (has : Bool) (a : SfAnswer)
      → IsStarFreeAnswer k L m most has a → IsStarFreeOver k a
  star_free_over m most has (answer.Yes l) h =
      let p = h.2 in
      letters_pruned k p.list p.root p.kept l.nodes l.root
      (letters_constructed k most most_depth (algebra_of p.constructed.table (images_of m))
      (finals_of m) p.list p.root p.constructed.comes) p.pruned
  star_free_over m most has (answer.No l) h = loop_over l h
  star_free_over m most has answer.TableLimit h = tt
  star_free_over m most has answer.Depth h = tt
  star_free_over m most has answer.Nodes h = tt
