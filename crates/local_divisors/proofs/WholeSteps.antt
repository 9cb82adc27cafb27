-- The steps of the whole construction, by the values that its calls give.
use Rattle.std.proofs.Common.{◌≡◌, ◌∙◌, ◌<◌, ℕ, List, Some, All, length, slice_index, sym, ap, subst, refl}
use Rattle.parallel_table.specs.ProductTables.{ProductTable, cell}
use Rattle.star_free_theory.specs.declared.nodes.SfNode.{SfNode}
use Rattle.star_free_theory.specs.declared.nodes.SfNode.TheVariants as node
use Rattle.star_free_theory.specs.Construction.{Outcome, bind, done, each, take, count_from, opening}
use Rattle.star_free_theory.specs.Construction.{opened_list, treat_within, whole_task}
use Rattle.star_free_theory.proofs.Whole.{length-count}
use Rattle.local_divisors.specs.Building.{joined_finals}
use Rattle.local_divisors.specs.Instances.{Multiplication}
use Rattle.local_divisors.specs.Tasks.{Flat, IsReady, AreShown, task_with}
use Rattle.local_divisors.specs.Constructing.{CanConstruct, algebra_of, most_depth}
use Rattle.local_divisors.proofs.Steps.{bind_done, GaveTable}
use Rattle.local_divisors.proofs.WholeMonoid.{count_all, whole, whole_multiplication, whole_flat}
use Rattle.local_divisors.proofs.WholeMonoid.{whole_ready, whole_shown, after_letters}
use Rattle.local_divisors.proofs.WholeMonoid.{after_elements, finals_step}

-- the numbers of the letters
pub letters_long : (k : ℕ) (letters : List ℕ) → letters ≡ count_from 0 k → length letters ≡ k
letters_long k letters ls = ap (λ (zs : List ℕ). length zs) ls ∙ length-count 0 k

pub letters_within : (k : ℕ) (letters : List ℕ) → letters ≡ count_from 0 k
    → All (λ a. a < length letters) letters
letters_within k letters ls =
    subst (λ (zs : List ℕ). All (λ a. a < length zs) zs) (sym ls)
    (subst (λ (n : ℕ). All (λ a. a < n) (count_from 0 k)) (sym (length-count 0 k)) (count_all k))

module _ (t : ProductTable) (images finals : List ℕ) (most : ℕ) (h : CanConstruct t images finals
    most) where
  pub ready : (ns : List ℕ) (task : Flat) (product : Multiplication) → length ns ≡ length images
      → task ≡ whole_flat t images finals most h ns
      → product ≡ whole_multiplication t images finals most h → IsReady product task
  ready ns task product long ti pr =
      subst (λ (f : Flat). IsReady product f) (sym ti)
      (subst (λ (p : Multiplication). IsReady p (whole_flat t images finals most h ns)) (sym pr)
      (whole_ready t images finals most h ns long))

  module _ (letters : List ℕ) (start : List SfNode) (ls : letters ≡ count_from 0 (length images))
      (begins : start ≡ opening) where
    abbrev pub letters_step : Outcome (List SfNode × (ℕ → ℕ))
    letters_step =
        each (λ ys a. take (Some most) ys (node.Letter a)) letters (λ a. 0) start

    pub from_letters : whole t images finals most h
        ≡ bind letters_step (after_letters t images finals most h)
    from_letters =
        let same : opened_list (Some most) (length images) ≡ letters_step = rw (ls, begins) refl in
        ap (λ (o : Outcome (List SfNode × (ℕ → ℕ))). bind o (after_letters t images finals most h))
        same

    module _ (one : List SfNode) (ns : List ℕ) (task : Flat) (product : Multiplication)
        (w : GaveTable letters_step one ns) (ti : task ≡ whole_flat t images finals most h ns) where
      abbrev pub elements_step : Outcome (List SfNode × (ℕ → ℕ))
      elements_step = treat_within (Some most) most_depth one
          (task_with task (cell t) (slice_index images) w.0)

      pub shown : length ns ≡ length images
          → product ≡ whole_multiplication t images finals most h
          → AreShown product task (cell t) (slice_index images) w.0
      shown long pr =
          subst (λ (f : Flat). AreShown product f (cell t) (slice_index images) w.0) (sym ti)
          (subst (λ (p : Multiplication). AreShown p (whole_flat t images finals most h ns) (cell t)
          (slice_index images) w.0) (sym pr) (whole_shown t images finals most h ns w.0 long w.2))

      pub from_elements : whole t images finals most h
          ≡ bind elements_step (after_elements t images finals most h)
      from_elements =
          let same : treat_within (Some most) most_depth one
          (whole_task (length images) (algebra_of t images) w.0) ≡ elements_step =
          ap (λ (f : Flat). treat_within (Some most) most_depth one
          (task_with f (cell t) (slice_index images) w.0)) (sym ti) in
          from_letters
          ∙ bind_done letters_step (after_letters t images finals most h) (one, w.0) w.1
          ∙ ap (λ (o : Outcome (List SfNode × (ℕ → ℕ))). bind o
          (after_elements t images finals most h)) same

      pub from_finals : (two : List SfNode) (table : List ℕ) → length table ≡ t.side
          → GaveTable elements_step two table → (numbers : List ℕ) → numbers ≡ table
          → whole t images finals most h
          ≡ joined_finals (Some most) (slice_index numbers) finals two
      from_finals two table long z numbers same = from_elements
          ∙ bind_done elements_step (after_elements t images finals most h) (two, z.0) z.1
          ∙ finals_step t images finals most h table z.0 long z.2 two
          ∙ ap (λ (ts : List ℕ). joined_finals (Some most) (slice_index ts) finals two) (sym same)
