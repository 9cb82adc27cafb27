-- An instance in flat tables, and the instances of the construction that it stands for.
use Rattle.std.specs.Prelude.{◌≡◌, ◌<◌, ℕ, List, length, slice_index, All}
use Rattle.star_free_theory.specs.Instance.{Among, IsGenerated}
use Rattle.star_free_theory.specs.Construction.{Task, first_other, without, span, local_elements}
use Rattle.local_divisors.specs.Instances.{Multiplication, times}

-- the elements, and the letters with a table of their images and one of their nodes
pub record Flat : Type 0 where
  pub elements : List ℕ
  pub identity : ℕ
  pub letters : List ℕ
  pub images : List ℕ
  pub nodes : List ℕ
  pub universe : ℕ

-- the images generate the elements, and all numbers have places in the tables
pub record IsReady (p : Multiplication) (t : Flat) : Type 0 where
  pub generated : IsGenerated t.elements t.letters (times p) t.identity (slice_index t.images)
  pub elements_within : All (λ x. x < p.table.side) t.elements
  pub letters_within : All (λ a. a < length t.images) t.letters
  pub images_within : All (λ x. x < p.table.side) t.images
  pub nodes_long : length t.nodes ≡ length t.images

-- the instance with these functions
abbrev pub task_with : Flat → (ℕ → ℕ → ℕ) → (ℕ → ℕ) → (ℕ → ℕ) → Task
task_with t product image node =
    record {
      elements = t.elements;
      product = product;
      identity = t.identity;
      letters = t.letters;
      image = image;
      node = node;
      universe = t.universe;
    }

-- the functions are those of the tables, at the elements and letters
pub record AreShown (p : Multiplication) (t : Flat) (product : ℕ → ℕ → ℕ) (image node : ℕ → ℕ) :
    Type 0 where
  pub products : (x y : ℕ) → Among t.elements x → Among t.elements y → times p x y ≡ product x y
  pub images : (a : ℕ) → Among t.letters a → slice_index t.images a ≡ image a
  pub nodes : (a : ℕ) → Among t.letters a → node a ≡ slice_index t.nodes a

-- the chosen letter, the others, the submonoid that they generate, and the local divisor
pub record IsChosen (p : Multiplication) (t : Flat) (letter : ℕ) (others submonoid divisor : List ℕ)
    : Type 0 where
  pub letter_is : letter ≡ first_other (slice_index t.images) t.identity t.letters
  pub others_are : others ≡ without letter t.letters
  pub submonoid_is : submonoid ≡ span (times p) t.identity (slice_index t.images) others t.elements
  pub divisor_is : divisor ≡ local_elements (times p) (slice_index t.images letter) t.elements
