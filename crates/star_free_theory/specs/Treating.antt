-- What it is to treat an instance rightly: the list only grows, and each element gets a node that
-- means the words of the universe with that image.
use Rattle.std.specs.Prelude.{◌≡◌, ◌<◌, ◌≤◌, ◌↔◌, ◌++◌, ℕ, List, length}
use Rattle.star_free_theory.specs.StarFree.{SfNode, Denotes, NameEarlier}
use Rattle.star_free_theory.specs.Instance.{Among, Instance, Piece, IsFit, Has}
use Rattle.star_free_theory.specs.Construction.{Task, opening}

-- the list begins as all do, and each node names earlier ones
pub record IsBegun (nodes : List SfNode) : Type 0 where
  pub opens : (rest : List SfNode) × (opening ++ rest ≡ nodes)
  pub earlier : NameEarlier 0 nodes

-- the longer list keeps what the nodes of the other denote
pub record Extends (k : ℕ) (xs ys : List SfNode) : Type 0 where
  pub longer : length xs ≤ length ys
  pub stays : (n : ℕ) → n < length xs → (w : List ℕ) → Denotes k ys n w ↔ Denotes k xs n w

-- node n is there, and denotes L
pub record Stands (k : ℕ) (xs : List SfNode) (n : ℕ) (L : List ℕ → Type 0) : Type 0 where
  pub there : n < length xs
  pub means : (w : List ℕ) → Denotes k xs n w ↔ L w

-- the instance of a task, with the languages of its nodes
abbrev pub meant : ℕ → List SfNode → Task → Instance
meant k xs T =
    record {
      elements = T.elements;
      product = T.product;
      identity = T.identity;
      letters = T.letters;
      image = T.image;
      language = λ a. Denotes k xs (T.node a);
      universe = Denotes k xs T.universe;
    }

-- the nodes of a task are there, and its instance fits
pub record IsFitted (k : ℕ) (xs : List SfNode) (T : Task) : Type 0 where
  pub fit : IsFit (meant k xs T)
  pub nodes : (a : ℕ) → Among T.letters a → T.node a < length xs
  pub universe : T.universe < length xs

-- the words of a task's universe with the image p
abbrev pub Wanted : ℕ → List SfNode → Task → ℕ → List ℕ → Type 0
Wanted k xs T p w = Has (Piece (meant k xs T)) T.product T.identity T.image p w

-- the list only grows, and the node of each element denotes the words with that image
pub record IsTreated (k : ℕ) (xs : List SfNode) (T : Task)
    (r : List SfNode × (ℕ → ℕ)) : Type 0 where
  pub begun : IsBegun r.0
  pub extends : Extends k xs r.0
  pub stands : (p : ℕ) → Among T.elements p → Stands k r.0 (r.1 p) (Wanted k xs T p)
