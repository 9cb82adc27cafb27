-- One step of the construction in the meanings of its nodes: the two instances made from one, and
-- what they give together.
use Rattle.std.specs.Prelude.{◌≡◌, ℕ, List, [], ◌∷◌, ◌++◌, ◌⊎◌, ◌↔◌, eqb, cond}
use Rattle.star_free_theory.specs.Construction.{local_elements, local_product, without}
use Rattle.star_free_theory.specs.Instance.{AllAmong, Among, Distinct, Has, Instance, Piece, image}
use Rattle.star_free_theory.specs.Instance.{joined, value}
use Rattle.star_free_theory.specs.LocalDivisor.{IsMonoid}
use Rattle.star_free_theory.specs.StarFree.{Concat}

-- the letters other than c
abbrev pub Without : (ℕ → List ℕ → Type 0) → ℕ → ℕ → List ℕ → Type 0
Without P c a x = P a x × ¬ (a ≡ c)

-- the words of U that have no word of N inside
abbrev pub Free : (List ℕ → Type 0) → (List ℕ → Type 0) → List ℕ → Type 0
Free U N w = U w × ¬ (Concat (Concat U N) U w)

-- a word of N and then one of U, or the empty word
abbrev pub Opened : (List ℕ → Type 0) → (List ℕ → Type 0) → List ℕ → Type 0
Opened U N w = Concat N U w ⊎ (w ≡ [])

-- a word of c, and then one without c whose image is t
abbrev pub Behind : (ℕ → List ℕ → Type 0) → ℕ → (ℕ → ℕ → ℕ) → ℕ → (ℕ → ℕ) → ℕ → List ℕ → Type 0
Behind P c mul one img t = Concat (P c) (Has (Without P c) mul one img t)

-- the letters of the second instance: the word of t is one of N and then one of E(t)
abbrev pub Letters : (ℕ → Type 0) → (List ℕ → Type 0) → (ℕ → List ℕ → Type 0) → ℕ → List ℕ → Type 0
Letters In N E t w = In t × Concat N (E t) w

-- a word of some F(r) before one of N and E(t), where r t is u; E is for the elements `In` of the
-- first instance, F for the elements `Loc` of the second
abbrev pub Ended : (In Loc : ℕ → Type 0) → (ℕ → ℕ → ℕ) → (List ℕ → Type 0)
    → (E F : ℕ → List ℕ → Type 0) → ℕ → List ℕ → Type 0
Ended In Loc mul N E F u w = (r t : ℕ) × Loc r × In t × (mul r t ≡ u)
    × Concat (F r) (Concat N (E t)) w

-- a word of E(p), or of some E(q) before such a word for u, where q u is p
abbrev pub Whole : (In Loc : ℕ → Type 0) → (ℕ → ℕ → ℕ) → (List ℕ → Type 0)
    → (E F : ℕ → List ℕ → Type 0) → ℕ → List ℕ → Type 0
Whole In Loc mul N E F p w = (In p × E p w)
    ⊎ ((q u : ℕ) × In q × (mul q u ≡ p) × Concat (E q) (Ended In Loc mul N E F u) w)

-- a monoid, and letters whose images are in it
pub record IsInstance (In : ℕ → Type 0) (mul : ℕ → ℕ → ℕ) (one : ℕ) (P : ℕ → List ℕ → Type 0)
    (img : ℕ → ℕ) : Type 0 where
  pub monoid : IsMonoid In mul one
  pub images : (a : ℕ) (x : List ℕ) → P a x → In (img a)

-- E(p) is the words with image p
pub record IsExact (In : ℕ → Type 0) (mul : ℕ → ℕ → ℕ) (one : ℕ) (P : ℕ → List ℕ → Type 0)
    (img : ℕ → ℕ) (E : ℕ → List ℕ → Type 0) : Type 0 where
  pub means : (p : ℕ) → In p → (w : List ℕ) → E p w ↔ Has P mul one img p w

-- the first pieces, up to the first of letter c
abbrev pub lead : ℕ → List (ℕ × List ℕ) → List (ℕ × List ℕ)
lead c [] = []
lead c (p ∷ ps) = cond (eqb p.0 c) [] (p ∷ lead c ps)

-- the rest, cut before each piece of letter c: a piece for each cut, whose letter is the image of
-- what follows c
abbrev pub blocks : (ℕ → ℕ → ℕ) → ℕ → (ℕ → ℕ) → ℕ → List (ℕ × List ℕ) → List (ℕ × List ℕ)
blocks mul one img c [] = []
blocks mul one img c (p ∷ ps) = cond (eqb p.0 c)
    ((image mul one img (lead c ps), p.1 ++ joined (lead c ps)) ∷ blocks mul one img c ps)
    (blocks mul one img c ps)

-- the list holds each product of the letters' images, once
pub record IsSpan (mul : ℕ → ℕ → ℕ) (one : ℕ) (img : ℕ → ℕ) (letters els : List ℕ) : Type 0 where
  pub distinct : Distinct els
  pub spelled : (x : ℕ) → Among els x → (ls : List ℕ) × AllAmong letters ls
      × (value mul one img ls ≡ x)
  pub holds : (ls : List ℕ) → AllAmong letters ls → Among els (value mul one img ls)

-- the first instance made from one, where `els` is the submonoid of the other letters
abbrev pub first : Instance → ℕ → List ℕ → Instance
first I c els = record {
  elements = els;
  product = I.product;
  identity = I.identity;
  letters = without c I.letters;
  image = I.image;
  language = I.language;
  universe = Free I.universe (I.language c);
}

-- the second instance, where E is what the first one gives
abbrev pub second : Instance → ℕ → List ℕ → (ℕ → List ℕ → Type 0) → Instance
second I c els E = record {
  elements = local_elements I.product (I.image c) I.elements;
  product = local_product I.product (I.image c) I.elements;
  identity = I.image c;
  letters = els;
  image = λ t. I.product (I.product (I.image c) t) (I.image c);
  language = λ t. Concat (I.language c) (E t);
  universe = Opened I.universe (I.language c);
}

-- what both instances give together
abbrev pub joined_up : Instance → ℕ → List ℕ → (E F : ℕ → List ℕ → Type 0) → ℕ → List ℕ → Type 0
joined_up I c els E F = Whole (Among els) (Among (local_elements I.product (I.image c) I.elements))
    I.product (I.language c) E F

-- E(p) is the words of the instance with image p
pub record IsRight (I : Instance) (E : ℕ → List ℕ → Type 0) : Type 0 where
  pub exact : IsExact (Among I.elements) I.product I.identity (Piece I) I.image E
