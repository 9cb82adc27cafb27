-- The local-divisor construction: from a finite aperiodic monoid with images of the letters to a
-- star-free list of the words with accepted values (Schützenberger's theorem, after Diekert and
-- Kufleitner's proof by local divisors). It is a recursion over lists of nodes that only grow. This
-- exact list, in which equal nodes stand once, is this project's choice.
use Rattle.std.specs.Prelude.{◌↔◌, ◌++◌, ◌&&◌, ℕ, zero, suc, Bool, true, false, cond, eqb}
use Rattle.std.specs.Prelude.{ltb, List, [], ◌∷◌, length, map, Option, Some, None}
use Rattle.std.specs.List.{position}
use Rattle.language_theory.specs.Words.{Over}
use Rattle.star_free_theory.specs.LocalDivisor.{HasSettlingPowers}
use Rattle.star_free_theory.specs.StarFree.{SfNode, Denotes}
use Rattle.star_free_theory.specs.Instance.{Among, IsGenerated, value}
use Rattle.star_free_theory.specs.declared.nodes.SfNode.TheVariants as node

-- what the construction comes to: a value, or a limit that is met first
pub data Outcome (A : Type 0) : Type 0 where
  done : (a : A) → Outcome A
  depth : Outcome A
  nodes : Outcome A

unfoldable pub bind : {A B : Type 0} → Outcome A → (A → Outcome B) → Outcome B
bind (done a) f = f a
bind depth f = depth
bind nodes f = nodes

-- ## Taking a node

abbrev pub same_node : SfNode → SfNode → Bool
same_node node.Empty node.Empty = true
same_node node.Eps node.Eps = true
same_node (node.Letter a) (node.Letter b) = eqb a b
same_node (node.Not i) (node.Not p) = eqb i p
same_node (node.Cat i j) (node.Cat p q) = eqb i p && eqb j q
same_node (node.Or i j) (node.Or p q) = eqb i p && eqb j q
same_node (node.And i j) (node.And p q) = eqb i p && eqb j q
same_node _ _ = false

-- the place of a node in a list
abbrev pub place : SfNode → List SfNode → Option ℕ
place x xs = position (same_node x) xs

-- there is room for one more node; without a limit, always
abbrev pub has_room : Option ℕ → ℕ → Bool
has_room None n = true
has_room (Some most) n = ltb n most

-- a node that is there has its number, and another one is put behind the list
abbrev pub put : Option ℕ → Option ℕ → List SfNode → SfNode → Outcome (List SfNode × ℕ)
put most (Some n) xs x = done (xs, n)
put most None xs x = cond (has_room most (length xs)) (done (xs ++ x ∷ [], length xs)) nodes

-- The number of a node: where it is `cat` with node 2, the empty word, or `and` with node 1, all
-- words, that of the other part.
abbrev pub take : Option ℕ → List SfNode → SfNode → Outcome (List SfNode × ℕ)
take most xs (node.Cat i j) =
    cond (eqb i 2) (done (xs, j))
    (cond (eqb j 2) (done (xs, i)) (put most (place (node.Cat i j) xs) xs (node.Cat i j)))
take most xs (node.And i j) =
    cond (eqb i 1) (done (xs, j)) (put most (place (node.And i j) xs) xs (node.And i j))
take most xs x = put most (place x xs) xs x

-- ## Finite monoids as lists

abbrev pub has : List ℕ → ℕ → Bool
has [] x = false
has (y ∷ ys) x = cond (eqb x y) true (has ys x)

abbrev pub keep : (ℕ → Bool) → List ℕ → List ℕ
keep p [] = []
keep p (x ∷ xs) = cond (p x) (x ∷ keep p xs) (keep p xs)

-- the other letters
abbrev pub without : ℕ → List ℕ → List ℕ
without c [] = []
without c (x ∷ xs) = cond (eqb x c) (without c xs) (x ∷ without c xs)

-- m and all m s m, in the order of the elements
abbrev pub local_elements : (ℕ → ℕ → ℕ) → ℕ → List ℕ → List ℕ
local_elements mul m els = keep (has (m ∷ map (λ s. mul (mul m s) m) els)) els

-- a y with m y equal to b
abbrev pub factor : (ℕ → ℕ → ℕ) → ℕ → List ℕ → ℕ → ℕ
factor mul m [] b = 0
factor mul m (y ∷ ys) b = cond (eqb (mul m y) b) y (factor mul m ys b)

-- x m times m y is x m y
abbrev pub local_product : (ℕ → ℕ → ℕ) → ℕ → List ℕ → ℕ → ℕ → ℕ
local_product mul m els a b = mul a (factor mul m els b)

-- the images of letters, times the elements of S
abbrev pub products : (ℕ → ℕ → ℕ) → (ℕ → ℕ) → List ℕ → List ℕ → List ℕ
products mul img S [] = []
products mul img S (a ∷ ls) = map (mul (img a)) S ++ products mul img S ls

-- the elements that products of at most n letters give, in the order of els
unfoldable pub reach : (ℕ → ℕ → ℕ) → ℕ → (ℕ → ℕ) → List ℕ → List ℕ → ℕ → List ℕ
reach mul one img letters els zero = keep (has (one ∷ [])) els
reach mul one img letters els (suc n) =
    keep (has (reach mul one img letters els n
    ++ products mul img (reach mul one img letters els n) letters)) els

-- the submonoid that the images generate
unfoldable pub span : (ℕ → ℕ → ℕ) → ℕ → (ℕ → ℕ) → List ℕ → List ℕ → List ℕ
unfolding reach
span mul one img letters els = reach mul one img letters els (length els)

-- the first letter whose image is not the identity
abbrev pub first_other : (ℕ → ℕ) → ℕ → List ℕ → ℕ
first_other img one [] = 0
first_other img one (a ∷ ls) = cond (eqb (img a) one) (first_other img one ls) a

-- the pairs of r with an element whose product is u
abbrev pub row : (ℕ → ℕ → ℕ) → ℕ → List ℕ → ℕ → List (ℕ × ℕ)
row mul r [] u = []
row mul r (t ∷ ts) u = cond (eqb (mul r t) u) ((r, t) ∷ row mul r ts u) (row mul r ts u)

-- the pairs with product u, the first part first
abbrev pub pairs : (ℕ → ℕ → ℕ) → List ℕ → List ℕ → ℕ → List (ℕ × ℕ)
pairs mul [] ts u = []
pairs mul (r ∷ rs) ts u = row mul r ts u ++ pairs mul rs ts u

abbrev pub is_some_pair : List (ℕ × ℕ) → Bool
is_some_pair [] = false
is_some_pair (p ∷ ps) = true

-- the elements that are such a product
abbrev pub ends : (ℕ → ℕ → ℕ) → List ℕ → List ℕ → List ℕ → List ℕ
ends mul rs ts els = keep (λ u. is_some_pair (pairs mul rs ts u)) els

-- ## Instances with nodes

-- the monoid of an instance, its letters with their images and nodes, and the node of its universe
pub record Task : Type 0 where
  pub elements : List ℕ
  pub product : ℕ → ℕ → ℕ
  pub identity : ℕ
  pub letters : List ℕ
  pub image : ℕ → ℕ
  pub node : ℕ → ℕ
  pub universe : ℕ

-- the chosen letter
abbrev pub chosen : Task → ℕ
chosen T = first_other T.image T.identity T.letters

-- the submonoid that the other letters generate
abbrev pub submonoid : Task → List ℕ
submonoid T = span T.product T.identity T.image (without (chosen T) T.letters) T.elements

-- the first instance made from one: the other letters, with their submonoid and a universe
abbrev pub first_task : Task → ℕ → Task
first_task T universe =
    record {
      elements = submonoid T;
      product = T.product;
      identity = T.identity;
      letters = without (chosen T) T.letters;
      image = T.image;
      node = T.node;
      universe = universe;
    }

-- the elements of the local divisor at the chosen letter's image
abbrev pub divisor : Task → List ℕ
divisor T = local_elements T.product (T.image (chosen T)) T.elements

-- the second instance: a letter for each element of that submonoid, and the local divisor
abbrev pub second_task : Task → (ℕ → ℕ) → ℕ → Task
second_task T letters universe =
    record {
      elements = divisor T;
      product = local_product T.product (T.image (chosen T)) T.elements;
      identity = T.image (chosen T);
      letters = submonoid T;
      image = λ t. T.product (T.product (T.image (chosen T)) t) (T.image (chosen T));
      node = letters;
      universe = universe;
    }

-- ## The steps

-- E with n for t
abbrev pub with : (ℕ → ℕ) → ℕ → ℕ → ℕ → ℕ
with E t n p = cond (eqb p t) n (E p)

-- a node for each element in order
abbrev pub each : (List SfNode → ℕ → Outcome (List SfNode × ℕ)) → List ℕ → (ℕ → ℕ) → List SfNode
    → Outcome (List SfNode × (ℕ → ℕ))
each f [] E xs = done (xs, E)
each f (t ∷ ts) E xs = bind (f xs t) (λ r. each f ts (with E t r.1) r.0)

-- one more node to join
abbrev pub join : Option ℕ → Option ℕ → List SfNode → ℕ → Outcome (List SfNode × ℕ)
join most None xs j = done (xs, j)
join most (Some i) xs j = take most xs (node.Or i j)

-- `cat` of the nodes of each pair, joined as they come
abbrev pub join_pairs : Option ℕ → (f g : ℕ → ℕ) → Option ℕ → List (ℕ × ℕ) → List SfNode
    → Outcome (List SfNode × Option ℕ)
join_pairs most f g s [] xs = done (xs, s)
join_pairs most f g s (p ∷ ps) xs =
    bind (take most xs (node.Cat (f p.0) (g p.1)))
    (λ r. bind (join most s r.0 r.1) (λ o. join_pairs most f g (Some o.1) ps o.0))

-- the node that joining comes to; where there was none to join, that of no word
abbrev pub or_empty : Option ℕ → ℕ
or_empty None = 0
or_empty (Some n) = n

abbrev pub join_all : Option ℕ → (f g : ℕ → ℕ) → Option ℕ → List (ℕ × ℕ) → List SfNode
    → Outcome (List SfNode × ℕ)
join_all most f g s ps xs = bind (join_pairs most f g s ps xs) (λ r. done (r.0, or_empty r.1))

abbrev pub when : Bool → ℕ → Option ℕ
when true n = Some n
when false n = None

abbrev pub is_none_left : List ℕ → Bool
is_none_left [] = true
is_none_left (a ∷ ls) = false

-- The universe of the first instance: the words of the universe u without a word of the chosen
-- letter's node n. Where there is no other letter, that is the empty word alone.
abbrev pub free : Option ℕ → Bool → List SfNode → ℕ → ℕ → Outcome (List SfNode × ℕ)
free most true xs n u = done (xs, 2)
free most false xs n u =
    bind (take most xs (node.Cat u n))
    (λ x. bind (take most x.0 (node.Cat x.1 u))
    (λ y. bind (take most y.0 (node.Not y.1)) (λ z. take most z.0 (node.And u z.1))))

-- The universe of the second instance: the empty word, and the words of u that begin with a word of
-- n. Where there is no other letter, those are all.
abbrev pub opened : Option ℕ → Bool → List SfNode → ℕ → ℕ → Outcome (List SfNode × ℕ)
opened most true xs n u = done (xs, u)
opened most false xs n u =
    bind (take most xs (node.Cat n u)) (λ w. take most w.0 (node.Or w.1 2))

-- how an instance is treated: a node for each of its elements
abbrev pub Treating : Type 0
Treating = List SfNode → Task → Outcome (List SfNode × (ℕ → ℕ))

-- the first instance gives E
abbrev pub treat_first : Option ℕ → Treating → Treating
treat_first most rec xs T =
    bind
    (free most (is_none_left (without (chosen T) T.letters)) xs (T.node (chosen T)) T.universe)
    (λ b. rec b.0 (first_task T b.1))

-- the chosen letter's node before each E(t) is B(t), and the second instance, with those as
-- letters, gives F
abbrev pub treat_second : Option ℕ → Treating → (ℕ → ℕ) → List SfNode → Task
    → Outcome (List SfNode × ((ℕ → ℕ) × (ℕ → ℕ)))
treat_second most rec E xs T =
    bind
    (opened most (is_none_left (without (chosen T) T.letters)) xs (T.node (chosen T)) T.universe)
    (λ u. bind
    (each (λ ys t. take most ys (node.Cat (T.node (chosen T)) (E t))) (submonoid T) (λ p. 0) u.0)
    (λ b. bind (rec b.0 (second_task T b.1 u.1)) (λ f. done (f.0, (b.1, f.1)))))

-- each product r t of an F(r) and a B(t) gets the node G of those
abbrev pub treat_ends : Option ℕ → (B F : ℕ → ℕ) → Treating
treat_ends most B F xs T =
    each (λ ys u. join_all most F B None (pairs T.product (divisor T) (submonoid T) u) ys)
    (ends T.product (divisor T) (submonoid T) T.elements) (λ p. 0) xs

-- each element p gets E(p), if it is of the submonoid, joined with E(q) before G(u) for each q u
-- that is p
abbrev pub treat_whole : Option ℕ → (E G : ℕ → ℕ) → Treating
treat_whole most E G xs T =
    each (λ ys p. join_all most E G (when (has (submonoid T) p) (E p))
    (pairs T.product (submonoid T) (ends T.product (divisor T) (submonoid T) T.elements) p) ys)
    T.elements (λ p. 0) xs

abbrev pub treat : Option ℕ → Treating → Treating
treat most rec xs T =
    bind (treat_first most rec xs T)
    (λ e. bind (treat_second most rec e.1 e.0 T)
    (λ r. bind (treat_ends most r.1.0 r.1.1 r.0 T)
    (λ g. treat_whole most e.1 g.1 g.0 T)))

-- An instance with one element gives it the universe; any other is treated by both instances made
-- from it, at most n deep.
unfoldable pub treat_within : Option ℕ → ℕ → Treating
treat_within most zero xs T = depth
treat_within most (suc n) xs T =
    elim (eqb (length T.elements) 1) [
      | true ↦ done (xs, λ p. T.universe)
      | false ↦ treat most (treat_within most n) xs T
    ]

-- ## The whole construction

-- how each list begins: no word, all words, the empty word
abbrev pub opening : List SfNode
opening = node.Empty ∷ node.Not 0 ∷ node.Eps ∷ []

-- n numbers from a on
abbrev pub count_from : ℕ → ℕ → List ℕ
count_from a zero = []
count_from a (suc n) = a ∷ count_from (suc a) n

-- a finite monoid with images of letters
pub record Algebra : Type 0 where
  pub elements : List ℕ
  pub product : ℕ → ℕ → ℕ
  pub identity : ℕ
  pub image : ℕ → ℕ

-- it is aperiodic, and the images of k letters generate it
pub record IsAlgebra (k : ℕ) (A : Algebra) : Type 0 where
  pub generated : IsGenerated A.elements (count_from 0 k) A.product A.identity A.image
  pub aperiodic : HasSettlingPowers (Among A.elements) A.product A.identity

-- the opening and a node for each letter
abbrev pub opened_list : Option ℕ → ℕ → Outcome (List SfNode × (ℕ → ℕ))
opened_list most k =
    each (λ ys a. take most ys (node.Letter a)) (count_from 0 k) (λ a. 0) opening

-- the whole monoid as an instance, whose universe is all words
abbrev pub whole_task : ℕ → Algebra → (ℕ → ℕ) → Task
whole_task k A letters =
    record {
      elements = A.elements;
      product = A.product;
      identity = A.identity;
      letters = count_from 0 k;
      image = A.image;
      node = letters;
      universe = 1;
    }

-- the nodes of elements, joined
abbrev pub join_finals : Option ℕ → (ℕ → ℕ) → List ℕ → Option ℕ → List SfNode
    → Outcome (List SfNode × Option ℕ)
join_finals most E [] s xs = done (xs, s)
join_finals most E (p ∷ ps) s xs =
    bind (join most s xs (E p)) (λ o. join_finals most E ps (Some o.1) o.0)

-- The list and its root, with at most so many nodes and at most so deep. The opening is there
-- before nodes are counted.
abbrev pub construction : Option ℕ → ℕ → ℕ → Algebra → List ℕ → Outcome (List SfNode × ℕ)
construction most n k A finals =
    bind (opened_list most k)
    (λ ls. bind (treat_within most n ls.0 (whole_task k A ls.1))
    (λ e. bind (join_finals most e.1 finals None e.0)
    (λ r. done (r.0, or_empty r.1))))

-- node `root` denotes the words over k letters whose value is among the finals
pub record DenotesFinals (k : ℕ) (A : Algebra) (finals : List ℕ) (list : List SfNode)
    (root : ℕ) : Type 0 where
  pub words : (w : List ℕ) → Denotes k list root w
      ↔ Over k w × Among finals (value A.product A.identity A.image w)
