-- The whole monoid of a table as an instance, and what its construction comes to after each step.
use Rattle.std.proofs.Common.{Result, ◌≡◌, ◌∙◌, ◌<◌, ◌+◌, ◌++◌, ℕ, zero, suc, List, []}
use Rattle.std.proofs.Common.{◌∷◌, length, slice_index, get_or, All, sym, ap, subst, refl, inl, inr}
use Rattle.std.proofs.Common.{arith, add-zero, Option, Some, None}
use Rattle.std.specs.Result.{IsErrAnd}
use Rattle.std.proofs.lemmas.List.{get_or_default}
use Rattle.parallel_table.specs.ProductTables.{ProductTable, cell}
use Rattle.star_free_theory.specs.declared.nodes.SfNode.{SfNode}
use Rattle.star_free_theory.specs.StarFree.{IsStarFreeList}
use Rattle.star_free_theory.specs.Instance.{Among}
use Rattle.star_free_theory.specs.Construction.{Outcome, Algebra, bind, done}
use Rattle.star_free_theory.specs.Construction.{count_from}
use Rattle.star_free_theory.specs.Construction.{treat_within, whole_task}
use Rattle.star_free_theory.specs.Construction.{join, join_finals, or_empty, construction}
use Rattle.star_free_theory.specs.Construction.{DenotesFinals}
use Rattle.star_free_theory.proofs.Whole.{among_count, count_among, length-count}
use Rattle.star_free_theory.proofs.Whole.{construction_right}
use Rattle.local_divisors.specs.declared.faults.SfFault.{SfFault}
use Rattle.star_free_lists.specs.SfList.{StarFreeList, IsSfList, most_nodes}
use Rattle.local_divisors.specs.Building.{Stops, joined_finals}
use Rattle.local_divisors.specs.Instances.{Multiplication, IsMultiplication, times}
use Rattle.local_divisors.specs.Tasks.{Flat, IsReady, AreShown}
use Rattle.local_divisors.specs.Constructing.{CanConstruct, IsAnswer, algebra_of, most_depth}
use Rattle.local_divisors.proofs.Steps.{at_err, stops_bind}
use Rattle.local_divisors.proofs.Alike.{generated_same}
use Rattle.local_divisors.proofs.Choosing.{all_among, among_all}
use Rattle.local_divisors.proofs.Sizes.{few_construction}

-- ## Counting

count_push : (a n : ℕ) → count_from a (suc n) ≡ count_from a n ++ (a + n) ∷ []
count_push a zero = rw add-zero refl
count_push a (suc n) = ap (λ (xs : List ℕ). a ∷ xs) (count_push (suc a) n
    ∙ ap (λ (z : ℕ). count_from (suc a) n ++ z ∷ []) (let e : suc a + n ≡ a + suc n = omega arith in
    e))

pub count_more : (n : ℕ) → count_from 0 (n + 1) ≡ count_from 0 n ++ n ∷ []
count_more n =
    let e : n + 1 ≡ suc n = omega arith in
    let f : 0 + n ≡ n = omega arith in
    ap (count_from 0) e ∙ count_push 0 n ∙ ap (λ (z : ℕ). count_from 0 n ++ z ∷ []) f

count_at : (a n y d : ℕ) → y < n → get_or (count_from a n) y d ≡ a + y
count_at a zero y d l = absurd (omega arith)
count_at a (suc n) zero d l = rw add-zero refl
count_at a (suc n) (suc y) d l = count_at (suc a) n y d (omega arith)
    ∙ (let e : suc a + y ≡ a + suc y = omega arith in e)

pub count_index : (n y : ℕ) → y < n → slice_index (count_from 0 n) y ≡ y
count_index n y l = count_at 0 n y 0 l ∙ (let e : 0 + y ≡ y = omega arith in e)

pub count_all : (n : ℕ) → All (λ x. x < n) (count_from 0 n)
count_all n = among_all n (count_from 0 n) (λ x i. let z = (among_count 0 n x i).1 in omega arith)

-- ## Exits

pub stops_answer : {A : Type 0} (o : Outcome (List SfNode × A))
    (f : List SfNode × A → Outcome (List SfNode × ℕ)) (p : Outcome (List SfNode × ℕ)) (e : SfFault)
    (r : Result StarFreeList SfFault)
    → p ≡ bind o f → Stops o e → IsErrAnd r (λ x. x ≡ e) → IsAnswer p r
stops_answer o f p e r q h i = at_err (IsAnswer p) e r i (stops_bind o f p e q h)

-- the same of the last step
pub stops_last : (o p : Outcome (List SfNode × ℕ)) (e : SfFault) (r : Result StarFreeList SfFault)
    → p ≡ o → Stops o e → IsErrAnd r (λ x. x ≡ e) → IsAnswer p r
stops_last o p e r q h i = at_err (IsAnswer p) e r i (subst (λ z. Stops z e) (sym q) h)

-- ## The whole monoid

joins_same : (most : Option ℕ) (E F : ℕ → ℕ) (ps : List ℕ) (s : Option ℕ) (xs : List SfNode)
    → ((p : ℕ) → Among ps p → E p ≡ F p) → join_finals most E ps s xs ≡ join_finals most F ps s xs
joins_same most E F [] s xs h = refl
joins_same most E F (p ∷ ps) s xs h =
    ap (λ (z : ℕ). bind (join most s xs z) (λ o. join_finals most E ps (Some o.1) o.0))
    (h p (inl refl))
    ∙ ap (λ (k : List SfNode × ℕ → Outcome (List SfNode × Option ℕ)). bind (join most s xs (F p)) k)
    (λ j o. joins_same most E F ps (Some o.1) o.0 (λ q i. h q (inr i)) j)

module _ (t : ProductTable) (images finals : List ℕ) (most : ℕ) (h : CanConstruct t images finals
    most) where
  abbrev k : ℕ
  k = length images

  abbrev A : Algebra
  A = algebra_of t images

  abbrev pub whole_multiplication : Multiplication
  whole_multiplication = record { table = t; factors = count_from 0 t.side }

  abbrev pub whole_flat : List ℕ → Flat
  whole_flat ns = record {
    elements = count_from 0 t.side;
    identity = 0;
    letters = count_from 0 k;
    images = images;
    nodes = ns;
    universe = 1;
  }

  element : (x : ℕ) → x < t.side → Among A.elements x
  element x l = count_among 0 t.side x (omega arith) (omega arith)

  below : (x : ℕ) → Among A.elements x → x < t.side
  below x i = let z = (among_count 0 t.side x i).1 in omega arith

  product_is : (x y : ℕ) → y < t.side → times whole_multiplication x y ≡ cell t x y
  product_is x y l = ap (cell t x) (count_index t.side y l)

  pub is_multiplication : IsMultiplication whole_multiplication
  is_multiplication = record {
    closed = λ x y i j. below (cell t x y) (h.algebra.generated.monoid.mul_in x y (element x i)
        (element y j));
    long = length-count 0 t.side;
    within = λ y l. subst (λ (z : ℕ). z < t.side) (sym (count_index t.side y l)) l;
  }

  image_below : (a : ℕ) → a < k → slice_index images a < t.side
  image_below a l = below (slice_index images a) (h.algebra.generated.images a
      (count_among 0 k a (omega arith) (omega arith)))

  pub whole_ready : (ns : List ℕ) → length ns ≡ k → IsReady whole_multiplication (whole_flat ns)
  whole_ready ns e = record {
    generated = generated_same A.elements (count_from 0 k) (cell t) (times whole_multiplication) 0
        (slice_index images) (slice_index images) h.algebra.generated
        (record { product = λ x y i j. sym (product_is x y (below y j)); image = λ a i. refl });
    elements_within = count_all t.side;
    letters_within = count_all k;
    images_within = λ a d l. subst (λ (z : ℕ). z < t.side) (sym (get_or_default images a d 0 l))
        (image_below a l);
    nodes_long = e;
  }

  pub whole_shown : (ns : List ℕ) (L : ℕ → ℕ) → length ns ≡ k
      → ((a : ℕ) → a < length ns → L a ≡ slice_index ns a)
      → AreShown whole_multiplication (whole_flat ns) (cell t) (slice_index images) L
  whole_shown ns L e f = record {
    products = λ x y i j. product_is x y (below y j);
    images = λ a i. refl;
    nodes = λ a i. f a (let z = (among_count 0 k a i).1 in omega arith);
  }

  -- what is left when the letters have nodes, and when the elements have
  abbrev pub after_elements : List SfNode × (ℕ → ℕ) → Outcome (List SfNode × ℕ)
  after_elements e = joined_finals (Some most) e.1 finals e.0

  abbrev pub after_letters : List SfNode × (ℕ → ℕ) → Outcome (List SfNode × ℕ)
  after_letters ls = bind (treat_within (Some most) most_depth ls.0 (whole_task k A ls.1))
      after_elements

  abbrev pub whole : Outcome (List SfNode × ℕ)
  whole = construction (Some most) most_depth k A finals

  pub finals_step : (table : List ℕ) (E : ℕ → ℕ) → length table ≡ t.side
      → ((x : ℕ) → x < length table → E x ≡ slice_index table x) → (xs : List SfNode)
      → after_elements (xs, E) ≡ joined_finals (Some most) (slice_index table) finals xs
  finals_step table E e f xs = ap (λ (o : Outcome (List SfNode × Option ℕ)). bind o
      (λ r. done (r.0, or_empty r.1)))
      (joins_same (Some most) E (slice_index table) finals None xs
      (λ q i. f q (let z = all_among t.side finals q h.within i in omega arith)))

  finals_in : (q : ℕ) → Among finals q → Among A.elements q
  finals_in q i = element q (all_among t.side finals q h.within i)

  pub denotes : (r : List SfNode × ℕ) → whole ≡ done r → DenotesFinals k A finals r.0 r.1
  denotes r e = record {
    words = ((construction_right k (Some most) most_depth A finals h.algebra
        finals_in).right r e).stands.means;
  }

  pub is_list : (r : List SfNode × ℕ) → whole ≡ done r → IsStarFreeList r.0 r.1
  is_list r e =
      let q = (construction_right k (Some most) most_depth A finals h.algebra finals_in).right r e
      in
      record { earlier = q.begun.earlier; inside = q.stands.there }

  pub is_small_list : (r : List SfNode × ℕ) → whole ≡ done r
      → IsSfList (record { nodes = r.0; root = r.1 })
  is_small_list r e = record {
    list = is_list r e;
    few = few_construction most most_nodes h.few most_depth k A finals (omega arith) r e;
  }
