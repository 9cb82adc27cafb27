-- Both instances made from one in flat tables are ready, and show those of the construction.
use Rattle.std.proofs.Common.{◌≡◌, ◌∙◌, ◌<◌, ℕ, List, [], ◌∷◌, length, slice_index, get_or, sym, ap}
use Rattle.std.proofs.Common.{subst, arith, refl, true}
use Rattle.std.proofs.lemmas.List.{get_or_default}
use Rattle.parallel_table.specs.ProductTables.{cell}
use Rattle.star_free_theory.specs.Instance.{Among, AllAmong, value, IsGenerated, Instance}
use Rattle.star_free_theory.specs.Construction.{without, span, local_elements, local_product, Task}
use Rattle.star_free_theory.specs.Construction.{chosen, submonoid, divisor, first_task, second_task}
use Rattle.star_free_theory.proofs.LocalDivisor.{local_ends, local_begins}
use Rattle.star_free_theory.proofs.FiniteLists.{without_among, keep_among, among_keep, among_local}
use Rattle.star_free_theory.proofs.FiniteLists.{local_product_joins}
use Rattle.star_free_theory.proofs.Parts.{IsSpan}
use Rattle.star_free_theory.proofs.Spans.{span_spans}
use Rattle.star_free_theory.proofs.Fits.{first_generated, second_generated, span_in}
use Rattle.star_free_theory.proofs.Treating.{locals_in}
use Rattle.local_divisors.specs.Instances.{Multiplication, IsMultiplication, times, middle}
use Rattle.local_divisors.specs.Instances.{AreMiddles, AreLocalFactors}
use Rattle.local_divisors.specs.Tasks.{Flat, IsReady, AreShown, task_with}
use Rattle.local_divisors.proofs.Alike.{Agree, value_same, generated_same, local_elements_same}
use Rattle.local_divisors.proofs.Alike.{first_other_same, span_keeps, marks_span}
use Rattle.local_divisors.proofs.Choosing.{all_among, among_all, letter, letter_in, image_in}
use Rattle.local_divisors.proofs.Choosing.{image_within, choice_spans}

-- an instance with these and no words
abbrev bare : List ℕ → List ℕ → (ℕ → ℕ → ℕ) → ℕ → (ℕ → ℕ) → Instance
bare els letters mul one img = record {
  elements = els;
  product = mul;
  identity = one;
  letters =
      letters;
  image = img;
  language = λ a w. ⊥;
  universe = λ w. ⊥;
}

module _ (p : Multiplication) (t : Flat) (h : IsReady p t) (many : ¬ (length t.elements ≡ 1)) where
  abbrev pub c : ℕ
  c = letter p t h many

  abbrev pub m : ℕ
  m = slice_index t.images c

  abbrev pub os : List ℕ
  os = without c t.letters

  abbrev pub sub : List ℕ
  sub = span (times p) t.identity (slice_index t.images) os t.elements

  abbrev pub div : List ℕ
  div = local_elements (times p) m t.elements

  pub sub_in : (x : ℕ) → Among sub x → Among t.elements x
  sub_in = span_in (bare t.elements t.letters (times p) t.identity (slice_index t.images))
      h.generated c (letter_in p t h many) sub (choice_spans p t h many)

  pub div_in : (x : ℕ) → Among div x → Among t.elements x
  div_in = locals_in (times p) m t.elements

  pub first_ready : (u : ℕ) → IsReady p (record {
    elements = sub;
    identity = t.identity;
    letters =
        os;
    images = t.images;
    nodes = t.nodes;
    universe = u;
  })
  first_ready u = record {
    generated = first_generated (bare t.elements t.letters (times p) t.identity
        (slice_index t.images)) h.generated c (letter_in p t h many) sub (choice_spans p t h many);
    elements_within = among_all p.table.side sub (λ x i. all_among p.table.side t.elements x
        h.elements_within (sub_in x i));
    letters_within = among_all (length t.images) os (λ a i. all_among (length t.images) t.letters a
        h.letters_within (without_among c t.letters a i).0);
    images_within = h.images_within;
    nodes_long = h.nodes_long;
  }

  -- functions that the tables show
  module _ (mul : ℕ → ℕ → ℕ) (img nod : ℕ → ℕ) (s : AreShown p t mul img nod) where
    abbrev pub T : Task
    T = task_with t mul img nod

    agree : Agree t.elements t.letters (times p) mul (slice_index t.images) img
    agree = record { product = s.products; image = s.images }

    generated : IsGenerated t.elements t.letters mul t.identity img
    generated = generated_same t.elements t.letters (times p) mul t.identity (slice_index t.images)
        img h.generated agree

    pub chosen_is : chosen T ≡ c
    chosen_is = sym (first_other_same (slice_index t.images) img t.identity t.letters s.images)

    pub image_is : img c ≡ m
    image_is = sym (s.images c (letter_in p t h many))

    T_spans : IsSpan mul t.identity img os (span mul t.identity img os t.elements)
    T_spans = span_spans mul t.identity img os t.elements generated.monoid generated.distinct
        (λ a i. generated.images a (without_among c t.letters a i).0)

    others_all : (ls : List ℕ) → AllAmong os ls → AllAmong t.letters ls
    others_all [] i = tt
    others_all (a ∷ ls) i = ((without_among c t.letters a i.0).0, others_all ls i.1)

    values : (ls : List ℕ) → AllAmong os ls → value (times p) t.identity (slice_index t.images) ls
        ≡ value mul t.identity img ls
    values ls i = (value_same t.elements t.letters (times p) mul t.identity (slice_index t.images)
        img h.generated agree ls (others_all ls i)).0

    spans_same : sub ≡ span mul t.identity img os t.elements
    unfolding span
    spans_same =
        let k = span_keeps (times p) t.identity (slice_index t.images) os t.elements
        (length t.elements) in
        k.1 ∙ marks_span mul t.identity img os t.elements k.0 T_spans
        (λ x i e. let r = (choice_spans p t h many).spelled x (subst (λ zs. Among zs x) (sym k.1)
        (among_keep k.0 t.elements x i e)) in (r.0, r.1, sym (values r.0 r.1) ∙ r.2))
        (λ ls i. subst (λ (z : ℕ). k.0 z ≡ true) (values ls i) (keep_among k.0 t.elements
        (value (times p) t.identity (slice_index t.images) ls)
        (subst (λ zs. Among zs (value (times p) t.identity (slice_index t.images) ls)) k.1
        ((choice_spans p t h many).holds ls i))).1)

    pub submonoid_is : submonoid T ≡ sub
    submonoid_is = ap (λ (z : ℕ). span mul t.identity img (without z t.letters) t.elements)
        chosen_is ∙ sym spans_same

    pub divisor_is : divisor T ≡ div
    divisor_is = ap (λ (z : ℕ). local_elements mul (img z) t.elements) chosen_is
        ∙ ap (λ (z : ℕ). local_elements mul z t.elements) image_is
        ∙ sym (local_elements_same t.elements t.letters (times p) mul t.identity
        (slice_index t.images) img h.generated agree m (image_in p t h many))

    pub first_shown : (u : ℕ)
        → AreShown p (record {
          elements = sub;
          identity = t.identity;
          letters = os;
          images =
              t.images;
          nodes = t.nodes;
          universe = u;
        }) mul img nod
    first_shown u = record {
      products = λ x y i j. s.products x y (sub_in x i) (sub_in y j);
      images = λ a i. s.images a (without_among c t.letters a i).0;
      nodes = λ a i. s.nodes a (without_among c t.letters a i).0;
    }

    pub first_is : (u : ℕ)
        → first_task T u ≡ task_with (record {
          elements = sub;
          identity = t.identity;
          letters =
              os;
          images = t.images;
          nodes = t.nodes;
          universe = u;
        }) mul img nod
    first_is u =
        ap (λ (z : ℕ). let r : Task = record {
          elements = submonoid T;
          product = mul;
          identity =
              t.identity;
          letters = without z t.letters;
          image = img;
          node = nod;
          universe = u;
        } in r)
        chosen_is
        ∙ ap (λ (zs : List ℕ). let r : Task = record {
          elements = zs;
          product = mul;
          identity =
              t.identity;
          letters = os;
          image = img;
          node = nod;
          universe = u;
        } in r) submonoid_is

    -- the local product
    module _ (factors : List ℕ) (f : AreLocalFactors p m t.elements factors) where
      abbrev pub q : Multiplication
      q = record { table = p.table; factors = factors }

      pub local_times : (x y : ℕ) → Among div x → Among div y
          → times q x y ≡ local_product mul m t.elements x y
      local_times x y i j =
          let ij = image_in p t h many in
          let lx = subst (λ zs. Among zs x) (local_elements_same t.elements t.letters (times p) mul
          t.identity (slice_index t.images) img h.generated agree m ij) i in
          let ly = subst (λ zs. Among zs y) (local_elements_same t.elements t.letters (times p) mul
          t.identity (slice_index t.images) img h.generated agree m ij) j in
          let a = local_ends (Among t.elements) mul t.identity generated.monoid m ij x
          (among_local t.elements mul t.identity generated.monoid m ij x lx) in
          let b = local_begins (Among t.elements) mul t.identity generated.monoid m ij y
          (among_local t.elements mul t.identity generated.monoid m ij y ly) in
          let g = f.found b.0 b.1 in
          let z = g.0 in
          let e1 : times p m b.0 ≡ y = s.products m b.0 ij b.1 ∙ sym b.2 in
          let e2 : mul m z ≡ y = sym (s.products m z ij g.1) ∙ g.2 ∙ e1 in
          let e3 : slice_index factors y ≡ slice_index p.factors z = ap (slice_index factors)
          (sym e1) ∙ g.3 in
          let l = (local_product_joins t.elements mul t.identity generated.monoid m ij).joins a.0 z
          a.1 g.1 in
          ap (cell p.table x) e3 ∙ s.products x z (div_in x i) g.1
          ∙ ap (λ (w : ℕ). mul w z) a.2 ∙ sym l
          ∙ ap (λ (w : ℕ). local_product mul m t.elements w (mul m z)) (sym a.2)
          ∙ ap (local_product mul m t.elements x) e2

  own_shown : AreShown p t (times p) (slice_index t.images) (slice_index t.nodes)
  own_shown = record { products = λ x y i j. refl; images = λ a i. refl; nodes = λ a i. refl }

  module _ (wf : IsMultiplication p) (factors middles nodes : List ℕ) (f : AreLocalFactors p m
      t.elements factors) (g : AreMiddles p m middles) (long : length nodes ≡ p.table.side) where
    abbrev pub q2 : Multiplication
    q2 = record { table = p.table; factors = factors }

    pub local_multiplication : IsMultiplication q2
    local_multiplication = record { closed = wf.closed; long = f.long; within = f.within }

    abbrev pub second_flat : ℕ → Flat
    second_flat u = record {
      elements = div;
      identity = m;
      letters = sub;
      images = middles;
      nodes =
          nodes;
      universe = u;
    }

    sub_within : (x : ℕ) → Among sub x → x < p.table.side
    sub_within x i = all_among p.table.side t.elements x h.elements_within (sub_in x i)

    times_within : (x y : ℕ) → x < p.table.side → y < p.table.side → times p x y < p.table.side
    times_within x y i j = wf.closed x (slice_index p.factors y) i (wf.within y j)

    pub second_ready : (u : ℕ) → IsReady q2 (second_flat u)
    second_ready u =
        let ij = image_in p t h many in
        let im = image_within p t h many in
        record {
          generated = generated_same div sub (local_product (times p) m t.elements) (times q2) m
              (middle p m) (slice_index middles)
              (second_generated (bare t.elements t.letters (times p) t.identity
              (slice_index t.images)) h.generated c (letter_in p t h many) sub
              (choice_spans p t h many))
              (record {
                product = λ x y i j. sym (local_times (times p) (slice_index t.images)
                    (slice_index t.nodes) own_shown factors f x y i j);
                image =
                    λ a i. sym (g.each a (sub_within a i));
              });
          elements_within = among_all p.table.side div (λ x i. all_among p.table.side t.elements x
              h.elements_within (div_in x i));
          letters_within = among_all (length middles) sub (λ x i. let l = sub_within x i in let e =
              g.long in omega arith);
          images_within = λ k d l.
              let b : k < p.table.side = let e = g.long in omega arith in
              let e = g.each k b in
              let w = times_within (times p m k) m (times_within m k im b) im in
              let n : get_or middles k d ≡ slice_index middles k = get_or_default middles k d 0 l in
              omega arith;
          nodes_long = long ∙ sym g.long;
        }

    pub second_shown : (mul : ℕ → ℕ → ℕ) (img nod : ℕ → ℕ) (s : AreShown p t mul img nod)
        (B : ℕ → ℕ) → ((a : ℕ) → a < length nodes → B a ≡ slice_index nodes a) → (u : ℕ)
        → AreShown q2 (second_flat u) (local_product mul m t.elements) (λ x. mul (mul m x) m) B
    second_shown mul img nod s B e u = record {
      products = local_times mul img nod s factors f;
      images = λ a i. g.each a (sub_within a i)
          ∙ ap (λ (z : ℕ). times p z m) (s.products m a (image_in p t h many) (sub_in a i))
          ∙ s.products (mul m a) m ((generated mul img nod s).monoid.mul_in m a
          (image_in p t h many) (sub_in a i)) (image_in p t h many);
      nodes = λ a i. e a (let l = sub_within a i in omega arith);
    }

    pub second_is : (mul : ℕ → ℕ → ℕ) (img nod : ℕ → ℕ) (s : AreShown p t mul img nod) (B : ℕ → ℕ)
        (u : ℕ)
        → second_task (task_with t mul img nod) B u ≡ task_with (second_flat u)
        (local_product mul m t.elements) (λ x. mul (mul m x) m) B
    second_is mul img nod s B u =
        ap (λ (z : ℕ). let r : Task = record {
          elements = divisor (task_with t mul img nod);
          product = local_product mul z t.elements;
          identity = z;
          letters =
              submonoid (task_with t mul img nod);
          image = λ x. mul (mul z x) z;
          node = B;
          universe =
              u;
        } in r) (ap img (chosen_is mul img nod s) ∙ image_is mul img nod s)
        ∙ ap (λ (zs : List ℕ). let r : Task = record {
          elements = zs;
          product = local_product mul m
              t.elements;
          identity = m;
          letters = submonoid (task_with t mul img nod);
          image =
              λ x. mul (mul m x) m;
          node = B;
          universe = u;
        } in r) (divisor_is mul img nod s)
        ∙ ap (λ (zs : List ℕ). let r : Task = record {
          elements = div;
          product = local_product mul m
              t.elements;
          identity = m;
          letters = zs;
          image = λ x. mul (mul m x) m;
          node =
              B;
          universe = u;
        } in r) (submonoid_is mul img nod s)
