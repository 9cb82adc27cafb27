-- What treating an instance comes to after each of its steps, in flat tables.
use Rattle.std.proofs.Common.{Result, ◌≡◌, ◌∙◌, ◌<◌, ℕ, suc, true, false, eqb}
use Rattle.std.proofs.Common.{List, length, slice_index, All, sym, ap, subst, refl, inl, inr, arith}
use Rattle.std.proofs.Common.{Option}
use Rattle.std.specs.Result.{IsErrAnd}
use Rattle.std.proofs.lemmas.Bool.Decides.{eqb_tells}
use Rattle.star_free_theory.specs.declared.nodes.SfNode.{SfNode}
use Rattle.star_free_theory.specs.declared.nodes.SfNode.TheVariants as node
use Rattle.star_free_theory.specs.Construction.{Outcome, Treating, Task, bind, done, depth, nodes}
use Rattle.star_free_theory.specs.Construction.{each, take as taking, free, opened, is_none_left}
use Rattle.star_free_theory.specs.Construction.{without, treat, treat_within, treat_second}
use Rattle.star_free_theory.specs.Construction.{treat_ends, treat_whole, first_task, second_task}
use Rattle.star_free_theory.specs.Construction.{local_product, local_elements, span, submonoid}
use Rattle.star_free_theory.specs.Construction.{chosen}
use Rattle.local_divisors.specs.declared.faults.SfFault.{SfFault}
use Rattle.local_divisors.specs.Building.{AnswersAs, Stops}
use Rattle.local_divisors.specs.Instances.{Multiplication, IsMultiplication, times}
use Rattle.local_divisors.specs.Instances.{AreLocalFactors, AreMiddles}
use Rattle.local_divisors.specs.Tasks.{Flat, IsReady, AreShown, task_with}
use Rattle.local_divisors.specs.Finishing.{CanFinish, finished}
use Rattle.local_divisors.specs.Recursion.{CanDivide, IsSecond, first_flat}
use Rattle.local_divisors.specs.Recursion.{second_flat, second_nodes}
use Rattle.local_divisors.proofs.Steps.{at_err, stops_bind, bind_done}
use Rattle.local_divisors.proofs.Choosing.{all_among, among_all, letter_in}
use Rattle.local_divisors.proofs.Choosing.{letter_within as chosen_within}
use Rattle.local_divisors.proofs.Choosing.{image_within as chosen_image}
use Rattle.local_divisors.proofs.Finishing.{each_same, finished_is}
use Rattle.local_divisors.proofs.Making as making

-- a step that stops ends one that gives a value in a relation
pub stops_to : {A B V : Type 0} (R : V → B → Type 0) (o : Outcome (List SfNode × A))
    (f : List SfNode × A → Outcome (List SfNode × B)) (p : Outcome (List SfNode × B))
    (other : List SfNode) (e : SfFault) (r : Result V SfFault)
    → p ≡ bind o f → Stops o e → IsErrAnd r (λ x. x ≡ e) → AnswersAs R p other r
stops_to R o f p other e r q h i = at_err (AnswersAs R p other) e r i (stops_bind o f p e q h)

-- a step that does no more than another stops as it does
pub stops_own : {A V : Type 0} (R : V → A → Type 0) (o p : Outcome (List SfNode × A))
    (other : List SfNode) (e : SfFault) (r : Result V SfFault)
    → p ≡ o → Stops o e → IsErrAnd r (λ x. x ≡ e) → AnswersAs R p other r
stops_own R o p other e r q h i =
    at_err (AnswersAs R p other) e r i (subst (λ z. Stops z e) (sym q) h)

bind_bind : {A B C : Type 0} (o : Outcome A) (f : A → Outcome B) (g : B → Outcome C)
    → bind (bind o f) g ≡ bind o (λ a. bind (f a) g)
unfolding bind
bind_bind (done a) f g = refl
bind_bind depth f g = refl
bind_bind nodes f g = refl

bind_map : {A B C : Type 0} (o : Outcome A) (h : A → B) (g : B → Outcome C)
    → bind (bind o (λ a. done (h a))) g ≡ bind o (λ a. g (h a))
unfolding bind
bind_map (done a) h g = refl
bind_map depth h g = refl
bind_map nodes h g = refl

bind_two : {A B C D : Type 0} (o : Outcome A) (g : A → Outcome B) (h : A → B → C)
    (f : C → Outcome D)
    → bind (bind o (λ a. bind (g a) (λ b. done (h a b)))) f
    ≡ bind o (λ a. bind (g a) (λ b. f (h a b)))
unfolding bind
bind_two (done a) g h f = bind_map (g a) (h a) f
bind_two depth g h f = refl
bind_two nodes g h f = refl

-- ## The ends of the recursion

pub at_zero : (most : Option ℕ) (d : ℕ) (xs : List SfNode) (T : Task) → d ≡ 0
    → treat_within most d xs T ≡ depth
unfolding treat_within
at_zero most d xs T e = ap (λ z. treat_within most z xs T) e

pub at_one : (most : Option ℕ) (n : ℕ) (xs : List SfNode) (T : Task) → eqb (length T.elements) 1
    ≡ true → treat_within most (suc n) xs T ≡ done (xs, λ p. T.universe)
unfolding treat_within
at_one most n xs T e = rw (e, treat_within) refl

pub not_one : (n : ℕ) → eqb n 1 ≡ false → ¬ (n ≡ 1)
not_one n e = elim (eqb_tells n 1) [
  | inl d ↦ absurd (let g : true ≡ false = sym d.0 ∙ e in cc)
  | inr d ↦ d.1
]

at_more : (most : Option ℕ) (n : ℕ) (xs : List SfNode) (T : Task) → ¬ (length T.elements ≡ 1)
    → treat_within most (suc n) xs T ≡ treat most (treat_within most n) xs T
unfolding treat_within
at_more most n xs T h = elim (eqb_tells (length T.elements) 1) [
  | inl d ↦ absurd (h d.1)
  | inr d ↦ rw (d.0, treat_within) refl
]

-- ## Both instances

module _ (p : Multiplication) (t : Flat) (h : IsReady p t) (many : ¬ (length t.elements ≡ 1))
    (mul : ℕ → ℕ → ℕ) (img nod : ℕ → ℕ) (s : AreShown p t mul img nod) (most : Option ℕ) (n : ℕ)
  where
    abbrev c : ℕ
    c = making.c p t h many

    abbrev os : List ℕ
    os = making.os p t h many

    abbrev sub : List ℕ
    sub = making.sub p t h many

    abbrev T : Task
    T = task_with t mul img nod

    abbrev rec : Treating
    rec = treat_within most n

    -- what follows both instances, and what follows the first
    abbrev last : (ℕ → ℕ) → List SfNode × ((ℕ → ℕ) × (ℕ → ℕ)) → Outcome (List SfNode × (ℕ → ℕ))
    last E r = bind (treat_ends most r.1.0 r.1.1 r.0 T) (λ g. treat_whole most E g.1 g.0 T)

    abbrev rest : List SfNode × (ℕ → ℕ) → Outcome (List SfNode × (ℕ → ℕ))
    rest e = bind (treat_second most rec e.1 e.0 T) (last e.1)

    chosen_is : chosen T ≡ c
    chosen_is = making.chosen_is p t h many mul img nod s

    node_is : nod c ≡ slice_index t.nodes c
    node_is = s.nodes c (letter_in p t h many)

    own_first_step : (xs : List SfNode) → treat_within most (suc n) xs T
        ≡ bind (free most (is_none_left os) xs (slice_index t.nodes c) t.universe)
        (λ b. bind (rec b.0 (task_with (first_flat t os sub b.1) mul img nod)) rest)
    own_first_step xs =
        at_more most n xs T many
        ∙ bind_bind (free most (is_none_left (without (chosen T) t.letters)) xs (nod (chosen T))
        t.universe) (λ b. rec b.0 (first_task T b.1)) rest
        ∙ ap (λ (z : ℕ). bind (free most (is_none_left (without z t.letters)) xs (nod z) t.universe)
        (λ b. bind (rec b.0 (first_task T b.1)) rest)) chosen_is
        ∙ ap (λ (z : ℕ). bind (free most (is_none_left os) xs z t.universe)
        (λ b. bind (rec b.0 (first_task T b.1)) rest)) node_is
        ∙ ap (λ (k : List SfNode × ℕ → Outcome (List SfNode × (ℕ → ℕ))). bind
        (free most (is_none_left os) xs (slice_index t.nodes c) t.universe) k)
        (λ j b. bind (rec b.0 (making.first_is p t h many mul img nod s b.1 j)) rest)

    module _ (e : List ℕ) (E : ℕ → ℕ) (long : length e ≡ p.table.side) (told : (x : ℕ) → x < length
        e
        → E x ≡ slice_index e x) where
      letters_same : (xs : List SfNode)
          → each (λ ys x. taking most ys (node.Cat (nod (chosen T)) (E x))) (submonoid T) (λ x. 0)
          xs
          ≡ each (λ ys x. taking most ys (node.Cat (slice_index t.nodes c) (slice_index e x))) sub
          (λ x. 0) xs
      letters_same xs =
          ap (λ (z : ℕ). each (λ ys x. taking most ys (node.Cat (nod z) (E x))) (submonoid T)
          (λ x. 0)
          xs) chosen_is
          ∙ ap (λ (z : ℕ). each (λ ys x. taking most ys (node.Cat z (E x))) (submonoid T) (λ x. 0)
          xs)
          node_is
          ∙ ap (λ (zs : List ℕ). each (λ ys x. taking most ys (node.Cat (slice_index t.nodes c)
          (E x))) zs (λ x. 0) xs) (making.submonoid_is p t h many mul img nod s)
          ∙ each_same (λ ys x. taking most ys (node.Cat (slice_index t.nodes c) (E x)))
          (λ ys x. taking most ys (node.Cat (slice_index t.nodes c) (slice_index e x))) sub
          (λ x. 0) xs
          (λ ys x i. ap (λ (z : ℕ). taking most ys (node.Cat (slice_index t.nodes c) z))
          (told x (let l = all_among p.table.side sub x (making.first_ready p t h many
          0).elements_within i in omega arith)))

      -- the second instance from the nodes of its letters and its universe
      abbrev begun : List SfNode × ((ℕ → ℕ) × ℕ) → Outcome (List SfNode × ((ℕ → ℕ) × (ℕ → ℕ)))
      begun r = bind (rec r.0 (second_task T r.1.0 r.1.1)) (λ f. done (f.0, (r.1.0, f.1)))

      second_same : (xs : List SfNode) → treat_second most rec E xs T
          ≡ bind (second_nodes most t c os sub e xs) begun
      second_same xs =
          ap (λ (z : ℕ). bind (opened most (is_none_left (without z t.letters)) xs (nod z)
          t.universe)
          (λ u. bind (each (λ ys x. taking most ys (node.Cat (nod (chosen T)) (E x)))
          (submonoid T) (λ x. 0) u.0) (λ b. begun (b.0, (b.1, u.1))))) chosen_is
          ∙ ap (λ (z : ℕ). bind (opened most (is_none_left os) xs z t.universe)
          (λ u. bind (each (λ ys x. taking most ys (node.Cat (nod (chosen T)) (E x)))
          (submonoid T) (λ x. 0) u.0) (λ b. begun (b.0, (b.1, u.1))))) node_is
          ∙ ap (λ (k : List SfNode × ℕ → Outcome (List SfNode × ((ℕ → ℕ) × (ℕ → ℕ)))). bind
          (opened most (is_none_left os) xs (slice_index t.nodes c) t.universe) k)
          (λ j u. bind (letters_same u.0 j) (λ b. begun (b.0, (b.1, u.1))))
          ∙ sym (bind_two (opened most (is_none_left os) xs (slice_index t.nodes c) t.universe)
          (λ u. each (λ ys x. taking most ys (node.Cat (slice_index t.nodes c) (slice_index e x)))
          sub (λ x. 0) u.0) (λ u b. (b.0, (b.1, u.1))) begun)

      own_second_step : (xs : List SfNode) → rest (xs, E) ≡ bind (second_nodes most t c os sub e xs)
          (λ r. bind (rec r.0 (second_task T r.1.0 r.1.1)) (λ f. last E (f.0, (r.1.0, f.1))))
      own_second_step xs =
          ap (λ (o : Outcome (List SfNode × ((ℕ → ℕ) × (ℕ → ℕ)))). bind o (last E)) (second_same xs)
          ∙ bind_bind (second_nodes most t c os sub e xs) begun (last E)
          ∙ ap (λ (k : List SfNode × ((ℕ → ℕ) × ℕ) → Outcome (List SfNode × (ℕ → ℕ))). bind
          (second_nodes most t c os sub e xs) k)
          (λ j r. bind_map (rec r.0 (second_task T r.1.0 r.1.1)) (λ f. (f.0, (r.1.0, f.1)))
          (last E) j)

-- ## With what was chosen

module _ (p : Multiplication) (t : Flat) (l : ℕ) (os S D : List ℕ) (k : CanDivide p t l os S D)
  where
    abbrev Chosen : Type 0
    Chosen = ℕ × List ℕ × List ℕ × List ℕ

    abbrev chosen_ones : Chosen
    chosen_ones = (
      making.c p t k.ready k.many,
      making.os p t k.ready k.many,
      making.sub p t k.ready
          k.many,
      making.div p t k.ready k.many,
    )

    abbrev given_ones : Chosen
    given_ones = (l, os, S, D)

    own : chosen_ones ≡ given_ones
    own =
        let el : l ≡ making.c p t k.ready k.many = k.chosen.letter_is in
        let eo : os ≡ making.os p t k.ready k.many = k.chosen.others_are
        ∙ ap (λ (z : ℕ). without z t.letters) el in
        let es : S ≡ making.sub p t k.ready k.many = k.chosen.submonoid_is
        ∙ ap (λ (zs : List ℕ). span (times p) t.identity (slice_index t.images) zs t.elements) eo
        in
        let ed : D ≡ making.div p t k.ready k.many = k.chosen.divisor_is
        ∙ ap (λ (z : ℕ). local_elements (times p) (slice_index t.images z) t.elements) el in
        λ j. (sym el j, sym eo j, sym es j, sym ed j)

    pub first_ready : (u : ℕ) → IsReady p (first_flat t os S u)
    first_ready u = subst (λ (z : Chosen). IsReady p (first_flat t z.1 z.2 u)) own
        (making.first_ready p t k.ready k.many u)

    pub letter_within : l < length t.images
    letter_within = subst (λ (z : Chosen). z.0 < length t.images) own (chosen_within p t k.ready
        k.many)

    pub node_within : l < length t.nodes
    node_within = let e = k.ready.nodes_long in let g = letter_within in omega arith

    pub image_within : slice_index t.images l < p.table.side
    image_within = subst (λ (z : Chosen). slice_index t.images z.0 < p.table.side) own
        (chosen_image p t k.ready k.many)

    pub submonoid_within : All (λ x. x < p.table.side) S
    submonoid_within = (first_ready 0).elements_within

    pub divisor_within : All (λ x. x < p.table.side) D
    divisor_within = subst (λ (z : Chosen). All (λ x. x < p.table.side) z.3) own
        (among_all p.table.side (making.div p t k.ready k.many) (λ x i. all_among p.table.side
        t.elements x k.ready.elements_within (making.div_in p t k.ready k.many x i)))

    pub can_finish : (e b f : List ℕ) → length e ≡ p.table.side → length b ≡ p.table.side
        → length f ≡ p.table.side → CanFinish p.table.side t.elements S D e b f
    can_finish e b f le lb lf = record {
      elements_within = k.ready.elements_within;
      sub_within = submonoid_within;
      div_within = divisor_within;
      first_long = le;
      letters_long = lb;
      second_long = lf;
    }

    -- the second instance
    module _ (wf : IsMultiplication p) (nodes : List ℕ) (u : ℕ) (q : Multiplication) (s2 : Flat)
        (i : IsSecond p t l S D nodes u q s2) (long : length nodes ≡ p.table.side) where
      abbrev Made : Type 0
      Made = Multiplication × Flat

      abbrev made_ones : Made
      made_ones = (
        record { table = p.table; factors = i.factors },
        second_flat t l S D i.middles
            nodes u,
      )

      abbrev given_pair : Made
      given_pair = (q, s2)

      made : made_ones ≡ given_pair
      made = λ j. (sym i.product_is j, sym i.task_is j)

      factors_are : AreLocalFactors p (slice_index t.images (making.c p t k.ready k.many))
          t.elements
          i.factors
      factors_are = subst (λ (z : Chosen). AreLocalFactors p (slice_index t.images z.0) t.elements
          i.factors) (sym own) i.factors_are

      middles_are : AreMiddles p (slice_index t.images (making.c p t k.ready k.many)) i.middles
      middles_are = subst (λ (z : Chosen). AreMiddles p (slice_index t.images z.0) i.middles)
          (sym own) i.middles_are

      pub second_ready : IsReady q s2
      second_ready = subst (λ (z : Made). IsReady z.0 z.1) made
          (subst (λ (z : Chosen). IsReady (record { table = p.table; factors = i.factors })
          (second_flat t z.0 z.2 z.3 i.middles nodes u)) own
          (making.second_ready p t k.ready k.many wf i.factors i.middles nodes factors_are
          middles_are
          long u))

      pub second_side : q.table.side ≡ p.table.side
      second_side = ap (λ (m : Multiplication). m.table.side) i.product_is

      module _ (mul : ℕ → ℕ → ℕ) (img nod : ℕ → ℕ) (s : AreShown p t mul img nod) (B : ℕ → ℕ)
          (told : (x : ℕ) → x < length nodes → B x ≡ slice_index nodes x) where
        abbrev pub local : ℕ → ℕ → ℕ
        local = local_product mul (slice_index t.images l) t.elements

        abbrev pub middle : ℕ → ℕ
        middle x = mul (mul (slice_index t.images l) x) (slice_index t.images l)

        pub second_shown : AreShown q s2 local middle B
        second_shown = subst (λ (z : Made). AreShown z.0 z.1 local middle B) made
            (subst (λ (z : Chosen). AreShown (record { table = p.table; factors = i.factors })
            (second_flat t z.0 z.2 z.3 i.middles nodes u)
            (local_product mul (slice_index t.images z.0) t.elements)
            (λ x. mul (mul (slice_index t.images z.0) x) (slice_index t.images z.0)) B) own
            (making.second_shown p t k.ready k.many wf i.factors i.middles nodes factors_are
            middles_are long mul img nod s B told u))

        pub second_is : (v : ℕ) → v ≡ u → second_task (task_with t mul img nod) B v ≡ task_with s2
            local middle B
        second_is v e =
            ap (λ (z : ℕ). second_task (task_with t mul img nod) B z) e
            ∙ subst (λ (z : Chosen). second_task (task_with t mul img nod) B u
            ≡ task_with (second_flat t z.0 z.2 z.3 i.middles nodes u)
            (local_product mul (slice_index t.images z.0) t.elements)
            (λ x. mul (mul (slice_index t.images z.0) x) (slice_index t.images z.0)) B) own
            (making.second_is p t k.ready k.many wf i.factors i.middles nodes factors_are
            middles_are
            long mul img nod s B u)
            ∙ ap (λ (z : Made). task_with z.1 local middle B) made

    module _ (mul : ℕ → ℕ → ℕ) (img nod : ℕ → ℕ) (s : AreShown p t mul img nod) (most : Option ℕ)
        (n : ℕ) where
      abbrev pub after_first : List SfNode × (ℕ → ℕ) → Outcome (List SfNode × (ℕ → ℕ))
      after_first = rest p t k.ready k.many mul img nod s most n

      abbrev pub after_both : (ℕ → ℕ) → List SfNode × ((ℕ → ℕ) × (ℕ → ℕ))
          → Outcome (List SfNode × (ℕ → ℕ))
      after_both = last p t k.ready k.many mul img nod s most n

      pub first_shown : (u : ℕ) → AreShown p (first_flat t os S u) mul img nod
      first_shown u = subst (λ (z : Chosen). AreShown p (first_flat t z.1 z.2 u) mul img nod) own
          (making.first_shown p t k.ready k.many mul img nod s u)

      -- the first instance's universe comes first
      pub first_step : (xs : List SfNode) → treat_within most (suc n) xs (task_with t mul img nod)
          ≡ bind (free most (is_none_left os) xs (slice_index t.nodes l) t.universe)
          (λ b. bind (treat_within most n b.0 (task_with (first_flat t os S b.1) mul img nod))
          after_first)
      first_step xs = subst (λ (z : Chosen). treat_within most (suc n) xs (task_with t mul img nod)
          ≡ bind (free most (is_none_left z.1) xs (slice_index t.nodes z.0) t.universe)
          (λ b. bind (treat_within most n b.0 (task_with (first_flat t z.1 z.2 b.1) mul img nod))
          after_first)) own
          (own_first_step p t k.ready k.many mul img nod s most n xs)

      -- then that of the second, with the nodes of its letters
      pub second_step : (e : List ℕ) (E : ℕ → ℕ) → length e ≡ p.table.side
          → ((x : ℕ) → x < length e → E x ≡ slice_index e x) → (xs : List SfNode)
          → after_first (xs, E) ≡ bind (second_nodes most t l os S e xs)
          (λ r. bind (treat_within most n r.0 (second_task (task_with t mul img nod) r.1.0 r.1.1))
          (λ f. after_both E (f.0, (r.1.0, f.1))))
      second_step e E long told xs = subst (λ (z : Chosen). after_first (xs, E)
          ≡ bind (second_nodes most t z.0 z.1 z.2 e xs)
          (λ r. bind (treat_within most n r.0 (second_task (task_with t mul img nod) r.1.0 r.1.1))
          (λ f. after_both E (f.0, (r.1.0, f.1))))) own
          (own_second_step p t k.ready k.many mul img nod s most n e E long told xs)

      -- and then the pairs are joined
      pub last_step : (e b f : List ℕ) (E B F : ℕ → ℕ)
          → ((x : ℕ) → x < length e → E x ≡ slice_index e x)
          → ((x : ℕ) → x < length b → B x ≡ slice_index b x)
          → ((x : ℕ) → x < length f → F x ≡ slice_index f x)
          → CanFinish p.table.side t.elements S D e b f → (xs : List SfNode)
          → after_both E (xs, (B, F)) ≡ finished most p t.elements S D e b f xs
      last_step e b f E B F he hb hf c xs =
          let c2 : CanFinish p.table.side t.elements (making.sub p t k.ready k.many)
          (making.div p t k.ready k.many) e b f = subst (λ (z : Chosen). CanFinish p.table.side
          t.elements z.2 z.3 e b f) (sym own) c in
          subst (λ (z : Chosen). after_both E (xs, (B, F)) ≡ finished most p t.elements z.2 z.3 e b
          f
          xs) own
          (finished_is p t k.ready k.many mul img nod s most e b f E B F he hb hf c2 xs)

      -- the same with what the steps gave
      abbrev pub after_letters : (ℕ → ℕ) → List SfNode × ((ℕ → ℕ) × ℕ)
          → Outcome (List SfNode × (ℕ → ℕ))
      after_letters E r = bind (treat_within most n r.0 (second_task (task_with t mul img nod) r.1.0
          r.1.1)) (λ f. after_both E (f.0, (r.1.0, f.1)))

      pub universe_next : (d : ℕ) (xs : List SfNode) → suc n ≡ d
          → treat_within most d xs (task_with t mul img nod)
          ≡ bind (free most (is_none_left os) xs (slice_index t.nodes l) t.universe)
          (λ b. bind (treat_within most n b.0 (task_with (first_flat t os S b.1) mul img nod))
          after_first)
      universe_next d xs e = ap (λ (z : ℕ). treat_within most z xs (task_with t mul img nod))
          (sym e)
          ∙ first_step xs

      pub first_next : (d : ℕ) (xs ys : List SfNode) (u : ℕ) (f : Flat) → suc n ≡ d
          → free most (is_none_left os) xs (slice_index t.nodes l) t.universe ≡ done (ys, u)
          → f ≡ first_flat t os S u
          → treat_within most d xs (task_with t mul img nod)
          ≡ bind (treat_within most n ys (task_with f mul img nod)) after_first
      first_next d xs ys u f e g i =
          universe_next d xs e
          ∙ bind_done (free most (is_none_left os) xs (slice_index t.nodes l) t.universe) _ (ys, u)
          g
          ∙ ap (λ (z : Flat). bind (treat_within most n ys (task_with z mul img nod)) after_first)
          (sym i)

      pub letters_next : (whole first : Outcome (List SfNode × (ℕ → ℕ))) (zs : List SfNode)
          (e : List ℕ) (E : ℕ → ℕ) → whole ≡ bind first after_first → first ≡ done (zs, E)
          → length e ≡ p.table.side → ((x : ℕ) → x < length e → E x ≡ slice_index e x)
          → whole ≡ bind (second_nodes most t l os S e zs) (after_letters E)
      letters_next whole first zs e E w d long told = w ∙ bind_done first after_first (zs, E) d
          ∙ second_step e E long told zs
