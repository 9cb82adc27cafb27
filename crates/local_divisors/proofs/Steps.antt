-- Steps one after another: what is left to do from here comes to what the whole comes to.
use Rattle.std.proofs.Common.{◌≡◌, ◌<◌, ◌≤◌, ◌+◌, drop, get_or, length, set, replicate, slice_index}
use Rattle.std.proofs.Common.{arith, ◌∙◌, ℕ, eqb, inl, inr, List, Result, Ok, Err, Option, Some}
use Rattle.std.proofs.Common.{None, sym, ap, refl, subst}
use Rattle.std.proofs.lemmas.Bool.{cases_Bool}
use Rattle.std.proofs.lemmas.Bool.Decides.{eqb_tells}
use Rattle.std.proofs.lemmas.List.{drop_more, drop_all, get_or-replicate, length-replicate}
use Rattle.std.proofs.lemmas.List.{get_or-set_same, get_or-set_other, length-set}
use Rattle.std.specs.Result.{IsErrAnd}
use Rattle.star_free_theory.specs.declared.nodes.SfNode.{SfNode}
use Rattle.star_free_theory.specs.declared.nodes.SfNode.TheVariants as node
use Rattle.star_free_theory.specs.Construction.{Outcome, done, bind, take, put, place, join}
use Rattle.star_free_theory.specs.Construction.{join_finals, each, with}
use Rattle.local_divisors.specs.declared.faults.SfFault.{SfFault}
use Rattle.local_divisors.specs.declared.faults.SfFault.TheVariants as fault
use Rattle.local_divisors.specs.Building.{Answers, AnswersTable, IsSoFar, Stops, neutral}

-- a step that stops ends the whole as it does
pub stops_bind : {A B : Type 0} (o : Outcome A) (f : A → Outcome B) (p : Outcome B) (e : SfFault)
    → p ≡ bind o f → Stops o e → Stops p e
unfolding bind
stops_bind o f p fault.Depth q h = q ∙ ap (λ z. bind z f) h
stops_bind o f p fault.Nodes q h = q ∙ ap (λ z. bind z f) h
stops_bind o f p fault.Memory q h = tt

pub at_err : {V : Type 0} (P : Result V SfFault → Type 0) (e : SfFault) (r : Result V SfFault)
    → IsErrAnd r (λ x. x ≡ e) → P (Err e) → P r
at_err P e (Ok a) i h = absurd i
at_err P e (Err x) i h = subst (λ z. P (Err z)) (sym i) h

pub stops : {A B : Type 0} (o : Outcome (List SfNode × A))
    (f : List SfNode × A → Outcome (List SfNode × B)) (p : Outcome (List SfNode × B))
    (other : List SfNode) (e : SfFault) (r : Result B SfFault)
    → p ≡ bind o f → Stops o e → IsErrAnd r (λ x. x ≡ e) → Answers p other r
stops o f p other e r q h i = at_err (Answers p other) e r i (stops_bind o f p e q h)

-- a step that does no more than another stops as it does
pub stops_as : {A : Type 0} (o p : Outcome (List SfNode × A)) (other : List SfNode)
    (e : SfFault) (r : Result A SfFault)
    → p ≡ o → Stops o e → IsErrAnd r (λ x. x ≡ e) → Answers p other r
stops_as o p other e r q h i =
    at_err (Answers p other) e r i (subst (λ z. Stops z e) (sym q) h)

-- the same where the whole gives a table
pub stops_table : {A V : Type 0} (items : V → List ℕ) (o : Outcome (List SfNode × A))
    (f : List SfNode × A → Outcome (List SfNode × (ℕ → ℕ))) (p : Outcome (List SfNode × (ℕ → ℕ)))
    (other : List SfNode) (e : SfFault) (r : Result V SfFault)
    → p ≡ bind o f → Stops o e → IsErrAnd r (λ x. x ≡ e) → AnswersTable items p other r
stops_table items o f p other e r q h i =
    at_err (AnswersTable items p other) e r i (stops_bind o f p e q h)

pub stops_table_as : {V : Type 0} (items : V → List ℕ) (o p : Outcome (List SfNode × (ℕ → ℕ)))
    (other : List SfNode) (e : SfFault) (r : Result V SfFault)
    → p ≡ o → Stops o e → IsErrAnd r (λ x. x ≡ e) → AnswersTable items p other r
stops_table_as items o p other e r q h i =
    at_err (AnswersTable items p other) e r i (subst (λ z. Stops z e) (sym q) h)

-- a step that gives a table of numbers came to a list and this table
abbrev pub GaveTable : Outcome (List SfNode × (ℕ → ℕ)) → List SfNode → List ℕ → Type 0
GaveTable o list table =
    (E : ℕ → ℕ) × (o ≡ done (list, E))
    × ((p : ℕ) → p < length table → E p ≡ slice_index table p)

-- a step that is done leaves what follows
pub bind_done : {A B : Type 0} (o : Outcome A) (f : A → Outcome B) (a : A) → o ≡ done a
    → bind o f ≡ f a
unfolding bind
bind_done o f a e = ap (λ z. bind z f) e

-- a node with a part that says nothing has the number of the other, and any other node is put
abbrev pub Taken : Option ℕ → List SfNode → SfNode → Option ℕ → Type 0
Taken most xs x (Some p) = take most xs x ≡ done (xs, p)
Taken most xs x None = take most xs x ≡ put most (place x xs) xs x

pub taken : (most : Option ℕ) (xs : List SfNode) (x : SfNode) → Taken most xs x (neutral x)
taken most xs node.Empty = refl
taken most xs node.Eps = refl
taken most xs (node.Letter a) = refl
taken most xs (node.Not i) = refl
taken most xs (node.Or i j) = refl
taken most xs (node.Cat i j) = elim (cases_Bool (eqb i 2)) [
  | inl a ↦ rw a (rw a refl)
  | inr a ↦ elim (cases_Bool (eqb j 2)) [
    | inl b ↦ rw (a, b) (rw (a, b) refl)
    | inr b ↦ rw (a, b) (rw (a, b) refl)
  ]
]
taken most xs (node.And i j) = elim (cases_Bool (eqb i 1)) [
  | inl a ↦ rw a (rw a refl)
  | inr a ↦ rw a (rw a refl)
]

pub taken_as : (most : Option ℕ) (xs : List SfNode) (x : SfNode) (s : Option ℕ) → neutral x ≡ s
    → Taken most xs x s
taken_as most xs x s e = subst (Taken most xs x) e (taken most xs x)

-- joining elements from the i-th on: the i-th, and then those behind it
pub finals_at : (m : Option ℕ) (f : ℕ → ℕ) (s : Option ℕ) (ps : List ℕ) (i : ℕ) (xs : List SfNode)
    → i < length ps
    → join_finals m f (drop i ps) s xs ≡ bind (join m s xs (f (get_or ps i 0)))
    (λ o. join_finals m f (drop (i + 1) ps) (Some o.1) o.0)
finals_at m f s ps i xs l = ap (λ (qs : List ℕ). join_finals m f qs s xs) (drop_more ps i 0 l)

-- a loop that gives each element a number, from the i-th on
pub each_at : (f : List SfNode → ℕ → Outcome (List SfNode × ℕ)) (ts : List ℕ) (i : ℕ) (E : ℕ → ℕ)
    (xs : List SfNode) → i < length ts
    → each f (drop i ts) E xs ≡ bind (f xs (get_or ts i 0)) (λ r. each f (drop (i + 1) ts)
    (with E (get_or ts i 0) r.1) r.0)
each_at f ts i E xs l = ap (λ (us : List ℕ). each f us E xs) (drop_more ts i 0 l)

module _ (f : List SfNode → ℕ → Outcome (List SfNode × ℕ)) (ts : List ℕ) (start : List SfNode) where
  pub so_far_none : (table : List ℕ) (n : ℕ) → table ≡ replicate n 0
      → IsSoFar f ts 0 start start table
  so_far_none table n e = record {
    numbers = λ p. 0;
    rest = refl;
    told = λ p l. sym (ap (λ zs. slice_index zs p) e ∙ get_or-replicate n p 0 0
        (let g : length table ≡ n = ap (λ (zs : List ℕ). length zs) e ∙ length-replicate n 0 in
        omega arith));
  }

  module _ (i : ℕ) (now : List SfNode) (table : List ℕ) (h : IsSoFar f ts i start now table) where
    pub so_far_more : (t : ℕ) (new : List SfNode) (n : ℕ) → i < length ts → t ≡ get_or ts i 0
        → t < length table → f now t ≡ done (new, n)
        → IsSoFar f ts (i + 1) start new (set table t n)
    so_far_more t new n l e k d = record {
      numbers = with h.numbers t n;
      rest = sym (sym h.rest ∙ each_at f ts i h.numbers now l
          ∙ ap (λ (z : ℕ). bind (f now z) (λ r. each f (drop (i + 1) ts) (with h.numbers z r.1)
          r.0)) (sym e) ∙ bind_done (f now t) (λ r. each f (drop (i + 1) ts) (with h.numbers t r.1)
          r.0) (new, n) d);
      told = λ p q. elim (eqb_tells p t) [
        | inl g ↦ rw g.0 (sym (ap (slice_index (set table t n)) g.1 ∙ get_or-set_same table t n 0
            k))
        | inr g ↦ rw g.0 (h.told p (let m = length-set table t n in omega arith)
            ∙ sym (get_or-set_other table t p n 0 g.1))
      ];
    }

    pub so_far_stops : {V : Type 0} (items : V → List ℕ) (t : ℕ) (other : List SfNode)
        (e : SfFault) (r : Result V SfFault) → i < length ts → t ≡ get_or ts i 0
        → Stops (f now t) e → IsErrAnd r (λ x. x ≡ e)
        → AnswersTable items (each f ts (λ p. 0) start) other r
    so_far_stops items t other e r l g a b =
        stops_table items (f now t) (λ r. each f (drop (i + 1) ts) (with h.numbers t r.1) r.0)
        (each f ts (λ p. 0) start) other e r
        (sym h.rest ∙ each_at f ts i h.numbers now l
        ∙ ap (λ (z : ℕ). bind (f now z) (λ r. each f (drop (i + 1) ts) (with h.numbers z r.1)
        r.0)) (sym g)) a b

    pub so_far_done : length ts ≤ i → (E : ℕ → ℕ) × (each f ts (λ p. 0) start ≡ done (now, E)) ×
        ((p : ℕ) → p < length table → E p ≡ slice_index table p)
    so_far_done l = (
      h.numbers,
      sym h.rest ∙ ap (λ (us : List ℕ). each f us h.numbers now)
          (drop_all i ts l),
      h.told,
    )
