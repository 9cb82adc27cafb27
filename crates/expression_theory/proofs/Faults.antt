-- A text has one first fault at most, none where it is accepted, and spells a tree at most beyond the limits.
use Rattle.std.proofs.Common.{◌≡◌, ◌≢◌, ℕ, zero, suc, ◌+◌, ◌-◌, ◌<◌, ◌≤◌, Bool, true, false, cond, ◌||◌, ◌==◌, ◌⊎◌, inl, inr, Some, None, List, [], ◌∷◌, ◌++◌, length, take, get_or, map, refl, ap, sym, subst, ◌∙◌, append_assoc, arith, nat_lt}
use Rattle.std.proofs.lemmas.List.{append-nil}
use Rattle.std.proofs.lemmas.Bool.{cases_lt}
use Rattle.std.proofs.lemmas.Bool.Decides.{eqb_tells}
use Rattle.expression_theory.specs.Expression.{Tree, most_nodes}
use Rattle.expression_theory.specs.Grammar.{Sign, Operand, Bar, Postfix, Open, Close}
use Rattle.expression_theory.specs.Scan.{Class, Skipped, Unknown, Strange, Good, FaultKind, Unexpected, UnknownLetter, TooDeep, TooLarge, signs_in, due_by, due_from, opens, closes, depth, depth_by, cost, nodes_from, size_test, failing, failing_after, failing_at, EndsWell, IsAccepted, IsFault, visible, SpellsTree, most_open}
use Rattle.expression_theory.proofs.Passing.{Passes}
use Rattle.expression_theory.proofs.Converse.{spells_passes}
use Rattle.expression_theory.proofs.Accepted.{due_push, counts_push}
use Rattle.expression_theory.proofs.Texts.{visible_signs}

here_within : (cs : List Class) (k : FaultKind) (i : ℕ) → IsFault cs k i → i ≤ length cs
here_within cs k i h = by h.here
  where
    by : ((i < length cs) × (failing_at cs i ≡ Some k))
        ⊎ ((i ≡ length cs) × (k ≡ Unexpected) × ¬ EndsWell cs) → i ≤ length cs
    by (inl (b, e)) = omega arith
    by (inr (b, e, f)) = omega arith

-- no fault is before another
not_before : (cs : List Class) (k l : FaultKind) (i j : ℕ) → IsFault cs k i → IsFault cs l j → i < j
    → ⊥
not_before cs k l i j h g b = by h.here
  where
    w : j ≤ length cs
    w = here_within cs l j g

    by : ((i < length cs) × (failing_at cs i ≡ Some k))
        ⊎ ((i ≡ length cs) × (k ≡ Unexpected) × ¬ EndsWell cs) → ⊥
    by (inl (c, e)) = let f : Some k ≡ None = sym e ∙ g.before i b in cc
    by (inr (c, e, f)) = let v = here_within cs l j g in omega arith

same_place : (cs : List Class) (k l : FaultKind) (i j : ℕ) → IsFault cs k i → IsFault cs l j → i ≡ j
same_place cs k l i j h g = by (cases_lt i j) (cases_lt j i)
  where
    by : (i < j) ⊎ (j ≤ i) → (j < i) ⊎ (i ≤ j) → i ≡ j
    by (inl b) c = absurd (not_before cs k l i j h g b)
    by (inr b) (inl c) = absurd (not_before cs l k j i g h c)
    by (inr b) (inr c) = omega arith

same_kind : (cs : List Class) (k l : FaultKind) (i : ℕ) → IsFault cs k i → IsFault cs l i → k ≡ l
same_kind cs k l i h g = by h.here g.here
  where
    by : ((i < length cs) × (failing_at cs i ≡ Some k))
        ⊎ ((i ≡ length cs) × (k ≡ Unexpected) × ¬ EndsWell cs) →
        ((i < length cs) × (failing_at cs i ≡ Some l))
        ⊎ ((i ≡ length cs) × (l ≡ Unexpected) × ¬ EndsWell cs) → k ≡ l
    by (inl (b, e)) (inl (c, f)) = let m : Some k ≡ Some l = sym e ∙ f in cc
    by (inl (b, e)) (inr (c, f, n)) = absurd (omega arith)
    by (inr (b, e, n)) (inl (c, f)) = absurd (omega arith)
    by (inr (b, e, n)) (inr (c, f, m)) = e ∙ sym f

-- a text has one first fault at most
pub one_fault : (cs : List Class) (k l : FaultKind) (i j : ℕ) → IsFault cs k i → IsFault cs l j
    → (k ≡ l) × (i ≡ j)
one_fault cs k l i j h g =
    let e : i ≡ j = same_place cs k l i j h g in
    (same_kind cs k l j (subst (IsFault cs k) e h) g, e)

-- and none where it is accepted
pub accepted_or_fault : (cs : List Class) (k : FaultKind) (i : ℕ) → IsAccepted cs → IsFault cs k i
    → ⊥
accepted_or_fault cs k i a h = by h.here
  where
    by : ((i < length cs) × (failing_at cs i ≡ Some k))
        ⊎ ((i ≡ length cs) × (k ≡ Unexpected) × ¬ EndsWell cs) → ⊥
    by (inl (b, e)) = let f : Some k ≡ None = sym e ∙ a.clear i b in cc
    by (inr (b, e, f)) = f a.ends

-- only the two limits
abbrev pub IsLimit : FaultKind → Type 0
IsLimit k = (k ≡ TooDeep) ⊎ (k ≡ TooLarge)

size_limit : (n : ℕ) (k : FaultKind) → size_test n ≡ Some k → IsLimit k
size_limit n k = by (nat_lt most_nodes n)
  where
    by : (b : Bool) → cond b (Some TooLarge) None ≡ Some k → IsLimit k
    by true e = inr (let f : Some TooLarge ≡ Some k = e in cc)
    by false e = absurd (let f : None ≡ Some k = e in cc)

depth_limit : (o n : ℕ) (k : FaultKind) → cond (nat_lt o most_open) (size_test n) (Some TooDeep)
    ≡ Some k → IsLimit k
depth_limit o n k = by (nat_lt o most_open)
  where
    by : (b : Bool) → cond b (size_test n) (Some TooDeep) ≡ Some k → IsLimit k
    by true e = size_limit n k e
    by false e = inl (let f : Some TooDeep ≡ Some k = e in cc)

not_due : (d : Bool) (n : ℕ) (k : FaultKind) → d ≡ false
    → cond d (Some Unexpected) (size_test n) ≡ Some k → IsLimit k
not_due true n k d e = absurd (let f : true ≡ false = d in cc)
not_due false n k d e = size_limit n k e

not_closed : (d : Bool) (o n : ℕ) (k : FaultKind) → d ≡ false
    → cond (d || (suc o == 0)) (Some Unexpected) (size_test n) ≡ Some k → IsLimit k
not_closed d o n k due e = by (eqb_tells (suc o) 0)
  where
    by : (((suc o == 0) ≡ true) × (suc o ≡ 0)) ⊎ (((suc o == 0) ≡ false) × (suc o ≢ 0)) → IsLimit k
    by (inl (f, g)) = absurd (omega arith)
    by (inr (f, g)) =
        size_limit n k
        (sym (ap (λ b. cond (b || (suc o == 0)) (Some Unexpected) (size_test n)) due
        ∙ ap (λ b. cond (false || b) (Some Unexpected) (size_test n)) f) ∙ e)

-- a test that fails where the grammar goes on is one of a limit
failing_limit : (d : Bool) (o n : ℕ) (c : Class) (w : List Sign) (k : FaultKind) (s : List Sign)
    → visible (c ∷ []) ≡ map Good s → Passes d o (signs_in (c ∷ []) ++ w) → failing d o n c ≡ Some k
    → IsLimit k
failing_limit d o n Skipped w k s v p e = absurd (let f : None ≡ Some k = e in cc)
failing_limit d o n Unknown w k [] v p e = absurd (cc)
failing_limit d o n Unknown w k (x ∷ s) v p e = absurd (let f : Unknown ≡ Good x = cc in cc)
failing_limit d o n Strange w k [] v p e = absurd (cc)
failing_limit d o n Strange w k (x ∷ s) v p e = absurd (let f : Strange ≡ Good x = cc in cc)
failing_limit d o n (Good (Operand t)) w k s v p e = size_limit (n + cost d (Good (Operand t))) k e
failing_limit d o n (Good Open) w k s v p e = depth_limit o (n + cost d (Good Open)) k e
failing_limit d o n (Good Bar) w k s v (p, q) e = not_due d (n + 1) k p e
failing_limit d o n (Good (Postfix m)) w k s v (p, q) e = not_due d (n + 1) k p e
failing_limit d zero n (Good Close) w k s v p e = absurd p
failing_limit d (suc o) n (Good Close) w k s v (p, q) e = not_closed d o n k p e

-- a text that is made of signs, spaces and tabs
abbrev pub HasSigns : List Class → Type 0
HasSigns [] = Unit {0}
HasSigns (c ∷ cs) = ((s : List Sign) × (visible (c ∷ []) ≡ map Good s)) × HasSigns cs

has_signs : (cs : List Class) (w : List Sign) → visible cs ≡ map Good w → HasSigns cs
has_signs [] w e = tt
has_signs (Skipped ∷ cs) w e = (([], refl), has_signs cs w e)
has_signs (Unknown ∷ cs) [] e = absurd (cc)
has_signs (Unknown ∷ cs) (x ∷ w) e = absurd (let f : Unknown ≡ Good x = cc in cc)
has_signs (Strange ∷ cs) [] e = absurd (cc)
has_signs (Strange ∷ cs) (x ∷ w) e = absurd (let f : Strange ≡ Good x = cc in cc)
has_signs (Good s ∷ cs) [] e = absurd (cc)
has_signs (Good s ∷ cs) (x ∷ w) e =
    ((s ∷ [], refl), has_signs cs w (let f : visible cs ≡ map Good w = cc in f))

-- where no test fails at a byte, the rest passes behind it
pass_next : (d : Bool) (o n : ℕ) (c : Class) (cs : List Class) → failing d o n c ≡ None
    → Passes d o (signs_in (c ∷ cs)) → Passes (due_by d c) (depth_by o c) (signs_in cs)
pass_next d o n Skipped cs e p = p
pass_next d o n Unknown cs e p = absurd (let f : Some UnknownLetter ≡ None = e in cc)
pass_next d o n Strange cs e p = absurd (let f : Some Unexpected ≡ None = e in cc)
pass_next d o n (Good (Operand t)) cs e p = p
pass_next d o n (Good Open) cs e p = let f : suc o ≡ o + 1 = omega arith in
    subst (λ m. Passes true m (signs_in cs)) f p
pass_next d o n (Good Bar) cs e (p, q) = q
pass_next d o n (Good (Postfix m)) cs e (p, q) = q
pass_next d zero n (Good Close) cs e p = absurd p
pass_next d (suc o) n (Good Close) cs e (p, q) = let f : o ≡ suc o - 1 = omega arith in
    subst (λ m. Passes false m (signs_in cs)) f q

signs_first : (c : Class) (cs : List Class) → signs_in (c ∷ cs) ≡ signs_in (c ∷ []) ++ signs_in cs
signs_first Skipped cs = refl
signs_first Unknown cs = refl
signs_first Strange cs = refl
signs_first (Good s) cs = refl

-- behind a prefix
abbrev FaultBehind : (p cs : List Class) → FaultKind → ℕ → Type 0
FaultBehind p cs k i =
    ((i < length cs) × (failing_after (p ++ take i cs) (get_or cs i Strange) ≡ Some k))
    ⊎ ((i ≡ length cs) × ¬ EndsWell (p ++ cs))

fault_behind : (cs p : List Class) (k : FaultKind) (i : ℕ) → closes p ≤ opens p → HasSigns cs
    → Passes (due_from true p) (depth p) (signs_in cs) →
    ((j : ℕ) → j < i → failing_after (p ++ take j cs) (get_or cs j Strange) ≡ None)
    → FaultBehind p cs k i → IsLimit k
fault_behind [] p k i b h q before (inl (c, e)) = absurd (omega arith)
fault_behind [] p k i b h q before (inr (c, e)) = absurd (e (subst EndsWell (sym (append-nil p)) q))
fault_behind (c ∷ cs) p k zero b h q before (inr (d, e)) = absurd (omega arith)
fault_behind (c ∷ cs) p k zero b (h, g) q before (inl (d, e)) =
    failing_limit (due_from true p) (depth p) (nodes_from true p) c (signs_in cs) k h.0 h.1
    (subst (Passes (due_from true p) (depth p)) (signs_first c cs) q)
    (subst (λ w. failing_after w c ≡ Some k) (append-nil p) e)
fault_behind (c ∷ cs) p k (suc i) b (h, g) q before f =
    let here : failing (due_from true p) (depth p) (nodes_from true p) c ≡ None =
    subst (λ w. failing_after w c ≡ None) (append-nil p) (before 0 (omega arith)) in
    let counts = counts_push p c (due_from true p) (nodes_from true p) b here in
    let next : Passes (due_from true (p ++ c ∷ [])) (depth (p ++ c ∷ [])) (signs_in cs) =
    subst (λ d. Passes d (depth (p ++ c ∷ [])) (signs_in cs)) (sym (due_push true p c))
    (subst (λ o. Passes (due_by (due_from true p) c) o (signs_in cs)) (sym counts.0)
    (pass_next (due_from true p) (depth p) (nodes_from true p) c cs here q)) in
    fault_behind cs (p ++ c ∷ []) k i counts.1 g next
    (λ j l. subst (λ w. failing_after w (get_or cs j Strange) ≡ None)
    (sym (append_assoc p (c ∷ []) (take j cs))) (before (suc j) (omega arith))) (behind f)
  where
    behind : FaultBehind p (c ∷ cs) k (suc i) → FaultBehind (p ++ c ∷ []) cs k i
    behind (inl (d, e)) =
        inl (
          omega arith,
          subst (λ w. failing_after w (get_or cs i Strange) ≡ Some k)
              (sym (append_assoc p (c ∷ []) (take i cs))) e,
        )
    behind (inr (d, e)) = inr (omega arith, λ w. e (subst EndsWell (append_assoc p (c ∷ []) cs) w))

-- a text with another fault than a limit spells no tree
pub fault_spells_nothing : (cs : List Class) (k : FaultKind) (i : ℕ) (t : Tree) → IsFault cs k i
    → SpellsTree cs t → IsLimit k
fault_spells_nothing cs k i t h (w, e, s) = fault_behind cs [] k i (omega arith)
    (has_signs cs w e) passes h.before (here h.here)
  where
    passes : Passes true 0 (signs_in cs)
    passes = subst (Passes true 0) (sym (visible_signs cs w e)) (spells_passes w t s)

    here : ((i < length cs) × (failing_at cs i ≡ Some k))
        ⊎ ((i ≡ length cs) × (k ≡ Unexpected) × ¬ EndsWell cs) → FaultBehind [] cs k i
    here (inl (b, f)) = inl (b, f)
    here (inr (b, f, g)) = inr (b, g)
