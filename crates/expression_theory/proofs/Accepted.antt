-- A text is accepted where its signs pass, and then it spells one tree.
use Rattle.std.proofs.Common.{◌≡◌, ℕ, zero, suc, ◌+◌, ◌-◌, ◌<◌, ◌≤◌, Bool, true, false, cond, ◌||◌, ◌==◌, Option, Some, None, List, [], ◌∷◌, ◌++◌, length, take, get_or, refl, sym, subst, append_assoc, arith}
use Rattle.std.proofs.lemmas.List.{append-nil}
use Rattle.expression_theory.specs.Expression.{Tree}
use Rattle.expression_theory.specs.Grammar.{Operand, Bar, Postfix, Open, Close, Spells, Union}
use Rattle.expression_theory.specs.Scan.{Class, Skipped, Unknown, Strange, Good, FaultKind, Unexpected, UnknownLetter, signs_in, due_by, due_from, opens, closes, depth, depth_by, cost, nodes_from, size_test, failing, failing_after, IsAccepted}
use Rattle.expression_theory.proofs.Passing.{Passes, passes_spells}

-- one byte more: whether an operand must come
pub due_push : (d : Bool) (cs : List Class) (c : Class)
    → due_from d (cs ++ c ∷ []) ≡ due_by (due_from d cs) c
due_push d [] c = refl
due_push d (x ∷ cs) c = due_push (due_by d x) cs c

-- one byte more: the nodes
pub nodes_push : (d : Bool) (cs : List Class) (c : Class)
    → nodes_from d (cs ++ c ∷ []) ≡ nodes_from d cs + cost (due_from d cs) c
nodes_push d [] c = omega arith
nodes_push d (x ∷ cs) c = let e = nodes_push (due_by d x) cs c in omega arith

-- from a prefix on, nothing fails
abbrev pub Clear : Bool → ℕ → ℕ → List Class → Type 0
Clear d o n [] = (d ≡ false) × (o ≡ 0)
Clear d o n (c ∷ cs) = (failing d o n c ≡ None)
    × Clear (due_by d c) (depth_by o c) (n + cost d c) cs

due_bar : (d : Bool) (x : Option FaultKind) → cond d (Some Unexpected) x ≡ None → d ≡ false
due_bar true x e = absurd (let f : Some Unexpected ≡ None = e in cc)
due_bar false x e = refl

due_close : (d : Bool) (o : ℕ) (x : Option FaultKind)
    → cond (d || (o == 0)) (Some Unexpected) x ≡ None → (d ≡ false) × (0 < o)
due_close true o x e = absurd (let f : Some Unexpected ≡ None = e in cc)
due_close false zero x e = absurd (let f : Some Unexpected ≡ None = e in cc)
due_close false (suc o) x e = (refl, omega arith)

clear_passes : (cs : List Class) (d : Bool) (o n : ℕ) → Clear d o n cs → Passes d o (signs_in cs)
clear_passes [] d o n h = h
clear_passes (Skipped ∷ cs) d o n (e, h) = clear_passes cs d o (n + 0) h
clear_passes (Unknown ∷ cs) d o n (e, h) = absurd (let f : Some UnknownLetter ≡ None = e in cc)
clear_passes (Strange ∷ cs) d o n (e, h) = absurd (let f : Some Unexpected ≡ None = e in cc)
clear_passes (Good (Operand t) ∷ cs) d o n (e, h) =
    clear_passes cs false o (n + cost d (Good (Operand t))) h
clear_passes (Good Bar ∷ cs) d o n (e, h) =
    (due_bar d (size_test (n + 1)) e, clear_passes cs true o (n + 1) h)
clear_passes (Good (Postfix m) ∷ cs) d o n (e, h) =
    (due_bar d (size_test (n + 1)) e, clear_passes cs false o (n + 1) h)
clear_passes (Good Open ∷ cs) d o n (e, h) =
    let f : o + 1 ≡ suc o = omega arith in
    subst (λ m. Passes true m (signs_in cs)) f
    (clear_passes cs true (o + 1) (n + cost d (Good Open)) h)
clear_passes (Good Close ∷ cs) d zero n (e, h) =
    absurd (let f : 0 < 0 = (due_close d 0 (size_test n) e).1 in omega arith)
clear_passes (Good Close ∷ cs) d (suc o) n (e, h) =
    let f : suc o - 1 ≡ o = omega arith in (
      (due_close d (suc o) (size_test n) e).0,
      subst (λ m. Passes false m (signs_in cs)) f
          (clear_passes cs false (suc o - 1) (n + 0) h),
    )

opens_push : (p : List Class) (c : Class) → opens (p ++ c ∷ []) ≡ opens p + opens (c ∷ [])
opens_push [] c = omega arith
opens_push (Skipped ∷ p) c = opens_push p c
opens_push (Unknown ∷ p) c = opens_push p c
opens_push (Strange ∷ p) c = opens_push p c
opens_push (Good (Operand t) ∷ p) c = opens_push p c
opens_push (Good Bar ∷ p) c = opens_push p c
opens_push (Good (Postfix m) ∷ p) c = opens_push p c
opens_push (Good Close ∷ p) c = opens_push p c
opens_push (Good Open ∷ p) c = let e = opens_push p c in omega arith

closes_push : (p : List Class) (c : Class) → closes (p ++ c ∷ []) ≡ closes p + closes (c ∷ [])
closes_push [] c = omega arith
closes_push (Skipped ∷ p) c = closes_push p c
closes_push (Unknown ∷ p) c = closes_push p c
closes_push (Strange ∷ p) c = closes_push p c
closes_push (Good (Operand t) ∷ p) c = closes_push p c
closes_push (Good Bar ∷ p) c = closes_push p c
closes_push (Good (Postfix m) ∷ p) c = closes_push p c
closes_push (Good Open ∷ p) c = closes_push p c
closes_push (Good Close ∷ p) c = let e = closes_push p c in omega arith

-- the counts of parentheses behind one byte more
abbrev pub Counts : List Class → Class → Type 0
Counts p c = (depth (p ++ c ∷ []) ≡ depth_by (depth p) c)
    × (closes (p ++ c ∷ []) ≤ opens (p ++ c ∷ []))

-- one byte more; a `)` stands only where a parenthesis is open
pub counts_push : (p : List Class) (c : Class) (d : Bool) (n : ℕ) → closes p ≤ opens p
    → failing d (depth p) n c ≡ None → Counts p c
counts_push p Skipped d n h k = let e = opens_push p Skipped in let f = closes_push p Skipped in
    (omega arith, omega arith)
counts_push p Unknown d n h k = let e = opens_push p Unknown in let f = closes_push p Unknown in
    (omega arith, omega arith)
counts_push p Strange d n h k = let e = opens_push p Strange in let f = closes_push p Strange in
    (omega arith, omega arith)
counts_push p (Good (Operand t)) d n h k = let e = opens_push p (Good (Operand t)) in
    let f = closes_push p (Good (Operand t)) in (omega arith, omega arith)
counts_push p (Good Bar) d n h k = let e = opens_push p (Good Bar) in
    let f = closes_push p (Good Bar) in (omega arith, omega arith)
counts_push p (Good (Postfix m)) d n h k = let e = opens_push p (Good (Postfix m)) in
    let f = closes_push p (Good (Postfix m)) in (omega arith, omega arith)
counts_push p (Good Open) d n h k = let e = opens_push p (Good Open) in
    let f = closes_push p (Good Open) in (omega arith, omega arith)
counts_push p (Good Close) d n h k =
    let e = opens_push p (Good Close) in
    let f = closes_push p (Good Close) in
    let g : 0 < opens p - closes p = (due_close d (depth p) (size_test n) k).1 in
    (omega arith, omega arith)

-- behind the prefix p no test fails
abbrev pub FailsNot : (p cs : List Class) → Type 0
FailsNot p cs = (i : ℕ) → i < length cs → failing_after (p ++ take i cs) (get_or cs i Strange)
    ≡ None

-- where no test fails behind a prefix, the rest is clear
pub clear_from : (cs p : List Class) → closes p ≤ opens p → FailsNot p cs
    → (due_from true (p ++ cs) ≡ false) × (depth (p ++ cs) ≡ 0) →
    Clear (due_from true p) (depth p) (nodes_from true p) cs
clear_from [] p h k e = subst (λ w. (due_from true w ≡ false) × (depth w ≡ 0)) (append-nil p) e
clear_from (c ∷ cs) p h k e =
    let here : failing (due_from true p) (depth p) (nodes_from true p) c ≡ None =
    subst (λ w. failing_after w c ≡ None) (append-nil p) (k 0 (omega arith)) in
    let counts = counts_push p c (due_from true p) (nodes_from true p) h here in
    let rest : Clear (due_from true (p ++ c ∷ [])) (depth (p ++ c ∷ []))
    (nodes_from true (p ++ c ∷ [])) cs =
    clear_from cs (p ++ c ∷ []) counts.1
    (λ i b. subst (λ w. failing_after w (get_or cs i Strange) ≡ None)
    (sym (append_assoc p (c ∷ []) (take i cs))) (k (suc i) (omega arith)))
    (subst (λ w. (due_from true w ≡ false) × (depth w ≡ 0)) (sym (append_assoc p (c ∷ []) cs)) e) in (
      here,
      subst (λ d. Clear d (depth_by (depth p) c) (nodes_from true p + cost (due_from true p) c) cs)
          (due_push true p c)
          (subst (λ o. Clear (due_from true (p ++ c ∷ [])) o
          (nodes_from true p + cost (due_from true p) c) cs) counts.0
          (subst (λ n. Clear (due_from true (p ++ c ∷ [])) (depth (p ++ c ∷ [])) n cs)
          (nodes_push true p c) rest)),
    )

-- an accepted text spells a tree (by `spells_one` no other)
pub accepted_spells : (cs : List Class) → IsAccepted cs → (t : Tree) × Spells Union (signs_in cs) t
accepted_spells cs h =
    passes_spells (signs_in cs)
    (clear_passes cs true 0 0 (clear_from cs [] (omega arith) h.clear h.ends))
