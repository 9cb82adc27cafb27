-- What a scan from the left knows after i bytes.
use Rattle.std.proofs.Common.{◌≡◌, ℕ, ◌+◌, ◌<◌, ◌≤◌, Bool, true, false, cond, ◌⊎◌, inl, inr, Some, None, List, [], ◌∷◌, ◌++◌, length, take, get_or, refl, ap, sym, subst, ◌∙◌, arith, nat_lt}
use Rattle.std.proofs.lemmas.List.{take_more, take_all}
use Rattle.std.proofs.lemmas.Bool.{cases_lt}
use Rattle.std.proofs.lemmas.Bool.Decides.{Decides-ltb}
use Rattle.expression_theory.specs.Grammar.{Operand, Bar, Postfix, Open, Close}
use Rattle.expression_theory.specs.Scan.{Class, Skipped, Unknown, Strange, Good, Unexpected, TooLarge, TooDeep, due_by, due_from, opens, closes, depth, depth_by, cost, nodes_from, size_test, failing, failing_at, IsAccepted, most_open}
use Rattle.expression_theory.proofs.Accepted.{due_push, nodes_push, counts_push}
use Rattle.expression_theory.specs.Expression.{most_nodes}

-- after i bytes: whether an operand is due, the open parentheses, the nodes, and no failing test so far
pub record IsScanned (cs : List Class) (i : ℕ) (d : Bool) (o n : ℕ) : Type 0 where
  pub due : d ≡ due_from true (take i cs)
  pub level : o ≡ depth (take i cs)
  pub nodes : n ≡ nodes_from true (take i cs)
  pub balanced : closes (take i cs) ≤ opens (take i cs)
  pub shallow : o ≤ most_open
  pub small : n ≤ most_nodes
  pub clear : (j : ℕ) → j < i → failing_at cs j ≡ None

-- the test at the next byte, by what is known
pub scanned_here : (cs : List Class) (i : ℕ) (d : Bool) (o n : ℕ) → IsScanned cs i d o n
    → failing_at cs i ≡ failing d o n (get_or cs i Strange)
scanned_here cs i d o n h =
    ap (λ x. failing x (depth (take i cs)) (nodes_from true (take i cs)) (get_or cs i Strange))
    (sym h.due)
    ∙ ap (λ x. failing d x (nodes_from true (take i cs)) (get_or cs i Strange)) (sym h.level)
    ∙ ap (λ x. failing d o x (get_or cs i Strange)) (sym h.nodes)

size_small : (n : ℕ) → size_test n ≡ None → n ≤ most_nodes
size_small n e = by (cases_lt most_nodes n)
  where
    by : (most_nodes < n) ⊎ (n ≤ most_nodes) → n ≤ most_nodes
    by (inl h) = absurd (let f : Some TooLarge ≡ None =
        sym (ap (λ b. cond b (Some TooLarge) None) ((Decides-ltb most_nodes n).1 h)) ∙ e in cc)
    by (inr h) = h

after_due : (d : Bool) (n : ℕ) → cond d (Some Unexpected) (size_test n) ≡ None → n ≤ most_nodes
after_due true n e = absurd (let f : Some Unexpected ≡ None = e in cc)
after_due false n e = size_small n e

after_deep : (o n : ℕ) → cond (nat_lt o most_open) (size_test n) (Some TooDeep) ≡ None
    → (o < most_open) × (n ≤ most_nodes)
after_deep o n e = by (nat_lt o most_open) refl
  where
    by : (b : Bool) → nat_lt o most_open ≡ b → (o < most_open) × (n ≤ most_nodes)
    by true f = (
      (Decides-ltb o most_open).0 f,
      size_small n (ap (λ b. cond b (size_test n) (Some TooDeep)) (sym f) ∙ e),
    )
    by false f = absurd (let g : Some TooDeep ≡ None = ap (λ b. cond b (size_test n) (Some TooDeep))
        (sym f) ∙ e in cc)

fits : (d : Bool) (o n : ℕ) (c : Class) → o ≤ most_open → n ≤ most_nodes → failing d o n c ≡ None
    → (depth_by o c ≤ most_open) × (n + cost d c ≤ most_nodes)
fits d o n Skipped h k e = (h, omega arith)
fits d o n Unknown h k e = (h, omega arith)
fits d o n Strange h k e = (h, omega arith)
fits d o n (Good (Operand t)) h k e = (h, size_small (n + cost d (Good (Operand t))) e)
fits d o n (Good Bar) h k e = (h, after_due d (n + 1) e)
fits d o n (Good (Postfix m)) h k e = (h, after_due d (n + 1) e)
fits d o n (Good Open) h k e = let f = after_deep o (n + cost d (Good Open)) e in (omega arith, f.1)
fits d o n (Good Close) h k e = (omega arith, omega arith)

-- one byte more
pub scanned_more : (cs : List Class) (i : ℕ) (d : Bool) (o n : ℕ) (c : Class) → IsScanned cs i d o n
    → i < length cs → get_or cs i Strange ≡ c →
    failing d o n c ≡ None → IsScanned cs (i + 1) (due_by d c) (depth_by o c) (n + cost d c)
scanned_more cs i d o n c h b e f =
    let g : take (i + 1) cs ≡ take i cs ++ c ∷ [] = take_more cs i Strange b
    ∙ ap (λ c. take i cs ++ c ∷ []) e in
    let ok : failing d (depth (take i cs)) n c ≡ None = ap (λ x. failing d x n c) (sym h.level)
    ∙ f in
    let counts = counts_push (take i cs) c d n h.balanced ok in
    let fit = fits d o n c h.shallow h.small f in
    record {
      due = ap (λ x. due_by x c) h.due ∙ sym (due_push true (take i cs) c)
          ∙ ap (due_from true) (sym g);
      level = ap (λ x. depth_by x c) h.level ∙ sym counts.0 ∙ ap depth (sym g);
      nodes = ap (λ x. x + cost d c) h.nodes
          ∙ ap (λ x. nodes_from true (take i cs) + cost x c) h.due
          ∙ sym (nodes_push true (take i cs) c) ∙ ap (nodes_from true) (sym g);
      balanced = subst (λ w. closes w ≤ opens w) (sym g) counts.1;
      shallow = fit.0;
      small = fit.1;
      clear = λ j k. by j (cases_lt j i) k;
    }
  where
    by : (j : ℕ) → (j < i) ⊎ (i ≤ j) → j < i + 1 → failing_at cs j ≡ None
    by j (inl l) k = h.clear j l
    by j (inr l) k =
        let same : i ≡ j = omega arith in
        subst (λ j. failing_at cs j ≡ None) same (scanned_here cs i d o n h ∙ ap (failing d o n) e
        ∙ f)

ends_as : (cs : List Class) (d : Bool) (o n : ℕ) → IsScanned cs (length cs) d o n
    → (d ≡ due_from true cs) × (o ≡ depth cs)
ends_as cs d o n h =
    let e : take (length cs) cs ≡ cs = take_all (length cs) cs (omega arith) in
    (h.due ∙ ap (due_from true) e, h.level ∙ ap depth e)

-- at the end, with no operand due and no parenthesis open, the text is accepted
pub scanned_all : (cs : List Class) (n : ℕ) → IsScanned cs (length cs) false 0 n → IsAccepted cs
scanned_all cs n h = let e = ends_as cs false 0 n h in
    record { clear = h.clear; ends = (sym e.0, sym e.1) }
