-- Polish notation of a tree, and back.
use Rattle.std.proofs.Common.{◌≡◌, ℕ, zero, suc, ◌+◌, ◌≤◌, List, [], ◌∷◌, ◌++◌, length, drop, refl, ap, sym, subst, ◌∙◌, append_assoc, length-append, arith}
use Rattle.std.proofs.lemmas.List.{append-nil}
use Rattle.expression_theory.specs.Expression.{Tree, Zero, One, Letter, Or, Cat, Star, Plus, Opt}
use Rattle.expression_theory.specs.Positions.{positions}
use Rattle.expression_theory.specs.Polish.{Node, polish, built, trees, arity, IsNotation, letters, positions_among}
use Rattle.expression_theory.specs.declared.notation.Node.TheVariants as node

-- the notation of a tree gives back the tree, whatever stands behind it
pub trees_polish : (t : Tree) (ns : List Node) → trees (polish t ++ ns) ≡ t ∷ trees ns
trees_polish Zero ns = refl
trees_polish One ns = refl
trees_polish (Letter a) ns = refl
trees_polish (Or s t) ns =
    ap (λ ms. built node.Or (trees ms)) (append_assoc (polish s) (polish t) ns)
    ∙ ap (built node.Or) (trees_polish s (polish t ++ ns) ∙ ap (λ ts. s ∷ ts) (trees_polish t ns))
trees_polish (Cat s t) ns =
    ap (λ ms. built node.Cat (trees ms)) (append_assoc (polish s) (polish t) ns)
    ∙ ap (built node.Cat) (trees_polish s (polish t ++ ns) ∙ ap (λ ts. s ∷ ts) (trees_polish t ns))
trees_polish (Star t) ns = ap (built node.Star) (trees_polish t ns)
trees_polish (Plus t) ns = ap (built node.Plus) (trees_polish t ns)
trees_polish (Opt t) ns = ap (built node.Opt) (trees_polish t ns)

-- the notation of a tree gives the tree alone
pub trees_of_polish : (t : Tree) → trees (polish t) ≡ t ∷ []
trees_of_polish t = ap trees (sym (append-nil (polish t))) ∙ trees_polish t []

notation_two : (n : Node) (s t : Tree) (ns : List Node) → arity n ≤ 2
    → IsNotation (polish s ++ (polish t ++ ns)) → IsNotation (n ∷ ((polish s ++ polish t) ++ ns))
notation_two n s t ns b h =
    let e : trees (polish s ++ (polish t ++ ns)) ≡ s ∷ (t ∷ trees ns) =
    trees_polish s (polish t ++ ns) ∙ ap (λ ts. s ∷ ts) (trees_polish t ns) in
    let f : length (trees (polish s ++ (polish t ++ ns))) ≡ suc (suc (length (trees ns))) =
    ap length e in
    let g : arity n ≤ length (trees (polish s ++ (polish t ++ ns))) = omega arith in
    subst (λ ms. IsNotation (n ∷ ms)) (sym (append_assoc (polish s) (polish t) ns)) (g, h)

notation_one : (n : Node) (t : Tree) (ns : List Node) → arity n ≤ 1 → IsNotation (polish t ++ ns)
    → IsNotation (n ∷ (polish t ++ ns))
notation_one n t ns b h =
    let f : length (trees (polish t ++ ns)) ≡ suc (length (trees ns)) =
    ap length (trees_polish t ns) in
    (omega arith, h)

polish_notation : (t : Tree) (ns : List Node) → IsNotation ns → IsNotation (polish t ++ ns)
polish_notation Zero ns h = (omega arith, h)
polish_notation One ns h = (omega arith, h)
polish_notation (Letter a) ns h = (omega arith, h)
polish_notation (Or s t) ns h = notation_two node.Or s t ns (omega arith)
    (polish_notation s (polish t ++ ns) (polish_notation t ns h))
polish_notation (Cat s t) ns h = notation_two node.Cat s t ns (omega arith)
    (polish_notation s (polish t ++ ns) (polish_notation t ns h))
polish_notation (Star t) ns h = notation_one node.Star t ns (omega arith) (polish_notation t ns h)
polish_notation (Plus t) ns h = notation_one node.Plus t ns (omega arith) (polish_notation t ns h)
polish_notation (Opt t) ns h = notation_one node.Opt t ns (omega arith) (polish_notation t ns h)

-- in the notation of a tree each node finds its parts
pub is_notation : (t : Tree) → IsNotation (polish t)
is_notation t = subst IsNotation (append-nil (polish t)) (polish_notation t [] tt)

-- and so in what is left of it
pub notation_drop : (i : ℕ) (ns : List Node) → IsNotation ns → IsNotation (drop i ns)
notation_drop zero ns h = h
notation_drop (suc i) [] h = h
notation_drop (suc i) (n ∷ ns) h = notation_drop i ns h.1

-- letters of one notation behind another
pub letters_append : (ms ns : List Node) → letters (ms ++ ns) ≡ letters ms ++ letters ns
letters_append [] ns = refl
letters_append (node.Zero ∷ ms) ns = letters_append ms ns
letters_append (node.One ∷ ms) ns = letters_append ms ns
letters_append (node.Letter a ∷ ms) ns = ap (λ w. a ∷ w) (letters_append ms ns)
letters_append (node.Or ∷ ms) ns = letters_append ms ns
letters_append (node.Cat ∷ ms) ns = letters_append ms ns
letters_append (node.Star ∷ ms) ns = letters_append ms ns
letters_append (node.Plus ∷ ms) ns = letters_append ms ns
letters_append (node.Opt ∷ ms) ns = letters_append ms ns

-- the letters of the notation are those of the positions
pub letters_polish : (t : Tree) → letters (polish t) ≡ positions t
letters_polish Zero = refl
letters_polish One = refl
letters_polish (Letter a) = refl
letters_polish (Or s t) = letters_append (polish s) (polish t)
    ∙ ap (λ w. w ++ letters (polish t)) (letters_polish s)
    ∙ ap (λ w. positions s ++ w) (letters_polish t)
letters_polish (Cat s t) = letters_append (polish s) (polish t)
    ∙ ap (λ w. w ++ letters (polish t)) (letters_polish s)
    ∙ ap (λ w. positions s ++ w) (letters_polish t)
letters_polish (Star t) = letters_polish t
letters_polish (Plus t) = letters_polish t
letters_polish (Opt t) = letters_polish t

-- a node takes its parts' positions with it
positions_built : (n : Node) (ts : List Tree) → arity n ≤ length ts
    → positions_among (built n ts) ≡ length (letters (n ∷ [])) + positions_among ts
positions_built node.Zero ts h = refl
positions_built node.One ts h = refl
positions_built (node.Letter a) ts h = refl
positions_built node.Or (s ∷ (t ∷ ts)) h = omega (arith, length-append (positions s) (positions t))
positions_built node.Cat (s ∷ (t ∷ ts)) h = omega (arith, length-append (positions s) (positions t))
positions_built node.Star (t ∷ ts) h = omega arith
positions_built node.Plus (t ∷ ts) h = omega arith
positions_built node.Opt (t ∷ ts) h = omega arith
positions_built node.Or [] h = absurd (omega arith)
positions_built node.Or (s ∷ []) h = absurd (omega arith)
positions_built node.Cat [] h = absurd (omega arith)
positions_built node.Cat (s ∷ []) h = absurd (omega arith)
positions_built node.Star [] h = absurd (omega arith)
positions_built node.Plus [] h = absurd (omega arith)
positions_built node.Opt [] h = absurd (omega arith)

-- the trees have as many positions as the nodes have letters
pub positions_counted : (ns : List Node) → IsNotation ns
    → positions_among (trees ns) ≡ length (letters ns)
positions_counted [] h = refl
positions_counted (n ∷ ns) (h, k) =
    let e : positions_among (trees ns) ≡ length (letters ns) = positions_counted ns k in
    let f = positions_built n (trees ns) h in
    let g : letters (n ∷ ns) ≡ letters (n ∷ []) ++ letters ns = letters_append (n ∷ []) ns in
    let i : length (letters (n ∷ ns)) ≡ length (letters (n ∷ [])) + length (letters ns) =
    ap length g ∙ length-append (letters (n ∷ [])) (letters ns) in
    omega arith
