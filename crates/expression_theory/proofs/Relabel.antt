-- The words of an expression are the words of its positions, read letter by letter.
use Rattle.std.proofs.Common.{◌≡◌, ℕ, ◌+◌, ◌-◌, ◌<◌, inl, inr, List, [], ◌∷◌, ◌++◌, length, length-append, get_or, refl, ap, sym, subst, ◌∙◌, arith, map}
use Rattle.std.proofs.lemmas.List.{map-append, get_or_append_left, get_or-append-add}
use Rattle.expression_theory.specs.Expression.{Tree, Zero, One, Letter, Or, Cat, Star, Plus, Opt, Means, Concatenation, KleeneStar, nothing, piece}
use Rattle.expression_theory.specs.Positions.{positions, numbered, letter_of, PositionWord}
use Rattle.expression_theory.proofs.Words.{more}

-- the tree in which each letter is changed
abbrev pub relabel : (ℕ → ℕ) → Tree → Tree
relabel f Zero = Zero
relabel f One = One
relabel f (Letter a) = Letter (f a)
relabel f (Or s t) = Or (relabel f s) (relabel f t)
relabel f (Cat s t) = Cat (relabel f s) (relabel f t)
relabel f (Star t) = Star (relabel f t)
relabel f (Plus t) = Plus (relabel f t)
relabel f (Opt t) = Opt (relabel f t)

-- the words of L with each letter changed
abbrev pub Image : (ℕ → ℕ) → (List ℕ → Type 0) → List ℕ → Type 0
Image f L w = (x : List ℕ) × L x × (map f x ≡ w)

star_forth : (f : ℕ → ℕ) (L M : List ℕ → Type 0) → ((x : List ℕ) → L x → M (map f x)) → (x : List ℕ)
    → KleeneStar L x → KleeneStar M (map f x)
star_forth f L M h x nothing = nothing
star_forth f L M h x (piece {a = a} {u = u} {v = v} l s) =
    subst (KleeneStar M) (sym (map-append f (a ∷ u) v))
    (piece (h (a ∷ u) l) (star_forth f L M h v s))

joined_forth : (f : ℕ → ℕ) (L M L' M' : List ℕ → Type 0) → ((x : List ℕ) → L x → L' (map f x))
    → ((x : List ℕ) → M x → M' (map f x)) →
    (x : List ℕ) → Concatenation L M x → Concatenation L' M' (map f x)
joined_forth f L M L' M' h k x (u, v, l, m, e) =
    (map f u, map f v, h u l, k v m, sym (map-append f u v) ∙ ap (map f) e)

-- a word with its letters changed is one of the changed tree
pub forth : (f : ℕ → ℕ) (t : Tree) (x : List ℕ) → Means t x → Means (relabel f t) (map f x)
forth f Zero x h = h
forth f One x h = ap (map f) h
forth f (Letter a) x h = ap (map f) h
forth f (Or s t) x (inl h) = inl (forth f s x h)
forth f (Or s t) x (inr h) = inr (forth f t x h)
forth f (Cat s t) x h = joined_forth f (Means s) (Means t) (Means (relabel f s))
    (Means (relabel f t)) (forth f s) (forth f t) x h
forth f (Star t) x h = star_forth f (Means t) (Means (relabel f t)) (forth f t) x h
forth f (Plus t) x h =
    joined_forth f (Means t) (KleeneStar (Means t)) (Means (relabel f t))
    (KleeneStar (Means (relabel f t))) (forth f t)
    (star_forth f (Means t) (Means (relabel f t)) (forth f t)) x h
forth f (Opt t) x (inl h) = inl (ap (map f) h)
forth f (Opt t) x (inr h) = inr (forth f t x h)

joined_back : (f : ℕ → ℕ) (L M L' M' : List ℕ → Type 0) → ((w : List ℕ) → L' w → Image f L w)
    → ((w : List ℕ) → M' w → Image f M w) →
    (w : List ℕ) → Concatenation L' M' w → Image f (Concatenation L M) w
joined_back f L M L' M' h k w (u, v, l, m, e) = by (h u l) (k v m)
  where
    by : Image f L u → Image f M v → Image f (Concatenation L M) w
    by (x, a, p) (y, b, q) = (
      x ++ y,
      (x, y, a, b, refl),
      map-append f x y ∙ ap (λ z. z ++ map f y) p
          ∙ ap (λ z. u ++ z) q ∙ e,
    )

star_back : (f : ℕ → ℕ) (L L' : List ℕ → Type 0) → ((w : List ℕ) → L' w → Image f L w)
    → (w : List ℕ) → KleeneStar L' w → Image f (KleeneStar L) w
star_back f L L' h w nothing = ([], nothing, refl)
star_back f L L' h w (piece {a = a} {u = u} {v = v} l s) = by (h (a ∷ u) l) (star_back f L L' h v s)
  where
    by : Image f L (a ∷ u) → Image f (KleeneStar L) v → Image f (KleeneStar L) (a ∷ (u ++ v))
    by (x, b, p) (y, c, q) = (
      x ++ y,
      more L x y b c,
      map-append f x y ∙ ap (λ z. z ++ map f y) p
          ∙ ap (λ z. a ∷ (u ++ z)) q,
    )

widen : (f : ℕ → ℕ) (L M : List ℕ → Type 0) (w : List ℕ) → ((x : List ℕ) → L x → M x) → Image f L w
    → Image f M w
widen f L M w h (x, l, e) = (x, h x l, e)

-- each word of the changed tree comes from one of the tree
pub back : (f : ℕ → ℕ) (t : Tree) (w : List ℕ) → Means (relabel f t) w → Image f (Means t) w
back f Zero w h = absurd h
back f One w h = ([], refl, sym h)
back f (Letter a) w h = (a ∷ [], refl, sym h)
back f (Or s t) w (inl h) = widen f (Means s) (Means (Or s t)) w (λ x. inl) (back f s w h)
back f (Or s t) w (inr h) = widen f (Means t) (Means (Or s t)) w (λ x. inr) (back f t w h)
back f (Cat s t) w h = joined_back f (Means s) (Means t) (Means (relabel f s)) (Means (relabel f t))
    (back f s) (back f t) w h
back f (Star t) w h = star_back f (Means t) (Means (relabel f t)) (back f t) w h
back f (Plus t) w h =
    joined_back f (Means t) (KleeneStar (Means t)) (Means (relabel f t))
    (KleeneStar (Means (relabel f t))) (back f t)
    (star_back f (Means t) (Means (relabel f t)) (back f t)) w h
back f (Opt t) w (inl h) = ([], inl refl, sym h)
back f (Opt t) w (inr h) = widen f (Means t) (Means (Opt t)) w (λ x. inr) (back f t w h)

-- f gives the positions from n on the letters of the list
abbrev Reads : (ℕ → ℕ) → ℕ → List ℕ → Type 0
Reads f n xs = (i : ℕ) → i < length xs → f (n + i) ≡ get_or xs i 0

reads_left : (f : ℕ → ℕ) (n : ℕ) (xs ys : List ℕ) → Reads f n (xs ++ ys) → Reads f n xs
reads_left f n xs ys h i b = h i (omega (arith, length-append xs ys))
    ∙ get_or_append_left xs ys 0 i b

reads_right : (f : ℕ → ℕ) (n : ℕ) (xs ys : List ℕ) → Reads f n (xs ++ ys)
    → Reads f (n + length xs) ys
reads_right f n xs ys h i b =
    let e : (n + length xs) + i ≡ n + (length xs + i) = omega arith in
    ap f e ∙ h (length xs + i) (omega (arith, length-append xs ys)) ∙ get_or-append-add xs ys i 0

relabel_numbered : (f : ℕ → ℕ) (n : ℕ) (t : Tree) → Reads f n (positions t)
    → relabel f (numbered n t) ≡ t
relabel_numbered f n Zero h = refl
relabel_numbered f n One h = refl
relabel_numbered f n (Letter a) h =
    ap Letter (ap f (let e : n ≡ n + 0 = omega arith in e) ∙ h 0 (omega arith))
relabel_numbered f n (Or s t) h =
    let e : relabel f (numbered n s) ≡ s =
    relabel_numbered f n s (reads_left f n (positions s) (positions t) h) in
    let e' : relabel f (numbered (n + length (positions s)) t) ≡ t =
    relabel_numbered f (n + length (positions s)) t
    (reads_right f n (positions s) (positions t) h) in cc
relabel_numbered f n (Cat s t) h =
    let e : relabel f (numbered n s) ≡ s =
    relabel_numbered f n s (reads_left f n (positions s) (positions t) h) in
    let e' : relabel f (numbered (n + length (positions s)) t) ≡ t =
    relabel_numbered f (n + length (positions s)) t
    (reads_right f n (positions s) (positions t) h) in cc
relabel_numbered f n (Star t) h = ap Star (relabel_numbered f n t h)
relabel_numbered f n (Plus t) h = ap Plus (relabel_numbered f n t h)
relabel_numbered f n (Opt t) h = ap Opt (relabel_numbered f n t h)

read_letters : (t : Tree) → Reads (letter_of t) 1 (positions t)
read_letters t i h = let e : (1 + i) - 1 ≡ i = omega arith in ap (λ k. get_or (positions t) k 0) e

same_tree : (t : Tree) → relabel (letter_of t) (numbered 1 t) ≡ t
same_tree t = relabel_numbered (letter_of t) 1 t (read_letters t)

-- each word of the expression is read off a word of positions
pub has_positions : (t : Tree) (w : List ℕ) → Means t w → Image (letter_of t) (PositionWord t) w
has_positions t w h =
    back (letter_of t) (numbered 1 t) w (subst (λ s. Means s w) (sym (same_tree t)) h)

-- and each word of positions gives one
pub from_positions : (t : Tree) (x : List ℕ) → PositionWord t x → Means t (map (letter_of t) x)
from_positions t x h = subst (λ s. Means s (map (letter_of t) x)) (same_tree t)
    (forth (letter_of t) (numbered 1 t) x h)
