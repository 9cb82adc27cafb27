-- What can begin, follow and end, computed on the tree. A `Cat` with a part without words gives
-- nothing.
use Rattle.std.specs.Prelude.{ℕ, Bool, true, false, cond, ◌&&◌, ◌||◌, ◌==◌, List, [], ◌∷◌, ◌++◌}
use Rattle.std.specs.List.{list_any}
use Rattle.expression_theory.specs.Expression.{Tree, Zero, One, Letter, Or, Cat, Star, Plus, Opt}

-- whether the tree has a word
abbrev pub has_word : Tree → Bool
has_word Zero = false
has_word One = true
has_word (Letter a) = true
has_word (Or s t) = has_word s || has_word t
has_word (Cat s t) = has_word s && has_word t
has_word (Star t) = true
has_word (Plus t) = has_word t
has_word (Opt t) = true

-- whether it has the empty word
abbrev pub has_empty : Tree → Bool
has_empty Zero = false
has_empty One = true
has_empty (Letter a) = false
has_empty (Or s t) = has_empty s || has_empty t
has_empty (Cat s t) = has_empty s && has_empty t
has_empty (Star t) = true
has_empty (Plus t) = has_empty t
has_empty (Opt t) = true

-- the letters that can begin a word
abbrev pub firsts : Tree → List ℕ
firsts Zero = []
firsts One = []
firsts (Letter a) = a ∷ []
firsts (Or s t) = firsts s ++ firsts t
firsts (Cat s t) = cond (has_word s && has_word t) (firsts s ++ cond (has_empty s) (firsts t) []) []
firsts (Star t) = firsts t
firsts (Plus t) = firsts t
firsts (Opt t) = firsts t

-- the letters that can end a word
abbrev pub lasts : Tree → List ℕ
lasts Zero = []
lasts One = []
lasts (Letter a) = a ∷ []
lasts (Or s t) = lasts s ++ lasts t
lasts (Cat s t) = cond (has_word s && has_word t) (cond (has_empty t) (lasts s) [] ++ lasts t) []
lasts (Star t) = lasts t
lasts (Plus t) = lasts t
lasts (Opt t) = lasts t

-- whether a letter is listed
abbrev pub has : List ℕ → ℕ → Bool
has xs p = list_any (λ x. x == p) xs

-- whether q can follow p
abbrev pub follows : Tree → ℕ → ℕ → Bool
follows Zero p q = false
follows One p q = false
follows (Letter a) p q = false
follows (Or s t) p q = follows s p q || follows t p q
follows (Cat s t) p q =
    (has_word s && has_word t)
    && ((follows s p q || follows t p q) || (has (lasts s) p && has (firsts t) q))
follows (Star t) p q = follows t p q || (has (lasts t) p && has (firsts t) q)
follows (Plus t) p q = follows t p q || (has (lasts t) p && has (firsts t) q)
follows (Opt t) p q = follows t p q
