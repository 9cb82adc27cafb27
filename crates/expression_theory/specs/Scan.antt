-- The scan of a text from the left: the tests at each byte, by what is counted over the bytes
-- before it.
use Rattle.std.specs.Prelude.{◌≡◌, ℕ, ◌+◌, ◌-◌, ◌<◌, Bool, true, false, cond, ◌&&◌, ◌||◌, ◌==◌, ◌⊎◌, nat_lt, nat_le, Option, Some, None, List, [], ◌∷◌, length, take, map, slice_index_or}
use Rattle.std.specs.List.{position_or_len}
use Rattle.expression_theory.specs.Expression.{Tree, most_nodes}
use Rattle.expression_theory.specs.Grammar.{Sign, Operand, Bar, Postfix, Open, Close, Spells, Union}
use Rattle.expression_theory.specs.declared.signs.Leaf.TheVariants as leaf
use Rattle.expression_theory.specs.declared.signs.Quantifier.TheVariants as quantifier
-- what a byte is: a space or tab, a lower-case letter that is not of the alphabet, no sign, or a
-- sign
pub use Rattle.expression_theory.specs.declared.signs.Class.{Class}
pub use Rattle.expression_theory.specs.declared.signs.Class.TheVariants.{
  Skipped,
  Unknown,
  Strange,
  Good,
}

-- the number of a letter is its place in the alphabet
abbrev pub letter_class : List ℕ → ℕ → Class
letter_class letters byte =
    let place = position_or_len (λ a. a == byte) letters in
    cond (nat_lt place (length letters)) (Good (Operand (leaf.Letter place))) Unknown

-- a byte that is no lower-case letter
abbrev pub sign_class : ℕ → Class
sign_class byte =
    cond ((byte == 32) || (byte == 9)) Skipped  -- space and tab
    (cond (byte == 48) (Good (Operand leaf.Zero))  -- 0
    (cond (byte == 49) (Good (Operand leaf.One))  -- 1
    (cond (byte == 124) (Good Bar)  -- |
    (cond (byte == 42) (Good (Postfix quantifier.Star))  -- *
    (cond (byte == 43) (Good (Postfix quantifier.Plus))  -- +
    (cond (byte == 63) (Good (Postfix quantifier.Opt))  -- ?
    (cond (byte == 40) (Good Open)  -- (
    (cond (byte == 41) (Good Close)  -- )
    Strange))))))))

-- a lower-case letter, as a byte
abbrev pub is_lower_case : ℕ → Bool
is_lower_case byte = nat_le 97 byte && nat_le byte 122

-- the class of a byte under an alphabet, which is given by its letters' bytes in order
abbrev pub class_of : List ℕ → ℕ → Class
class_of letters byte =
    cond (is_lower_case byte) (letter_class letters byte) (sign_class byte)

-- the classes of the bytes of a text
abbrev pub classes : List ℕ → List ℕ → List Class
classes letters text = map (class_of letters) text

-- which test fails
pub data FaultKind : Type 0 where
  Unexpected : FaultKind
  UnknownLetter : FaultKind
  TooDeep : FaultKind
  TooLarge : FaultKind

-- the signs of a text, from the left
abbrev pub signs_in : List Class → List Sign
signs_in [] = []
signs_in (Good s ∷ cs) = s ∷ signs_in cs
signs_in (c ∷ cs) = signs_in cs

-- whether an operand must come: the last byte that is not skipped decides
abbrev pub due_by : Bool → Class → Bool
due_by d (Good (Operand t)) = false
due_by d (Good (Postfix m)) = false
due_by d (Good Close) = false
due_by d (Good Open) = true
due_by d (Good Bar) = true
due_by d c = d

-- whether an operand must come behind the bytes
abbrev pub due_from : Bool → List Class → Bool
due_from d [] = d
due_from d (c ∷ cs) = due_from (due_by d c) cs

-- how many `(` there are
abbrev pub opens : List Class → ℕ
opens [] = 0
opens (Good Open ∷ cs) = opens cs + 1
opens (c ∷ cs) = opens cs

-- how many `)` there are
abbrev pub closes : List Class → ℕ
closes [] = 0
closes (Good Close ∷ cs) = closes cs + 1
closes (c ∷ cs) = closes cs

-- how many parentheses are open
abbrev pub depth : List Class → ℕ
depth cs = opens cs - closes cs

-- how many parentheses are open behind a byte
abbrev pub depth_by : ℕ → Class → ℕ
depth_by o (Good Open) = o + 1
depth_by o (Good Close) = o - 1
depth_by o c = o

-- the nodes that a byte adds: an operand or `(` where none must come stands behind another
-- piece, and so adds a concatenation
abbrev pub cost : Bool → Class → ℕ
cost d (Good (Operand t)) = cond d 1 2
cost d (Good (Postfix m)) = 1
cost d (Good Close) = 0
cost d (Good Open) = cond d 0 1
cost d (Good Bar) = 1
cost d c = 0

-- the nodes of the tree that the bytes add
abbrev pub nodes_from : Bool → List Class → ℕ
nodes_from d [] = 0
nodes_from d (c ∷ cs) = cost d c + nodes_from (due_by d c) cs

-- the most parentheses that may be open at once
abbrev pub most_open : ℕ
most_open = 200

-- a tree may not have too many nodes
abbrev pub size_test : ℕ → Option FaultKind
size_test n = cond (nat_lt most_nodes n) (Some TooLarge) None

-- the first test that fails at a byte, if any: whether an operand must come, the open
-- parentheses and the nodes are those of the bytes before it
abbrev pub failing : Bool → ℕ → ℕ → Class → Option FaultKind
failing d o n Skipped = None
failing d o n Unknown = Some UnknownLetter
failing d o n Strange = Some Unexpected
failing d o n (Good (Operand t)) = size_test (n + cost d (Good (Operand t)))
failing d o n (Good Open) =
    cond (nat_lt o most_open) (size_test (n + cost d (Good Open))) (Some TooDeep)
failing d o n (Good Bar) = cond d (Some Unexpected) (size_test (n + 1))
failing d o n (Good (Postfix m)) = cond d (Some Unexpected) (size_test (n + 1))
failing d o n (Good Close) = cond (d || (o == 0)) (Some Unexpected) (size_test n)

-- the first test that fails at a byte of the class c behind these bytes
abbrev pub failing_after : List Class → Class → Option FaultKind
failing_after before c = failing (due_from true before) (depth before) (nodes_from true before) c

-- the first test that fails at the place i
abbrev pub failing_at : List Class → ℕ → Option FaultKind
failing_at cs i = failing_after (take i cs) (slice_index_or cs i Strange)

-- no operand must come at the end, and no parenthesis is open
abbrev pub EndsWell : List Class → Type 0
EndsWell cs = (due_from true cs ≡ false) × (depth cs ≡ 0)

-- no test fails
pub record IsAccepted (cs : List Class) : Type 0 where
  pub clear : (i : ℕ) → i < length cs → failing_at cs i ≡ None
  pub ends : EndsWell cs

-- the first failing test: at this byte, or at the end of the text
pub record IsFault (cs : List Class) (kind : FaultKind) (at : ℕ) : Type 0 where
  pub before : (i : ℕ) → i < at → failing_at cs i ≡ None
  pub here : ((at < length cs) × (failing_at cs at ≡ Some kind))
      ⊎ ((at ≡ length cs) × (kind ≡ Unexpected) × ¬ EndsWell cs)

-- the text with spaces and tabs taken out
abbrev pub visible : List Class → List Class
visible [] = []
visible (Skipped ∷ cs) = visible cs
visible (c ∷ cs) = c ∷ visible cs

-- with spaces and tabs taken out, the text has only signs, and they spell the tree
abbrev pub SpellsTree : List Class → Tree → Type 0
SpellsTree cs t = (w : List Sign) × (visible cs ≡ map Good w) × Spells Union w t
