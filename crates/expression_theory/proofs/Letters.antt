-- The letters of a spelt tree are those of the text, and below the alphabet's number of letters.
use Rattle.std.proofs.Common.{◌≡◌, Option, ℕ, ◌<◌, ◌||◌, ◌==◌, Bool, true, false, cond, Some, None, List, [], ◌∷◌, ◌++◌, length, refl, ap, sym, subst, ◌∙◌, nat_lt}
use Rattle.std.specs.List.{All, position_or_len}
use Rattle.std.proofs.lemmas.List.{append-nil}
use Rattle.std.proofs.lemmas.List.Elements.{All-nil, All-cons, All-append}
use Rattle.std.proofs.lemmas.Bool.Decides.{Decides-ltb}
use Rattle.expression_theory.specs.Expression.{Tree}
use Rattle.expression_theory.specs.Positions.{positions}
use Rattle.expression_theory.specs.Grammar.{Leaf, leaf_tree, Quantifier, applied, Sign, Operand, Bar, Postfix, Open, Close, Level, Atom, Piece, Sequence, Union, Spells, operand, inside, atom, postfix, one_piece, next_piece, one_sequence, next_sequence}
use Rattle.expression_theory.specs.Scan.{Class, Skipped, Unknown, Good, signs_in, letter_class, sign_class, class_of, classes, is_lower_case}
use Rattle.expression_theory.proofs.Reading.{signs_append}
use Rattle.expression_theory.specs.declared.signs.Leaf.TheVariants as leaf
use Rattle.expression_theory.specs.declared.signs.Quantifier.TheVariants as quantifier

-- a search that finds the letter, or does not
abbrev pub searched : List ℕ → ℕ → Option ℕ
searched letters byte =
    let place = position_or_len (λ a. a == byte) letters in
    cond (nat_lt place (length letters)) (Some place) None

-- the class of a letter that was searched
abbrev pub class_at : Option ℕ → Class
class_at None = Unknown
class_at (Some place) = Good (Operand (leaf.Letter place))

class_searched : (letters : List ℕ) (byte : ℕ)
    → class_at (searched letters byte) ≡ letter_class letters byte
class_searched letters byte = let place = position_or_len (λ a. a == byte) letters in
    by (nat_lt place (length letters)) place
  where
    by : (b : Bool) (place : ℕ)
        → class_at (cond b (Some place) None) ≡ cond b (Good (Operand (leaf.Letter place))) Unknown
    by true place = refl
    by false place = refl

-- a letter that was found
pub found_class : (letters : List ℕ) (byte place : ℕ) → searched letters byte ≡ Some place
    → Good (Operand (leaf.Letter place)) ≡ letter_class letters byte
found_class letters byte place e = sym (ap class_at e) ∙ class_searched letters byte

-- a letter that was not found
pub lost_class : (letters : List ℕ) (byte : ℕ) → searched letters byte ≡ None
    → Unknown ≡ letter_class letters byte
lost_class letters byte e = sym (ap class_at e) ∙ class_searched letters byte

-- the letters among the signs
abbrev pub symbols : List Sign → List ℕ
symbols [] = []
symbols (Operand (leaf.Letter a) ∷ w) = a ∷ symbols w
symbols (x ∷ w) = symbols w

symbols_append : (u v : List Sign) → symbols (u ++ v) ≡ symbols u ++ symbols v
symbols_append [] v = refl
symbols_append (Operand leaf.Zero ∷ u) v = symbols_append u v
symbols_append (Operand leaf.One ∷ u) v = symbols_append u v
symbols_append (Operand (leaf.Letter a) ∷ u) v = ap (λ w. a ∷ w) (symbols_append u v)
symbols_append (Bar ∷ u) v = symbols_append u v
symbols_append (Postfix m ∷ u) v = symbols_append u v
symbols_append (Open ∷ u) v = symbols_append u v
symbols_append (Close ∷ u) v = symbols_append u v

leaf_positions : (x : Leaf) → positions (leaf_tree x) ≡ symbols (Operand x ∷ [])
leaf_positions leaf.Zero = refl
leaf_positions leaf.One = refl
leaf_positions (leaf.Letter a) = refl

applied_positions : (m : Quantifier) (t : Tree) → positions (applied m t) ≡ positions t
applied_positions quantifier.Star t = refl
applied_positions quantifier.Plus t = refl
applied_positions quantifier.Opt t = refl

letters_spelt : (l : Level) (w : List Sign) (t : Tree) → Spells l w t → positions t ≡ symbols w
letters_spelt l w t (operand {x = x}) = leaf_positions x
letters_spelt l w t (inside {w = v} {t = x} h) = letters_spelt Union v x h
    ∙ sym (append-nil (symbols v)) ∙ sym (symbols_append v (Close ∷ []))
letters_spelt l w t (atom {w = v} {t = x} h) = letters_spelt Atom v x h
letters_spelt l w t (postfix {w = v} {t = x} m h) =
    applied_positions m x ∙ letters_spelt Piece v x h ∙ sym (append-nil (symbols v))
    ∙ sym (symbols_append v (Postfix m ∷ []))
letters_spelt l w t (one_piece {w = v} {t = x} h) = letters_spelt Piece v x h
letters_spelt l w t (next_piece {u = u} {v = v} {s = x} {t = y} h k) =
    ap (λ r. r ++ positions y) (letters_spelt Sequence u x h)
    ∙ ap (λ r. symbols u ++ r) (letters_spelt Piece v y k) ∙ sym (symbols_append u v)
letters_spelt l w t (one_sequence {w = v} {t = x} h) = letters_spelt Sequence v x h
letters_spelt l w t (next_sequence {u = u} {v = v} {s = x} {t = y} h k) =
    ap (λ r. r ++ positions y) (letters_spelt Union u x h)
    ∙ ap (λ r. symbols u ++ r) (letters_spelt Sequence v y k) ∙ sym (symbols_append u (Bar ∷ v))

-- the letters of a class
abbrev pub letters_in : Class → List ℕ
letters_in c = symbols (signs_in (c ∷ []))

either_class : (P : List ℕ → Type 0) (b : Bool) (c d : Class) → (b ≡ true → P (letters_in c))
    → P (letters_in d) → P (letters_in (cond b c d))
either_class P true c d h k = h refl
either_class P false c d h k = k

sign_letters : (byte : ℕ) → letters_in (sign_class byte) ≡ []
sign_letters byte =
    no ((byte == 32) || (byte == 9)) Skipped _ refl
    (no (byte == 48) (Good (Operand leaf.Zero)) _ refl
    (no (byte == 49) (Good (Operand leaf.One)) _ refl
    (no (byte == 124) (Good Bar) _ refl
    (no (byte == 42) (Good (Postfix quantifier.Star)) _ refl
    (no (byte == 43) (Good (Postfix quantifier.Plus)) _ refl
    (no (byte == 63) (Good (Postfix quantifier.Opt)) _ refl
    (no (byte == 40) (Good Open) _ refl
    (no (byte == 41) (Good Close) _ refl refl))))))))
  where
    no : (b : Bool) (c d : Class) → letters_in c ≡ [] → letters_in d ≡ []
        → letters_in (cond b c d) ≡ []
    no b c d h k = either_class (λ w. w ≡ []) b c d (λ e. h) k

class_letters : (letters : List ℕ) (byte : ℕ)
    → All (λ a. a < length letters) (letters_in (class_of letters byte))
class_letters letters byte =
    let place = position_or_len (λ a. a == byte) letters in
    let none = All-nil (λ a. a < length letters) in
    either_class (All (λ a. a < length letters)) (is_lower_case byte) (letter_class letters byte)
    (sign_class byte)
    (λ e. either_class (All (λ a. a < length letters)) (nat_lt place (length letters))
    (Good (Operand (leaf.Letter place))) Unknown
    (λ f. All-cons (λ a. a < length letters) place [] ((Decides-ltb place (length letters)).0 f)
    none) none)
    (subst (All (λ a. a < length letters)) (sym (sign_letters byte)) none)

text_letters : (letters text : List ℕ)
    → All (λ a. a < length letters) (symbols (signs_in (classes letters text)))
text_letters letters [] = All-nil (λ a. a < length letters)
text_letters letters (byte ∷ text) =
    let c = class_of letters byte in
    subst (All (λ a. a < length letters))
    (sym (ap symbols (signs_append (c ∷ []) (classes letters text))
    ∙ symbols_append (signs_in (c ∷ [])) (signs_in (classes letters text))))
    (All-append (λ a. a < length letters) (letters_in c) (symbols (signs_in (classes letters text)))
    (class_letters letters byte) (text_letters letters text))

-- the letters of a tree that a text spells are below the number of letters
pub spelt_letters : (letters text : List ℕ) (t : Tree)
    → Spells Union (signs_in (classes letters text)) t → All (λ a. a < length letters) (positions t)
spelt_letters letters text t h =
    subst (All (λ a. a < length letters))
    (sym (letters_spelt Union (signs_in (classes letters text)) t h))
    (text_letters letters text)
