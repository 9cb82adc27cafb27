-- Whether a text spells an expression.
use Rattle.std.specs.Prelude.{ℕ, zero, suc, Bool, true, not, ◌&&◌, ◌==◌, is_none, List, length}
use Rattle.expression_theory.specs.Scan.{classes, failing_at, due_from, depth}
use Rattle.expression_theory.specs.declared.signs.Class.{Class}

-- no test of the scan fails at the first n bytes
abbrev pub is_clear : List Class → ℕ → Bool
is_clear cs zero = true
is_clear cs (suc n) = is_clear cs n && is_none (failing_at cs n)

-- no test of the scan fails
abbrev pub is_accepted : List Class → Bool
is_accepted cs = is_clear cs (length cs) && (not (due_from true cs) && (depth cs == 0))

-- the text spells an expression over these letters
abbrev pub is_expression : List ℕ → List ℕ → Bool
is_expression letters text = is_accepted (classes letters text)
