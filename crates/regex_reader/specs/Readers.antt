-- What a reader knows between two bytes, and what one byte changes.
use Rattle.std.specs.Prelude.{◌≡◌, ◌+◌, ◌≤◌, ℕ, Bool, true, false, Option, Some, None, List, [], ◌∷◌, length, map, reverse}
use Rattle.expression_theory.specs.Frames as frames
use Rattle.expression_theory.specs.Scan as scan
use Rattle.regex_reader.specs.Expressions.{tree_in}
use Rattle.regex_reader.specs.declared.expr.Expr.{Expr}
use Rattle.regex_reader.specs.declared.fault.ExprFault.{ExprFault}
use Rattle.regex_reader.specs.declared.fault.ExprFault.TheVariants as fault
use Rattle.regex_reader.specs.declared.frames.Frame.{Frame}
use Rattle.regex_reader.specs.declared.reader.Reader.{Reader}
use Rattle.expression_theory.specs.Expression.{most_nodes}
use Rattle.expression_theory.specs.declared.signs.Class.{Class}

-- an operand must come where there is no last piece
abbrev pub is_due : Option Expr → Bool
is_due None = true
is_due (Some e) = false

-- the frame of the theory
abbrev pub frame_of : Option Expr → Frame → frames.Frame
frame_of piece f = frames.frame (tree_in f.alternatives) (tree_in f.sequence) (tree_in piece)

-- the frames, the innermost first
abbrev pub frames_of : Reader → List frames.Frame
frames_of r = frame_of r.piece r.top ∷ map (frame_of None) (reverse r.waiting.items)

-- the test that a fault reports, at a place
abbrev pub IsFaultAt : Option scan.FaultKind → ℕ → ExprFault → Type 0
IsFaultAt failing at (fault.Unexpected place) = (failing ≡ Some scan.Unexpected) × (place ≡ at)
IsFaultAt failing at (fault.UnknownLetter place) =
    (failing ≡ Some scan.UnknownLetter) × (place ≡ at)
IsFaultAt failing at (fault.TooDeep place) = (failing ≡ Some scan.TooDeep) × (place ≡ at)
IsFaultAt failing at (fault.TooLarge place) = (failing ≡ Some scan.TooLarge) × (place ≡ at)
IsFaultAt failing at fault.Memory = Unit {0}

-- the first test that fails at a byte of this class
abbrev pub failing_here : Reader → Class → Option scan.FaultKind
failing_here r c = scan.failing (is_due r.piece) (length r.waiting.items) r.nodes c

-- no test fails at a byte of this class, which leads from the one reader to the other
pub record HasRead (r : Reader) (c : Class) (next : Reader) : Type 0 where
  pub clear : failing_here r c ≡ None
  pub due : is_due next.piece ≡ scan.due_by (is_due r.piece) c
  pub depth : length next.waiting.items ≡ scan.depth_by (length r.waiting.items) c
  pub nodes : next.nodes ≡ r.nodes + scan.cost (is_due r.piece) c
  pub frames : frames.run (frames_of r) (scan.signs_in (c ∷ [])) ≡ Some (frames_of next)

-- what is known between two bytes
pub record IsReader (r : Reader) : Type 0 where
  pub depth : length r.waiting.items ≤ scan.most_open
  pub nodes : r.nodes ≤ most_nodes

-- the fault of a text: that of its first failing test
abbrev pub IsFirstFault : List Class → ExprFault → Type 0
IsFirstFault cs (fault.Unexpected at) = scan.IsFault cs scan.Unexpected at
IsFirstFault cs (fault.UnknownLetter at) = scan.IsFault cs scan.UnknownLetter at
IsFirstFault cs (fault.TooDeep at) = scan.IsFault cs scan.TooDeep at
IsFirstFault cs (fault.TooLarge at) = scan.IsFault cs scan.TooLarge at
IsFirstFault cs fault.Memory = Unit {0}
