-- The words of a line ask for one request.
use Rattle.std.proofs.Common.{◌≡◌, ◌∙◌, ◌<◌, ◌^◌, ℕ, List, Option, Some, length, get_or, refl, sym, ap, arith, subst, inl, inr}
use Rattle.std.specs.Prelude.{cond, codes}
use Rattle.std.specs.Str.{bytes_eq}
use Rattle.std.proofs.lemmas.Bool.{cases_lt}
use Rattle.std.proofs.lemmas.Fmt.{decimal_injective}
use Rattle.clap.specs.Words.{Row}
use Rattle.command_line.specs.declared.commands.Command.{Command}
use Rattle.command_line.specs.declared.commands.Command.TheVariants as command
use Rattle.command_line.specs.declared.fault.LineFault.{LineFault}
use Rattle.command_line.specs.declared.fault.LineFault.TheVariants as fault
use Rattle.command_line.specs.declared.request.Request.{Request}
use Rattle.command_line.specs.Tables.{NumberOption, number_options, option_at, command_word}
use Rattle.command_line.specs.Parsing.{rows_of_line}
use Rattle.command_line.specs.Line.{IsLine, IsSize, IsSizeFor, IsNumberIn, AreNumbersIn, IsFaultOf, IsInRange, IsTaken, IsNoCommand, IsFirstBad, IsBadNumber, IsBadSize, numbers_of}

-- the command with a word
named : List ℕ → Command
named word = cond (bytes_eq word (codes "monoid")) command.Monoid
    (cond (bytes_eq word (codes "green")) command.Green
    (cond (bytes_eq word (codes "starfree")) command.StarFree
    (cond (bytes_eq word (codes "piecewise")) command.Piecewise
    (cond (bytes_eq word (codes "local")) command.Local
    (cond (bytes_eq word (codes "rtrivial")) command.RTrivial
    (cond (bytes_eq word (codes "commutative")) command.Commutative
    (cond (bytes_eq word (codes "bound")) command.Bound
    (cond (bytes_eq word (codes "table")) command.Table
    (cond (bytes_eq word (codes "report")) command.Report
    (cond (bytes_eq word (codes "generate")) command.Generate command.Automaton))))))))))

named-word : (c : Command) → named (command_word c) ≡ c
unfolding named
named-word command.Automaton = refl
named-word other = refl

-- the word of a command is no other's
one_command : (c d : Command) → command_word c ≡ command_word d → c ≡ d
one_command c d e = sym (named-word c) ∙ ap named e ∙ named-word d

one_text : (o : Option (List ℕ)) (u v : List ℕ) → o ≡ Some u → o ≡ Some v → u ≡ v
one_text o u v p q = let both : Some u ≡ Some v = sym p ∙ q in cc

-- an option has one number
one_number : (given : List Row) (option : NumberOption) (m n : ℕ) → option.most < 2 ^ 64
    → IsNumberIn given option m → IsNumberIn given option n → m ≡ n
one_number given option m n small p q =
    decimal_injective m n (omega (arith, p.within.most, small)) (omega (arith, q.within.most, small))
    (sym p.spelled ∙ q.spelled)

number_at : (given : List Row) (r s : Request) (place : ℕ) → place < length number_options
    → (option_at place).most < 2 ^ 64
    → AreNumbersIn given (numbers_of r) → AreNumbersIn given (numbers_of s)
    → get_or (numbers_of r) place 0 ≡ get_or (numbers_of s) place 0
number_at given r s place h small p q =
    one_number given (option_at place) (get_or (numbers_of r) place 0)
    (get_or (numbers_of s) place 0) small (p place h) (q place h)

-- a command and its operand have one size
one_size : (c : Command) (operand : List ℕ) (m n : ℕ) → IsSizeFor c operand m
    → IsSizeFor c operand n → m ≡ n
one_size command.Generate operand m n p q =
    decimal_injective m n (omega (arith, p.most)) (omega (arith, q.most))
    (sym p.spelled ∙ q.spelled)
one_size other operand m n p q = p ∙ sym q

request_of : Command → List ℕ → ℕ → ℕ → ℕ → ℕ → ℕ → ℕ → ℕ → ℕ → Request
request_of c name size subsets elements table nodes level pairs workers = record {
  command = c;
  operand = name;
  size = size;
  subsets = subsets;
  elements = elements;
  table = table;
  nodes =
      nodes;
  level = level;
  pairs = pairs;
  workers = workers;
}

pub one_request : (words : List (List ℕ)) (r s : Request) → IsLine words r → IsLine words s → r ≡ s
unfolding request_of
one_request words r s p q =
    let given = rows_of_line words in
    let c = one_command r.command s.command (one_text _ _ _ p.taken.first q.taken.first) in
    let o = one_text _ _ _ p.taken.second q.taken.second in
    let i : r.size ≡ s.size =
    one_size r.command r.operand r.size s.size p.size
    (subst (λ (d : Command). IsSizeFor d r.operand s.size) (sym c)
    (subst (λ (operand : List ℕ). IsSizeFor s.command operand s.size) (sym o) q.size)) in
    let a : r.subsets ≡ s.subsets =
    number_at given r s 0 (omega arith) (omega arith) p.numbers q.numbers in
    let b : r.elements ≡ s.elements =
    number_at given r s 1 (omega arith) (omega arith) p.numbers q.numbers in
    let d : r.table ≡ s.table =
    number_at given r s 2 (omega arith) (omega arith) p.numbers q.numbers in
    let e : r.nodes ≡ s.nodes =
    number_at given r s 3 (omega arith) (omega arith) p.numbers q.numbers in
    let f : r.level ≡ s.level =
    number_at given r s 4 (omega arith) (omega arith) p.numbers q.numbers in
    let g : r.pairs ≡ s.pairs =
    number_at given r s 5 (omega arith) (omega arith) p.numbers q.numbers in
    let h : r.workers ≡ s.workers =
    number_at given r s 6 (omega arith) (omega arith) p.numbers q.numbers in
    let whole : request_of r.command r.operand r.size r.subsets r.elements r.table r.nodes r.level
    r.pairs r.workers
    ≡ request_of s.command s.operand s.size s.subsets s.elements s.table s.nodes s.level s.pairs
    s.workers = cc in
    whole

-- the size of a line with the command `generate`
generate_size : (words : List (List ℕ)) (r : Request) → IsLine words r
    → r.command ≡ command.Generate → IsSize r.operand r.size
generate_size words r line e = subst (λ (c : Command). IsSizeFor c r.operand r.size) e line.size

pub line_in_range : (words : List (List ℕ)) (r : Request) → IsLine words r → IsInRange r
line_in_range words r line = record {
  numbers = λ place h. (line.numbers place h).within;
  size = λ e. let is = generate_size words r line e in (is.least, is.most);
}

pub line_without_fault : (words : List (List ℕ)) (r : Request) (f : LineFault) → IsLine words r
    → IsFaultOf words f → f ≡ fault.Memory
line_without_fault words r fault.Words line h =
    absurd (h line.taken.faultless)
line_without_fault words r fault.Command line h =
    absurd (h.unknown r.command (one_text _ _ _ h.taken.first line.taken.first))
line_without_fault words r (fault.Number place) line h =
    absurd (h.first.bad (get_or (numbers_of r) place 0) (line.numbers place h.first.within))
line_without_fault words r fault.Size line h =
    let is : r.command ≡ command.Generate =
    one_command r.command command.Generate (one_text _ _ _ line.taken.first h.taken.first) in
    let same : r.operand ≡ h.operand = one_text _ _ _ line.taken.second h.taken.second in
    absurd (h.bad r.size (subst (λ (operand : List ℕ). IsSize operand r.size) same
    (generate_size words r line is)))
line_without_fault words r fault.Memory line h = refl

-- words of no command name none
unknown_named : (words : List (List ℕ)) (c : Command) (operand : List ℕ) → IsNoCommand words
    → IsTaken words (command_word c) operand → ⊥
unknown_named words c operand h taken =
    h.unknown c (one_text _ _ _ h.taken.first taken.first)

-- one option is the first without a number in its range
one_place : (given : List Row) (i j : ℕ) → IsFirstBad given i → IsFirstBad given j → i ≡ j
one_place given i j p q = elim (cases_lt i j) [
  | inl below ↦ let n = q.before i below in absurd (p.bad n.0 n.1)
  | inr over ↦ elim (cases_lt j i) [
    | inl above ↦ let n = p.before j above in absurd (q.bad n.0 n.1)
    | inr under ↦ omega (arith, over, under)
  ]
]

-- an option has no number in its range, or each has one
number_or_size : (words : List (List ℕ)) (place : ℕ) → IsBadNumber words place → IsBadSize words
    → ⊥
number_or_size words place p q =
    let n = q.numbers place p.first.within in p.first.bad n.0 n.1

pub one_fault : (words : List (List ℕ)) (f g : LineFault) → IsFaultOf words f → IsFaultOf words g
    → ¬ (f ≡ fault.Memory) → ¬ (g ≡ fault.Memory) → f ≡ g
one_fault words fault.Memory g p q m n = absurd (m refl)
one_fault words fault.Words fault.Memory p q m n = absurd (n refl)
one_fault words fault.Words fault.Words p q m n = refl
one_fault words fault.Words fault.Command p q m n = absurd (p q.taken.faultless)
one_fault words fault.Words (fault.Number j) p q m n = absurd (p q.taken.faultless)
one_fault words fault.Words fault.Size p q m n = absurd (p q.taken.faultless)
one_fault words fault.Command fault.Memory p q m n = absurd (n refl)
one_fault words fault.Command fault.Words p q m n = absurd (q p.taken.faultless)
one_fault words fault.Command fault.Command p q m n = refl
one_fault words fault.Command (fault.Number j) p q m n =
    absurd (unknown_named words q.command q.operand p q.taken)
one_fault words fault.Command fault.Size p q m n =
    absurd (unknown_named words command.Generate q.operand p q.taken)
one_fault words (fault.Number i) fault.Memory p q m n = absurd (n refl)
one_fault words (fault.Number i) fault.Words p q m n = absurd (q p.taken.faultless)
one_fault words (fault.Number i) fault.Command p q m n =
    absurd (unknown_named words p.command p.operand q p.taken)
one_fault words (fault.Number i) (fault.Number j) p q m n =
    ap (λ (place : ℕ). fault.Number place) (one_place (rows_of_line words) i j p.first q.first)
one_fault words (fault.Number i) fault.Size p q m n = absurd (number_or_size words i p q)
one_fault words fault.Size fault.Memory p q m n = absurd (n refl)
one_fault words fault.Size fault.Words p q m n = absurd (q p.taken.faultless)
one_fault words fault.Size fault.Command p q m n =
    absurd (unknown_named words command.Generate p.operand q p.taken)
one_fault words fault.Size (fault.Number j) p q m n = absurd (number_or_size words j q p)
one_fault words fault.Size fault.Size p q m n = refl
