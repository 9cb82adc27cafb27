-- Words that `clap` takes give both words that must be given.
use Rattle.std.proofs.Common.{◌≡◌, ◌∙◌, ◌<◌, ◌&&◌, ◌||◌, Bool, ℕ, zero, suc, true, false, not, refl, sym, ap, arith, length, get_or, List, [], ◌∷◌, is_some, true≢false, codes}
use Rattle.std.specs.List.{list_any}
use Rattle.clap.specs.Kinds.{Kinds, check_kinds, or_else}
use Rattle.clap.specs.Simple.{Shape, built, entered, names_of, new_rule}
use Rattle.clap.specs.Takes.{is_given}
use Rattle.clap.specs.Walk.{Held, Names, Row, Rule, Text, finished, nothing_held, settled, walk, walk_from}
use Rattle.clap.specs.Faults.{check_fault, defaults_fault, entered_fault, level_fault, settle_fault, walk_fault}
use Rattle.command_line.specs.Parsing.{faults_of, line_app, rows_of_line}
use Rattle.command_line.specs.Line.{IsTaken}
use Rattle.command_line.proofs.Filled.{given_first}

last_none : (a b : Kinds) → or_else a b ≡ [] → b ≡ []
last_none [] b e = e
last_none (k ∷ ks) b e = cc

-- no fault at one level is no fault in its last checks
no_check : (s : Shape) (names : Names) (h : Held) (words : List Text) (entering : Bool)
    (below : Kinds) → level_fault s names h words entering below ≡ []
    → check_fault s (finished s.rules (walk s.rules names h words).held) entering ≡ []
no_check s names h words entering below e =
    let end = (walk s.rules names h words).held in
    let check = check_fault s (finished s.rules end) entering in
    let defaults = or_else (defaults_fault (settled s.rules end).rows s.rules) check in
    let settling = or_else (settle_fault s.rules s.args_override_self end) defaults in
    last_none (defaults_fault (settled s.rules end).rows s.rules) check
    (last_none (settle_fault s.rules s.args_override_self end) defaults
    (last_none below settling
    (last_none (walk_fault s names (walk_from h) words) (or_else below settling) e)))

nothing_wanted : (help below wanted : Bool) → check_kinds help below wanted ≡ [] → wanted ≡ false
nothing_wanted true below wanted e = cc
nothing_wanted false true wanted e = cc
nothing_wanted false false true e = cc
nothing_wanted false false false e = refl

neither : (a b : Bool) → (a || b) ≡ false → (a ≡ false) × (b ≡ false)
neither true b e = absurd (true≢false e)
neither false b e = (refl, e)

negated : (a : Bool) → not a ≡ false → a ≡ true
negated true e = refl
negated false e = absurd (true≢false e)

-- where no argument is wanted, each that must be given is given
each_given : (rows : List Row) (rules : List Rule) (place : ℕ) (d : Rule) → place < length rules
    → list_any (λ a. a.required && not (is_given a.id rows)) rules ≡ false
    → (get_or rules place d).required ≡ true → is_given (get_or rules place d).id rows ≡ true
each_given rows [] place d within none wanted = absurd (omega arith)
each_given rows (a ∷ rules) zero d within none wanted =
    negated (is_given a.id rows)
    (ap (λ b. b && not (is_given a.id rows)) (sym wanted)
    ∙ (neither (a.required && not (is_given a.id rows))
    (list_any (λ b. b.required && not (is_given b.id rows)) rules) none).0)
each_given rows (a ∷ rules) (suc place) d within none wanted =
    each_given rows rules place d (omega arith)
    (neither (a.required && not (is_given a.id rows))
    (list_any (λ b. b.required && not (is_given b.id rows)) rules) none).1 wanted

-- both words that must be given are given
given : (words : List Text) → faults_of words ≡ []
    → (is_given (codes "command") (rows_of_line words) ≡ true)
    × (is_given (codes "operand") (rows_of_line words) ≡ true)
unfolding faults_of rows_of_line line_app
given words e =
    let b = built line_app in
    let names = names_of b in
    let stop = (walk b.top.rules names nothing_held words).stopped in
    let rows = finished b.top.rules (walk b.top.rules names nothing_held words).held in
    let entering = is_some (entered b stop) in
    let none : list_any (λ a. a.required && not (is_given a.id rows)) b.top.rules ≡ false =
    nothing_wanted (not entering && false) (not entering && false)
    (list_any (λ a. a.required && not (is_given a.id rows)) b.top.rules)
    (no_check b.top names nothing_held words entering (entered_fault b stop) e) in (
      each_given rows b.top.rules 0 (new_rule []) (omega arith) none refl,
      each_given rows b.top.rules 1 (new_rule []) (omega arith) none refl,
    )

pub both_words : (words : List Text) → faults_of words ≡ []
    → (command operand : Text) × IsTaken words command operand
unfolding rows_of_line line_app
both_words words e =
    let b = built line_app in
    let there = given words e in
    let command = given_first (codes "command") b.top.rules (names_of b) nothing_held words refl
    refl refl there.0 in
    let operand = given_first (codes "operand") b.top.rules (names_of b) nothing_held words refl
    refl refl there.1 in (
      command.0,
      operand.0,
      record {
        faultless = e;
        first = command.1;
        second = operand.1;
      },
    )
