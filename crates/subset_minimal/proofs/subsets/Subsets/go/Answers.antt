use Rattle.std.proofs.Common.{◌≡◌, ◌∙◌, ℕ, Some, [], ap, sym, length, arith, List, Bool}
use Rattle.std.specs.Prelude.{slice_get, slice_index_or}
use Rattle.std.specs.List.{position_or_len}
use Rattle.std.specs.Bool.{beq}
use Rattle.std.specs.Cmp.Lexicographic.{pointwise}
use Rattle.std.proofs.lemmas.Option.{get_or_from_slice_get}
use Rattle.indexmap.specs.IndexSet.{insert_key}
use Rattle.language_theory.specs.Automaton.{Automaton}
use Rattle.subset_minimal.specs.Subsets.{Subsets, next_of, with_seen, successor}
use Rattle.subset_minimal.proofs.Sets.{successor_long}
use Rattle.subset_minimal.proofs.Numbering.{subsets_long}
use Rattle.subset_minimal.proofs.subsets.Subsets.go.Goals as goal

-- the set that is read at a place
read_at : (s t : Subsets) (n : ℕ) (set : List Bool) → s ≡ t → slice_get s.seen n ≡ Some set
    → set ≡ slice_index_or t.seen n []
read_at s t n set e read = sym (get_or_from_slice_get s.seen n set [] read)
    ∙ ap (λ (u : Subsets). slice_index_or u.seen n []) e

pub set_next-requires-clause-long : goal.set_next-requires-clause-long
set_next-requires-clause-long c =
    ap (λ (set : List Bool). length set) (read_at _ _ c.args.number c.index.result.now c.self.view_is
    c.index.ensures) ∙ subsets_long c.args.self.now c.args.number c.requires.sound
    c.requires.number ∙ sym (ap (λ (s : Subsets). s.automaton.states) c.self.view_is)

pub invariant_of-self : goal.invariant_of-self
invariant_of-self c = (
  c.self.invariant.0,
  omega (arith, c.see.ensures.few, ap (λ (s : Subsets). length s.seen) c.self.view_is, c.requires.room),
  ap (λ (set : List Bool). length set) c.set_next.ensures ∙ successor_long _ _ _,
)

pub invariant_of-self-2 : goal.invariant_of-self-2
invariant_of-self-2 c = (
  c.self.invariant.0,
  omega (arith, c.see.ensures.few, ap (λ (s : Subsets). length s.seen) c.self.view_is, c.requires.room),
  ap (λ (set : List Bool). length set) c.set_next.ensures ∙ successor_long _ _ _,
)

next : (c : goal.In_ok-number)
    → c.set_next.new.next ≡ next_of c.args.self.now c.args.number c.args.letter
next c = c.set_next.ensures
    ∙ ap (λ (m : Automaton). successor m c.index.result.now c.args.letter)
    (ap (λ (s : Subsets). s.automaton) c.self.view_is)
    ∙ ap (λ (set : List Bool). successor c.args.self.now.automaton set c.args.letter)
    (read_at _ _ c.args.number c.index.result.now c.self.view_is c.index.ensures)

pub returns-clause-seen : goal.returns-clause-seen
returns-clause-seen c =
    let x = next_of c.args.self.now c.args.number c.args.letter in
    ap (λ (sets : List (List Bool)).
    let s : Subsets = record { automaton = c.self.inside.nfa.now; seen = sets } in s)
    (c.in_ok-number.ensures.seen
    ∙ ap (λ (set : List Bool). insert_key (pointwise beq) c.self.inside.seen.keys set) (next c))
    ∙ ap (λ (s : Subsets). with_seen s x) c.self.view_is

pub returns-clause-number : goal.returns-clause-number
returns-clause-number c =
    c.in_ok-number.ensures.number
    ∙ ap (λ (set : List Bool). position_or_len (pointwise beq set) c.self.inside.seen.keys) (next c)
    ∙ ap (λ (s : Subsets). position_or_len (pointwise beq (next_of c.args.self.now c.args.number
    c.args.letter)) s.seen) c.self.view_is
