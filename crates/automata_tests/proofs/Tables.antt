-- The states of a table's automaton, as they are seen.
use Rattle.std.proofs.Common.{◌≡◌, ℕ, ◌+◌, ◌*◌, ◌<◌, List, [], ◌∷◌, ◌++◌, length, refl}
use Rattle.std.specs.Prelude.{slice_index, nat_eq}
use Rattle.std.specs.List.{position_or_len}
use Rattle.std.proofs.lemmas.Bool.Decides.{Decides-eqb}
use Rattle.std.proofs.lemmas.List.Elements.{All-get_or}
use Rattle.indexmap.specs.IndexSet.{insert_key}
use Rattle.language_theory.specs.Words.{Over}
use Rattle.language_theory.proofs.Congruences.{moved_append, moved_within}
use Rattle.language_theory.proofs.Graphs.{row_place}
use Rattle.exploration.specs.States.{AreKept, IsNext}
use Rattle.automata_tests.specs.Table.{Table, IsTable, image, state_of, number_of}
use Rattle.exploration.proofs.Interning.{insert_reached}
use Rattle.exploration.proofs.KeyedStates.{seen_keeps, seen_next, seen_holds, next_reached}

state_next : (t : Table) (w : List ℕ) (a : ℕ) → state_of t (w ++ a ∷ []) ≡ image t (state_of t w) a
state_next t w a = moved_append (image t) t.start w (a ∷ [])

-- the automaton after a state was seen
abbrev pub with_seen : Table → ℕ → Table
with_seen t p = record t { seen = insert_key nat_eq t.seen p }

pub table_seen : (t : Table) (w : List ℕ) (p : ℕ) → Over t.letters w → state_of t w ≡ p → IsTable t
    → IsTable (with_seen t p)
table_seen t w p o e h = record {
  long = h.long;
  within = h.within;
  start = h.start;
  seen = insert_reached nat_eq Decides-eqb t.letters (state_of t) t.seen p w o e h.seen;
}

pub table_keeps : (t : Table) (p : ℕ) → AreKept t.letters (number_of t) (number_of (with_seen t p))
table_keeps t p = seen_keeps nat_eq Decides-eqb t.letters (state_of t) t.seen p

pub table_next : (t : Table) (q a p : ℕ) → p ≡ image t (slice_index t.seen q) a
    → IsNext t.letters (number_of t) (number_of (with_seen t p)) q a
    (position_or_len (nat_eq p) t.seen)
table_next t q a p =
    seen_next nat_eq Decides-eqb t.letters (state_of t) (image t) (state_next t) t.seen 0 q a p

-- a seen state leads to a state to which a word leads
pub table_reaches : (t : Table) (q a : ℕ) → IsTable t → q < length t.seen → a < t.letters
    → (w : List ℕ) × Over t.letters w × (state_of t w ≡ image t (slice_index t.seen q) a)
table_reaches t q a h = next_reached nat_eq Decides-eqb t.letters (state_of t) (image t)
    (state_next t) t.seen 0 q a h.seen

-- a seen state is a state
pub table_within : (t : Table) (q : ℕ) → IsTable t → q < length t.seen
    → slice_index t.seen q < t.states
table_within t q h l =
    seen_holds nat_eq Decides-eqb t.letters (state_of t) (λ p. p < t.states) t.seen 0 q h.seen l
    (λ w o. moved_within t.letters t.states (image t) within t.start w h.start o)
  where
    within : (p a : ℕ) → p < t.states → a < t.letters → image t p a < t.states
    within p a hp ha = All-get_or (λ q. q < t.states) t.targets (p * t.letters + a) 0
        (rw h.long (row_place p a t.states t.letters hp ha)) h.within
