-- The text of the section `bound`.
use Rattle.std.specs.Prelude.{◌≡◌, ◌<◌, ◌-◌, ◌*◌, ◌++◌, ℕ, Bool, cond, List, codes, length, slice_index}
use Rattle.language_theory.specs.Words.{word_at}
use Rattle.cayley_tables.specs.CayleyGraphs.{CayleyGraphs}
use Rattle.report_buffer.specs.Texts.{texts_below, word_text, number_line}

-- the graphs are over the letters with these signs, and the chain has elements of theirs
pub record IsChainToSay (signs : List ℕ) (c : CayleyGraphs) (chain : List ℕ) : Type 0 where
  pub letters : c.right.letters ≡ length signs
  pub within : (i : ℕ) → i < length chain → slice_index chain i < length c.words

-- the number of elements of the chain
abbrev pub chain_head : List ℕ → List ℕ
chain_head chain = codes "bound\n" ++ number_line (codes "chain") (length chain)

-- the least word of the element at a place of the chain
abbrev pub link_text : List ℕ → List (List ℕ) → List ℕ → ℕ → List ℕ
link_text signs words chain i =
    word_text signs (word_at words (slice_index chain i)) ++ codes "\n"

-- the elements of the chain, one after another
abbrev pub chain_text : List ℕ → List (List ℕ) → List ℕ → List ℕ
chain_text signs words chain =
    chain_head chain ++ texts_below (link_text signs words chain) (length chain)

-- where the monoid is J-trivial, the level that a chain bounds
abbrev pub level_text : List ℕ → Bool → List ℕ
level_text chain trivial =
    cond trivial (number_line (codes "level") (2 * length chain - 1)) (codes "level none\n")

-- the section: a chain, and the level
abbrev pub bound_text : List ℕ → List (List ℕ) → List ℕ → Bool → List ℕ
bound_text signs words chain trivial =
    chain_text signs words chain ++ level_text chain trivial
