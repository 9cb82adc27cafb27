-- A command that takes one option after the other.
use Rattle.std.proofs.Common.{◌≡◌, ◌<◌, ◌+◌, ℕ, suc, List, [], length, drop, ap, sym, drop-cons, add-one, get_or}
use Rattle.std.proofs.Math.ListN.{get_or-map}
use Rattle.clap.specs.Words.{App, with_rule}
use Rattle.command_line.specs.Tables.{NumberOption, number_options, option_words, option_at, row}
use Rattle.command_line.specs.Parsing.{with_options, valued}

-- the option with the word at a place, and then those behind it
pub with_options-next : (place : ℕ) (words : List (List ℕ)) (app next : App)
    → place < length words
    → next ≡ with_rule app (valued (get_or words place []))
    → with_options (drop (place + 1) words) next ≡ with_options (drop place words) app
with_options-next place words app next h e =
    rw (add-one, drop-cons words place []) (ap (with_options (drop (suc place) words)) e)

-- the word at a place is that of the option there
pub word_at : (place : ℕ) → (option_at place).word ≡ get_or option_words place []
word_at place = sym (get_or-map (λ (option : NumberOption). option.word) number_options place (row [] 0 0 0))
