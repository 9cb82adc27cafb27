use Rattle.std.proofs.Common.{◌≡◌, ◌++◌, length, drop}
use Rattle.language_theory.specs.Words.{Over}
use Rattle.report_buffer.specs.Texts.{letters_text}
use Rattle.report_buffer.proofs.rendering.push_letters.Given as goal

-- the text so far and the letters that are still to come are the text that was there and all
-- letters
abbrev pub invariant-loop-letter : goal.invariant-loop-letter
invariant-loop-letter l = record {
  text : l.text.items ++ letters_text l.alphabet (drop l.letter-index l.letters)
      ≡ l.fn.text.items ++ letters_text l.alphabet l.letters;
  over : Over (length l.alphabet) (drop l.letter-index l.letters);
}
