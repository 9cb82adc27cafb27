use Rattle.std.proofs.Common.{◌≡◌, ◌∙◌, Some, is_some, codes, sym, ap, map, Global, refl, subst, get_or}
use Rattle.std.specs.Prelude.{string_bytes}
use Rattle.std.proofs.lemmas.Result.{err_from_is_err_and}
use Rattle.clap.specs.Words.{first_of, found_of, rows_of}
use Rattle.command_line.specs.Tables.{command_word}
use Rattle.command_line.specs.Parsing.{rows_of_line}
use Rattle.command_line.specs.Line.{IsFaultOf, AreNumbersIn}
use Rattle.command_line.specs.declared.fault.LineFault.{LineFault}
use Rattle.command_line.proofs.Taken.{both_words}
use Rattle.command_line.proofs.reading.read_line.Goals as goal

pub given-word-requires : goal.given-word-requires
given-word-requires c =
    let both = both_words (map (string_bytes {Z = Global}) c.args.words.now)
    c.in_ok-matches.ensures.taken in
    ap (λ rows. is_some (first_of (codes "command") rows)) c.in_ok-matches.ensures.found
    ∙ ap is_some both.2.first

pub given-operand-requires : goal.given-operand-requires
given-operand-requires c =
    let both = both_words (map (string_bytes {Z = Global}) c.args.words.now)
    c.in_ok-matches.ensures.taken in
    ap (λ rows. is_some (first_of (codes "operand") rows)) c.in_ok-matches.ensures.found
    ∙ ap is_some both.2.second

pub returns-in_default-clause-fault : goal.returns-in_default-clause-fault
returns-in_default-clause-fault c =
    let same : rows_of (found_of c.in_ok-matches.matches)
    ≡ rows_of_line (map (string_bytes {Z = Global}) c.args.words.now) =
    c.in_ok-matches.ensures.found in
    record {
      word = c.given-word.result.now;
      operand = c.given-operand.result.now;
      taken = record {
        faultless = c.in_ok-matches.ensures.taken;
        first = rw (← same) c.given-word.ensures;
        second = rw (← same) c.given-operand.ensures;
      };
      unknown = c.in_default.ensures.none refl;
    }

pub returns-in_err-numbers-clause-fault : goal.returns-in_err-numbers-clause-fault
returns-in_err-numbers-clause-fault c =
    let same : rows_of (found_of c.in_ok-matches.matches)
    ≡ rows_of_line (map (string_bytes {Z = Global}) c.args.words.now) =
    c.in_ok-matches.ensures.found in
    let bad = c.in_err-numbers.ensures.number in
    let p = err_from_is_err_and c.from_residual-in_err-numbers.result
    c.from_residual-in_err-numbers.ensures.1 in
    let P : LineFault
    → Type 0 = λ fault. IsFaultOf (map (string_bytes {Z = Global}) c.args.words.now) fault in
    rw (p.1, p.2) (subst P (sym bad.1) (record {
      command = c.in-Some.command;
      operand = c.given-operand.result.now;
      taken = record {
        faultless = c.in_ok-matches.ensures.taken;
        first = rw (← same) (c.given-word.ensures ∙ ap Some c.in-Some.ensures.some);
        second = rw (← same) c.given-operand.ensures;
      };
      first = rw (← same) bad.2;
    }))

pub returns-in_err-size-clause-fault : goal.returns-in_err-size-clause-fault
returns-in_err-size-clause-fault c =
    let same : rows_of (found_of c.in_ok-matches.matches)
    ≡ rows_of_line (map (string_bytes {Z = Global}) c.args.words.now) =
    c.in_ok-matches.ensures.found in
    let numbers : AreNumbersIn (rows_of_line (map (string_bytes {Z = Global}) c.args.words.now))
    c.in_ok-numbers.numbers =
    rw (← same) c.in_ok-numbers.ensures.numbers in
    let bad = c.in_err-size.ensures.fault in
    let p = err_from_is_err_and c.from_residual-in_err-size.result
    c.from_residual-in_err-size.ensures.1 in
    let P : LineFault
    → Type 0 = λ fault. IsFaultOf (map (string_bytes {Z = Global}) c.args.words.now) fault in
    rw (p.1, p.2) (subst P (sym bad.0) (record {
      operand = c.given-operand.result.now;
      taken = record {
        faultless = c.in_ok-matches.ensures.taken;
        first =
            rw (← same) (c.given-word.ensures
            ∙ ap Some (c.in-Some.ensures.some ∙ ap command_word bad.1));
        second = rw (← same) c.given-operand.ensures;
      };
      numbers = λ place h. (get_or c.in_ok-numbers.numbers place 0, numbers place h);
      bad = bad.2;
    }))
