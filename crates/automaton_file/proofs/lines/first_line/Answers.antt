use Rattle.std.proofs.Common.{◌∙◌, arith, sym}
use Rattle.automaton_file.proofs.TextLines.{is_line_feed, text_lines_cut, text_lines_rest, place_found}
use Rattle.automaton_file.proofs.lines.first_line.Goals as goal

pub split_at-requires : goal.split_at-requires
split_at-requires c =
    omega (
      arith,
      place_found is_line_feed c.args.text.now c.in-Some.end (sym c.line_feed.ensures
          ∙ c.in-Some.is),
    )

pub returns-in-Some-clause-first : goal.returns-in-Some-clause-first
returns-in-Some-clause-first c =
    text_lines_cut _ _ _ _ (sym c.line_feed.ensures ∙ c.in-Some.is) c.split_at.ensures.front
    c.text_len.ensures.text c.text_len.ensures.within

pub returns-in-None-clause-first : goal.returns-in-None-clause-first
returns-in-None-clause-first c =
    text_lines_rest _ (sym c.line_feed.ensures ∙ c.in-None.is) c.requires
