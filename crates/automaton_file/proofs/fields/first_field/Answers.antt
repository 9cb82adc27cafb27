use Rattle.std.proofs.Common.{sym, ◌∙◌, arith}
use Rattle.std.proofs.lemmas.List.Sums.{prefix_len-le-length}
use Rattle.automaton_file.proofs.FieldRuns.{is_dark, run_at, fields_all_blank, fields_cut_at}
use Rattle.automaton_file.proofs.TextLines.{place_found}
use Rattle.automaton_file.proofs.fields.first_field.Goals as goal

pub split_at-requires : goal.split_at-requires
split_at-requires c =
    omega (
      arith,
      place_found is_dark c.args.text.now c.in-Some.start (sym c.field_start.ensures
          ∙ c.in-Some.is),
    )

pub split_at-requires-in-Some : goal.split_at-requires-in-Some
split_at-requires-in-Some c =
    omega (arith, c.run_len.ensures, prefix_len-le-length is_dark c.split_at.result.1.now)

pub returns-in-None-clause-cut : goal.returns-in-None-clause-cut
returns-in-None-clause-cut c =
    fields_all_blank c.args.text.now (sym c.field_start.ensures ∙ c.in-None.is)

pub returns-in-Some-clause-cut : goal.returns-in-Some-clause-cut
returns-in-Some-clause-cut c =
    fields_cut_at c.args.text.now c.split_at.result.1.now c.in-Some.start c.run_len.result
    (sym c.field_start.ensures ∙ c.in-Some.is) c.split_at.ensures.back c.run_len.ensures _ _
    c.split_at-in-Some.ensures.front c.split_at-in-Some.ensures.back

pub returns-in-Some-clause-some : goal.returns-in-Some-clause-some
returns-in-Some-clause-some c =
    let some = run_at c.args.text.now c.split_at.result.1.now c.in-Some.start
    (sym c.field_start.ensures ∙ c.in-Some.is) c.split_at.ensures.back in
    omega (arith, some, c.run_len.ensures, c.split_at-in-Some.ensures.front_len)

pub returns-in-Some-clause-shorter : goal.returns-in-Some-clause-shorter
returns-in-Some-clause-shorter c =
    let some = run_at c.args.text.now c.split_at.result.1.now c.in-Some.start
    (sym c.field_start.ensures ∙ c.in-Some.is) c.split_at.ensures.back in
    omega (
      arith,
      some,
      c.run_len.ensures,
      c.split_at-in-Some.ensures.back_len,
      c.split_at.ensures.back_len,
    )
