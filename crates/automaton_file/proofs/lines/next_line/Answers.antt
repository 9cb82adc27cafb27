use Rattle.std.proofs.Common.{rules, sym, ap, ◌∙◌, arith, ◌≡◌, ℕ, ◌+◌, ◌-◌, List, ◌∷◌, take, drop}
use Rattle.std.specs.Prelude.{slice_range}
use Rattle.automaton_file.specs.LineText.{text_lines}
use Rattle.automaton_file.proofs.Skips.{line_ahead, skip_same, skip_line, skip_to_end, line_start_next}
use Rattle.automaton_file.proofs.lines.next_line.Goals as goal

pub lines-preserved : goal.lines-preserved
lines-preserved c =
    let ahead = line_ahead c.args.bytes.now c.split_at.result.1.now c.split_at-in-lines.result.0.now
    c.lines.from c.first_line-cut.result.text c.first_line-cut.result.whole
    c.split_at.ensures.back c.split_at-in-lines.ensures.front c.first_line-cut.ensures.first in
    record {
      skip = skip_line c.args.bytes.now c.split_at-in-lines.result.0.now _ _ _ _ _
          c.lines.invariant.skip ahead (sym c.is_plain.ensures ∙ c.if-not-is_plain.false)
          (sym c.is_significant.ensures ∙ c.if-is_significant.false);
      onward = omega arith;
      within = omega (arith, c.first_line-cut.ensures.within, c.split_at.ensures.back_len);
      some = omega arith;
      counted = omega (arith, c.first_line-cut.ensures.some);
      risen = omega (arith, c.lines.invariant.risen);
      begins = line_start_next c.args.bytes.now c.split_at.result.1.now _ _ _ _ _
          c.split_at.ensures.back c.first_line-cut.ensures.whole c.lines.invariant.begins
          c.lines.invariant.risen;
    }

pub returns : goal.returns
returns c = record {
  skip = skip_to_end c.args.bytes.now _ _ _ _ c.lines.invariant.skip c.lines.invariant.some
      c.lines-test.false;
  few = omega arith;
}

pub returns-then-is_significant : goal.returns-then-is_significant
returns-then-is_significant c =
    let from = c.lines.from in
    let t = c.first_line-cut.result.text in
    let w = c.first_line-cut.result.whole in
    let bytes = c.args.bytes.now in
    let ahead = line_ahead bytes c.split_at.result.1.now c.split_at-in-lines.result.0.now from t w
    c.split_at.ensures.back c.split_at-in-lines.ensures.front c.first_line-cut.ensures.first in
    let long : t ≡ from + t - from = omega arith in
    let text : c.split_at-in-lines.result.0.now ≡ slice_range bytes from (from + t) =
    c.split_at-in-lines.ensures.front ∙ ap (take t) c.split_at.ensures.back
    ∙ ap (λ (n : ℕ). take n (drop from bytes)) long in
    record {
      skip = skip_same _ _ _ _ _ c.lines.invariant.skip
          (ahead ∙ ap (λ (x : List ℕ). x ∷ text_lines (drop (from + w) bytes)) text);
      plain = search rules;
      significant = search rules;
      begins = c.lines.invariant.begins;
      ends = line_start_next c.args.bytes.now c.split_at.result.1.now _ _ _ _ _
          c.split_at.ensures.back c.first_line-cut.ensures.whole c.lines.invariant.begins
          c.lines.invariant.risen;
      order = omega arith;
      inside = omega (arith, c.first_line-cut.ensures.inside);
      onward = omega (arith, c.first_line-cut.ensures.some, c.lines.invariant.onward);
      within = omega (arith, c.first_line-cut.ensures.within, c.split_at.ensures.back_len);
      counted = c.lines.invariant.counted;
      rises = omega (arith, c.first_line-cut.ensures.some, c.lines.invariant.counted);
    }
