use Rattle.std.proofs.Common.{◌<◌, [], ◌∷◌, length}
use Rattle.language_theory.specs.Words.{word_at}
use Rattle.language_theory.specs.ShortlexGraph.{SameNode}
use Rattle.piecewise_testable.specs.Sides.{beside}
use Rattle.piecewise_testable.specs.declared.rounds.Round.{Round}
use Rattle.piecewise_testable.proofs.BothSides.{over_beside}
use Rattle.piecewise_testable.proofs.RoundNumbers.{back_from_place, round_of}
use Rattle.piecewise_testable.proofs.rounds.first_round.Goals as goal

pub first_back-back-requires-clause-some : goal.first_back-back-requires-clause-some
first_back-back-requires-clause-some c =
    let g = c.args.cayley.now in
    let h = c.len-len.ensures.graphs in
    let side = c.args.side in
    let i = c.in_ok-element.element in
    let a = c.first_letter-letter.result in
    let l = h.shortlex.least in
    let s = word_at g.words i in
    let hi : i < length g.words = c.in_ok-element.ensures.within in
    back_from_place side g.right.letters (SameNode g.right) g.words h.congruence l i
    c.with_letter-moved.result (beside side s (a ∷ [])) hi
    (over_beside side g.right.letters s (a ∷ []) (l.over i hi)
    (c.first_letter-letter.ensures.within, tt))
    c.with_letter-moved.ensures.place c.first_letter-letter.ensures.holds.0

pub returns : goal.returns
returns c =
    let g = c.args.cayley.now in
    let h = c.len-len.ensures.graphs in
    let r : Round = record {
      element = c.in_ok-element.element;
      letter = c.first_letter-letter.result;
      moved = c.with_letter-moved.result;
      back = c.first_back-back.result;
    } in
    round_of c.args.side g.right.letters (SameNode g.right) g.words h.congruence
    h.shortlex.least r c.in_ok-element.ensures.within c.first_back-back.ensures.within
    c.with_letter-moved.ensures.place c.in_ok-element.ensures.other c.first_letter-letter.ensures
    c.first_back-back.ensures.least
