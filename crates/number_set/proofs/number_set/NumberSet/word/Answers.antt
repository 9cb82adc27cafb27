use Rattle.std.proofs.Common.{◌<◌, ◌∙◌, length, arith}
use Rattle.std.proofs.lemmas.List.{get_or_read}
use Rattle.number_set.proofs.Packing.{Holds, holds, held_long, held_place, held_word}
use Rattle.number_set.proofs.number_set.NumberSet.word.Goals as goal

pub returns-then-place-len : goal.returns-then-place-len
returns-then-place-len c =
    let s = c.self.inside in
    let h : Holds s.size s.words.items c.args.self.now =
    holds s.size s.words.items c.args.self.now c.self.invariant.same c.self.view_is in
    let long = held_long s.size s.words.items c.args.self.now h in
    omega (arith, long, h.long, c.len.ensures, s.words.ok.0, c.if-place-len.true)

pub returns : goal.returns
returns c =
    let s = c.self.inside in
    let h : Holds s.size s.words.items c.args.self.now =
    holds s.size s.words.items c.args.self.now c.self.invariant.same c.self.view_is in
    let within : c.args.place < length s.words.items =
    omega (arith, c.len.ensures, s.words.ok.0, c.if-place-len.false) in
    let read = get_or_read s.words.items _ _ within c.index.ensures 0 in (
      (held_place s.size s.words.items c.args.self.now c.args.place h).0 within,
      read
          ∙ held_word s.size s.words.items c.args.self.now c.args.place h within,
    )
