use Rattle.std.proofs.Common.{◌<◌, ◌+◌, ◌*◌, get_or, length, rules, arith}
use Rattle.factor_keys.proofs.Places.{place_room}
use Rattle.factor_keys.proofs.key.place.Goals as goal

pub overflow_mul-place : goal.overflow_mul-place
overflow_mul-place c =
    let l : c.loop-letter.letter-index < length c.args.word.now = search rules in
    let room : c.loop-letter.place * c.args.letters + get_or c.args.word.now
    c.loop-letter.letter-index 0 < 32768 =
    place_room c.args.letters c.loop-letter.place c.loop-letter.letter-index c.args.word.now
    c.requires.letters l c.loop-letter.invariant c.requires.small in
    omega arith

pub overflow_add-place : goal.overflow_add-place
overflow_add-place c =
    let l : c.loop-letter.letter-index < length c.args.word.now = search rules in
    let room : c.loop-letter.place * c.args.letters + get_or c.args.word.now
    c.loop-letter.letter-index 0 < 32768 =
    place_room c.args.letters c.loop-letter.place c.loop-letter.letter-index c.args.word.now
    c.requires.letters l c.loop-letter.invariant c.requires.small in
    search rules
