use Rattle.std.proofs.Common.{◌≡◌, ◌∙◌, sym, nat_eq}
use Rattle.std.specs.Cmp.Lexicographic.{pointwise}
use Rattle.number_set.proofs.Packing.{holds, equal_held, unequal_held}
use Rattle.number_set.proofs.number_set.NumberSetPartialEq.eq.Goals as goal

pub returns-then-self-other : goal.returns-then-self-other
returns-then-self-other c =
    let s = c.self.inside in
    let t = c.other.inside in
    let words : c.eq.result ≡ pointwise nat_eq s.words.items t.words.items =
    rw (sym c.as_slice.ensures.value, sym c.as_slice-then-self-other.ensures.value) c.eq.ensures
    in
    words ∙ equal_held s.size t.size s.words.items t.words.items c.args.self.now c.args.other.now
    c.if-self-other.true (holds s.size s.words.items c.args.self.now c.self.invariant.same
    c.self.view_is)
    (holds t.size t.words.items c.args.other.now c.other.invariant.same c.other.view_is)

pub returns-else-self-other : goal.returns-else-self-other
returns-else-self-other c =
    let s = c.self.inside in
    let t = c.other.inside in
    unequal_held s.size t.size s.words.items t.words.items c.args.self.now c.args.other.now
    c.if-self-other.false (holds s.size s.words.items c.args.self.now c.self.invariant.same
    c.self.view_is)
    (holds t.size t.words.items c.args.other.now c.other.invariant.same c.other.view_is)
