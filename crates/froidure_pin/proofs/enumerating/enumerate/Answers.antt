use Rattle.std.proofs.Common.{◌≡◌, ◌≤◌, ◌*◌, ℕ, List, length, ap, sym, subst, ◌∙◌, arith}
use Rattle.language_theory.specs.Representatives.{HasMoreClasses}
use Rattle.cayley_tables.specs.LeftRows.{GoesOn}
use Rattle.froidure_pin.specs.Maps.{Maps, SameMap}
use Rattle.froidure_pin.specs.Rows.{number_of}
use Rattle.froidure_pin.proofs.Ready.{length_known}
use Rattle.froidure_pin.proofs.Finish.{complete, last_length, not_more}
use Rattle.froidure_pin.proofs.enumerating.enumerate.Goals as goal

pub into_enumerated-requires : goal.into_enumerated-requires
into_enumerated-requires g c =
    let s = c.explore_in_batches.new.machine.elements in
    let m = s.generators.now in
    let made = c.fill_left.new.self in
    let targets = c.in_ok-right.right.items in
    let e = c.in_ok-right.ensures in
    let f = c.in_ok-fill_left.ensures in
    let last : s.progress.to ≡ length s.rows =
    last_length m s.rows s.progress targets e.ready e.seen e.whole e.seen.maps.letter in
    let whole : length targets ≡ s.progress.to * m.letters =
    e.whole ∙ ap (λ (n : ℕ). n * m.letters) (sym last) in
    let goes : GoesOn m.letters targets s.progress.links s.progress.to s.progress.left.items
    made.progress.left.items =
    subst (λ (t : List ℕ). GoesOn m.letters t s.progress.links s.progress.to
    s.progress.left.items made.progress.left.items) c.as_slice.ensures.value f.left in
    let lefts = goes.numbers (number_of m s.rows) e.ready.searched.words
    (length_known m s.rows s.progress targets e.ready whole) e.ready.known in
    let few : length s.rows ≤ 50000 = omega (arith, e.within) in
    rw (f.generators, f.rows, f.links)
    (complete m s.rows s.progress targets e.ready e.seen e.whole made.progress.left.items few
    lefts (f.long ∙ ap (λ (n : ℕ). n * m.letters) last))

pub returns-clause-few : goal.returns-clause-few
returns-clause-few g c =
    let s = c.explore_in_batches.new.machine.elements in
    let e = c.in_ok-right.ensures in
    subst (λ (m : Maps). ¬ HasMoreClasses m.letters (SameMap m) c.args.max_elements)
    (e.generators ∙ c.in_ok-machine.ensures.generators)
    (not_more s.generators.now s.rows s.progress c.in_ok-right.right.items e.ready e.seen
    e.whole c.args.max_elements e.within)
