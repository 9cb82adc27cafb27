use Rattle.std.proofs.Common.{◌≡◌, ◌≤◌, ◌<◌, ◌-◌, ℕ, List, length, take, refl, ap, ◌∙◌, subst, sym, nat_eq, arith}
use Rattle.std.specs.List.{position_or_len}
use Rattle.std.specs.Cmp.Lexicographic.{pointwise}
use Rattle.indexmap.specs.IndexSet.{insert_key}
use Rattle.exploration.specs.States.{AreKept, IsNext}
use Rattle.cayley_tables.specs.Links.{with_link}
use Rattle.froidure_pin.specs.Rows.{number_of, AreSeen}
use Rattle.froidure_pin.proofs.RowLaws.{new_counts, known_counts, last_out, on_err, seen_keeps, seen_next, seen_counts}
use Rattle.froidure_pin.proofs.Ready.{ready_meets, ready_finds, next_seen}
use Rattle.froidure_pin.proofs.elements.Elements.see.Goals as goal
use Rattle.froidure_pin.proofs.elements.Elements.see.Goals.{In_ok-number, Else-number-before, In_err-link}

-- the rows with the one that is seen, which may be there already
rows_are : (c : In_ok-number)
    → c.see.new.self ≡ insert_key (pointwise nat_eq) c.args.self.now.rows c.args.row.now
rows_are c = c.in_ok-number.ensures.rows

number_is : (c : In_ok-number)
    → c.in_ok-number.number ≡ position_or_len (pointwise nat_eq c.args.row.now) c.args.self.now.rows
number_is c = c.in_ok-number.ensures.place

again : (c : In_ok-number) → AreSeen c.args.self.now.generators.now c.see.new.self
again c = let s = c.args.self.now in let q = c.requires in
    subst (AreSeen s.generators.now) (sym (rows_are c))
    (next_seen s.generators.now s.rows s.progress c.args.targets.now q.ready q.seen
    c.args.job.element c.args.job.letter q.job.from q.job.to q.job.letter c.args.row.now q.row)

kept : (c : In_ok-number)
    → AreKept c.args.self.now.generators.now.letters
    (number_of c.args.self.now.generators.now c.args.self.now.rows)
    (number_of c.args.self.now.generators.now c.see.new.self)
kept c = let s = c.args.self.now in
    rw (rows_are c) (seen_keeps s.generators.now s.rows c.args.row.now)

next : (c : In_ok-number)
    → IsNext c.args.self.now.generators.now.letters
    (number_of c.args.self.now.generators.now c.args.self.now.rows)
    (number_of c.args.self.now.generators.now c.see.new.self) c.args.job.element c.args.job.letter
    c.in_ok-number.number
next c = let s = c.args.self.now in
    rw (rows_are c, number_is c)
    (seen_next s.generators.now s.rows c.args.job.element c.args.job.letter c.args.row.now
    c.requires.row)

pub returns-then-number-before-clause-seen : goal.returns-then-number-before-clause-seen
returns-then-number-before-clause-seen c =
    again (goal.at.returns-then-number-before-clause-seen c).In_ok-number

pub returns-then-number-before-clause-next : goal.returns-then-number-before-clause-next
returns-then-number-before-clause-next c =
    next (goal.at.returns-then-number-before-clause-next c).In_ok-number

pub returns-then-number-before-clause-counted : goal.returns-then-number-before-clause-counted
returns-then-number-before-clause-counted c =
    let k = (goal.at.returns-then-number-before-clause-counted c).In_ok-number in
    rw (rows_are k, number_is k) (seen_counts c.args.self.now.rows c.args.row.now)

pub returns-then-number-before-clause-ready : goal.returns-then-number-before-clause-ready
returns-then-number-before-clause-ready c =
    let k = (goal.at.returns-then-number-before-clause-ready c).In_ok-number in
    let s = c.args.self.now in
    let q = c.requires in
    let before : c.len-before.result ≡ length s.rows = c.len-before.ensures in
    let inside : c.in_ok-number.number < length s.rows =
    omega (arith, c.if-number-before.true, before) in
    let known : position_or_len (pointwise nat_eq c.args.row.now) s.rows < length s.rows =
    subst (λ (n : ℕ). n < length s.rows) (number_is k) inside in
    ready_meets s.generators.now s.rows s.progress c.args.targets.now q.ready q.seen
    c.args.job.element c.args.job.letter q.job.from q.job.to q.job.letter q.here c.see.new.self
    c.in_ok-number.number (again k) (kept k) (next k) inside
    (ap (λ (rows : List (List ℕ)). length rows) (rows_are k)
    ∙ known_counts s.rows c.args.row.now known)

-- a row that is not there has no place among the rows
not_known : (c : Else-number-before)
    → length c.args.self.now.rows ≤ position_or_len (pointwise nat_eq c.args.row.now)
    c.args.self.now.rows
not_known c =
    let before : c.len-before.result ≡ length c.args.self.now.rows = c.len-before.ensures in
    subst (λ (n : ℕ). length c.args.self.now.rows ≤ n) c.in_ok-number.ensures.place
    (omega (arith, c.if-number-before.false, before))

-- the rows are as they were
out : (c : In_err-link) → c.link.new.self.rows ≡ c.args.self.now.rows
out c =
    let before : c.len-before.result ≡ length c.args.self.now.rows = c.len-before.ensures in
    c.in_err-link.ensures.err
    ∙ ap (λ (rows : List (List ℕ)). take (length rows - 1) rows) c.in_ok-number.ensures.rows
    ∙ last_out c.args.self.now.rows c.args.row.now
    (subst (λ (n : ℕ). length c.args.self.now.rows ≤ n) c.in_ok-number.ensures.place
    (omega (arith, c.if-number-before.false, before)))

pub returns-in_err-link-clause-seen : goal.returns-in_err-link-clause-seen
returns-in_err-link-clause-seen c =
    let o = out (goal.at.returns-in_err-link-clause-seen c).In_err-link in
    rw (c.in_err-link.ensures.generators, o) c.requires.seen

pub returns-in_err-link-clause-more : goal.returns-in_err-link-clause-more
returns-in_err-link-clause-more c =
    let o = out (goal.at.returns-in_err-link-clause-more c).In_err-link in
    rw o (record { few = omega arith; same = λ i l. refl })

pub returns-in_err-link-clause-kept : goal.returns-in_err-link-clause-kept
returns-in_err-link-clause-kept c =
    let o = out (goal.at.returns-in_err-link-clause-kept c).In_err-link in
    rw (c.in_err-link.ensures.generators, o) (record { kept = λ w n o e. e })

pub returns-in_err-link-clause-err : goal.returns-in_err-link-clause-err
returns-in_err-link-clause-err c =
    let o = out (goal.at.returns-in_err-link-clause-err c).In_err-link in
    on_err c.from_residual-in_err-link.result (ap (λ (rows : List (List ℕ)). length rows) o)

pub returns-clause-seen : goal.returns-clause-seen
returns-clause-seen c =
    let k = (goal.at.returns-clause-seen c).In_ok-number in
    rw (c.in_ok-link.ensures.generators, c.in_ok-link.ensures.rows) (again k)

pub returns-clause-kept : goal.returns-clause-kept
returns-clause-kept c =
    let k = (goal.at.returns-clause-kept c).In_ok-number in
    rw (c.in_ok-link.ensures.generators, c.in_ok-link.ensures.rows) (kept k)

pub returns-clause-next : goal.returns-clause-next
returns-clause-next c =
    let k = (goal.at.returns-clause-next c).In_ok-number in
    rw (c.in_ok-link.ensures.generators, c.in_ok-link.ensures.rows) (next k)

pub returns-clause-counted : goal.returns-clause-counted
returns-clause-counted c =
    let k = (goal.at.returns-clause-counted c).In_ok-number in
    rw (c.in_ok-link.ensures.rows, rows_are k, number_is k)
    (seen_counts c.args.self.now.rows c.args.row.now)

pub returns-clause-ready : goal.returns-clause-ready
returns-clause-ready c =
    let k = (goal.at.returns-clause-ready c).In_ok-number in
    let s = c.args.self.now in
    let q = c.requires in
    let n = new_counts s.rows c.args.row.now
    (not_known (goal.at.returns-clause-ready c).Else-number-before) in
    rw (
      c.in_ok-link.ensures.generators,
      c.in_ok-link.ensures.rows,
      c.in_ok-link.ensures.links,
    )
    (ready_finds s.generators.now s.rows s.progress c.args.targets.now q.ready q.seen
    c.args.job.element c.args.job.letter q.job.from q.job.to q.job.letter q.here c.see.new.self
    c.in_ok-number.number
    (with_link s.progress.links c.args.job.element c.args.job.letter c.ends_of-rest.result.0
    c.ends_of-rest.result.1) q.needed (again k) (kept k) (next k) (number_is k ∙ n.0)
    (ap (λ (rows : List (List ℕ)). length rows) (rows_are k) ∙ n.1) c.ends_of-rest.ensures)
