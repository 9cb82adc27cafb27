use Rattle.std.proofs.Common.{◌≡◌, ℕ, List, [], ◌∷◌, ◌++◌, ◌*◌, length, ap, ◌∙◌, arith}
use Rattle.std.proofs.lemmas.List.Elements.{All-push, All-nil}
use Rattle.std.specs.Prelude.{All}
use Rattle.froidure_pin.specs.declared.batch.Job.{Job}
use Rattle.froidure_pin.specs.Batches.{IsJob}
use Rattle.froidure_pin.proofs.RowLaws.{can_make}
use Rattle.froidure_pin.proofs.machine.FroidurePin.batch_of.Goals as goal

pub fill_rows-requires : goal.fill_rows-requires
fill_rows-requires c =
    let m = c.args.self.now.elements.generators.now in
    let rows = c.args.self.now.elements.rows in
    let job = c.args.job in
    let items : c.push.new.self.items ≡ job ∷ [] =
    c.in_ok-push.ensures.items
    ∙ ap (λ (xs : List Job). xs ++ job ∷ []) c.new-jobs.ensures.items in
    let each : All (IsJob m rows) c.push.new.self.items =
    rw items (All-push (IsJob m rows) [] job (All-nil (IsJob m rows)) c.requires.job) in
    let count : c.len.result ≡ length c.push.new.self.items =
    omega (arith, c.len.ensures, c.push.new.self.ok) in
    let long = c.in_ok-rows.ensures ∙ ap (λ (n : ℕ). n * m.points) count in
    rw (c.as_slice.ensures.value, c.as_mut_slice.ensures.value)
    (can_make m rows c.push.new.self.items
    (length c.in_ok-rows.rows.items) c.requires.seen each long)
