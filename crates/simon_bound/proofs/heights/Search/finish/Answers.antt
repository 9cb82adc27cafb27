use Rattle.std.proofs.Common.{rules, ◌≡◌, ◌-◌, ℕ, List, length, take, subst}
use Rattle.simon_bound.specs.Steps.{row_at}
use Rattle.simon_bound.specs.Heights.{IsGreatest}
use Rattle.simon_bound.proofs.Finishing.{search_finished}
use Rattle.simon_bound.proofs.heights.Search.finish.Goals as goal

pub returns-clause-holds : goal.returns-clause-holds
returns-clause-holds c =
    let starts = c.args.steps.now.starts.items in
    let nodes = c.args.steps.now.classes.items in
    let heights = c.args.self.now.heights.items in
    let path = c.args.self.now.path.items in
    let g = c.greatest_height-greatest.result in
    let row = row_at starts nodes c.args.class in
    let rest : c.pop.new.self.items ≡ take (length path - 1) path = search rules in
    let greatest : IsGreatest heights row (length row) g =
    subst (λ (xs : List ℕ). IsGreatest heights xs (length xs) g) c.row.ensures
    (subst (λ (xs : List ℕ). IsGreatest xs c.row.result.now (length c.row.result.now) g)
    c.as_slice.ensures.value c.greatest_height-greatest.ensures) in
    search_finished c.args.nodes starts nodes c.args.self.now.cursors.items heights path
    c.requires.acyclic c.requires.holds c.args.class c.requires.some c.requires.last
    c.requires.done g greatest c.pop.new.self.items rest
