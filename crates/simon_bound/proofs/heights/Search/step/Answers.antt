use Rattle.std.proofs.Common.{◌≡◌, ◌+◌, ◌-◌, ◌*◌, ◌<◌, ◌≤◌, ◌∷◌, [], ◌++◌}
use Rattle.std.proofs.Common.{ℕ, List, length, slice_index, set}
use Rattle.std.proofs.Common.{sum, sym, ap, subst, arith, ◌∙◌}
use Rattle.std.proofs.lemmas.Grind.{common_steps}
use Rattle.std.proofs.lemmas.List.{length-append}
use Rattle.simon_bound.specs.Heights.{IsSearch}
use Rattle.simon_bound.proofs.Searching.{top_within, search_met, search_pushed, sum_moved}
use Rattle.simon_bound.proofs.heights.Search.step.Goals as goal
use Rattle.simon_bound.proofs.heights.Search.step.Goals.{After-index-next}

-- the class is the last one of the path, and the place that of its next step
is_top : (c : After-index-next)
    → c.index-class.result.now
    ≡ slice_index c.args.self.now.path.items (length c.args.self.now.path.items - 1)
is_top c = grind (arith, common_steps)

within : (c : After-index-next) → c.index-class.result.now < c.args.nodes
within c =
    top_within c.args.nodes c.args.steps.now.starts.items c.args.steps.now.classes.items
    c.args.self.now.cursors.items c.args.self.now.heights.items c.args.self.now.path.items
    c.requires.acyclic c.requires.holds c.index-class.result.now c.requires.some (is_top c)

is_place : (c : After-index-next)
    → c.index-place.result.now
    ≡ slice_index c.args.self.now.cursors.items c.index-class.result.now
is_place c =
    let inside : c.index-class.result.now < length c.args.self.now.cursors.items =
    omega (arith, within c, c.requires.holds.long) in
    grind (arith, common_steps)

is_left : (c : After-index-next)
    → c.index-place.result.now
    < slice_index c.args.steps.now.starts.items (c.index-class.result.now + 1)
is_left c =
    let inside : c.index-class.result.now + 1 < length c.args.steps.now.starts.items =
    omega (arith, within c, c.requires.acyclic.long) in
    grind (arith, common_steps)

is_next : (c : After-index-next)
    → c.index-next.result.now
    ≡ slice_index c.args.steps.now.classes.items c.index-place.result.now
is_next c =
    let inside : c.index-place.result.now < length c.args.steps.now.classes.items =
    omega (
      arith,
      is_left c,
      c.requires.acyclic.inside c.index-class.result.now (within c),
    ) in
    grind (arith, common_steps)

next_within : (c : After-index-next) → c.index-next.result.now < c.args.nodes
next_within c =
    let low = c.requires.holds.from c.index-class.result.now (within c) in
    omega (
      arith,
      is_next c,
      c.requires.acyclic.within c.index-class.result.now
          c.index-place.result.now (within c) (omega (arith, low, is_place c)) (is_left c),
    )

sums : (c : After-index-next)
    → (sum (set c.args.self.now.cursors.items c.index-class.result.now
    (c.index-place.result.now + 1)) ≡ sum c.args.self.now.cursors.items + 1)
    × (sum c.args.self.now.cursors.items + 1
    ≤ (c.args.nodes + 1) * length c.args.steps.now.classes.items)
sums c =
    sum_moved c.args.nodes c.args.steps.now.starts.items c.args.steps.now.classes.items
    c.args.self.now.cursors.items c.args.self.now.heights.items c.args.self.now.path.items
    c.requires.acyclic c.requires.holds c.index-class.result.now c.requires.some (is_top c)
    c.index-place.result.now (is_place c) (is_left c)

pub returns-then-index-gt0-clause-holds : goal.returns-then-index-gt0-clause-holds
returns-then-index-gt0-clause-holds c =
    let here = (goal.at.returns-then-index-gt0-clause-holds c).After-index-next in
    let nodes = c.args.steps.now.classes.items in
    let heights = c.args.self.now.heights.items in
    let inside : c.index-next.result.now < length heights =
    omega (arith, next_within here, c.requires.holds.right.long) in
    let high : 0 < slice_index heights c.index-next.result.now = grind (arith, common_steps) in
    search_met c.args.nodes c.args.steps.now.starts.items nodes c.args.self.now.cursors.items
    heights c.args.self.now.path.items c.requires.acyclic c.requires.holds
    c.index-class.result.now c.requires.some (is_top here) c.index-place.result.now
    (is_place here) (is_left here)
    (subst (λ (z : ℕ). 0 < slice_index heights z) (is_next here) high)

pub returns-then-index-gt0-clause-less : goal.returns-then-index-gt0-clause-less
returns-then-index-gt0-clause-less c =
    let here = (goal.at.returns-then-index-gt0-clause-less c).After-index-next in
    let moved = sums here in
    omega (arith, moved.0, moved.1)

pub returns-clause-holds : goal.returns-clause-holds
returns-clause-holds c =
    let here = (goal.at.returns-clause-holds c).After-index-next in
    let n = c.args.nodes in
    let starts = c.args.steps.now.starts.items in
    let nodes = c.args.steps.now.classes.items in
    let heights = c.args.self.now.heights.items in
    let cursors = c.args.self.now.cursors.items in
    let path = c.args.self.now.path.items in
    let next = c.index-next.result.now in
    let inside : next < length heights =
    omega (arith, next_within here, c.requires.holds.right.long) in
    let low : slice_index heights next ≡ 0 = grind (arith, common_steps) in
    let pushed : c.push.new.self.items ≡ path ++ slice_index nodes c.index-place.result.now ∷ [] =
    c.in_ok-push.ensures.items ∙ ap (λ (z : ℕ). path ++ z ∷ []) (is_next here) in
    subst (λ (xs : List ℕ). IsSearch n starts nodes
    (set cursors c.index-class.result.now (c.index-place.result.now + 1)) heights xs)
    (sym pushed) (search_pushed n starts nodes cursors heights path c.requires.acyclic
    c.requires.holds c.index-class.result.now c.requires.some (is_top here)
    c.index-place.result.now (is_place here) (is_left here)
    (subst (λ (z : ℕ). slice_index heights z ≡ 0) (is_next here) low))

pub returns-clause-less : goal.returns-clause-less
returns-clause-less c =
    let here = (goal.at.returns-clause-less c).After-index-next in
    let moved = sums here in
    let path = c.args.self.now.path.items in
    let pushed : length c.push.new.self.items ≡ length path + 1 =
    ap (λ (xs : List ℕ). length xs) c.in_ok-push.ensures.items
    ∙ length-append path (c.index-next.result.now ∷ []) in
    omega (arith, moved.0, moved.1, pushed)
