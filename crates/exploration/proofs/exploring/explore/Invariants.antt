use Rattle.std.proofs.Common.{◌≡◌, ◌≤◌, ◌-◌, ◌*◌}
use Rattle.exploration.specs.Search.{IsExploring}
use Rattle.exploration.proofs.exploring.explore.Given as goal

abbrev pub invariant-loop-node : goal.invariant-loop-node
invariant-loop-node g l =
    let k = g.S.States.letters_of l.fn.states in
    record {
      sound : g.S.States.is_sound l.states;
      later : g.S.States.is_later l.fn.states l.states;
      ready : g.S.States.is_ready l.states l.targets.items;
      letters : g.S.States.letters_of l.states ≡ k;
      within : l.node ≤ g.S.States.count l.states;
      exploring : IsExploring k (g.S.States.number l.states) (g.S.States.count l.states) l.limit
          (l.node * k)
          l.targets.items;
    }

abbrev pub decreases-loop-node : goal.decreases-loop-node
decreases-loop-node g l = l.limit - l.node
