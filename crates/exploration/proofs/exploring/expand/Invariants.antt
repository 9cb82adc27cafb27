use Rattle.std.proofs.Common.{◌≡◌, ◌+◌, ◌*◌}
use Rattle.exploration.specs.Search.{HasExplored}
use Rattle.exploration.proofs.exploring.expand.Given as goal

abbrev pub invariant-loop-letter : goal.invariant-loop-letter
invariant-loop-letter g l =
    let k = g.S.States.letters_of l.fn.states in
    record {
      sound : g.S.States.is_sound l.states;
      later : g.S.States.is_later l.fn.states l.states;
      ready : g.S.States.is_ready l.states l.targets.items;
      letters : g.S.States.letters_of l.states ≡ k;
      all : l.letter-end ≡ k;
      explored : HasExplored k (g.S.States.number l.states) (g.S.States.count l.fn.states)
          (g.S.States.count l.states)
          l.limit (l.node * k + l.letter) l.targets.items;
    }
