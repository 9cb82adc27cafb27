use Rattle.level_search.proofs.Starting.{not_started}
use Rattle.level_search.proofs.keys.KeysStates.start.Goals as goal

pub returns-clause-one : goal.returns-clause-one
returns-clause-one g c = c.requires.sound.one
    (not_started c.args.self.now.is_started (g.Q.Quotient.count c.args.self.now.quotient.now)
    c.requires.sound.some c.requires.none)

pub returns-clause-empty : goal.returns-clause-empty
returns-clause-empty g c = c.requires.sound.empty
    (not_started c.args.self.now.is_started (g.Q.Quotient.count c.args.self.now.quotient.now)
    c.requires.sound.some c.requires.none)
