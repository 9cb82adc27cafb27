use Rattle.std.proofs.Common.{◌≡◌, ◌++◌, rules}
use Rattle.report_buffer.proofs.Channels.{up_to-said, up_to-raised}
use Rattle.report_buffer.proofs.buffer.say.Goals as goal

pub returns-in_err-take-clause-says : goal.returns-in_err-take-clause-says
returns-in_err-take-clause-says g c =
    let splits : c.split_at.result.0.now ++ c.split_at.result.1.now ≡ c.loop-rest.rest.now =
    search rules in
    up_to-raised c.from_residual.result c.split_at.result.1.now c.loop-rest.invariant splits
    c.from_residual.ensures.1 c.in_err-take.ensures.says

pub loop-rest-preserved : goal.loop-rest-preserved
loop-rest-preserved g c =
    let splits : c.split_at.result.0.now ++ c.split_at.result.1.now ≡ c.loop-rest.rest.now =
    search rules in
    up_to-said _ c.loop-rest.invariant splits c.in_ok-take.ensures.says
