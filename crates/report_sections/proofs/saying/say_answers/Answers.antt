use Rattle.report_buffer.proofs.Channels.{up_to-said, up_to-raised}
use Rattle.report_sections.specs.Limits.{limits_of}
use Rattle.report_sections.specs.Answers.{text_of}
use Rattle.report_sections.proofs.Joining.{texts-of}
use Rattle.report_sections.proofs.saying.say_answers.Goals as goal

pub returns-in_err-say_answer : goal.returns-in_err-say_answer
returns-in_err-say_answer g c =
    up_to-raised c.from_residual.result _ c.loop-answer.invariant
    (texts-of (text_of c.args.alphabet.now (limits_of c.args.request.now)) c.args.answers.now
    c.loop-answer.answer-index c.answer-item.result c.loop-answer-test.true c.answer-item.is)
    c.from_residual.ensures.1 c.in_err-say_answer.ensures

pub loop-answer-preserved : goal.loop-answer-preserved
loop-answer-preserved g c =
    up_to-said _ c.loop-answer.invariant
    (texts-of (text_of c.args.alphabet.now (limits_of c.args.request.now)) c.args.answers.now
    c.loop-answer.answer-index c.answer-item.result c.loop-answer-test.true c.answer-item.is)
    c.in_ok-say_answer.ensures
