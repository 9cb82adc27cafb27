use Rattle.std.proofs.Common.{◌≡◌, Some, rules}
use Rattle.report_sections.specs.Answers.{values_of}
use Rattle.report_sections.proofs.answering.Values.elements.Goals as goal

pub returns : goal.returns
returns c =
    let v = values_of c.args.self.now in
    let there : v.monoid ≡ Some c.unwrap.result.now = search rules in
    c.requires.values.syntactic c.unwrap.result.now there
