use Rattle.synmon_top.proofs.Deciding.{one_outcome_of_files, one_generated_outcome}
use Rattle.synmon_top.proofs.laws.the_outcome_is_unique.Goals as goal

pub returns-clause-files : goal.returns-clause-files
returns-clause-files c = one_outcome_of_files

pub returns-clause-generated : goal.returns-clause-generated
returns-clause-generated c = one_generated_outcome
