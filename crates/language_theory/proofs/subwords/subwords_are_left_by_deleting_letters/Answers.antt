use Rattle.language_theory.proofs.Deleting.{subword_insert, subword_deleted}
use Rattle.language_theory.proofs.subwords.subwords_are_left_by_deleting_letters.Goals as goal

pub returns-clause-deleted : goal.returns-clause-deleted
returns-clause-deleted c x y a = subword_insert x a y

pub returns-clause-some : goal.returns-clause-some
returns-clause-some c u w h = subword_deleted h
