use Rattle.star_free_lists.proofs.OnePruning.{one_pruning}
use Rattle.star_free_lists.proofs.pruning.a_list_has_one_pruning.Goals as goal

pub returns : goal.returns
returns c = one_pruning
