use Rattle.star_free_theory.proofs.Pruning.{pruned_list, pruned_denotes}
use Rattle.star_free_theory.proofs.lists.pruning_keeps_the_language.Goals as goal

pub returns : goal.returns
returns c = record {
  list = λ xs root kept ys place s h. pruned_list xs root kept ys place s h;
  words = λ xs root kept ys place s h. pruned_denotes xs root kept ys place s h;
}
