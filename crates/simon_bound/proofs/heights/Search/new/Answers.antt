use Rattle.std.proofs.Common.{◌≡◌, ◌<◌, ◌∷◌, [], ℕ, List, length, slice_index, sym, subst, arith}
use Rattle.std.proofs.lemmas.Grind.{common_steps}
use Rattle.simon_bound.specs.Heights.{IsSearch}
use Rattle.simon_bound.proofs.Searching.{search_first}
use Rattle.simon_bound.proofs.heights.Search.new.Goals as goal

pub returns : goal.returns
returns c =
    let n = c.args.nodes in
    let starts = c.args.steps.now.starts.items in
    let nodes = c.args.steps.now.classes.items in
    let cursors = c.in_ok-from_slice.field-0.items in
    let heights = c.in_ok-vec.field-0.items in
    let path : c.push.new.self.items ≡ 0 ∷ [] = grind (arith, common_steps) in
    let copied : cursors ≡ starts = grind (arith, common_steps) in
    let long : length heights ≡ n = grind (arith, common_steps) in
    let none : (x : ℕ) → x < n → slice_index heights x ≡ 0 =
    (λ x b. grind (arith, common_steps)) in
    subst (λ (xs : List ℕ). IsSearch n starts nodes cursors heights xs) (sym path)
    (search_first n starts nodes cursors heights c.requires copied long none)
