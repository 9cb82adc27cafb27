use Rattle.std.proofs.Common.{◌≡◌, ◌<◌, ◌++◌, ◌∷◌, ℕ, List, [], length, get_or, set, map, slice_set}
use Rattle.std.proofs.Common.{suc, slice_index_or, subst, arith}
use Rattle.std.proofs.lemmas.Grind.{common_steps}
use Rattle.local_divisors.specs.declared.grouping.Link.{Link}
use Rattle.local_divisors.specs.Grouping.{pairs_from}
use Rattle.local_divisors.proofs.Linking.{lists_put}
use Rattle.local_divisors.proofs.grouping.Groups.put.Goals as goal

pub returns : goal.returns
returns c =
    let heads = c.self.inside.heads.items in
    let links = c.self.inside.links.items in
    let u = c.args.group in
    let x : Link = record { left = c.args.left; right = c.args.right; next = c.index-next.result.now } in
    let more : c.push.new.self.items ≡ links ++ x ∷ [] = grind (arith, common_steps) in
    let size : c.len.result ≡ suc (length links) = grind (arith, common_steps) in
    let long : u < length heads = grind (arith, common_steps) in
    let next : x.next ≡ get_or heads u 0 = grind (arith, common_steps) in
    subst (λ (gs : List (List (ℕ × ℕ))). map (pairs_from c.push.new.self.items)
    (set heads u c.len.result) ≡ slice_set gs u
    ((c.args.left, c.args.right) ∷ slice_index_or gs u [])) c.self.view_is
    (rw (more, size) (lists_put links heads u x c.self.invariant.0 c.self.invariant.1 long next))
