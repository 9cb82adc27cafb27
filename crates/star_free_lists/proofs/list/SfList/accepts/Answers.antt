use Rattle.std.proofs.Common.{◌≡◌, ◌∙◌, ◌↔◌, ℕ, List, Bool, true, length, subst, sym, ap, arith}
use Rattle.language_theory.specs.Automaton.{is_marked}
use Rattle.star_free_theory.specs.declared.nodes.SfNode.{SfNode}
use Rattle.star_free_theory.specs.StarFree.{Denotes}
use Rattle.star_free_lists.specs.Accepting.{mark_place, AreMarks}
use Rattle.star_free_lists.proofs.Factors.{whole_marked}
use Rattle.star_free_lists.proofs.list.SfList.accepts.Goals as goal

pub returns : goal.returns
returns c k o =
    let nodes = c.args.self.now.nodes in
    let root = c.args.self.now.root in
    let w = c.args.word.now in
    let bs = c.in_ok-marks.marks.items in
    let n : c.nodes.result.now ≡ nodes = c.nodes.ensures.nodes in
    let l : c.letters-letters.result.now ≡ w = c.letters-letters.ensures in
    let told : AreMarks nodes w bs = subst (λ (u : List ℕ). AreMarks nodes u bs) l
    (subst (λ (xs : List SfNode). AreMarks xs c.letters-letters.result.now bs) n
    c.in_ok-marks.ensures.marks) in
    let long : length bs ≡ mark_place w (length nodes) 0 0 = subst
    (λ (u : List ℕ). length bs ≡ mark_place u (length nodes) 0 0) l
    (subst (λ (xs : List SfNode). length bs ≡ mark_place c.letters-letters.result.now (length xs) 0
    0) n c.in_ok-marks.ensures.long) in
    let same : c.mark.result ≡ is_marked bs (mark_place w root 0 (length w)) = c.mark.ensures
    ∙ ap (λ (xs : List Bool). is_marked xs
    (mark_place c.letters-letters.result.now c.root.result 0 (length c.letters-letters.result.now)))
    c.as_slice.ensures.value
    ∙ ap (λ (u : List ℕ). is_marked bs (mark_place u c.root.result 0 (length u))) l
    ∙ ap (λ (m : ℕ). is_marked bs (mark_place w m 0 (length w))) c.root.ensures.root in
    subst (λ (b : Bool). (b ≡ true) ↔ Denotes k nodes root w) (sym same)
    (whole_marked k nodes w bs root told long
    (let r = c.root.ensures.root in let i = c.root.ensures.within in omega arith) o)
