-- Texts and the trees that they spell.
use Rattle.std.proofs.Common.{◌≡◌, ℕ, ◌+◌, Bool, true, Some, None, List, [], ◌∷◌, map, refl, ap, sym, subst, ◌∙◌, arith}
use Rattle.expression_theory.specs.Expression.{Tree, nodes}
use Rattle.expression_theory.specs.Grammar.{Sign, Spells, Union}
use Rattle.expression_theory.specs.Frames.{tree_read}
use Rattle.expression_theory.specs.Scan.{Class, Skipped, Unknown, Strange, Good, Unexpected, UnknownLetter, signs_in, due_by, depth_by, cost, nodes_from, visible, SpellsTree, IsAccepted}
use Rattle.expression_theory.proofs.Complete.{spells_one}
use Rattle.expression_theory.proofs.Sound.{read_spells}
use Rattle.expression_theory.proofs.Nodes.{nodes_counted}
use Rattle.expression_theory.proofs.Accepted.{Clear, clear_from, accepted_spells}

clear_visible : (cs : List Class) (d : Bool) (o n : ℕ) → Clear d o n cs
    → visible cs ≡ map Good (signs_in cs)
clear_visible [] d o n h = refl
clear_visible (Skipped ∷ cs) d o n (e, h) = clear_visible cs d o (n + 0) h
clear_visible (Unknown ∷ cs) d o n (e, h) = absurd (let f : Some UnknownLetter ≡ None = e in cc)
clear_visible (Strange ∷ cs) d o n (e, h) = absurd (let f : Some Unexpected ≡ None = e in cc)
clear_visible (Good s ∷ cs) d o n (e, h) =
    ap (λ r. Good s ∷ r)
    (clear_visible cs (due_by d (Good s)) (depth_by o (Good s)) (n + cost d (Good s)) h)

-- an accepted text has only signs, spaces and tabs
pub accepted_visible : (cs : List Class) → IsAccepted cs → visible cs ≡ map Good (signs_in cs)
accepted_visible cs h = clear_visible cs true 0 0 (clear_from cs [] (omega arith) h.clear h.ends)

-- a text of signs, spaces and tabs has just those signs
pub visible_signs : (cs : List Class) (w : List Sign) → visible cs ≡ map Good w → signs_in cs ≡ w
visible_signs [] [] e = refl
visible_signs [] (x ∷ w) e = absurd (cc)
visible_signs (Skipped ∷ cs) w e = visible_signs cs w e
visible_signs (Unknown ∷ cs) [] e = absurd (cc)
visible_signs (Unknown ∷ cs) (x ∷ w) e = absurd (let f : Unknown ≡ Good x = cc in cc)
visible_signs (Strange ∷ cs) [] e = absurd (cc)
visible_signs (Strange ∷ cs) (x ∷ w) e = absurd (let f : Strange ≡ Good x = cc in cc)
visible_signs (Good s ∷ cs) [] e = absurd (cc)
visible_signs (Good s ∷ cs) (x ∷ w) e =
    let f : visible cs ≡ map Good w = cc in
    let g : Good s ≡ Good x = cc in
    let h : s ≡ x = cc in
    let k : signs_in cs ≡ w = visible_signs cs w f in cc

-- a text spells one tree at most
pub one_tree : (cs : List Class) (s t : Tree) → SpellsTree cs s → SpellsTree cs t → s ≡ t
one_tree cs s t (w, e, h) (v, f, k) =
    let g : w ≡ v = sym (visible_signs cs w e) ∙ visible_signs cs v f in
    spells_one v s t (subst (λ w. Spells Union w s) g h) k

-- an accepted text spells a tree
pub accepted_tree : (cs : List Class) → IsAccepted cs → (t : Tree) × SpellsTree cs t
accepted_tree cs h = let r = accepted_spells cs h in
    (r.0, (signs_in cs, accepted_visible cs h, r.1))

-- the tree that the frames of an accepted text read is the one that it spells
pub read_tree : (cs : List Class) (t : Tree) → IsAccepted cs → tree_read (signs_in cs) ≡ Some t
    → SpellsTree cs t
read_tree cs t h e = (signs_in cs, accepted_visible cs h, read_spells (signs_in cs) t e)

-- the nodes that are counted in a text are those of the tree that it spells
pub text_nodes : (cs : List Class) (t : Tree) → SpellsTree cs t → nodes_from true cs ≡ nodes t
text_nodes cs t (w, e, h) =
    nodes_counted cs t (subst (λ w. Spells Union w t) (sym (visible_signs cs w e)) h)
