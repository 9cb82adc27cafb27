-- What is known between two bytes of a text, and at its end.
use Rattle.std.proofs.Common.{◌≡◌, ℕ, ◌+◌, ◌<◌, ◌≤◌, true, false, Some, None, List, [], ◌∷◌, ◌++◌, length, take, get_or, map, reverse, refl, ap, sym, subst, ◌∙◌, arith}
use Rattle.std.proofs.lemmas.List.{take_more, take_all}
use Rattle.expression_theory.specs.Expression.{Tree, nodes, most_nodes}
use Rattle.expression_theory.specs.Positions.{IsWithin}
use Rattle.expression_theory.specs.Grammar.{Spells, Union}
use Rattle.expression_theory.specs.Frames as frames
use Rattle.expression_theory.specs.Scan.{classes, signs_in, depth_by, cost, nodes_from, IsAccepted, SpellsTree}
use Rattle.expression_theory.proofs.Counting.{IsScanned, scanned_more, scanned_all}
use Rattle.expression_theory.proofs.Reading.{run_more}
use Rattle.expression_theory.proofs.Sound.{read_spells}
use Rattle.expression_theory.proofs.Nodes.{nodes_counted}
use Rattle.expression_theory.proofs.Letters.{spelt_letters}
use Rattle.expression_theory.proofs.Texts.{read_tree}
use Rattle.regex_reader.specs.declared.expr.Expr.{Expr}
use Rattle.regex_reader.specs.declared.frames.Frame.{Frame}
use Rattle.regex_reader.specs.declared.reader.Reader.{Reader}
use Rattle.regex_reader.specs.Expressions.{tree_of, tree_in}
use Rattle.regex_reader.specs.Readers.{is_due, frame_of, frames_of, HasRead, IsReader}
use Rattle.expression_theory.specs.declared.signs.Class.{Class}
use Rattle.expression_theory.specs.declared.signs.Class.TheVariants.{Strange}

-- what is known of a reader after i bytes
pub record IsBetween (cs : List Class) (i : ℕ) (r : Reader) : Type 0 where
  pub scanned : IsScanned cs i (is_due r.piece) (length r.waiting.items) r.nodes
  pub read : frames.run frames.start (signs_in (take i cs)) ≡ Some (frames_of r)
  pub bounds : IsReader r

-- one byte more
pub between_more : (cs : List Class) (i : ℕ) (r next : Reader) (c : Class) → IsBetween cs i r
    → i < length cs → get_or cs i Strange ≡ c → HasRead r c next → IsBetween cs (i + 1) next
between_more cs i r next c h b e k =
    let g : take (i + 1) cs ≡ take i cs ++ c ∷ [] = take_more cs i Strange b
    ∙ ap (λ c. take i cs ++ c ∷ []) e in
    let more = scanned_more cs i (is_due r.piece) (length r.waiting.items) r.nodes c h.scanned b e
    k.clear in
    let scanned : IsScanned cs (i + 1) (is_due next.piece) (length next.waiting.items) next.nodes =
    subst (λ n. IsScanned cs (i + 1) (is_due next.piece) (length next.waiting.items) n)
    (sym k.nodes)
    (subst (λ o. IsScanned cs (i + 1) (is_due next.piece) o (r.nodes + cost (is_due r.piece) c))
    (sym k.depth)
    (subst (λ d. IsScanned cs (i + 1) d (depth_by (length r.waiting.items) c)
    (r.nodes + cost (is_due r.piece) c)) (sym k.due) more)) in
    record {
      scanned = scanned;
      read = ap (λ cs. frames.run frames.start (signs_in cs)) g
          ∙ run_more frames.start (frames_of r) (frames_of next) (take i cs) c h.read k.frames;
      bounds = record { depth = scanned.shallow; nodes = scanned.small };
    }

none : (fs : List Frame) → length fs ≡ 0 → fs ≡ []
none [] e = refl
none (f ∷ fs) e = absurd (omega arith)

-- at the end, where an operand was read and no parenthesis is open
pub record IsDone (cs : List Class) (t : Tree) : Type 0 where
  pub accepted : IsAccepted cs
  pub spells : SpellsTree cs t
  pub signs : Spells Union (signs_in cs) t
  pub small : nodes t ≤ most_nodes

-- what is known at the end
pub between_done : (cs : List Class) (i : ℕ) (r : Reader) (piece : Expr) (t : Tree)
    → IsBetween cs i r → i ≡ length cs → length r.waiting.items ≡ 0 → r.piece ≡ Some piece →
    t ≡ frames.whole (tree_in r.top.alternatives) (tree_in r.top.sequence) (tree_of piece)
    → IsDone cs t
between_done cs i r piece t h e f g k =
    let due : is_due r.piece ≡ false = ap is_due g in
    let scanned : IsScanned cs (length cs) false 0 r.nodes =
    subst (λ o. IsScanned cs (length cs) false o r.nodes) f
    (subst (λ d. IsScanned cs (length cs) d (length r.waiting.items) r.nodes) due
    (subst (λ i. IsScanned cs i (is_due r.piece) (length r.waiting.items) r.nodes) e h.scanned)) in
    let accepted : IsAccepted cs = scanned_all cs r.nodes scanned in
    let all : take (length cs) cs ≡ cs = take_all (length cs) cs (omega arith) in
    let read : frames.run frames.start (signs_in cs) ≡ Some
    (frames.frame (tree_in r.top.alternatives) (tree_in r.top.sequence)
    (Some (tree_of piece)) ∷ []) =
    ap (λ cs. frames.run frames.start (signs_in cs)) (sym all)
    ∙ ap (λ i. frames.run frames.start (signs_in (take i cs))) (sym e) ∙ h.read
    ∙ ap (λ p. Some (frame_of p r.top ∷ map (frame_of None) (reverse r.waiting.items))) g
    ∙ ap (λ ws. Some (frame_of (Some piece) r.top ∷ map (frame_of None) (reverse ws)))
    (none r.waiting.items f) in
    let tree : frames.tree_read (signs_in cs) ≡ Some t = ap frames.finished read
    ∙ ap Some (sym k) in
    let signs : Spells Union (signs_in cs) t = read_spells (signs_in cs) t tree in
    let count : nodes_from true cs ≡ nodes t = nodes_counted cs t signs in
    let seen : r.nodes ≡ nodes_from true cs = scanned.nodes ∙ ap (nodes_from true) all in
    let small : r.nodes ≤ most_nodes = scanned.small in
    record {
      accepted = accepted;
      spells = read_tree cs t accepted tree;
      signs = signs;
      small =
          omega arith;
    }

-- the tree of an accepted text has a position automaton
pub done_within : (letters text : List ℕ) (t : Tree) → IsDone (classes letters text) t
    → IsWithin (length letters) t
done_within letters text t h =
    record { small = h.small; letters = spelt_letters letters text t h.signs }
