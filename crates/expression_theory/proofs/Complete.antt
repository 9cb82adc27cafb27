-- The machine reads each tree that the grammar spells, so a text spells one tree at most.
use Rattle.std.proofs.Common.{◌≡◌, Option, Some, None, List, [], ◌∷◌, ◌++◌, refl, ap, sym, ◌∙◌, append_assoc}
use Rattle.std.proofs.lemmas.List.{append-nil}
use Rattle.expression_theory.specs.Expression.{Tree, Or, Cat}
use Rattle.expression_theory.specs.Grammar.{Quantifier, applied, Sign, Bar, Postfix, Open, Close, Level, Atom, Piece, Sequence, Union, Spells, operand, inside, atom, postfix, one_piece, next_piece, one_sequence, next_sequence}
use Rattle.expression_theory.specs.Frames.{Frame, frame, joined, whole, settle, run, finished, tree_read}

-- the signs w lead from the one stack of frames to the other, whatever comes behind
abbrev pub Goes : List Sign → List Frame → List Frame → Type 0
Goes w fs gs = (rest : List Sign) → run fs (w ++ rest) ≡ run gs rest

-- a piece becomes the last piece of the frame
abbrev pub ReadsPiece : List Sign → Tree → Type 0
ReadsPiece w t = (a s q : Option Tree) (fs : List Frame)
    → Goes w (frame a s q ∷ fs) (frame a (settle s q) (Some t) ∷ fs)

-- a sequence fills what stands behind the last `|`
abbrev pub ReadsSequence : List Sign → Tree → Type 0
ReadsSequence w t = (a : Option Tree) (fs : List Frame) → (s : Option Tree) × (p : Tree)
    × (joined s p ≡ t) × Goes w (frame a None None ∷ fs) (frame a s (Some p) ∷ fs)

-- a union fills an empty frame
abbrev pub ReadsUnion : List Sign → Tree → Type 0
ReadsUnion w t = (fs : List Frame) → (a s : Option Tree) × (p : Tree) × (whole a s p ≡ t)
    × Goes w (frame None None None ∷ fs) (frame a s (Some p) ∷ fs)

-- what each level of the grammar does to the frames
abbrev pub Reads : Level → List Sign → Tree → Type 0
Reads Atom w t = ReadsPiece w t
Reads Piece w t = ReadsPiece w t
Reads Sequence w t = ReadsSequence w t
Reads Union w t = ReadsUnion w t

goes_on : (u v : List Sign) (fs gs hs : List Frame) → Goes u fs gs → Goes v gs hs
    → Goes (u ++ v) fs hs
goes_on u v fs gs hs g h rest = ap (run fs) (append_assoc u v rest) ∙ g (v ++ rest) ∙ h rest

reads_inside : (w : List Sign) (t : Tree) → ReadsUnion w t → ReadsPiece (Open ∷ (w ++ Close ∷ [])) t
reads_inside w t h a s q fs rest = by (h (frame a (settle s q) None ∷ fs))
  where
    by : (b r : Option Tree) × (p : Tree) × (whole b r p ≡ t)
        × Goes w (frame None None None ∷ (frame a (settle s q) None ∷ fs))
        (frame b r (Some p) ∷ (frame a (settle s q) None ∷ fs)) →
        run (frame None None None ∷ (frame a (settle s q) None ∷ fs)) ((w ++ Close ∷ []) ++ rest)
        ≡ run (frame a (settle s q) (Some t) ∷ fs) rest
    by (b, r, p, e, g) =
        ap (run (frame None None None ∷ (frame a (settle s q) None ∷ fs)))
        (append_assoc w (Close ∷ []) rest) ∙ g (Close ∷ rest)
        ∙ ap (λ t. run (frame a (settle s q) (Some t) ∷ fs) rest) e

reads_postfix : (w : List Sign) (t : Tree) (m : Quantifier) → ReadsPiece w t
    → ReadsPiece (w ++ Postfix m ∷ []) (applied m t)
reads_postfix w t m h a s q fs =
    goes_on w (Postfix m ∷ []) (frame a s q ∷ fs) (frame a (settle s q) (Some t) ∷ fs)
    (frame a (settle s q) (Some (applied m t)) ∷ fs) (h a s q fs) (λ rest. refl)

reads_next_piece : (u v : List Sign) (s t : Tree) → ReadsSequence u s → ReadsPiece v t
    → ReadsSequence (u ++ v) (Cat s t)
reads_next_piece u v s t h k a fs = by (h a fs)
  where
    by : (r : Option Tree) × (p : Tree) × (joined r p ≡ s)
        × Goes u (frame a None None ∷ fs) (frame a r (Some p) ∷ fs) →
        (r : Option Tree) × (p : Tree) × (joined r p ≡ Cat s t)
        × Goes (u ++ v) (frame a None None ∷ fs) (frame a r (Some p) ∷ fs)
    by (r, p, e, g) = (
      Some (joined r p),
      t,
      ap (λ s. Cat s t) e,
      goes_on u v (frame a None None ∷ fs) (frame a r (Some p) ∷ fs)
          (frame a (Some (joined r p)) (Some t) ∷ fs) g (k a r (Some p) fs),
    )

reads_one_sequence : (w : List Sign) (t : Tree) → ReadsSequence w t → ReadsUnion w t
reads_one_sequence w t h fs = let r = h None fs in (None, r.0, r.1, r.2, r.3)

reads_next_sequence : (u v : List Sign) (s t : Tree) → ReadsUnion u s → ReadsSequence v t
    → ReadsUnion (u ++ Bar ∷ v) (Or s t)
reads_next_sequence u v s t h k fs = by (h fs)
  where
    by : (a r : Option Tree) × (p : Tree) × (whole a r p ≡ s) × Goes u (frame None None None ∷ fs)
        (frame a r (Some p) ∷ fs) →
        (a r : Option Tree) × (p : Tree) × (whole a r p ≡ Or s t)
        × Goes (u ++ Bar ∷ v) (frame None None None ∷ fs) (frame a r (Some p) ∷ fs)
    by (a, r, p, e, g) =
        let l = k (Some (whole a r p)) fs in (
          Some (whole a r p),
          l.0,
          l.1,
          ap (λ x. Or x (joined l.0 l.1)) e ∙ ap (Or s) l.2,
          goes_on u (Bar ∷ v) (frame None None None ∷ fs) (frame a r (Some p) ∷ fs)
              (frame (Some (whole a r p)) l.0 (Some l.1) ∷ fs) g l.3,
        )

-- what the grammar spells is read so
pub reads : (l : Level) (w : List Sign) (t : Tree) → Spells l w t → Reads l w t
reads l w t operand = λ a s q fs rest. refl
reads l w t (inside {w = v} {t = x} h) = reads_inside v x (reads Union v x h)
reads l w t (atom {w = v} {t = x} h) = reads Atom v x h
reads l w t (postfix {w = v} {t = x} m h) = reads_postfix v x m (reads Piece v x h)
reads l w t (one_piece {w = v} {t = x} h) =
    λ a fs. (None, x, refl, reads Piece v x h a None None fs)
reads l w t (next_piece {u = u} {v = v} {s = x} {t = y} h k) =
    reads_next_piece u v x y (reads Sequence u x h) (reads Piece v y k)
reads l w t (one_sequence {w = v} {t = x} h) = reads_one_sequence v x (reads Sequence v x h)
reads l w t (next_sequence {u = u} {v = v} {s = x} {t = y} h k) =
    reads_next_sequence u v x y (reads Union u x h) (reads Sequence v y k)

-- the frames read the tree that the grammar spells
pub reads_tree : (w : List Sign) (t : Tree) → Spells Union w t → tree_read w ≡ Some t
reads_tree w t h = by (reads Union w t h [])
  where
    by : (a s : Option Tree) × (p : Tree) × (whole a s p ≡ t) × Goes w (frame None None None ∷ [])
        (frame a s (Some p) ∷ []) → tree_read w ≡ Some t
    by (a, s, p, e, g) = ap (λ v. finished (run (frame None None None ∷ []) v)) (sym (append-nil w))
        ∙ ap finished (g []) ∙ ap Some e

-- signs spell one tree at most
pub spells_one : (w : List Sign) (s t : Tree) → Spells Union w s → Spells Union w t → s ≡ t
spells_one w s t h k = let e : tree_read w ≡ Some s = reads_tree w s h in
    let f : tree_read w ≡ Some t = reads_tree w t k in cc
