-- What the machine reads is spelt by the grammar.
use Rattle.std.proofs.Common.{◌≡◌, Option, Some, None, List, [], ◌∷◌, ◌++◌, refl, ap, sym, subst, ◌∙◌, append_assoc}
use Rattle.std.proofs.lemmas.List.{append-nil}
use Rattle.expression_theory.specs.Expression.{Tree, Or}
use Rattle.expression_theory.specs.Grammar.{Quantifier, leaf_tree, applied, Sign, Operand, Bar, Postfix, Open, Close, Level, Piece, Sequence, Union, Spells, operand, inside, atom, postfix, one_piece, next_piece, one_sequence, next_sequence}
use Rattle.expression_theory.specs.Frames.{Frame, frame, joined, either, whole, settle, step, run, and_then, finished, tree_read}

-- what is there is spelt, and where nothing is there are no signs
abbrev pub Has : Level → Option Tree → List Sign → Type 0
Has l None w = w ≡ []
Has l (Some t) w = Spells l w t

-- the union before the last `|`, with the `|`
abbrev pub HasBefore : Option Tree → List Sign → Type 0
HasBefore None w = w ≡ []
HasBefore (Some t) w = (v : List Sign) × Spells Union v t × (v ++ Bar ∷ [] ≡ w)

-- the frame holds the signs w
abbrev pub IsFrame : Frame → List Sign → Type 0
IsFrame (frame a s q) w = (x y z : List Sign) × HasBefore a x × Has Sequence s y × Has Piece q z
    × (x ++ (y ++ z) ≡ w)

-- the frames, the last one first, hold the signs that were read
abbrev pub IsStack : List Frame → List Sign → Type 0
IsStack [] w = ⊥
IsStack (f ∷ []) w = IsFrame f w
IsStack (f ∷ (g ∷ fs)) w = (u v : List Sign) × IsStack (g ∷ fs) u × IsFrame f v
    × (u ++ Open ∷ v ≡ w)

joined_spells : (s : Option Tree) (p : Tree) (y z : List Sign) → Has Sequence s y → Spells Piece z p
    → Spells Sequence (y ++ z) (joined s p)
joined_spells None p y z e h = subst (λ y. Spells Sequence (y ++ z) p) (sym e) (one_piece h)
joined_spells (Some s) p y z k h = next_piece k h

settle_has : (s q : Option Tree) (y z : List Sign) → Has Sequence s y → Has Piece q z
    → Has Sequence (settle s q) (y ++ z)
settle_has s None y z h e = subst (Has Sequence s) (sym (ap (λ z. y ++ z) e ∙ append-nil y)) h
settle_has s (Some p) y z h k = joined_spells s p y z h k

either_spells : (a : Option Tree) (t : Tree) (x w : List Sign) → HasBefore a x → Spells Sequence w t
    → Spells Union (x ++ w) (either a t)
either_spells None t x w e h = subst (λ x. Spells Union (x ++ w) t) (sym e) (one_sequence h)
either_spells (Some a) t x w (v, k, e) h =
    subst (λ x. Spells Union x (Or a t)) (sym (append_assoc v (Bar ∷ []) w) ∙ ap (λ x. x ++ w) e)
    (next_sequence k h)

whole_spells : (a s : Option Tree) (p : Tree) (w : List Sign) → IsFrame (frame a s (Some p)) w
    → Spells Union w (whole a s p)
whole_spells a s p w (x, y, z, h, k, l, e) =
    subst (λ w. Spells Union w (whole a s p)) e
    (either_spells a (joined s p) x (y ++ z) h (joined_spells s p y z k l))

-- one more sign in a frame
settled : (a s q : Option Tree) (w : List Sign) → IsFrame (frame a s q) w
    → IsFrame (frame a (settle s q) None) w
settled a s q w (x, y, z, h, k, l, e) =
    (x, y ++ z, [], h, settle_has s q y z k l, refl, ap (λ r. x ++ r) (append-nil (y ++ z)) ∙ e)

placed : (a s : Option Tree) (t : Tree) (w v : List Sign) → IsFrame (frame a s None) w
    → Spells Piece v t → IsFrame (frame a s (Some t)) (w ++ v)
placed a s t w v (x, y, z, h, k, l, e) p = (
  x,
  y,
  v,
  h,
  k,
  p,
  sym (append_assoc x y v)
      ∙ ap (λ r. r ++ v) (ap (λ r. x ++ r) (sym (append-nil y) ∙ ap (λ z. y ++ z) (sym l)) ∙ e),
)

marked : (a s : Option Tree) (p : Tree) (m : Quantifier) (w : List Sign)
    → IsFrame (frame a s (Some p)) w
    → IsFrame (frame a s (Some (applied m p))) (w ++ Postfix m ∷ [])
marked a s p m w (x, y, z, h, k, l, e) = (
  x,
  y,
  z ++ Postfix m ∷ [],
  h,
  k,
  postfix m l,
  ap (λ r. x ++ r) (sym (append_assoc y z (Postfix m ∷ [])))
      ∙ sym (append_assoc x (y ++ z) (Postfix m ∷ [])) ∙ ap (λ r. r ++ Postfix m ∷ []) e,
)

barred : (a s : Option Tree) (p : Tree) (w : List Sign) → IsFrame (frame a s (Some p)) w
    → IsFrame (frame (Some (whole a s p)) None None) (w ++ Bar ∷ [])
barred a s p w h = (
  w ++ Bar ∷ [],
  [],
  [],
  (w, whole_spells a s p w h, refl),
  refl,
  refl,
  append-nil (w ++ Bar ∷ []),
)

-- the same in the frame on top of others
on_top : (f g : Frame) (fs : List Frame) (w v : List Sign)
    → ((u : List Sign) → IsFrame f u → IsFrame g (u ++ v)) → IsStack (f ∷ fs) w
    → IsStack (g ∷ fs) (w ++ v)
on_top f g [] w v h k = h w k
on_top f g (e ∷ fs) w v h (x, y, k, l, q) =
    (x, y ++ v, k, h y l, sym (append_assoc x (Open ∷ y) v) ∙ ap (λ r. r ++ v) q)

opened : (f g : Frame) (fs : List Frame) (w : List Sign)
    → ((u : List Sign) → IsFrame f u → IsFrame g u) → IsStack (f ∷ fs) w →
    IsStack (frame None None None ∷ (g ∷ fs)) (w ++ Open ∷ [])
opened f g fs w h k = (w, [], below fs k, ([], [], [], refl, refl, refl, refl), refl)
  where
    below : (fs : List Frame) → IsStack (f ∷ fs) w → IsStack (g ∷ fs) w
    below [] k = h w k
    below (e ∷ fs) (x, y, k, l, q) = (x, y, k, h y l, q)

closed : (a s b r : Option Tree) (p : Tree) (fs : List Frame) (w : List Sign)
    → IsStack (frame a s (Some p) ∷ (frame b r None ∷ fs)) w →
    IsStack (frame b r (Some (whole a s p)) ∷ fs) (w ++ Close ∷ [])
closed a s b r p fs w (u, v, k, l, e) =
    subst (IsStack (frame b r (Some (whole a s p)) ∷ fs))
    (sym (append_assoc u (Open ∷ v) (Close ∷ [])) ∙ ap (λ w. w ++ Close ∷ []) e)
    (on_top (frame b r None) (frame b r (Some (whole a s p))) fs u (Open ∷ (v ++ Close ∷ []))
    (λ x h. placed b r (whole a s p) x (Open ∷ (v ++ Close ∷ [])) h
    (atom (inside (whole_spells a s p v l)))) k)

stepped : (fs gs : List Frame) (x : Sign) (w : List Sign) → IsStack fs w → step fs x ≡ Some gs
    → IsStack gs (w ++ x ∷ [])
stepped [] gs x w h e = absurd h
stepped (frame a s q ∷ fs) gs (Operand x) w h e =
    subst (λ gs. IsStack gs (w ++ Operand x ∷ []))
    (let f : frame a (settle s q) (Some (leaf_tree x)) ∷ fs ≡ gs = cc in f)
    (on_top (frame a s q) (frame a (settle s q) (Some (leaf_tree x))) fs w (Operand x ∷ [])
    (λ u k. placed a (settle s q) (leaf_tree x) u (Operand x ∷ []) (settled a s q u k)
    (atom operand)) h)
stepped (frame a s q ∷ fs) gs Open w h e =
    subst (λ gs. IsStack gs (w ++ Open ∷ []))
    (let f : frame None None None ∷ (frame a (settle s q) None ∷ fs) ≡ gs = cc in f)
    (opened (frame a s q) (frame a (settle s q) None) fs w (settled a s q) h)
stepped (frame a s (Some p) ∷ fs) gs Bar w h e =
    subst (λ gs. IsStack gs (w ++ Bar ∷ []))
    (let f : frame (Some (whole a s p)) None None ∷ fs ≡ gs = cc in f)
    (on_top (frame a s (Some p)) (frame (Some (whole a s p)) None None) fs w (Bar ∷ [])
    (barred a s p) h)
stepped (frame a s (Some p) ∷ fs) gs (Postfix m) w h e =
    subst (λ gs. IsStack gs (w ++ Postfix m ∷ []))
    (let f : frame a s (Some (applied m p)) ∷ fs ≡ gs = cc in f)
    (on_top (frame a s (Some p)) (frame a s (Some (applied m p))) fs w (Postfix m ∷ [])
    (marked a s p m) h)
stepped (frame a s (Some p) ∷ (frame b r None ∷ fs)) gs Close w h e =
    subst (λ gs. IsStack gs (w ++ Close ∷ [])) (let f : frame b r (Some (whole a s p)) ∷ fs ≡ gs =
    cc in f) (closed a s b r p fs w h)
stepped (frame a s (Some p) ∷ (frame b r (Some q) ∷ fs)) gs Close w h e =
    absurd (let f : None ≡ Some gs = e in cc)
stepped (frame a s (Some p) ∷ []) gs Close w h e = absurd (let f : None ≡ Some gs = e in cc)
stepped (frame a s None ∷ fs) gs Bar w h e = absurd (let f : None ≡ Some gs = e in cc)
stepped (frame a s None ∷ fs) gs (Postfix m) w h e = absurd (let f : None ≡ Some gs = e in cc)
stepped (frame a s None ∷ fs) gs Close w h e = absurd (let f : None ≡ Some gs = e in cc)

ran : (v : List Sign) (fs gs : List Frame) (w : List Sign) → IsStack fs w → run fs v ≡ Some gs
    → IsStack gs (w ++ v)
ran [] fs gs w h e = subst (λ gs. IsStack gs (w ++ [])) (let f : fs ≡ gs = cc in f)
    (subst (IsStack fs) (sym (append-nil w)) h)
ran (x ∷ v) fs gs w h e = by (λ hs k f. ran v hs gs (w ++ x ∷ []) k f) (step fs x) refl
  where
    by : ((hs : List Frame) → IsStack hs (w ++ x ∷ []) → run hs v ≡ Some gs
        → IsStack gs ((w ++ x ∷ []) ++ v)) → (o : Option (List Frame)) → step fs x ≡ o
        → IsStack gs (w ++ x ∷ v)
    by again None f = absurd (let g : None ≡ Some gs = ap (λ o. and_then o (λ hs. run hs v)) (sym f)
        ∙ e in cc)
    by again (Some hs) f =
        subst (IsStack gs) (append_assoc w (x ∷ []) v)
        (again hs (stepped fs hs x w h f) (ap (λ o. and_then o (λ hs. run hs v)) (sym f) ∙ e))

-- the grammar spells what the frames read
pub read_spells : (w : List Sign) (t : Tree) → tree_read w ≡ Some t → Spells Union w t
read_spells w t e = by (run (frame None None None ∷ []) w) refl
  where
    start : IsStack (frame None None None ∷ []) []
    start = ([], [], [], refl, refl, refl, refl)

    whose : (a s : Option Tree) (p : Tree)
        → run (frame None None None ∷ []) w ≡ Some (frame a s (Some p) ∷ [])
        → Spells Union w (whole a s p)
    whose a s p f = whole_spells a s p w
        (ran w (frame None None None ∷ []) (frame a s (Some p) ∷ []) [] start f)

    no : (o : Option (List Frame)) → run (frame None None None ∷ []) w ≡ o → finished o ≡ None
        → Spells Union w t
    no o f g = absurd (let h : None ≡ Some t = sym g ∙ ap finished (sym f) ∙ e in cc)

    by : (o : Option (List Frame)) → run (frame None None None ∷ []) w ≡ o → Spells Union w t
    by None f = no None f refl
    by (Some []) f = no (Some []) f refl
    by (Some (frame a s None ∷ fs)) f = no (Some (frame a s None ∷ fs)) f refl
    by (Some (frame a s (Some p) ∷ (g ∷ fs))) f = no (Some (frame a s (Some p) ∷ (g ∷ fs))) f refl
    by (Some (frame a s (Some p) ∷ [])) f =
        subst (Spells Union w) (let h : whole a s p ≡ t = cc (ap finished f) in h) (whose a s p f)
