-- Where no test of the scan fails, the machine reads a tree.
use Rattle.std.proofs.Common.{◌≡◌, ℕ, zero, suc, Bool, true, false, Some, None, List, [], ◌∷◌, refl, sym, ◌∙◌, arith}
use Rattle.expression_theory.specs.Expression.{Tree}
use Rattle.expression_theory.specs.Grammar.{leaf_tree, applied, Sign, Operand, Bar, Postfix, Open, Close, Spells, Union}
use Rattle.expression_theory.specs.Frames.{Frame, frame, whole, settle, run, finished}
use Rattle.expression_theory.proofs.Sound.{read_spells}

-- no test of the scan fails but for the limits: the first argument says whether an operand must come, the second how many parentheses are open
abbrev pub Passes : Bool → ℕ → List Sign → Type 0
Passes due n [] = (due ≡ false) × (n ≡ 0)
Passes due n (Operand x ∷ w) = Passes false n w
Passes due n (Open ∷ w) = Passes true (suc n) w
Passes due n (Bar ∷ w) = (due ≡ false) × Passes true n w
Passes due n (Postfix m ∷ w) = (due ≡ false) × Passes false n w
Passes due zero (Close ∷ w) = ⊥
Passes due (suc n) (Close ∷ w) = (due ≡ false) × Passes false n w

-- n frames that wait for the piece in parentheses
abbrev pub Waiting : ℕ → List Frame → Type 0
Waiting zero [] = Unit {0}
Waiting zero (f ∷ fs) = ⊥
Waiting (suc n) [] = ⊥
Waiting (suc n) (frame a s None ∷ fs) = Waiting n fs
Waiting (suc n) (frame a s (Some p) ∷ fs) = ⊥

-- whether an operand is due and how many parentheses are open, as the frames have it
abbrev pub Fits : Bool → ℕ → List Frame → Type 0
Fits due n [] = ⊥
Fits due n (frame a s None ∷ fs) = (due ≡ true) × Waiting n fs
Fits due n (frame a s (Some p) ∷ fs) = (due ≡ false) × Waiting n fs

clash : {P : Type 0} (due : Bool) → due ≡ true → due ≡ false → P
clash due e f = absurd (let g : true ≡ false = sym e ∙ f in cc)

-- what passes is read to a tree
pub passes_reads : (w : List Sign) (due : Bool) (n : ℕ) (fs : List Frame) → Fits due n fs
    → Passes due n w → (t : Tree) × (finished (run fs w) ≡ Some t)
passes_reads w due n [] h k = absurd h
passes_reads [] due n (frame a s None ∷ fs) (e, h) (f, g) = clash due e f
passes_reads [] due zero (frame a s (Some p) ∷ []) (e, h) (f, g) = (whole a s p, refl)
passes_reads [] due zero (frame a s (Some p) ∷ (x ∷ fs)) (e, h) (f, g) = absurd h
passes_reads [] due (suc n) (frame a s (Some p) ∷ fs) (e, h) (f, g) =
    absurd (let i : suc n ≡ 0 = g in omega arith)
passes_reads (Operand t ∷ w) due n (frame a s None ∷ fs) (e, h) k =
    passes_reads w false n (frame a (settle s None) (Some (leaf_tree t)) ∷ fs) (refl, h) k
passes_reads (Operand t ∷ w) due n (frame a s (Some p) ∷ fs) (e, h) k =
    passes_reads w false n (frame a (settle s (Some p)) (Some (leaf_tree t)) ∷ fs) (refl, h) k
passes_reads (Open ∷ w) due n (frame a s None ∷ fs) (e, h) k =
    passes_reads w true (suc n) (frame None None None ∷ (frame a (settle s None) None ∷ fs))
    (refl, h) k
passes_reads (Open ∷ w) due n (frame a s (Some p) ∷ fs) (e, h) k =
    passes_reads w true (suc n) (frame None None None ∷ (frame a (settle s (Some p)) None ∷ fs))
    (refl, h) k
passes_reads (Bar ∷ w) due n (frame a s None ∷ fs) (e, h) (f, k) = clash due e f
passes_reads (Bar ∷ w) due n (frame a s (Some p) ∷ fs) (e, h) (f, k) =
    passes_reads w true n (frame (Some (whole a s p)) None None ∷ fs) (refl, h) k
passes_reads (Postfix m ∷ w) due n (frame a s None ∷ fs) (e, h) (f, k) = clash due e f
passes_reads (Postfix m ∷ w) due n (frame a s (Some p) ∷ fs) (e, h) (f, k) =
    passes_reads w false n (frame a s (Some (applied m p)) ∷ fs) (refl, h) k
passes_reads (Close ∷ w) due zero (f ∷ fs) h k = absurd k
passes_reads (Close ∷ w) due (suc n) (frame a s None ∷ fs) (e, h) (f, k) = clash due e f
passes_reads (Close ∷ w) due (suc n) (frame a s (Some p) ∷ []) (e, h) (f, k) = absurd h
passes_reads (Close ∷ w) due (suc n) (frame a s (Some p) ∷ (frame b r None ∷ fs)) (e, h) (f, k) =
    passes_reads w false n (frame b r (Some (whole a s p)) ∷ fs) (refl, h) k
passes_reads (Close ∷ w) due (suc n) (frame a s (Some p) ∷ (frame b r (Some q) ∷ fs)) (e, h)
    (f, k) = absurd h

-- what passes spells a tree
pub passes_spells : (w : List Sign) → Passes true 0 w → (t : Tree) × Spells Union w t
passes_spells w h = let r = passes_reads w true 0 (frame None None None ∷ []) (refl, tt) h in
    (r.0, read_spells w r.0 r.1)
