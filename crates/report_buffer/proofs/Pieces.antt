-- Pieces that are put behind a text, one after another.
use Rattle.std.proofs.Common.{◌≡◌, ℕ, List, ◌++◌, Result, Ok, Err, ap, ◌∙◌, append_assoc}
use Rattle.std.specs.Prelude.{OnOk}

-- three pieces
pub three_pieces : {T E : Type 0} (r : Result T E) (t a b c x y z : List ℕ) → a ≡ t ++ x
    → b ≡ a ++ y → OnOk r (c ≡ b ++ z) → OnOk r (c ≡ t ++ (x ++ y ++ z))
three_pieces (Ok v) t a b c x y z first second last =
    last ∙ ap (λ u. u ++ z) (second ∙ ap (λ u. u ++ y) first ∙ append_assoc t x y)
    ∙ append_assoc t (x ++ y) z
three_pieces (Err e) t a b c x y z first second last = tt

-- two pieces
pub two_pieces : {T E : Type 0} (r : Result T E) (t a b x y : List ℕ) → a ≡ t ++ x
    → OnOk r (b ≡ a ++ y) → OnOk r (b ≡ t ++ (x ++ y))
two_pieces (Ok v) t a b x y first last = last ∙ ap (λ u. u ++ y) first ∙ append_assoc t x y
two_pieces (Err e) t a b x y first last = tt
