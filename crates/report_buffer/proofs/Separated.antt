-- Texts with a gap between each two.
use Rattle.std.proofs.Common.{◌≡◌, ◌+◌, ℕ, add-one, List, ◌++◌, ap, ◌∙◌, append_assoc}
use Rattle.report_buffer.specs.Texts.{separated, gap_before}

-- one text more behind those that are there, and before it the gap
pub separated_next : (gap : List ℕ) (text : ℕ → List ℕ) (n : ℕ) (old a b c : List ℕ)
    → a ≡ old ++ separated gap text n → b ≡ a ++ gap_before gap n → c ≡ b ++ text n
    → c ≡ old ++ separated gap text (n + 1)
separated_next gap text n old a b c first gapped last =
    rw add-one
    (last ∙ ap (λ x. x ++ text n)
    (gapped ∙ ap (λ x. x ++ gap_before gap n) first
    ∙ append_assoc old (separated gap text n) (gap_before gap n))
    ∙ append_assoc old (separated gap text n ++ gap_before gap n) (text n))
