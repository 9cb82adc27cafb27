-- Within a limit of nodes no list of the construction is longer than that limit.
use Rattle.std.proofs.Common.{◌≡◌, ℕ, ◌≤◌, List, [], ◌∷◌, arith, length, length-append, Some}
use Rattle.std.proofs.lemmas.Bool.{ltb-true}
use Rattle.star_free_theory.specs.declared.nodes.SfNode.{SfNode}
use Rattle.star_free_theory.specs.Construction.{done, Algebra, construction}
use Rattle.local_divisors.proofs.Keeping.{kept_construction}

pub few_construction : (most b : ℕ) → most ≤ b → (n k : ℕ) (A : Algebra) (finals : List ℕ) → 3 ≤ b
    → (r : List SfNode × ℕ) → construction (Some most) n k A finals ≡ done r → length r.0 ≤ b
few_construction most b fits n k A finals opens =
    kept_construction k (Some most) (λ xs. length xs ≤ b)
    (λ xs x below new room few. let long = length-append xs (x ∷ []) in
    omega (arith, long, fits, ltb-true (length xs) most room)) n A finals opens
