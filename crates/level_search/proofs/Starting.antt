-- The start of the machine of keys.
use Rattle.std.proofs.Common.{◌≡◌, ℕ, ◌<◌, Bool, true, false, refl, arith}
use Rattle.level_search.specs.Keys.{count_once}

-- a machine that has seen no state was not started
pub not_started : (is_started : Bool) (count : ℕ) → 0 < count → count_once is_started count ≡ 0
    → is_started ≡ false
not_started true count l e = absurd (omega arith)
not_started false count l e = refl
