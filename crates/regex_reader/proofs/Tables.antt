-- Laws of tests.
use Rattle.std.proofs.Common.{◌≡◌, Bool, true, false, ◌||◌, refl}

-- `or` groups as it likes
pub or_assoc : (a b c : Bool) → ((a || b) || c) ≡ (a || (b || c))
or_assoc true b c = refl
or_assoc false b c = refl

-- `or` false changes nothing
pub or_nothing : (a : Bool) → a ≡ (a || false)
or_nothing true = refl
or_nothing false = refl
