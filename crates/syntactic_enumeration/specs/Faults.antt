-- Which fault of the enumeration is which fault of the syntactic monoid.
use Rattle.std.specs.Prelude.{◌≡◌}
use Rattle.froidure_pin.specs.declared.enumerating.EnumFault.{EnumFault}
use Rattle.froidure_pin.specs.declared.enumerating.EnumFault.TheVariants as enumerate
use Rattle.syntactic_enumeration.specs.declared.faults.SynFault.{SynFault}
use Rattle.syntactic_enumeration.specs.declared.faults.SynFault.TheVariants as syntactic

-- too many elements are too many elements
abbrev pub IsRaised : EnumFault → SynFault → Type 0
IsRaised enumerate.ElementLimit fault = fault ≡ syntactic.ElementLimit
IsRaised enumerate.Memory fault = fault ≡ syntactic.Memory
