-- The fault of the enumeration behind a fault of the syntactic monoid.
use Rattle.std.proofs.Common.{◌≡◌, refl, sym, subst, ◌∙◌}
use Rattle.std.specs.Prelude.{Result}
use Rattle.std.specs.Result.{IsErrAnd, IsErrOf}
use Rattle.std.proofs.lemmas.Result.{err_from_is_err_and}
use Rattle.froidure_pin.specs.declared.enumerating.EnumFault.{EnumFault}
use Rattle.froidure_pin.specs.declared.enumerating.EnumFault.TheVariants as enumerate
use Rattle.syntactic_enumeration.specs.declared.faults.SynFault.{SynFault}
use Rattle.syntactic_enumeration.specs.declared.faults.SynFault.TheVariants as syntactic
use Rattle.syntactic_enumeration.specs.Faults.{IsRaised}

limit_from : (fault : EnumFault) → IsRaised fault syntactic.ElementLimit
    → fault ≡ enumerate.ElementLimit
limit_from enumerate.ElementLimit e = refl
limit_from enumerate.Memory e = cc

-- where too many elements are reported, the enumeration reported them
pub limit_raised : {T : Type 0} (r : Result T SynFault) (fault : EnumFault)
    → IsErrAnd r (IsRaised fault) → IsErrOf r syntactic.ElementLimit
    → fault ≡ enumerate.ElementLimit
limit_raised r fault h e =
    let (y, is, raised) = err_from_is_err_and r h in
    let same : y ≡ syntactic.ElementLimit = (let f = sym is ∙ e in cc) in
    limit_from fault (subst (IsRaised fault) same raised)
