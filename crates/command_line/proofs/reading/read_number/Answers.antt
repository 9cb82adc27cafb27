use Rattle.std.proofs.Common.{◌≡◌, ◌∙◌, true, false, Some, Ok, sym, ap, arith, inl, inr}
use Rattle.std.specs.Prelude.{decimal, bytes_eq, not, is_ok}
use Rattle.std.specs.Result.{result_ok}
use Rattle.std.proofs.lemmas.Fmt.{parse-decimal}
use Rattle.std.proofs.lemmas.Slice.Eq.{bytes_eq-Decides}
use Rattle.command_line.proofs.reading.read_number.Goals as goal

pub returns-in_err-number-clause-none : goal.returns-in_err-number-clause-none
returns-in_err-number-clause-none c = λ _ n spelled low high.
    let parsed : c.parse.result ≡ Ok n = parse-decimal 32 n c.args.text.now c.parse.result
    (omega (arith, high, c.ranges.most.fits)) (omega (arith, high, c.ranges.most.fits)) spelled
    c.parse.ensures.value.0 in
    let none : false ≡ true = c.in_err-number.ensures.variant ∙ ap is_ok parsed in
    cc

pub returns-then-ne-clause-none : goal.returns-then-ne-clause-none
returns-then-ne-clause-none c = λ _ n spelled low high.
    let parsed : c.parse.result ≡ Ok n = parse-decimal 32 n c.args.text.now c.parse.result
    (omega (arith, high, c.ranges.most.fits)) (omega (arith, high, c.ranges.most.fits)) spelled
    c.parse.ensures.value.0 in
    let same : Some c.in_ok-number.number ≡ Some n = c.in_ok-number.ensures.value
    ∙ ap result_ok parsed in
    let number : c.in_ok-number.number ≡ n = cc in
    let told : bytes_eq c.format.result.now c.args.text.now ≡ true =
    (bytes_eq-Decides _ _).1 (c.format.ensures.text ∙ ap decimal number ∙ sym spelled) in
    let equal : c.ne.result ≡ false = c.ne.ensures ∙ ap not told in
    elim c.then-ne.either [
      | inl differs ↦ let both : true ≡ false = sym differs ∙ equal in cc
      | inr range ↦ elim range [
        | inl below ↦ omega (arith, below.1, low, number)
        | inr above ↦
            omega (arith, above.2, high, number)
      ]
    ]
