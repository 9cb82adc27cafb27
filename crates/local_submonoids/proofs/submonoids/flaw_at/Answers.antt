use Rattle.std.proofs.Common.{◌≡◌, ℕ, List, length, map, ap, sym, subst, subst₂, ◌∙◌, arith}
use Rattle.std.specs.Prelude.{slice_index}
use Rattle.std.proofs.lemmas.List.{get_or_read, length-map}
use Rattle.local_submonoids.specs.LocalTables.{local_element, IsFirstPair, AllCommute, IsLeastSwapAt}
use Rattle.local_submonoids.proofs.FirstElements.{pair_is_swap, no_pair_no_swap}
use Rattle.local_submonoids.proofs.submonoids.flaw_at.Goals as goal

pub returns-in-Some-first_pair-clause-some : goal.returns-in-Some-first_pair-clause-some
returns-in-Some-first_pair-clause-some c = (c.in_default.ensures.none, moved)
  where
    given : c.in_ok-elements.elements.items
        ≡ map (local_element c.args.table.now c.args.e) c.in_ok-firsts.firsts.items
    given = c.in_ok-elements.ensures.elements
        ∙ ap (map (local_element c.args.table.now c.args.e)) c.as_slice.ensures.value

    pair : IsFirstPair c.args.table.now c.in_ok-elements.elements.items c.in-Some-first_pair.one
        c.in-Some-first_pair.other
    pair = subst (λ (es : List ℕ). IsFirstPair c.args.table.now es c.in-Some-first_pair.one
        c.in-Some-first_pair.other) c.as_slice-2.ensures.value c.in-Some-first_pair.ensures.some

    long : length c.in_ok-elements.elements.items ≡ length c.in_ok-firsts.firsts.items
    long = ap length given
        ∙ length-map c.in_ok-firsts.firsts.items (local_element c.args.table.now c.args.e)

    at : IsLeastSwapAt c.args.table.now c.args.e
        (slice_index c.in_ok-firsts.firsts.items c.in-Some-first_pair.one)
        (slice_index c.in_ok-firsts.firsts.items c.in-Some-first_pair.other)
    at = pair_is_swap c.args.table.now c.args.e c.in_ok-firsts.firsts.items
        c.in_ok-elements.elements.items c.in_ok-firsts.ensures given c.in-Some-first_pair.one
        c.in-Some-first_pair.other pair

    one : c.index.result.now ≡ slice_index c.in_ok-firsts.firsts.items c.in-Some-first_pair.one
    one = get_or_read c.in_ok-firsts.firsts.items c.in-Some-first_pair.one c.index.result.now
        (let l = pair.within in let n = long in omega arith) c.index.ensures 0

    other : c.index-in-Some-first_pair.result.now
        ≡ slice_index c.in_ok-firsts.firsts.items c.in-Some-first_pair.other
    other = get_or_read c.in_ok-firsts.firsts.items c.in-Some-first_pair.other
        c.index-in-Some-first_pair.result.now
        (let l = pair.other_within in let n = long in omega arith)
        c.index-in-Some-first_pair.ensures 0

    moved : IsLeastSwapAt c.args.table.now c.args.e c.index.result.now
        c.index-in-Some-first_pair.result.now
    moved = subst₂ (IsLeastSwapAt c.args.table.now c.args.e) (sym one) (sym other) at

pub returns-clause-none : goal.returns-clause-none
returns-clause-none c =
    let given : c.in_ok-elements.elements.items
    ≡ map (local_element c.args.table.now c.args.e) c.in_ok-firsts.firsts.items =
    c.in_ok-elements.ensures.elements
    ∙ ap (map (local_element c.args.table.now c.args.e)) c.as_slice.ensures.value in
    record {
      no_repeat = c.in_default.ensures.none;
      no_swap = no_pair_no_swap c.args.table.now c.args.e c.in_ok-firsts.firsts.items
          c.in_ok-elements.elements.items c.in_ok-firsts.ensures given
          (subst (AllCommute c.args.table.now) c.as_slice-2.ensures.value c.in-None.ensures.none);
    }
