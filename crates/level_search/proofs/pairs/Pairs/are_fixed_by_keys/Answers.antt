use Rattle.std.proofs.Common.{◌≡◌, ◌<◌, Bool, Some, None, get_or, ap, sym, ◌∙◌, rules, length}
use Rattle.std.specs.Prelude.{not}
use Rattle.level_search.specs.Pairs.{pair_at, final_at}
use Rattle.level_search.proofs.Pairing.{pair_within, key_within}
use Rattle.level_search.proofs.Fixing.{not_fixed, one_known, known_holds, known_fails, known_of_pair}
use Rattle.level_search.proofs.pairs.Pairs.are_fixed_by_keys.Goals as goal

pub index-requires : goal.index-requires
index-requires c =
    let l : c.loop-number.number < length c.args.self.now.seen = search rules in
    let key : c.pair-key.result.1 < c.args.self.now.keys.size =
    key_within c.args.self.now c.loop-number.number c.pair-key.result c.pair-key.ensures
    c.requires l in
    let long : length c.loop-number.known.items ≡ c.args.self.now.keys.size =
    c.loop-number.invariant.0.long in
    search rules

pub returns-then-eq : goal.returns-then-eq
returns-then-eq c =
    let p = c.args.self.now in
    let n = c.loop-number.number in
    let l : n < length p.seen = search rules in
    let read = known_of_pair p n c.pair-key.result c.loop-number.known.items c.index.result.now
    c.loop-number.invariant.0 c.pair-key.ensures
    (key_within p n c.pair-key.result c.pair-key.ensures c.requires l) c.index.ensures in
    let told : c.index.result.now ≡ Some (not c.is_final-is_final.result) =
    known_holds c.index.result.now (not c.is_final-is_final.result)
    (sym c.eq.ensures ∙ c.if-eq.true) in
    let other = sym read ∙ (told ∙ ap (λ (b : Bool). Some (not b)) c.is_final-is_final.ensures) in
    let never = not_fixed p n c.loop-number.known.items l c.loop-number.invariant.0 other in
    (λ e. cc, λ f. absurd (never f))

pub index_mut-requires : goal.index_mut-requires
index_mut-requires c =
    let l : c.loop-number.number < length c.args.self.now.seen = search rules in
    let key : c.pair-key.result.1 < c.args.self.now.keys.size =
    key_within c.args.self.now c.loop-number.number c.pair-key.result c.pair-key.ensures
    c.requires l in
    let long : length c.loop-number.known.items ≡ c.args.self.now.keys.size =
    c.loop-number.invariant.0.long in
    search rules

pub loop-number-preserved : goal.loop-number-preserved
loop-number-preserved c =
    let p = c.args.self.now in
    let n = c.loop-number.number in
    let l : n < length p.seen = search rules in
    let read = known_of_pair p n c.pair-key.result c.loop-number.known.items c.index.result.now
    c.loop-number.invariant.0 c.pair-key.ensures
    (key_within p n c.pair-key.result c.pair-key.ensures c.requires l) c.index.ensures in
    let differs : ¬ (get_or c.loop-number.known.items (pair_at p n).1 None
    ≡ Some (not (final_at p n))) =
    λ e. known_fails c.index.result.now (not c.is_final-is_final.result)
    (sym c.eq.ensures ∙ c.if-eq.false)
    (read ∙ (e ∙ ap (λ (b : Bool). Some (not b)) (sym c.is_final-is_final.ensures))) in
    let more = one_known p n c.loop-number.known.items c.loop-number.invariant.0
    (pair_within p n c.requires l).1 differs in
    (rw (c.pair-key.ensures, c.is_final-is_final.ensures) more, c.loop-number.invariant.1)
