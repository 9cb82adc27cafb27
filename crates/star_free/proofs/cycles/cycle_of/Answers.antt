use Rattle.std.proofs.Common.{rules, ◌≡◌, ◌≤◌, ◌-◌, ◌+◌, ◌++◌, ◌∷◌, [], ℕ, List, true, false, nat_eq, length, length-append, get_or, ap, subst, ◌∙◌, arith}
use Rattle.std.specs.List.{list_any}
use Rattle.star_free.proofs.PowerNodes.{few_powers, power_is_back, power_is_new, power_step, inserted_again, inserted_new, none_is, stored_is}
use Rattle.star_free.proofs.cycles.cycle_of.Goals as goal

pub overflow_cast-result : goal.overflow_cast-result
overflow_cast-result c =
    let old = c.loop-powers.powers.keys in
    let there : list_any (nat_eq c.loop-powers.last) old ≡ true = search rules in
    let same = inserted_again old c.insert_full.new.self.keys c.loop-powers.last
    c.in_ok-place.ensures.keys there in
    let few = few_powers c.args.cayley.now c.len-len.ensures.graphs c.args.element c.requires old
    c.loop-powers.invariant.powers in
    let most = c.len-len.ensures.few in
    let size = c.len-len.ensures.len in
    let within = c.in_ok-place.ensures.within in
    let long : length c.insert_full.new.self.keys ≡ length old = ap length same in
    let fits : c.in_ok-place.place ≤ 50000 = omega arith in
    search rules

pub overflow_cast-result-then-not-is_new : goal.overflow_cast-result-then-not-is_new
overflow_cast-result-then-not-is_new c =
    let old = c.loop-powers.powers.keys in
    let there : list_any (nat_eq c.loop-powers.last) old ≡ true = search rules in
    let same = inserted_again old c.insert_full.new.self.keys c.loop-powers.last
    c.in_ok-place.ensures.keys there in
    let few = few_powers c.args.cayley.now c.len-len.ensures.graphs c.args.element c.requires old
    c.loop-powers.invariant.powers in
    let most = c.len-len.ensures.few in
    let size = c.len-len.ensures.len in
    let long : length c.insert_full.new.self.keys ≡ length old = ap length same in
    let all = c.len.ensures.len in
    let fits : c.len.result - c.in_ok-place.place ≤ 50000 = omega arith in
    search rules

pub returns-then-not-is_new : goal.returns-then-not-is_new
returns-then-not-is_new c =
    let old = c.loop-powers.powers.keys in
    let there : list_any (nat_eq c.loop-powers.last) old ≡ true = search rules in
    let same = inserted_again old c.insert_full.new.self.keys c.loop-powers.last
    c.in_ok-place.ensures.keys there in
    let within = c.in_ok-place.ensures.within in
    let long : length c.insert_full.new.self.keys ≡ length old = ap length same in
    let all : c.len.result ≡ length old = c.len.ensures.len ∙ long in
    let stored = c.in_ok-place.ensures.stored in
    let at = stored_is c.insert_full.new.self.keys c.loop-powers.last stored.0
    c.in_ok-place.place stored.1 stored.2 in
    rw all
    (power_is_back c.args.cayley.now c.len-len.ensures.graphs c.args.element c.requires old
    c.loop-powers.last c.in_ok-place.place c.loop-powers.invariant.powers
    c.loop-powers.invariant.last (omega arith)
    (subst (λ (keys : List ℕ). get_or keys c.in_ok-place.place 0 ≡ c.loop-powers.last) same at))

pub loop-powers-preserved : goal.loop-powers-preserved
loop-powers-preserved c =
    let old = c.loop-powers.powers.keys in
    let none : list_any (nat_eq c.loop-powers.last) old ≡ false = search rules in
    let more = inserted_new old c.insert_full.new.self.keys c.loop-powers.last
    c.in_ok-place.ensures.keys none in
    let grown = power_is_new c.args.cayley.now c.len-len.ensures.graphs c.args.element c.requires
    old c.loop-powers.last c.loop-powers.invariant.powers c.loop-powers.invariant.last
    (none_is old c.loop-powers.last none) in
    let longer : length (old ++ c.loop-powers.last ∷ []) ≡ length old + 1 = simp length-append in
    record {
      powers = rw more grown;
      last = rw (more, longer)
          (power_step c.args.cayley.now c.len-len.ensures.graphs c.args.element c.requires
          c.loop-powers.last (length old) c.product-last.result c.loop-powers.invariant.last
          c.product-last.ensures.product);
      within = c.product-last.ensures.within;
    }

pub loop-powers-smaller : goal.loop-powers-smaller
loop-powers-smaller c =
    let old = c.loop-powers.powers.keys in
    let none : list_any (nat_eq c.loop-powers.last) old ≡ false = search rules in
    let more = inserted_new old c.insert_full.new.self.keys c.loop-powers.last
    c.in_ok-place.ensures.keys none in
    let grown = power_is_new c.args.cayley.now c.len-len.ensures.graphs c.args.element c.requires
    old c.loop-powers.last c.loop-powers.invariant.powers c.loop-powers.invariant.last
    (none_is old c.loop-powers.last none) in
    let few = few_powers c.args.cayley.now c.len-len.ensures.graphs c.args.element c.requires
    (old ++ c.loop-powers.last ∷ []) grown in
    let longer : length (old ++ c.loop-powers.last ∷ []) ≡ length old + 1 = simp length-append in
    rw (more, longer) (omega arith)
