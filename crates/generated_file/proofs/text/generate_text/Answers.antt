use Rattle.std.proofs.Common.{◌≡◌, ℕ, suc, ◌+◌, List, ◌++◌, ap, sym, ◌∙◌, arith, append_assoc}
use Rattle.std.specs.Prelude.{codes}
use Rattle.std.specs.List.{flat_map, range_with_len}
use Rattle.std.proofs.lemmas.Grind.{flat_map-append}
use Rattle.language_theory.proofs.StepLists.{with_one_more}
use Rattle.generated_file.specs.Generated.{head_lines, step_lines, text_of, generated_text}
use Rattle.generated_file.proofs.text.generate_text.Goals as goal

-- the lines of one state more
with_next_lines : (size n : ℕ)
    → text_of (head_lines size ++ flat_map (step_lines size) (range_with_len 0 n))
    ++ text_of (step_lines size n)
    ≡ text_of (head_lines size ++ flat_map (step_lines size) (range_with_len 0 (n + 1)))
with_next_lines size n =
    let listed = flat_map (step_lines size) (range_with_len 0 n) in
    sym (flat_map-append (λ (line : List ℕ). line ++ codes "\n") (head_lines size ++ listed)
    (step_lines size n))
    ∙ ap text_of (append_assoc (head_lines size) listed (step_lines size n)
    ∙ ap (λ (lines : List (List ℕ)). head_lines size ++ lines)
    (sym (with_one_more (step_lines size) n)
    ∙ ap (λ (k : ℕ). flat_map (step_lines size) (range_with_len 0 k))
    (let e : suc n ≡ n + 1 = omega arith in e)))

pub loop-state-preserved : goal.loop-state-preserved
loop-state-preserved c =
    c.in_ok-push_steps.ensures
    ∙ ap (λ (t : List ℕ). t ++ text_of (step_lines c.args.size c.loop-state.state))
    c.loop-state.invariant
    ∙ with_next_lines c.args.size c.loop-state.state

pub returns : goal.returns
unfolding generated_text
returns c =
    let end : c.loop-state.state ≡ c.args.size =
    omega (arith, c.loop-state-test.false, c.loop-state.auto.state-end) in
    c.loop-state.invariant
    ∙ ap (λ (n : ℕ). text_of
    (head_lines c.args.size ++ flat_map (step_lines c.args.size) (range_with_len 0 n))) end
