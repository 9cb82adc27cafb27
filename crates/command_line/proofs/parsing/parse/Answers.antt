use Rattle.std.proofs.Common.{◌≡◌, ◌∙◌, true, inl, inr, ap, sym, subst, refl, map, Global}
use Rattle.std.specs.Prelude.{string_bytes}
use Rattle.clap.specs.Words.{App, app_of, fault_of, matches_of, is_simple, is_simple_and_free, kind_of, IsAmong}
use Rattle.clap.proofs.OnLiterals.{clap_on_literals}
use Rattle.command_line.specs.Parsing.{line_app, faults_of, rows_of_line}
use Rattle.command_line.proofs.parsing.parse.Goals as goal

simple : is_simple line_app ≡ true
unfolding line_app clap_on_literals
simple = refl

free : is_simple_and_free line_app ≡ true
unfolding line_app clap_on_literals
free = refl

pub returns-in-Ok-try_get_matches_from-clause-taken : goal.returns-in-Ok-try_get_matches_from-clause-taken
unfolding faults_of
returns-in-Ok-try_get_matches_from-clause-taken c =
    let same : app_of c.in-Ok.command ≡ line_app = c.in-Ok.ensures in
    ap (λ (a : App). fault_of a (map (string_bytes {Z = Global}) c.args.words.now)) (sym same)
    ∙ c.in-Ok-try_get_matches_from.ensures.kinds (ap is_simple_and_free same ∙ free)

pub returns-in-Ok-try_get_matches_from-clause-found : goal.returns-in-Ok-try_get_matches_from-clause-found
unfolding rows_of_line
returns-in-Ok-try_get_matches_from-clause-found c =
    let same : app_of c.in-Ok.command ≡ line_app = c.in-Ok.ensures in
    (c.in-Ok-try_get_matches_from.ensures.matches (ap is_simple same ∙ simple)).0
    ∙ ap (λ (a : App). matches_of a (map (string_bytes {Z = Global}) c.args.words.now)) same

pub returns : goal.returns
unfolding faults_of
returns c = record {
  taken = tt;
  found = tt;
  fault = λ none.
      let same : app_of c.in-Ok.command ≡ line_app = c.in-Ok.ensures in
      elim (c.in-Err.ensures.kinds (ap is_simple_and_free same ∙ free)) [
        | inl memory ↦ c.in_default-kind.not-OutOfMemory (c.kind.ensures ∙ memory)
        | inr among ↦
            subst (λ kinds. IsAmong (kind_of c.in-Err.fault) kinds)
            (ap (λ (a : App). fault_of a (map (string_bytes {Z = Global}) c.args.words.now)) same
            ∙ none) among
      ];
}
