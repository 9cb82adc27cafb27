use Rattle.std.proofs.Common.{◌≡◌, ◌<◌, ◌/◌, ◌%◌, ◌++◌, ◌∷◌, [], ℕ, List, sym, subst, arith}
use Rattle.std.specs.Prelude.{IfOk}
use Rattle.std.proofs.lemmas.Result.{IfOk-weaker}
use Rattle.language_theory.specs.Words.{word_at}
use Rattle.syntactic_monoid.specs.SyntacticMonoid.{SyntacticMonoid, IsNonemptyWordOf}
use Rattle.syntactic_monoid.specs.Action.{IsActing}
use Rattle.syntactic_monoid.proofs.Semigroup.{later_word, return_word, no_return}
use Rattle.syntactic_monoid.proofs.monoid.Syntactic.nonempty_word.Goals as goal
use Rattle.syntactic_monoid.proofs.monoid.Syntactic.nonempty_word.Goals.{in_default-via-in-Some+else-i-eq0, in_default-via-in_default}

pub returns-in-Some : goal.returns-in-Some
returns-in-Some c =
    let i = c.self.inside in
    let now = c.args.self.now in
    let p = c.in-Some.place in
    let acting = subst (λ (m : SyntacticMonoid).
    IsActing m i.action.rows i.action.finals.items i.returns) c.self.view_is c.self.invariant in
    let edge : List ℕ = word_at now.graphs.words (p / now.graphs.right.letters)
    ++ (p % now.graphs.right.letters) ∷ [] in
    let made : IfOk c.edge_word.result (λ w. w ≡ edge) =
    subst (λ (m : SyntacticMonoid). IfOk c.edge_word.result (λ w. w
    ≡ word_at m.graphs.words (p / m.graphs.right.letters)
    ++ (p % m.graphs.right.letters) ∷ [])) c.self.view_is c.edge_word.ensures in
    let least : IsNonemptyWordOf now c.args.i edge =
    subst (λ (n : ℕ). IsNonemptyWordOf now n edge) (sym c.if-i-eq0.true)
    (return_word now i.action.rows i.action.finals.items i.returns acting p c.in-Some.is) in
    IfOk-weaker c.edge_word.result (λ w. w ≡ edge) (λ w. IsNonemptyWordOf now c.args.i w)
    (λ w e. subst (IsNonemptyWordOf now c.args.i) (sym e) least) made

pub returns-in_default : goal.returns-in_default
returns-in_default c =
    let i = c.self.inside in
    let now = c.args.self.now in
    let acting = subst (λ (m : SyntacticMonoid).
    IsActing m i.action.rows i.action.finals.items i.returns) c.self.view_is c.self.invariant in
    let later : 0 < c.args.i = elim c.in_default.branch [
      | in_default-via-in-Some+else-i-eq0 w ↦ omega (arith, w.if-i-eq0.false)
      | in_default-via-in_default w ↦ no_return now i.action.rows i.action.finals.items i.returns
          acting w.in_default.is c.args.i c.requires.some
    ] in
    let word : List ℕ = word_at now.graphs.words c.args.i in
    let made : IfOk c.word.result (λ w. w ≡ word) =
    subst (λ (m : SyntacticMonoid). IfOk c.word.result (λ w. w
    ≡ word_at m.graphs.words c.args.i)) c.self.view_is c.word.ensures.word in
    let least = later_word now i.action.rows i.action.finals.items i.returns acting c.args.i later
    c.requires.element in
    IfOk-weaker c.word.result (λ w. w ≡ word) (λ w. IsNonemptyWordOf now c.args.i w)
    (λ w e. subst (IsNonemptyWordOf now c.args.i) (sym e) least) made
