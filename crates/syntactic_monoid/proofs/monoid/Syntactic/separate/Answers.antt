use Rattle.std.proofs.Common.{ap, subst, ◌∙◌}
use Rattle.language_theory.specs.Words.{word_at}
use Rattle.language_theory.specs.ShortlexGraph.{node}
use Rattle.syntactic_monoid.specs.SyntacticMonoid.{SyntacticMonoid}
use Rattle.syntactic_monoid.specs.Action.{IsActing}
use Rattle.syntactic_monoid.proofs.Contexts.{congruent_found, parting_exists, telling_exists, separation_found}
use Rattle.syntactic_monoid.proofs.monoid.Syntactic.separate.Goals as goal

pub returns-then-i-j : goal.returns-then-i-j
returns-then-i-j c =
    let i = c.self.inside in
    let s = c.args.s.now in
    let t = c.args.t.now in
    let acting = subst (λ (m : SyntacticMonoid).
    IsActing m i.action.rows i.action.finals.items i.returns) c.self.view_is c.self.invariant in
    congruent_found c.args.self.now i.action.rows i.action.finals.items i.returns acting s t
    c.requires.one c.requires.other c.find-i.result c.find-j.result
    (c.find-i.ensures.node ∙ ap (λ (m : SyntacticMonoid). node m.graphs.right s) c.self.view_is)
    (c.find-j.ensures.node ∙ ap (λ (m : SyntacticMonoid). node m.graphs.right t) c.self.view_is)
    c.if-i-j.true

pub first_parting-before-requires-clause-some : goal.first_parting-before-requires-clause-some
first_parting-before-requires-clause-some c =
    let i = c.self.inside in
    let s = c.args.s.now in
    let t = c.args.t.now in
    let acting = subst (λ (m : SyntacticMonoid).
    IsActing m i.action.rows i.action.finals.items i.returns) c.self.view_is c.self.invariant in
    parting_exists c.args.self.now i.action.rows i.action.finals.items i.returns acting s t
    c.requires.one c.requires.other c.find-i.result c.find-j.result
    (c.find-i.ensures.node ∙ ap (λ (m : SyntacticMonoid). node m.graphs.right s) c.self.view_is)
    (c.find-j.ensures.node ∙ ap (λ (m : SyntacticMonoid). node m.graphs.right t) c.self.view_is)
    c.if-i-j.false

pub first_telling_apart-behind-requires-clause-some :
    goal.first_telling_apart-behind-requires-clause-some
first_telling_apart-behind-requires-clause-some c =
    let i = c.self.inside in
    let s = c.args.s.now in
    let t = c.args.t.now in
    let acting = subst (λ (m : SyntacticMonoid).
    IsActing m i.action.rows i.action.finals.items i.returns) c.self.view_is c.self.invariant in
    telling_exists c.args.self.now i.action.rows i.action.finals.items i.returns acting s t
    c.requires.one c.requires.other c.find-i.result c.find-j.result
    (c.find-i.ensures.node ∙ ap (λ (m : SyntacticMonoid). node m.graphs.right s) c.self.view_is)
    (c.find-j.ensures.node ∙ ap (λ (m : SyntacticMonoid). node m.graphs.right t) c.self.view_is)
    c.first_parting-before.result c.image-state.result c.image-p.result c.image-q.result
    c.first_parting-before.ensures c.image-state.ensures.taken c.image-p.ensures.taken
    c.image-q.ensures.taken

pub returns : goal.returns
returns c =
    let i = c.self.inside in
    let s = c.args.s.now in
    let t = c.args.t.now in
    let acting = subst (λ (m : SyntacticMonoid).
    IsActing m i.action.rows i.action.finals.items i.returns) c.self.view_is c.self.invariant in
    let before = c.first_parting-before.result in
    let behind = c.first_telling_apart-behind.result in
    let u = c.in_ok-u.ensures.word
    ∙ ap (λ (m : SyntacticMonoid). word_at m.graphs.words before) c.self.view_is in
    let v = c.in_ok-v.ensures.word
    ∙ ap (λ (m : SyntacticMonoid). word_at m.graphs.words behind) c.self.view_is in
    rw (u, v)
    (separation_found c.args.self.now i.action.rows i.action.finals.items i.returns acting s t
    c.requires.one c.requires.other c.find-i.result c.find-j.result
    (c.find-i.ensures.node ∙ ap (λ (m : SyntacticMonoid). node m.graphs.right s) c.self.view_is)
    (c.find-j.ensures.node ∙ ap (λ (m : SyntacticMonoid). node m.graphs.right t) c.self.view_is)
    before c.image-state.result c.image-p.result c.image-q.result
    c.first_parting-before.ensures c.image-state.ensures.taken c.image-p.ensures.taken
    c.image-q.ensures.taken behind c.first_telling_apart-behind.ensures)
