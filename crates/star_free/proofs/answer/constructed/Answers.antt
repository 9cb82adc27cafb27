use Rattle.std.proofs.Common.{◌≡◌, ◌∙◌, Some, Err, length, refl, subst}
use Rattle.star_free_theory.specs.Construction.{construction}
use Rattle.local_divisors.specs.declared.faults.SfFault.{SfFault}
use Rattle.local_divisors.specs.Constructing.{IsAnswer, algebra_of, most_depth}
use Rattle.syntactic_monoid.specs.SyntacticMonoid.{recognised}
use Rattle.star_free.specs.Answer.{images_of, finals_of}
use Rattle.star_free.proofs.Constructed.{can_construct, comes_here, denotes_here, denotes_language, has_star_free_list, pruned_language}
use Rattle.star_free.proofs.answer.constructed.Goals as goal

pub construct-requires : goal.construct-requires
construct-requires c =
    let m = c.args.monoid.now in
    let e : c.as_slice.result.now ≡ images_of m = c.as_slice.ensures.value ∙ c.in_ok-images.ensures in
    let f : c.as_slice-2.result.now ≡ finals_of m =
    c.as_slice-2.ensures.value ∙ c.in_ok-finals.ensures in
    rw (e, f) (can_construct m c.cayley-elements.ensures.syntactic c.args.table.now c.requires.table
    c.requires.aperiodic c.args.max_nodes c.requires.nodes)

pub returns-in-Ok-clause-answer : goal.returns-in-Ok-clause-answer
returns-in-Ok-clause-answer c =
    let m = c.args.monoid.now in
    let e : c.as_slice.result.now ≡ images_of m = c.as_slice.ensures.value ∙ c.in_ok-images.ensures in
    let f : c.as_slice-2.result.now ≡ finals_of m =
    c.as_slice-2.ensures.value ∙ c.in_ok-finals.ensures in
    let p = c.in_ok-pruned-in-Ok.ensures.pruning in (
      c.requires.aperiodic,
      refl,
      record {
        list = c.in-Ok.list.nodes;
        root = c.in-Ok.list.root;
        constructed = record {
          table = c.args.table.now;
          square = c.side-side.ensures.square;
          products = c.requires.table;
          comes = comes_here m c.cayley-elements.ensures.syntactic c.args.table.now
              c.as_slice.result.now c.as_slice-2.result.now c.args.max_nodes _ e f
              c.in-Ok.ensures.answer;
        };
        kept = p.0;
        pruned = p.1;
      },
    )

pub returns-in-Ok-clause-tells : goal.returns-in-Ok-clause-tells
returns-in-Ok-clause-tells c =
    let m = c.args.monoid.now in
    let k = m.graphs.right.letters in
    let e : c.as_slice.result.now ≡ images_of m = c.as_slice.ensures.value ∙ c.in_ok-images.ensures in
    let f : c.as_slice-2.result.now ≡ finals_of m =
    c.as_slice-2.ensures.value ∙ c.in_ok-finals.ensures in
    let l = c.in-Ok.list in (
      c.len-len.ensures.list,
      pruned_language k (recognised m) l.nodes c.in_ok-pruned-in-Ok.pruned.nodes l.root
          c.in_ok-pruned-in-Ok.pruned.root
          (denotes_language m c.cayley-elements.ensures.syntactic c.args.table.now c.requires.table l.nodes
          l.root
          (denotes_here m c.cayley-elements.ensures.syntactic c.args.table.now c.as_slice.result.now
          c.as_slice-2.result.now l.nodes l.root e f c.in-Ok.ensures.words))
          c.in_ok-pruned-in-Ok.ensures.words,
    )

pub returns-in-Err-Depth-clause-answer : goal.returns-in-Err-Depth-clause-answer
returns-in-Err-Depth-clause-answer c =
    let m = c.args.monoid.now in
    let e : c.as_slice.result.now ≡ images_of m = c.as_slice.ensures.value ∙ c.in_ok-images.ensures in
    let f : c.as_slice-2.result.now ≡ finals_of m =
    c.as_slice-2.ensures.value ∙ c.in_ok-finals.ensures in
    let P : SfFault → Type 0 = λ x. IsAnswer (construction (Some c.args.max_nodes) most_depth
    (length c.as_slice.result.now) (algebra_of c.args.table.now c.as_slice.result.now) c.as_slice-2.result.now) (Err x) in (
      c.requires.aperiodic,
      refl,
      record {
        table = c.args.table.now;
        square = c.side-side.ensures.square;
        products = c.requires.table;
        comes = comes_here m c.cayley-elements.ensures.syntactic c.args.table.now
            c.as_slice.result.now c.as_slice-2.result.now c.args.max_nodes _ e f
            (subst P c.in-Err-Depth.field-0-is c.in-Err-Depth.ensures.answer);
      },
    )

pub returns-in-Err-Nodes-clause-answer : goal.returns-in-Err-Nodes-clause-answer
returns-in-Err-Nodes-clause-answer c =
    let m = c.args.monoid.now in
    let e : c.as_slice.result.now ≡ images_of m = c.as_slice.ensures.value ∙ c.in_ok-images.ensures in
    let f : c.as_slice-2.result.now ≡ finals_of m =
    c.as_slice-2.ensures.value ∙ c.in_ok-finals.ensures in
    let P : SfFault → Type 0 = λ x. IsAnswer (construction (Some c.args.max_nodes) most_depth
    (length c.as_slice.result.now) (algebra_of c.args.table.now c.as_slice.result.now) c.as_slice-2.result.now) (Err x) in (
      c.requires.aperiodic,
      refl,
      record {
        table = c.args.table.now;
        square = c.side-side.ensures.square;
        products = c.requires.table;
        comes = comes_here m c.cayley-elements.ensures.syntactic c.args.table.now
            c.as_slice.result.now c.as_slice-2.result.now c.args.max_nodes _ e f
            (subst P c.in-Err-Nodes.field-0-is c.in-Err-Nodes.ensures.answer);
      },
    )

pub returns-in-Err-Depth-clause-tells : goal.returns-in-Err-Depth-clause-tells
returns-in-Err-Depth-clause-tells c =
    has_star_free_list c.args.monoid.now c.cayley-elements.ensures.syntactic c.requires.aperiodic

pub returns-in-Err-Nodes-clause-tells : goal.returns-in-Err-Nodes-clause-tells
returns-in-Err-Nodes-clause-tells c =
    has_star_free_list c.args.monoid.now c.cayley-elements.ensures.syntactic c.requires.aperiodic
