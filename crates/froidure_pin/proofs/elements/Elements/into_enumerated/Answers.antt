use Rattle.std.proofs.Common.{◌≡◌, ℕ, List, length}
use Rattle.language_theory.specs.ShortlexGraph.{Graph}
use Rattle.froidure_pin.proofs.Finish.{complete_tables, complete_graphs, complete_rows}
use Rattle.froidure_pin.proofs.elements.Elements.into_enumerated.Goals as goal

pub from_parts-cayley-requires : goal.from_parts-cayley-requires
from_parts-cayley-requires c =
    let s = c.args.self in
    let e = c.into_lists-prefix.ensures in (
      c.requires.words,
      rw (c.letters-letters.ensures.letters, e.prefix, e.last, e.suffix, e.first)
          (complete_tables s.generators.now s.rows s.progress.links s.progress.left.items
          c.args.right.items c.requires),
    )

pub returns-clause-elements : goal.returns-clause-elements
returns-clause-elements c =
    let s = c.args.self in
    let k = c.letters-letters.ensures.letters in
    let p = c.into_lists-prefix.ensures.prefix in
    let e = c.from_parts-cayley.ensures in
    let made : (t : List ℕ) → Graph =
    λ t. record {
      size = length s.progress.links.prefix;
      letters = s.generators.now.letters;
      targets = t;
    } in
    let right : c.from_parts-cayley.result.right ≡ made c.args.right.items =
    rw (← p, ← k) e.right in
    complete_graphs s.generators.now s.rows s.progress.links s.progress.left.items
    c.args.right.items c.requires c.from_parts-cayley.result e.graphs right

pub returns-clause-rows : goal.returns-clause-rows
returns-clause-rows c =
    let s = c.args.self in
    let k = c.letters-letters.ensures.letters in
    let p = c.into_lists-prefix.ensures.prefix in
    let e = c.from_parts-cayley.ensures in
    let made : (t : List ℕ) → Graph =
    λ t. record {
      size = length s.progress.links.prefix;
      letters = s.generators.now.letters;
      targets = t;
    } in
    let right : c.from_parts-cayley.result.right ≡ made c.args.right.items =
    rw (← p, ← k) e.right in
    complete_rows s.generators.now s.rows s.progress.links s.progress.left.items c.args.right.items
    c.requires c.from_parts-cayley.result e.graphs right
