use Rattle.cayley_tables.proofs.LinkLaws.{tables_of_spelled, tables_are_graphs}
use Rattle.cayley_tables.specs.Tables.{tables}
use Rattle.cayley_tables.proofs.cayley.Cayley.from_parts.Goals as goal

pub invariant_of-result : goal.invariant_of-result
invariant_of-result c =
    tables_of_spelled
    (tables c.args.letters c.args.right.items c.args.left.items
    (record {
      prefix = c.args.prefix.items;
      last = c.args.last.items;
      suffix = c.args.suffix.items;
      first = c.args.first.items;
    })) c.requires.0 c.requires.1

pub returns-clause-graphs : goal.returns-clause-graphs
returns-clause-graphs c =
    let t = tables c.args.letters c.args.right.items c.args.left.items
    (record {
      prefix = c.args.prefix.items;
      last = c.args.last.items;
      suffix =
          c.args.suffix.items;
      first = c.args.first.items;
    }) in
    tables_are_graphs t (tables_of_spelled t c.requires.0 c.requires.1)
