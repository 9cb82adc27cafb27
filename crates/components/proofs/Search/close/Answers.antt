use Rattle.std.proofs.Common.{rules, drop}
use Rattle.components.specs.Search.{IsIn, IsNamed}
use Rattle.components.proofs.Changes.{search_closed, stay_closed, graph_within}
use Rattle.components.proofs.Search.close.Goals as goal

pub returns-clause-holds : goal.returns-clause-holds
returns-clause-holds c =
    let s = c.args.self.now in
    let named : IsNamed (drop c.args.start s.opened.items) c.least_of-least.result s.labels.items
    c.name_all.new.labels.items = search rules in
    let among : IsIn (drop c.args.start s.opened.items) c.least_of-least.result = search rules in
    search_closed c.args.start c.least_of-least.result (graph_within c.requires.graph)
    c.requires.holds c.requires.some c.requires.last c.requires.done named among (search rules)
    (search rules) (search rules)

pub returns-clause-later : goal.returns-clause-later
returns-clause-later c =
    let s = c.args.self.now in
    let named : IsNamed (drop c.args.start s.opened.items) c.least_of-least.result s.labels.items
    c.name_all.new.labels.items = search rules in
    let among : IsIn (drop c.args.start s.opened.items) c.least_of-least.result = search rules in
    record {
      seen = λ x xn h. h;
      closed = λ x xn h. stay_closed c.args.start c.least_of-least.result c.requires.holds named
          among x h;
    }
