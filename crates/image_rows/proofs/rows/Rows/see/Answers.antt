use Rattle.std.proofs.Common.{List, ℕ, ap, sym, ◌∙◌, nat_eq}
use Rattle.std.specs.Prelude.{map, vec_items}
use Rattle.std.specs.List.{position_or_len}
use Rattle.std.specs.Cmp.Lexicographic.{pointwise}
use Rattle.indexmap.specs.IndexSet.{insert_key}
use Rattle.image_rows.proofs.Keys.{place_map, insert_map}
use Rattle.image_rows.proofs.rows.Rows.see.Goals as goal

pub returns-clause-rows : goal.returns-clause-rows
returns-clause-rows c =
    ap (map vec_items) c.in_ok-place.ensures.keys
    ∙ insert_map vec_items (pointwise nat_eq) c.self.inside.rows.keys c.in_ok-own.own
    ∙ ap (insert_key (pointwise nat_eq) (map vec_items c.self.inside.rows.keys))
    c.in_ok-own.ensures.items
    ∙ ap (λ (rows : List (List ℕ)). insert_key (pointwise nat_eq) rows c.args.row.now)
    c.self.view_is

pub returns-clause-place : goal.returns-clause-place
returns-clause-place c =
    c.in_ok-place.ensures.index
    ∙ sym (place_map vec_items (pointwise nat_eq c.in_ok-own.own.items) c.self.inside.rows.keys)
    ∙ ap (λ (x : List ℕ). position_or_len (pointwise nat_eq x)
    (map vec_items c.self.inside.rows.keys)) c.in_ok-own.ensures.items
    ∙ ap (position_or_len (pointwise nat_eq c.args.row.now)) c.self.view_is
