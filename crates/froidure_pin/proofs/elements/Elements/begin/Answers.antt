use Rattle.std.proofs.Common.{◌≡◌, ℕ, List, [], length, refl, ap, sym, subst, ◌∙◌, nat_eq}
use Rattle.std.specs.Prelude.{map}
use Rattle.std.specs.List.{range_with_len}
use Rattle.std.specs.Cmp.Lexicographic.{pointwise}
use Rattle.indexmap.specs.IndexSet.{insert_key}
use Rattle.froidure_pin.specs.Maps.{row_of}
use Rattle.froidure_pin.specs.Rows.{number_of, AreSeen}
use Rattle.froidure_pin.proofs.RowLaws.{seen_rows, no_rows, first_number}
use Rattle.froidure_pin.proofs.Ready.{ready_begins}
use Rattle.froidure_pin.proofs.elements.Elements.begin.Goals as goal

pub returns-clause-seen : goal.returns-clause-seen
returns-clause-seen c =
    let m = c.args.self.now.generators.now in
    let x : c.as_slice.result.now ≡ row_of m [] =
    c.as_slice.ensures.value ∙ c.in_ok-row.ensures
    ∙ ap (λ (n : ℕ). map (λ (p : ℕ). p) (range_with_len 0 n)) c.points.ensures.points in
    let rows : c.see.new.self ≡ insert_key (pointwise nat_eq) [] (row_of m []) =
    c.in_ok-number.ensures.rows
    ∙ ap (λ (rows : List (List ℕ)). insert_key (pointwise nat_eq) rows c.as_slice.result.now)
    c.requires.rows ∙ ap (insert_key (pointwise nat_eq) []) x in
    subst (AreSeen m) (sym rows)
    (seen_rows m [] [] (row_of m []) tt refl (no_rows m c.requires.maps))

pub returns-clause-ready : goal.returns-clause-ready
returns-clause-ready c =
    let m = c.args.self.now.generators.now in
    let x : c.as_slice.result.now ≡ row_of m [] =
    c.as_slice.ensures.value ∙ c.in_ok-row.ensures
    ∙ ap (λ (n : ℕ). map (λ (p : ℕ). p) (range_with_len 0 n)) c.points.ensures.points in
    let rows : c.see.new.self ≡ insert_key (pointwise nat_eq) [] (row_of m []) =
    c.in_ok-number.ensures.rows
    ∙ ap (λ (rows : List (List ℕ)). insert_key (pointwise nat_eq) rows c.as_slice.result.now)
    c.requires.rows ∙ ap (insert_key (pointwise nat_eq) []) x in
    ready_begins m c.see.new.self c.in_ok-self.field-0 (ap length rows)
    (ap (λ (r : List (List ℕ)). number_of m r []) rows ∙ first_number m) c.in_ok-self.ensures
