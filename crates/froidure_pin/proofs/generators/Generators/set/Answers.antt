use Rattle.std.proofs.Common.{◌<◌, sym, subst}
use Rattle.froidure_pin.specs.Maps.{Maps, IsSetAt}
use Rattle.froidure_pin.proofs.MapLaws.{set_image, set_maps}
use Rattle.froidure_pin.proofs.generators.Generators.set.Goals as goal

pub returns : goal.returns
returns c =
    let inside : Maps =
    record {
      points = c.self.inside.points;
      letters = c.self.inside.letters;
      images =
          c.self.inside.images.items;
    } in
    let letter =
    subst (λ (m : Maps). c.args.letter < m.letters) (sym c.self.view_is) c.requires.letter in
    let point = subst (λ (m : Maps). c.args.point < m.points)
    (sym c.self.view_is) c.requires.point in
    subst (λ (old : Maps). IsSetAt old
    (set_image inside c.args.letter c.args.point c.args.image) c.args.letter c.args.point
    c.args.image) c.self.view_is
    (set_maps inside c.args.letter c.args.point c.args.image c.self.invariant letter point)
