use Rattle.std.proofs.Common.{rules, ◌≡◌, ◌∙◌, ◌<◌, ◌-◌, ℕ, sym, subst, ap, refl, arith, length, take, map, get_or, to_z, of_z}
use mir.Syntax.{w128}
use Rattle.std.proofs.Math.ListN.{length-set}
use Rattle.std.proofs.lemmas.List.{take_all}
use Rattle.catalog.specs.Pixels.{pixel_of}
use Rattle.nearest_window.specs.Windows.{IsInBand}
use Rattle.gdal_cli.proofs.Told.{values_more}
use Rattle.gdal_cli.proofs.Untold.{typed_more}
use Rattle.gdal_cli.proofs.values.read_values.Goals as goal

pub loop-at-preserved : goal.loop-at-preserved
loop-at-preserved g c =
    let less : c.loop-at.at < length c.args.bands.now = omega arith in
    let room : length c.loop-at.values ≡ length c.args.bands.now = c.loop-at.invariant.room ∙ c.requires.room in
    let same : to_z w128 (of_z w128 c.in_ok-values.field-0) ≡ c.in_ok-values.field-0 = search rules in
    record {
      room = simp length-set c.loop-at.invariant.room;
      values = λ m is. values_more (λ (band : ℕ). pixel_of m c.args.question.now.cat c.args.question.now.id (band - 1) c.args.x c.args.y) c.args.bands.now c.loop-at.values c.loop-at.at (get_or c.args.bands.now c.loop-at.at 0) 0 _ less room refl (same ∙ c.in_ok-values.ensures.value m (c.loop-at.invariant.names ∙ is)) (c.loop-at.invariant.values m is);
      typed =
          let of_band = IsInBand c.args.question.now.cat c.args.question.now.id in
          typed_more of_band c.args.bands.now c.loop-at.values c.loop-at.at (to_z w128 (of_z w128 c.in_ok-values.field-0)) (omega arith)
          (subst (of_band (get_or c.args.bands.now c.loop-at.at 0 - 1)) (sym same) c.in_ok-values.ensures.typed) c.loop-at.invariant.typed;
      ready = c.read_value.ensures.ready;
      names = c.read_value.ensures.names ∙ c.loop-at.invariant.names;
      writes = c.read_value.ensures.writes ∙ c.loop-at.invariant.writes;
      later = omega (arith, c.loop-at.invariant.later, c.read_value.ensures.cause.later);
    }

pub returns-clause-values : goal.returns-clause-values
returns-clause-values g c = λ m is.
    let values : take c.loop-at.at c.loop-at.values ≡ c.loop-at.values = take_all c.loop-at.at c.loop-at.values (omega (arith, c.loop-at.invariant.room, c.requires.room)) in
    let bands : take c.loop-at.at c.args.bands.now ≡ c.args.bands.now = take_all c.loop-at.at c.args.bands.now (omega arith) in
    sym values ∙ c.loop-at.invariant.values m is ∙ ap (map (λ (band : ℕ). pixel_of m c.args.question.now.cat c.args.question.now.id (band - 1) c.args.x c.args.y)) bands

pub returns-clause-typed : goal.returns-clause-typed
returns-clause-typed g c = record {
  count = c.loop-at.invariant.room ∙ c.requires.room;
  typed = λ k less. c.loop-at.invariant.typed k (omega arith);
}
