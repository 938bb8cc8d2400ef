use Rattle.std.proofs.Common.{◌≡◌, ℤ, ◌+ℤ◌, ◌*ℤ◌, Some, None, true, false, to_z, of_z, ap, sym, ◌∙◌, rules}
use Rattle.std.specs.Prelude.{Option, List, option_map}
use mir.Syntax.{w128}
use Rattle.vrt_profile.specs.declared.rectangle.LutPair.{LutPair}
use Rattle.vrt_profile.specs.Value.{is_nodata, is_plain, whole_by, source_value}
use Rattle.mosaic_sources.proofs.Following.{nodata_given, plain_given, scaled_given}
use Rattle.mosaic_sources.proofs.pixel.value.Goals as goal

pub returns-then-is_nodata : goal.returns-then-is_nodata
returns-then-is_nodata c =
    let p : to_z w128 (of_z w128 c.args.pixel) ≡ c.args.pixel = search rules in
    let v : is_nodata c.args.source.now.nodata c.args.pixel ≡ is_nodata c.nodata.result c.args.pixel = ap (λ (o : Option ℤ). is_nodata o c.args.pixel) (sym c.nodata.ensures.nodata) in
    let n : is_nodata c.args.source.now.nodata c.args.pixel ≡ true = v ∙ ap (is_nodata c.nodata.result) (sym p) ∙ sym c.is_nodata.ensures.nodata ∙ c.if-is_nodata.true in
    record { value = nodata_given c.args.source.now c.args.pixel c.rules.ensures.rules n }

pub returns-then-is_plain : goal.returns-then-is_plain
returns-then-is_plain c =
    let p : to_z w128 (of_z w128 c.args.pixel) ≡ c.args.pixel = search rules in
    let v : is_nodata c.args.source.now.nodata c.args.pixel ≡ is_nodata c.nodata.result c.args.pixel = ap (λ (o : Option ℤ). is_nodata o c.args.pixel) (sym c.nodata.ensures.nodata) in
    let n : is_nodata c.args.source.now.nodata c.args.pixel ≡ false = v ∙ ap (is_nodata c.nodata.result) (sym p) ∙ sym c.is_nodata.ensures.nodata ∙ c.if-is_nodata.false in
    let h : is_plain c.args.source.now ≡ true = sym c.is_plain.ensures.plain ∙ c.if-is_plain.true in
    record { value = ap Some p ∙ plain_given c.args.source.now c.args.pixel c.rules.ensures.rules h n }

pub returns : goal.returns
returns c =
    let p : to_z w128 (of_z w128 c.args.pixel) ≡ c.args.pixel = search rules in
    let v : is_nodata c.args.source.now.nodata c.args.pixel ≡ is_nodata c.nodata.result c.args.pixel = ap (λ (o : Option ℤ). is_nodata o c.args.pixel) (sym c.nodata.ensures.nodata) in
    let n : is_nodata c.args.source.now.nodata c.args.pixel ≡ false = v ∙ ap (is_nodata c.nodata.result) (sym p) ∙ sym c.is_nodata.ensures.nodata ∙ c.if-is_nodata.false in
    let h : is_plain c.args.source.now ≡ false = sym c.is_plain.ensures.plain ∙ c.if-is_plain.false in
    let r : to_z w128 (of_z w128 c.whole_by.result) ≡ c.whole_by.result = search rules in
    let k : to_z w128 (of_z w128 c.scaled-scaled.result) ≡ c.args.pixel *ℤ c.args.source.now.ratio +ℤ c.args.source.now.offset = search rules in
    let w : c.whole_by.result ≡ whole_by c.args.source.now.lut (c.args.pixel *ℤ c.args.source.now.ratio +ℤ c.args.source.now.offset) =
    c.whole_by.ensures.whole
    ∙ ap (λ (o : Option (List LutPair)). whole_by o (to_z w128 (of_z w128 c.scaled-scaled.result))) c.lut.ensures.lut
    ∙ ap (whole_by c.args.source.now.lut) k in
    record { value = ap Some (r ∙ w) ∙ scaled_given c.args.source.now c.args.pixel h n }
