use Rattle.std.proofs.Common.{ap, ◌∙◌, Ok}
use Rattle.vrt_markup.specs.Views.{plain_text}
use Rattle.vrt_profile.specs.Means.{with_band, with_nodata, with_offset, with_ratio, with_lut, lut_by}
use Rattle.vrt_profile.specs.SourceViews.{source_view}
use Rattle.vrt_markup.proofs.Reading.{ok_value}
use Rattle.vrt_profile.proofs.Once.{once_put}
use Rattle.vrt_profile.proofs.source.SourceParts.put_number.Goals as goal

pub returns-in-Band-clause-parts : goal.returns-in-Band-clause-parts
returns-in-Band-clause-parts c =
    let s = source_view c.args.self.now in
    rw c.in-Band.is (ap Ok (once_put (λ o. record s { band = o }) s.band c.put_once.new.place c.source_band_by.result c.put_once.result c.put_once.ensures.put ∙ ap (with_band s) c.source_band_by.ensures.band))

pub returns-in-NoData-clause-parts : goal.returns-in-NoData-clause-parts
returns-in-NoData-clause-parts c =
    let s = source_view c.args.self.now in
    rw c.in-NoData.is (ap Ok (once_put (λ o. record s { nodata = o }) s.nodata c.put_once-in-NoData.new.place c.nodata_by.result c.put_once-in-NoData.result c.put_once-in-NoData.ensures.put ∙ ap (with_nodata s) c.nodata_by.ensures.nodata))

pub returns-in-Offset-clause-parts : goal.returns-in-Offset-clause-parts
returns-in-Offset-clause-parts c =
    let s = source_view c.args.self.now in
    rw c.in-Offset.is (ap Ok (once_put (λ o. record s { offset = o }) s.offset c.put_once-in-Offset.new.place c.scale_by.result c.put_once-in-Offset.result c.put_once-in-Offset.ensures.put ∙ ap (with_offset s) c.scale_by.ensures.scale))

pub returns-in-Ratio-clause-parts : goal.returns-in-Ratio-clause-parts
returns-in-Ratio-clause-parts c =
    let s = source_view c.args.self.now in
    rw c.in-Ratio.is (ap Ok (once_put (λ o. record s { ratio = o }) s.ratio c.put_once-in-Ratio.new.place c.scale_by-in-Ratio.result c.put_once-in-Ratio.result c.put_once-in-Ratio.ensures.put ∙ ap (with_ratio s) c.scale_by-in-Ratio.ensures.scale))

pub returns-in-Ok-clause-parts : goal.returns-in-Ok-clause-parts
returns-in-Ok-clause-parts c =
    let s = source_view c.args.self.now in
    rw c.in-Lut.is (ap Ok (once_put (λ o. record s { lut = o }) s.lut c.put_once-in-Ok.new.place c.in-Ok.lut c.put_once-in-Ok.result c.put_once-in-Ok.ensures.put
    ∙ ap (with_lut s) (ok_value c.in-Ok.lut (lut_by (plain_text c.args.words.now.text) c.args.words.now.child) c.in-Ok.ensures.lut)))
