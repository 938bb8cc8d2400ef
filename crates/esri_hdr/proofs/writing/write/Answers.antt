use Rattle.std.proofs.Common.{◌∙◌, ap, ◌++◌}
use Rattle.esri_hdr.specs.Text.{hdr_text, lines_text_of, layout_fields, sample_fields, row_fields, nodata_fields, geo_fields}
use Rattle.esri_hdr.proofs.Writes.{all_lines, keeps_after, on_err_any}
use Rattle.esri_hdr.proofs.writing.write.Goals as goal

pub returns-in_err-push_layout-clause-err : goal.returns-in_err-push_layout-clause-err
returns-in_err-push_layout-clause-err c = on_err_any _ c.in_err-push_layout.ensures.err

pub returns-in_err-push_samples-clause-err : goal.returns-in_err-push_samples-clause-err
returns-in_err-push_samples-clause-err c = on_err_any _ (keeps_after _ _ _ _ c.in_ok-push_layout.ensures.ok c.in_err-push_samples.ensures.err)

pub returns-in_err-push_rows-clause-err : goal.returns-in_err-push_rows-clause-err
returns-in_err-push_rows-clause-err c = on_err_any _ (keeps_after _ _ _ _ c.in_ok-push_layout.ensures.ok (keeps_after _ _ _ _ c.in_ok-push_samples.ensures.ok c.in_err-push_rows.ensures.err))

pub returns-in_err-push_nodata-clause-err : goal.returns-in_err-push_nodata-clause-err
returns-in_err-push_nodata-clause-err c = on_err_any c.from_residual-in_err-push_nodata.result (keeps_after _ _ _ _ c.in_ok-push_layout.ensures.ok (keeps_after _ _ _ _ c.in_ok-push_samples.ensures.ok (keeps_after _ _ _ _ c.in_ok-push_rows.ensures.ok c.in_err-push_nodata.ensures.err)))

pub returns-in_err-push_geo-clause-err : goal.returns-in_err-push_geo-clause-err
returns-in_err-push_geo-clause-err c = on_err_any c.from_residual-in_err-push_geo.result (keeps_after _ _ _ _ c.in_ok-push_layout.ensures.ok (keeps_after _ _ _ _ c.in_ok-push_samples.ensures.ok (keeps_after _ _ _ _ c.in_ok-push_rows.ensures.ok (keeps_after _ _ _ _ c.in_ok-push_nodata.ensures.ok c.in_err-push_geo.ensures.err))))

pub returns-clause-ok : goal.returns-clause-ok
unfolding hdr_text
returns-clause-ok c =
    let h = all_lines _ _ _ _ _ _ _ _ _ _ _ c.in_ok-push_layout.ensures.ok c.in_ok-push_samples.ensures.ok c.in_ok-push_rows.ensures.ok c.in_ok-push_nodata.ensures.ok c.in_ok-push_geo.ensures.ok in
    h.lines ∙ ap (λ x. c.args.out.now.items ++ lines_text_of (layout_fields c.args.head.now ++ (sample_fields c.args.head.now ++ (row_fields c.args.head.now ++ (nodata_fields x.nodata ++ geo_fields x.geo))))) c.head.view_is
