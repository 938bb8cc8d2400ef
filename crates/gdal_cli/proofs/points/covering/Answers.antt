use Rattle.std.proofs.Common.{◌∙◌, ap, sym, ◌-◌, ℕ, List, [], fold, get_or, refl}
use Rattle.std.proofs.lemmas.List.{take_all}
use Rattle.location_report.specs.Covering.{with_covering, covering_files}
use Rattle.location_report.proofs.Named.{fold_more}
use Rattle.gdal_cli.proofs.points.covering.Goals as goal

pub loop-band-preserved : goal.loop-band-preserved
loop-band-preserved c d at =
    c.in_ok-files_at.ensures.ok d at
    ∙ ap (λ (ns : List (List ℕ)). with_covering c.args.cat.now d (get_or c.args.bands.now c.loop-band.band-index 0 - 1) c.args.x c.args.y ns) (c.loop-band.invariant d at)
    ∙ sym (fold_more (λ ns band. with_covering c.args.cat.now d (band - 1) c.args.x c.args.y ns) [] c.args.bands.now c.loop-band.band-index (get_or c.args.bands.now c.loop-band.band-index 0) 0 c.loop-band-test.true refl)

pub returns-clause-files : goal.returns-clause-files
unfolding covering_files
returns-clause-files c d at =
    c.loop-band.invariant d at
    ∙ ap (λ (bands : List ℕ). fold (λ ns band. with_covering c.args.cat.now d (band - 1) c.args.x c.args.y ns) [] bands) (take_all c.loop-band.band-index c.args.bands.now c.loop-band-test.false)
