use Rattle.std.proofs.Common.{◌∙◌, ap, refl, ℕ, List, length, arith}
use Rattle.std.proofs.lemmas.Option.{slice_get_within}
use Rattle.vrt_profile.specs.Values.{BandValue, DocumentValue}
use Rattle.catalog.specs.Mosaics.{sources_of}
use Rattle.catalog.specs.declared.faults.WalkFault.TheVariants.{Memory}
use Rattle.catalog.specs.Walking.{folder_seen}
use Rattle.catalog.proofs.Listings.{err_is}
use Rattle.catalog.proofs.Passes.{source_unnamed, names_uncounted, counted_linked, mosaic_still, source_unvisited, source_bandless, source_passed, band_refused, band_more, band_ends, bands_refused, bands_more, bands_end, source_there, band_there, item_counted}
use Rattle.catalog.proofs.Walking.{passes_memory}
use Rattle.catalog.proofs.Closings.{visits_below, rows_known, rows_low, open_known, visits_closed}
use Rattle.catalog.proofs.Same.{source_again}
use Rattle.catalog.proofs.walk.+walk.Goals as goal

pub visit-returns-in_err-members-in-Open : goal.visit-returns-in_err-members-in-Open
visit-returns-in_err-members-in-Open g t c =
    let result = err_is c.from_residual-in_err-members-in-Open.result c.in_err-members-in-Open.field-0.0 c.from_residual-in_err-members-in-Open.ensures in
    let o = rw c.in-Open.is at c.in_ok-meeting.ensures.meets in
    record { visits = rw result (visits_below c.args.verify c.args.room c.args.name.now _ _ _ c.args.met.now c.meet.new.met c.in-Open.id o c.visit_bands.new.met c.in_err-members-in-Open.field-0.0 c.in_err-members-in-Open.ensures.passes) }

pub visit-close-requires-clause-known : goal.visit-close-requires-clause-known
visit-close-requires-clause-known g t c =
    let o = rw c.in-Open.is at c.in_ok-meeting.ensures.meets in
    open_known c.args.verify c.args.room c.args.name.now _ _ _ c.args.met.now c.meet.new.met c.in-Open.id o c.visit_bands.new.met c.in_ok-members-in-Open.members c.requires.room c.in_ok-members-in-Open.ensures.passes

pub visit-close-requires-clause-rows : goal.visit-close-requires-clause-rows
visit-close-requires-clause-rows g t c =
    let o = rw c.in-Open.is at c.in_ok-meeting.ensures.meets in
    rows_known c.args.verify c.args.room c.args.name.now _ _ _ c.args.met.now c.meet.new.met c.in-Open.id o c.visit_bands.new.met c.in_ok-members-in-Open.members c.requires.room c.in_ok-members-in-Open.ensures.passes

pub visit-close-requires-clause-low : goal.visit-close-requires-clause-low
visit-close-requires-clause-low g t c =
    let o = rw c.in-Open.is at c.in_ok-meeting.ensures.meets in
    rows_low c.args.verify c.args.room c.args.name.now _ _ _ c.args.met.now c.meet.new.met c.in-Open.id o c.visit_bands.new.met c.in_ok-members-in-Open.members c.requires.room c.in_ok-members-in-Open.ensures.passes

pub visit-returns-in_ok-members-in-Open : goal.visit-returns-in_ok-members-in-Open
visit-returns-in_ok-members-in-Open g t c =
    let o = rw c.in-Open.is at c.in_ok-meeting.ensures.meets in
    record { visits = visits_closed c.args.verify c.args.room c.args.name.now _ _ _ c.args.met.now c.meet.new.met c.in-Open.id o c.visit_bands.new.met c.in_ok-members-in-Open.members c.requires.room c.in_ok-members-in-Open.ensures.passes c.close.new.self c.close.ensures.closed }

pub visit_source-returns-in_err-count_source : goal.visit_source-returns-in_err-count_source
visit_source-returns-in_err-count_source g t c =
    let result = err_is c.from_residual.result c.in_err-count_source.field-0.0 c.from_residual.ensures in
    let e = c.in_err-count_source.ensures in
    record { passes = λ w. rw result (source_unnamed c.args.verify c.args.room w.of.mosaic.dataset.head.name w.value ℕ _ _ c.args.met.now c.count_source.new.self c.in_err-count_source.field-0.0 (names_uncounted w.of.mosaic.dataset.head.name w.value c.args.met.now c.count_source.new.self c.in_err-count_source.field-0.0 e.told e.plain e.err)) }

pub visit_source-returns-in-Some : goal.visit_source-returns-in-Some
visit_source-returns-in-Some g t c =
    let e = c.in_ok-count_source.ensures in
    record { passes = λ w. rw e.ok (source_again c.args.verify c.args.room w.of.mosaic.dataset.head.name w.value _ c.args.met.now c.in-Some.member c.requires.linked e.told (c.in-Some.ensures.again c.args.room c.requires.row w)) }

pub visit_source-returns-in_err-wanted : goal.visit_source-returns-in_err-wanted
visit_source-returns-in_err-wanted g t c =
    let result = err_is c.from_residual-in_err-wanted.result c.in_err-wanted.field-0.0 c.from_residual-in_err-wanted.ensures in
    record { passes = λ w. rw result (source_unnamed c.args.verify c.args.room w.of.mosaic.dataset.head.name w.value ℕ _ _ c.args.met.now c.count_and_resolve.new.met c.in_err-wanted.field-0.0 (c.in_err-wanted.ensures.names w)) }

pub visit_source-visit-requires-clause-linked : goal.visit_source-visit-requires-clause-linked
visit_source-visit-requires-clause-linked g t c κs within =
    let w = c.requires.there in
    counted_linked w.of.mosaic.dataset.head.name w.value c.args.met.now c.count_and_resolve.new.met c.in_ok-wanted.wanted c.requires.linked (c.in_ok-wanted.ensures.names w)

pub visit_source-returns-in_err-member : goal.visit_source-returns-in_err-member
visit_source-returns-in_err-member g t c =
    let result = err_is c.from_residual-in_err-member.result c.in_err-member.field-0.0 c.from_residual-in_err-member.ensures in
    record { passes = λ w. rw result (source_unvisited c.args.verify c.args.room w.of.mosaic.dataset.head.name w.value _ _ c.args.met.now c.count_and_resolve.new.met c.visit.new.met c.in_ok-wanted.wanted c.requires.linked (c.in_ok-wanted.ensures.names w) ℕ _ c.in_err-member.field-0.0 c.in_err-member.ensures.visits) }

pub visit_source-check_samples-requires-clause-known : goal.visit_source-check_samples-requires-clause-known
visit_source-check_samples-requires-clause-known g t c =
    let w = c.requires.there in
    slice_get_within c.visit.new.met.datasets c.args.at.id w.of.mosaic.dataset (mosaic_still c.args.met.now c.count_and_resolve.new.met c.visit.new.met c.args.at.id (c.in_ok-wanted.ensures.names w).grows c.in_ok-member.ensures.visits.walks.grows w.of.mosaic)

pub visit_source-returns-in_err-check_samples : goal.visit_source-returns-in_err-check_samples
visit_source-returns-in_err-check_samples g t c =
    let result = err_is c.from_residual-in_err-check_samples.result c.in_err-check_samples.field-0.0 c.from_residual-in_err-check_samples.ensures in
    let e = c.in_err-check_samples.ensures in
    record {
      passes = λ w.
          let still = mosaic_still c.args.met.now c.count_and_resolve.new.met c.visit.new.met c.args.at.id (c.in_ok-wanted.ensures.names w).grows c.in_ok-member.ensures.visits.walks.grows w.of.mosaic in
          rw result (source_bandless c.args.verify c.args.room w.of.mosaic.dataset.head.name w.value _ _ c.args.met.now c.count_and_resolve.new.met c.visit.new.met c.in_ok-wanted.wanted c.requires.linked (c.in_ok-wanted.ensures.names w) c.in_ok-member.member c.in_ok-member.ensures.visits ℕ _ c.in_err-check_samples.field-0.0 e.plain (e.told w.of.mosaic.dataset still));
    }

pub visit_source-returns : goal.visit_source-returns
visit_source-returns g t c = record {
  passes = λ w.
      let still = mosaic_still c.args.met.now c.count_and_resolve.new.met c.visit.new.met c.args.at.id (c.in_ok-wanted.ensures.names w).grows c.in_ok-member.ensures.visits.walks.grows w.of.mosaic in
      source_passed c.args.verify c.args.room w.of.mosaic.dataset.head.name w.value _ _ c.args.met.now c.count_and_resolve.new.met c.visit.new.met c.in_ok-wanted.wanted c.requires.linked (c.in_ok-wanted.ensures.names w) c.in_ok-member.member c.in_ok-member.ensures.visits (c.in_ok-check_samples.ensures.told w.of.mosaic.dataset still);
}

pub visit_band-visit_source-requires-clause-linked : goal.visit_band-visit_source-requires-clause-linked
visit_band-visit_source-requires-clause-linked g t c κs within = (c.loop-source.invariant c.requires.there).walks.goes.linked

pub visit_band-visit_source-requires-clause-there : goal.visit_band-visit_source-requires-clause-there
visit_band-visit_source-requires-clause-there g t c κs within =
    let w = c.requires.there in
    let s = item_counted w.value.sources c.behind-met.inside.sources c.loop-source.source c.len-count.result c.loop-source-test.true c.len-count.ensures.count (ap (λ (b : BandValue). b.sources) (c.behind-met.view_is ∙ c.band.ensures.band w)) in
    source_there c.args.met.now c.loop-source.met c.args.id c.args.band c.loop-source.source (c.loop-source.invariant w).walks.grows w s.0 s.1

pub visit_band-visit_source-requires-clause-row : goal.visit_band-visit_source-requires-clause-row
visit_band-visit_source-requires-clause-row g t c κs within =
    let w = c.requires.there in
    let s = item_counted w.value.sources c.behind-met.inside.sources c.loop-source.source c.len-count.result c.loop-source-test.true c.len-count.ensures.count (ap (λ (b : BandValue). b.sources) (c.behind-met.view_is ∙ c.band.ensures.band w)) in
    record {
      there = source_there c.args.met.now c.loop-source.met c.args.id c.args.band c.loop-source.source (c.loop-source.invariant w).walks.grows w s.0 s.1;
      reached = (c.loop-source.invariant w).reached;
    }

pub visit_band-returns-in_err-member : goal.visit_band-returns-in_err-member
visit_band-returns-in_err-member g t c =
    let result = err_is c.from_residual.result c.in_err-member.field-0.0 c.from_residual.ensures in
    record {
      passes = λ w.
          let s = item_counted w.value.sources c.behind-met.inside.sources c.loop-source.source c.len-count.result c.loop-source-test.true c.len-count.ensures.count (ap (λ (b : BandValue). b.sources) (c.behind-met.view_is ∙ c.band.ensures.band w)) in
          let before = c.loop-source.invariant w in
          let there = source_there c.args.met.now c.loop-source.met c.args.id c.args.band c.loop-source.source before.walks.grows w s.0 s.1 in
          rw result (band_refused c.args.verify c.args.room w.mosaic.dataset.head.name w.value.sources _ _ _ c.args.met.now c.loop-source.met c.visit_source.new.met c.loop-source.source c.loop-source.row before s.0 c.in_err-member.field-0.0 s.1 (c.in_err-member.ensures.passes there));
    }

pub visit_band-returns-in_err-push : goal.visit_band-returns-in_err-push
visit_band-returns-in_err-push g t c =
    let result = err_is c.from_residual-in_err-push.result Memory c.from_residual-in_err-push.ensures in
    record {
      passes = λ w.
          let s = item_counted w.value.sources c.behind-met.inside.sources c.loop-source.source c.len-count.result c.loop-source-test.true c.len-count.ensures.count (ap (λ (b : BandValue). b.sources) (c.behind-met.view_is ∙ c.band.ensures.band w)) in
          let before = c.loop-source.invariant w in
          let there = source_there c.args.met.now c.loop-source.met c.args.id c.args.band c.loop-source.source before.walks.grows w s.0 s.1 in
          let more = band_more c.args.verify c.args.room w.mosaic.dataset.head.name w.value.sources _ _ _ c.args.met.now c.loop-source.met c.visit_source.new.met c.loop-source.source c.loop-source.row before s.0 c.in_ok-member.member s.1 (c.in_ok-member.ensures.passes there) in
          rw result (passes_memory c.args.verify c.args.room w.mosaic.dataset.head.name (List ℕ) (List ℕ) _ w.value.sources _ _ c.args.met.now c.visit_source.new.met _ _ _ Memory refl more);
    }

pub visit_band-loop-source-preserved : goal.visit_band-loop-source-preserved
visit_band-loop-source-preserved g t c = λ w.
    let s = item_counted w.value.sources c.behind-met.inside.sources c.loop-source.source c.len-count.result c.loop-source-test.true c.len-count.ensures.count (ap (λ (b : BandValue). b.sources) (c.behind-met.view_is ∙ c.band.ensures.band w)) in
    let before = c.loop-source.invariant w in
    let there = source_there c.args.met.now c.loop-source.met c.args.id c.args.band c.loop-source.source before.walks.grows w s.0 s.1 in
    rw c.in_ok-push.ensures.ok (band_more c.args.verify c.args.room w.mosaic.dataset.head.name w.value.sources _ _ _ c.args.met.now c.loop-source.met c.visit_source.new.met c.loop-source.source c.loop-source.row before s.0 c.in_ok-member.member s.1 (c.in_ok-member.ensures.passes there))

pub visit_band-returns : goal.visit_band-returns
visit_band-returns g t c = record {
  passes = λ w.
      let same = ap (λ (b : BandValue). length b.sources) (c.behind-met.view_is ∙ c.band.ensures.band w) in
      band_ends c.args.verify c.args.room w.mosaic.dataset.head.name w.value.sources _ _ (folder_seen (g.F.Folder.names c.loop-source.folder) (g.F.Folder.write_calls c.loop-source.folder) (g.F.Folder.read_calls c.loop-source.folder) (g.F.Folder.faults c.loop-source.folder)) c.args.met.now c.loop-source.met c.loop-source.met c.loop-source.source c.loop-source.row (c.loop-source.invariant w) (omega (arith, same, c.loop-source-test.false, c.len-count.ensures.count));
}

pub visit_bands-visit_band-requires-clause-linked : goal.visit_bands-visit_band-requires-clause-linked
visit_bands-visit_band-requires-clause-linked g t c κs within = (c.loop-band.invariant c.requires.there).walks.goes.linked

pub visit_bands-visit_band-requires-clause-there : goal.visit_bands-visit_band-requires-clause-there
visit_bands-visit_band-requires-clause-there g t c κs within =
    let w = c.requires.there in
    let b = item_counted w.document.bands c.behind-met.inside.bands c.loop-band.band c.len-count.result c.loop-band-test.true c.len-count.ensures.count (ap (λ (d : DocumentValue). d.bands) (c.behind-met.view_is ∙ c.document.ensures.document w)) in
    band_there c.args.met.now c.loop-band.met c.args.id c.loop-band.band (c.loop-band.invariant w).walks.grows w b.0 b.1

pub visit_bands-returns-in_err-row : goal.visit_bands-returns-in_err-row
visit_bands-returns-in_err-row g t c =
    let result = err_is c.from_residual.result c.in_err-row.field-0.0 c.from_residual.ensures in
    record {
      passes = λ w.
          let b = item_counted w.document.bands c.behind-met.inside.bands c.loop-band.band c.len-count.result c.loop-band-test.true c.len-count.ensures.count (ap (λ (d : DocumentValue). d.bands) (c.behind-met.view_is ∙ c.document.ensures.document w)) in
          let before = c.loop-band.invariant w in
          let there = band_there c.args.met.now c.loop-band.met c.args.id c.loop-band.band before.walks.grows w b.0 b.1 in
          rw result (bands_refused c.args.verify c.args.room w.dataset.head.name w.document.bands _ _ _ c.args.met.now c.loop-band.met c.visit_band.new.met c.loop-band.band c.loop-band.rows before b.0 c.in_err-row.field-0.0 b.1 (c.in_err-row.ensures.passes there));
    }

pub visit_bands-returns-in_err-push : goal.visit_bands-returns-in_err-push
visit_bands-returns-in_err-push g t c =
    let result = err_is c.from_residual-in_err-push.result Memory c.from_residual-in_err-push.ensures in
    record {
      passes = λ w.
          let b = item_counted w.document.bands c.behind-met.inside.bands c.loop-band.band c.len-count.result c.loop-band-test.true c.len-count.ensures.count (ap (λ (d : DocumentValue). d.bands) (c.behind-met.view_is ∙ c.document.ensures.document w)) in
          let before = c.loop-band.invariant w in
          let there = band_there c.args.met.now c.loop-band.met c.args.id c.loop-band.band before.walks.grows w b.0 b.1 in
          let more = bands_more c.args.verify c.args.room w.dataset.head.name w.document.bands _ _ _ c.args.met.now c.loop-band.met c.visit_band.new.met c.loop-band.band c.loop-band.rows before b.0 c.in_ok-row.row b.1 (c.in_ok-row.ensures.passes there) in
          rw result (passes_memory c.args.verify c.args.room w.dataset.head.name (List (List ℕ)) (List (List ℕ)) _ (sources_of w.document) _ _ c.args.met.now c.visit_band.new.met _ _ _ Memory refl more);
    }

pub visit_bands-loop-band-preserved : goal.visit_bands-loop-band-preserved
visit_bands-loop-band-preserved g t c = λ w.
    let b = item_counted w.document.bands c.behind-met.inside.bands c.loop-band.band c.len-count.result c.loop-band-test.true c.len-count.ensures.count (ap (λ (d : DocumentValue). d.bands) (c.behind-met.view_is ∙ c.document.ensures.document w)) in
    let before = c.loop-band.invariant w in
    let there = band_there c.args.met.now c.loop-band.met c.args.id c.loop-band.band before.walks.grows w b.0 b.1 in
    rw c.in_ok-push.ensures.ok (bands_more c.args.verify c.args.room w.dataset.head.name w.document.bands _ _ _ c.args.met.now c.loop-band.met c.visit_band.new.met c.loop-band.band c.loop-band.rows before b.0 c.in_ok-row.row b.1 (c.in_ok-row.ensures.passes there))

pub visit_bands-returns : goal.visit_bands-returns
visit_bands-returns g t c = record {
  passes = λ w.
      let same = ap (λ (d : DocumentValue). length d.bands) (c.behind-met.view_is ∙ c.document.ensures.document w) in
      bands_end c.args.verify c.args.room w.dataset.head.name w.document.bands _ _ (folder_seen (g.F.Folder.names c.loop-band.folder) (g.F.Folder.write_calls c.loop-band.folder) (g.F.Folder.read_calls c.loop-band.folder) (g.F.Folder.faults c.loop-band.folder)) c.args.met.now c.loop-band.met c.loop-band.met c.loop-band.band c.loop-band.rows (c.loop-band.invariant w) (omega (arith, same, c.loop-band-test.false, c.len-count.ensures.count));
}
