use Rattle.std.proofs.Common.{◌∙◌, ap, sym, arith, length, fold, slice_get, List, ℕ, Some}
use Rattle.std.proofs.lemmas.List.{take_all}
use Rattle.std.proofs.lemmas.Option.{slice_get-get_or}
use Rattle.vrt_profile.specs.Values.{SourceValue, BandValue, DocumentValue}
use Rattle.location_report.specs.Covering.{with_found, covering_in, with_covering}
use Rattle.location_report.proofs.Kept.{kept_then}
use Rattle.location_report.proofs.Named.{few_sources, fold_more, source_stands, sources_are}
use Rattle.location_report.proofs.covering.files_at.Goals as goal

pub overflow_cast-at : goal.overflow_cast-at
overflow_cast-at c =
    let few = c.document-2.invariant.sources in
    let bound = few_sources c.document-2.inside.bands c.args.band c.get.result.now c.get.ensures.item in
    let same = ap (λ (b : BandValue). length b.sources) c.behind-document.view_is in
    let len = ap (λ (ss : List SourceValue). length ss) c.as_slice-source-items.ensures.items in
    omega (arith, c.loop-number-test.true)

pub push_member-requires-clause-source : goal.push_member-requires-clause-source
push_member-requires-clause-source c d at =
    let band_at = ap (λ (doc : DocumentValue). slice_get doc.bands c.args.band) (sym c.document-2.view_is) ∙ c.get.ensures.item in
    let item = ap (λ (ss : List SourceValue). slice_get ss c.loop-number.number) (sym (c.as_slice-source-items.ensures.items ∙ ap (λ (b : BandValue). b.sources) c.behind-document.view_is)) ∙ slice_get-get_or c.as_slice-source-items.result.now c.loop-number.number _ c.loop-number-test.true ∙ ap (λ (s : SourceValue). Some s) (sym c.source-item.is) in
    source_stands c.args.cat.now c.args.id c.args.band c.loop-number.number d c.in-Some.document.now c.get.result.now c.source-item.result c.in-Some.ensures.document band_at item at

pub loop-number-preserved : goal.loop-number-preserved
loop-number-preserved c = record {
  names = λ d at.
      c.in_ok-push_member.ensures.ok d at
      ∙ ap (λ (ns : List (List ℕ)). with_found ns (covering_in c.args.cat.now d c.args.x c.args.y c.source-item.result)) (c.loop-number.invariant.names d at)
      ∙ sym (fold_more (λ ns s. with_found ns (covering_in c.args.cat.now d c.args.x c.args.y s)) c.args.out.now c.as_slice-source-items.result.now c.loop-number.number c.source-item.result _ c.loop-number-test.true c.source-item.is);
  kept = kept_then c.args.out.now _ _ c.loop-number.invariant.kept c.in_ok-push_member.ensures.kept;
}

pub returns-clause-ok : goal.returns-clause-ok
unfolding with_covering
returns-clause-ok c d at =
    let band_at = ap (λ (doc : DocumentValue). slice_get doc.bands c.args.band) (sym c.document-2.view_is) ∙ c.get.ensures.item in
    let all = take_all c.loop-number.number c.as_slice-source-items.result.now c.loop-number-test.false in
    let items = c.as_slice-source-items.ensures.items ∙ ap (λ (b : BandValue). b.sources) c.behind-document.view_is in
    c.loop-number.invariant.names d at
    ∙ ap (λ (ss : List SourceValue). fold (λ ns s. with_found ns (covering_in c.args.cat.now d c.args.x c.args.y s)) c.args.out.now ss) (all ∙ items ∙ sym (sources_are c.args.cat.now c.args.id c.args.band d c.in-Some.document.now c.get.result.now c.in-Some.ensures.document band_at at))
