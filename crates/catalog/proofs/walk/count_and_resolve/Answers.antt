use Rattle.catalog.proofs.Listings.{err_is}
use Rattle.catalog.proofs.Passes.{counted_source, names_uncounted, names_resolved}
use Rattle.catalog.proofs.walk.count_and_resolve.Goals as goal

pub returns-in_err-count_source : goal.returns-in_err-count_source
returns-in_err-count_source c =
    let result = err_is c.from_residual.result c.in_err-count_source.field-0.0 c.from_residual.ensures in
    let e = c.in_err-count_source.ensures in
    record { names = λ w. rw result (names_uncounted w.of.mosaic.dataset.head.name w.value c.args.met.now c.count_source.new.self c.in_err-count_source.field-0.0 e.told e.plain e.err) }

pub resolve_source-requires : goal.resolve_source-requires
resolve_source-requires c = record { there = counted_source c.args.met.now c.count_source.new.self c.args.at.id c.args.at.band c.args.at.source c.in_ok-count_source.ensures.ok c.requires.there }

pub returns : goal.returns
returns c = record {
  names = λ w.
      let e = c.in_ok-count_source.ensures in
      let v = counted_source c.args.met.now c.count_source.new.self c.args.at.id c.args.at.band c.args.at.source e.ok w in
      let r = c.resolve_source.ensures in
      names_resolved w.of.mosaic.dataset.head.name w.value c.args.met.now c.count_source.new.self c.resolve_source.result e.told e.ok (r.told v) (r.band v) (r.kept v) r.plain;
}
