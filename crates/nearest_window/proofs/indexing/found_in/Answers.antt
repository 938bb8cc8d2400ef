use Rattle.std.proofs.Common.{sym, ◌∙◌, subst}
use Rattle.std.specs.Prelude.{IfSome}
use Rattle.std.proofs.lemmas.List.Elements.{All-contains}
use Rattle.vrt_profile.specs.Values.{BandValue}
use Rattle.mosaic_sources.specs.Rows.{IsIndexOf}
use Rattle.catalog.specs.Dataset.{DatasetHead}
use Rattle.nearest_window.specs.Right.{IsIndexIn}
use Rattle.nearest_window.specs.Wanted.{IsWanted, numbers_of}
use Rattle.nearest_window.proofs.Indexed.{head_is, kept_index}
use Rattle.nearest_window.proofs.indexing.found_in.Goals as goal

pub returns-in_default : goal.returns-in_default
returns-in_default c = record { wanted = λ d at. subst (λ (b : BandValue). IsWanted b.sources d.head.size c.args.rect (numbers_of c.all_of.result)) c.band.view_is (c.all_of.ensures.all d.head.size c.args.rect) }

pub wanted_of-requires-clause-index : goal.wanted_of-requires-clause-index
wanted_of-requires-clause-index c =
    let k = c.requires.key in
    let found = c.in-Some.ensures in
    let right = All-contains (IsIndexIn c.args.cat.now) c.args.indexes.now c.in-Some.kept.now c.requires.listed found.found in
    let index = kept_index c.args.cat.now c.args.key c.args.band.now k c.in-Some.kept.now k.dataset k.in_range.at found.same right in
    let head = head_is c.args.cat.now c.args.key.dataset k.dataset c.head.result.now k.in_range.at c.head.ensures.head in
    subst (λ (b : BandValue). IfSome c.in-Some.kept.now.index (IsIndexOf b.sources c.behind-cat.inside.size)) (sym c.band.view_is)
    (subst (λ (h : DatasetHead). IfSome c.in-Some.kept.now.index (IsIndexOf c.args.band.now.sources h.size)) (sym (c.behind-cat.view_is ∙ head)) index)
