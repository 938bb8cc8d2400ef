use Rattle.std.proofs.Common.{◌≡◌, ◌∙◌, ap, sym, inr, Ok, Err}
use Rattle.std.specs.Prelude.{slice_get}
use Rattle.std.proofs.lemmas.Option.{slice_get_within}
use Rattle.vrt_profile.specs.Value.{is_plain}
use Rattle.vrt_profile.specs.Values.{BandValue, SourceValue}
use Rattle.catalog.specs.declared.faults.LimitKind.TheVariants as limits
use Rattle.catalog.specs.declared.faults.WalkFault.TheVariants.{Limit}
use Rattle.catalog.specs.Heads.{resolved}
use Rattle.catalog.proofs.Found.{some_is}
use Rattle.catalog.proofs.Meets.{resolved_fine, resolved_long}
use Rattle.catalog.proofs.walk.resolve_source.Goals as goal

ok≢err : {A B : Type 0} {a : A} {b : B} → Ok a ≡ Err b → ⊥
ok≢err e = cc

pub get-source-requires : goal.get-source-requires
get-source-requires c =
    let w = c.requires.there in
    record { within = slice_get_within c.behind-met.inside.sources c.args.at.source w.value (ap (λ (b : BandValue). slice_get b.sources c.args.at.source) (c.behind-met.view_is ∙ c.band.ensures.band w.of) ∙ w.source_at) }

pub returns-in-Ok-clause-told : goal.returns-in-Ok-clause-told
returns-in-Ok-clause-told c = λ w.
    let base : c.name-base.result.now ≡ w.of.mosaic.dataset.head.name = c.name-base.ensures.name w.of.mosaic.dataset w.of.mosaic.at in
    let same : c.get-source.result.now ≡ w.value = some_is (sym c.get-source.ensures.item ∙ ap (λ (b : BandValue). slice_get b.sources c.args.at.source) (c.behind-met.view_is ∙ c.band.ensures.band w.of) ∙ w.source_at) in
    ap (λ b. resolved b w.value) (sym base) ∙ ap (λ (s : SourceValue). resolved c.name-base.result.now s) (sym same)
    ∙ resolved_fine c.name-base.result.now c.get-source.result.now c.in-Ok.name c.in-Ok.ensures.ok (λ long. ok≢err (c.in-Ok.ensures.too_long.1 long))

pub returns-in-Ok-clause-band : goal.returns-in-Ok-clause-band
returns-in-Ok-clause-band c = λ w.
    let same : c.get-source.result.now ≡ w.value = some_is (sym c.get-source.ensures.item ∙ ap (λ (b : BandValue). slice_get b.sources c.args.at.source) (c.behind-met.view_is ∙ c.band.ensures.band w.of) ∙ w.source_at) in
    ap (λ (s : SourceValue). s.band) (c.source.view_is ∙ same)

pub returns-in-Ok-clause-kept : goal.returns-in-Ok-clause-kept
returns-in-Ok-clause-kept c = λ w.
    let same : c.get-source.result.now ≡ w.value = some_is (sym c.get-source.ensures.item ∙ ap (λ (b : BandValue). slice_get b.sources c.args.at.source) (c.behind-met.view_is ∙ c.band.ensures.band w.of) ∙ w.source_at) in
    c.is_plain.ensures.plain ∙ ap is_plain same

pub returns-in-Err-TooLong-clause-told : goal.returns-in-Err-TooLong-clause-told
returns-in-Err-TooLong-clause-told c = λ w.
    let base : c.name-base.result.now ≡ w.of.mosaic.dataset.head.name = c.name-base.ensures.name w.of.mosaic.dataset w.of.mosaic.at in
    let same : c.get-source.result.now ≡ w.value = some_is (sym c.get-source.ensures.item ∙ ap (λ (b : BandValue). slice_get b.sources c.args.at.source) (c.behind-met.view_is ∙ c.band.ensures.band w.of) ∙ w.source_at) in
    inr (ap (λ b. resolved b w.value) (sym base) ∙ ap (λ (s : SourceValue). resolved c.name-base.result.now s) (sym same)
    ∙ resolved_long c.name-base.result.now c.get-source.result.now (c.in-Err-TooLong.ensures.too_long.0 (ap Err c.in-Err-TooLong.field-0-is)) ∙ ap (λ n. Err (Limit limits.Name n)) (sym c.resolved_len.ensures.length))
