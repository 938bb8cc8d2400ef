-- The indexes of bands that are kept are those of their bands.
use Rattle.std.proofs.Common.{◌≡◌, ℕ, ◌+◌, Bool, true, false, cond, ◌++◌, List, [], ◌∷◌, Some, Result, Ok, Err, OnOk, OnErr, sym, ap, ◌∙◌, subst, arith, nat_le}
use Rattle.std.specs.Prelude.{slice_get, IfSome, option_map}
use Rattle.std.specs.List.{All}
use Rattle.std.proofs.lemmas.Bool.Decides.{nat_tests}
use Rattle.std.proofs.lemmas.List.Elements.{All-append, All-cons, All-nil}
use Rattle.vrt_profile.specs.Values.{BandValue, DocumentValue}
use Rattle.mosaic_sources.specs.Rows.{IsIndexOf, most_listed}
use Rattle.catalog.specs.Dataset.{DatasetHead}
use Rattle.catalog.specs.Drivers.{Dataset, document_of}
use Rattle.band_blocks.specs.declared.key.BlockKey.{BlockKey}
use Rattle.nearest_window.specs.declared.indexes.Kept.{Kept}
use Rattle.nearest_window.specs.Indexes.{all_listed, is_kept_for, kept_behind, listed_of, without_index}
use Rattle.nearest_window.specs.Right.{IsIndexIn}
use Rattle.nearest_window.specs.BlockKeys.{IsMosaicKey}

pub of_dataset : (kept : Kept) (dataset band : ℕ) → is_kept_for kept dataset band ≡ true → kept.dataset ≡ dataset
of_dataset kept dataset band h = grind (arith, nat_tests)

pub of_band : (kept : Kept) (dataset band : ℕ) → is_kept_for kept dataset band ≡ true → kept.band ≡ band
of_band kept dataset band h = grind (arith, nat_tests)

pub head_is : (cat : List Dataset) (id : ℕ) (d : Dataset) (h : DatasetHead) → slice_get cat id ≡ Some d → option_map (λ (d : Dataset). d.head) (slice_get cat id) ≡ Some h → h ≡ d.head
head_is cat id d h at is = let e : option_map (λ (d : Dataset). d.head) (Some d) ≡ Some h = ap (option_map (λ (d : Dataset). d.head)) (sym at) ∙ is in cc

module _ (cat : List Dataset) (key : BlockKey) (band : BandValue) (mosaic : IsMosaicKey cat key band) where
  -- the index of a band that is kept is the band's
  pub kept_index : (kept : Kept) (d : Dataset) → slice_get cat key.dataset ≡ Some d → is_kept_for kept key.dataset key.band ≡ true → IsIndexIn cat kept → IfSome kept.index (IsIndexOf band.sources d.head.size)
  kept_index kept d at same right =
      let mine : slice_get cat key.dataset ≡ Some right.dataset = ap (slice_get cat) (sym (of_dataset kept key.dataset key.band same)) ∙ right.at in
      let dataset : right.dataset ≡ d = cc in
      let its : mosaic.dataset ≡ right.dataset = (let a = mosaic.in_range.at in cc) in
      let content : document_of right.dataset.content ≡ Some mosaic.document = subst (λ (d : Dataset). document_of d.content ≡ Some mosaic.document) its mosaic.content in
      let document : right.document ≡ mosaic.document = (let a = right.content in cc) in
      let there : slice_get mosaic.document.bands key.band ≡ Some right.band =
      ap (slice_get mosaic.document.bands) (sym (of_band kept key.dataset key.band same)) ∙ subst (λ (v : DocumentValue). slice_get v.bands kept.band ≡ Some right.band) document right.band_at in
      let bands : right.band ≡ band = (let a = mosaic.band_at in cc) in
      subst (λ (b : BandValue). IfSome kept.index (IsIndexOf b.sources d.head.size)) bands
      (subst (λ (d : Dataset). IfSome kept.index (IsIndexOf right.band.sources d.head.size)) dataset right.index)

module _ (cat : List Dataset) where
  right_without : (b : Bool) (kept : Kept) → IsIndexIn cat kept → IsIndexIn cat (cond b kept (without_index kept))
  right_without true kept right = right
  right_without false kept right = record {
    dataset = right.dataset;
    at = right.at;
    document = right.document;
    content = right.content;
    band = right.band;
    band_at = right.band_at;
    index = tt;
  }

  -- one more band is kept
  pub right_behind : (old new : List Kept) (kept : Kept) → new ≡ old ++ kept_behind old kept ∷ [] → All (IsIndexIn cat) old → IsIndexIn cat kept → All (IsIndexIn cat) new
  right_behind old new kept is before right = subst (All (IsIndexIn cat)) (sym is)
      (All-append (IsIndexIn cat) old (kept_behind old kept ∷ []) before (All-cons (IsIndexIn cat) (kept_behind old kept) [] (right_without (nat_le (all_listed old + listed_of kept) most_listed) kept right) (All-nil (IsIndexIn cat))))

  -- one more band is kept, or memory was refused
  pub right_put : {T E : Type 0} (r : Result T E) (old new : List Kept) (kept : Kept) → OnOk r (new ≡ old ++ kept_behind old kept ∷ []) → OnErr r (new ≡ old) → All (IsIndexIn cat) old → IsIndexIn cat kept → All (IsIndexIn cat) new
  right_put (Ok x) old new kept ok err before right = right_behind old new kept ok before right
  right_put (Err e) old new kept ok err before right = subst (All (IsIndexIn cat)) (sym err) before
