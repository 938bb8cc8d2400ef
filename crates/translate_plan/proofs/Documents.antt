-- The pixels of a document that shows the output of a plan.
use Rattle.std.proofs.Common.{◌≡◌, ◌∙◌, sym, ap, subst, refl, ℕ, zero, suc, ℤ, pos, ◌+◌, ◌*◌, ◌/◌, ◌-◌, ◌<◌, ◌≤◌, Bool, true, false, cond, ◌&&◌, List, [], ◌∷◌, length, map, arith, Option, Some, None, Ok, unsigned_abs}
use Rattle.std.specs.Prelude.{option_map, option_and_then, slice_get, nat_lt}
use Rattle.std.specs.Option.{unwrap_or, option_or}
use Rattle.std.proofs.lemmas.Option.{slice_get-map}
use Rattle.std.proofs.lemmas.Bool.Decides.{nat_tests}
use Rattle.lists_and_answers.specs.Options.{◌>>=◌}
use Rattle.geotransform.specs.Types.{clamp}
use Rattle.geotransform.specs.declared.types.Size.{Size}
use Rattle.outside.specs.Outside.{Files}
use Rattle.outside.specs.Paths.{IsName, normal}
use Rattle.vrt_profile.specs.Values.{SourceValue, BandValue, DocumentValue}
use Rattle.vrt_profile.specs.Cover.{axis_at, lines_of, cover_of}
use Rattle.vrt_profile.specs.Value.{source_value, given_of, mosaic_pixel}
use Rattle.vrt_profile.specs.Resolve.{related, resolved_text}
use Rattle.catalog.specs.Dataset.{DatasetHead}
use Rattle.catalog.specs.Drivers.{Dataset, document_of}
use Rattle.catalog.specs.Heads.{dataset_in}
use Rattle.catalog.specs.Mosaics.{name_of_text, source_name}
use Rattle.catalog.specs.Walk.{IsCatalog, IsWalked, dataset_number_in}
use Rattle.catalog.specs.Links.{source_at, member_in}
use Rattle.catalog.specs.Pixels.{pixel_of, pixel_of_name, AreOfMembers}
use Rattle.catalog.proofs.Found.{name_at}
use Rattle.catalog.proofs.Walked.{dataset_walked}
use Rattle.catalog.proofs.Pixels.{at_number}
use Rattle.catalog.proofs.PixelLaws.{number_is_name, mosaic_is_of_members}
use Rattle.translate_plan.specs.declared.options.Driver.{Driver}
use Rattle.translate_plan.specs.declared.options.Driver.TheVariants.{Vrt}
use Rattle.translate_plan.specs.declared.band.OutBand.{OutBand}
use Rattle.translate_plan.specs.Plan.{Planned, shown_column, shown_line, is_in_raster, held, out_pixel, pixel_in, band_pixel}
use Rattle.translate_plan.specs.Documents.{shown_source, shown_band, document_by, IsPublished}
use Rattle.translate_plan.proofs.Published.{Reads, one_told, published_is}
use Rattle.translate_plan.proofs.Covers.{axis_is, is_in_side}

-- a column and a line
abbrev both_of : ℕ → ℕ → Option (ℕ × ℕ)
both_of column line = Some (column, line)

-- that both are there
both_axes : (a b : Bool) (c r : ℕ) → ((cond a (Some c) None) >>= λ column. (cond b (Some r) None >>= λ line. both_of column line)) ≡ cond (a && b) (both_of c r) None
both_axes true true c r = refl
both_axes true false c r = refl
both_axes false b c r = refl

-- the source pixel of an output's pixel
cover_is : (p : Planned) (base name : List ℕ) (b : OutBand) (size : Size) (i j : ℕ) → i < p.size.w → j < p.size.h
    → cover_of (shown_source p base name b) p.size size i j ≡ cond (is_in_raster size (shown_column p i) (shown_line p j)) (Some (unsigned_abs (shown_column p i), unsigned_abs (shown_line p j))) None
unfolding cover_of
cover_is p base name b size i j across down =
    ap (λ (o : Option ℕ). o >>= λ column. (axis_at (lines_of (shown_source p base name b) p.size size) size.h j >>= λ line. Some (column, line))) (axis_is p.x p.window.w p.size.w size.w i across)
    ∙ (ap (λ (o : Option ℕ). cond (is_in_side (shown_column p i) size.w) (Some (unsigned_abs (shown_column p i))) None >>= λ column. (o >>= λ line. Some (column, line))) (axis_is p.y p.window.h p.size.h size.h j down)
    ∙ both_axes (is_in_side (shown_column p i) size.w) (is_in_side (shown_line p j) size.h) (unsigned_abs (shown_column p i)) (unsigned_abs (shown_line p j)))

-- a source that changes no pixel gives it, or nothing where there is none
given_by : (p : Planned) (base name : List ℕ) (b : OutBand) (inside : Bool) (c r : ℕ) (pixels : ℕ → ℕ → ℤ)
    → unwrap_or (option_map (clamp b.kind) (option_or None (cond inside (both_of c r) None >>= λ place. source_value (shown_source p base name b) (pixels place.0 place.1)))) (unwrap_or b.nodata (pos 0)) ≡ cond inside (clamp b.kind (pixels c r)) (unwrap_or b.nodata (pos 0))
unfolding source_value
given_by p base name b true c r pixels = refl
given_by p base name b false c r pixels = refl

band_is : (p : Planned) (base name : List ℕ) (b : OutBand) (size : Size) (pixels : ℕ → ℕ → ℤ) (i j : ℕ) → i < p.size.w → j < p.size.h
    → mosaic_pixel (shown_band p base name b) (λ s. given_of s p.size size pixels) i j ≡ cond (is_in_raster size (shown_column p i) (shown_line p j)) (clamp b.kind (pixels (unsigned_abs (shown_column p i)) (unsigned_abs (shown_line p j)))) (unwrap_or b.nodata (pos 0))
band_is p base name b size pixels i j across down =
    ap (λ (o : Option (ℕ × ℕ)). unwrap_or (option_map (clamp b.kind) (option_or None (o >>= λ place. source_value (shown_source p base name b) (pixels place.0 place.1)))) (unwrap_or b.nodata (pos 0))) (cover_is p base name b size i j across down)
    ∙ given_by p base name b (is_in_raster size (shown_column p i) (shown_line p j)) (unsigned_abs (shown_column p i)) (unsigned_abs (shown_line p j)) pixels

-- the one item of a list
lone : {A : Type 0} (x y : A) (n : ℕ) → slice_get (x ∷ []) n ≡ Some y → y ≡ x
lone x y zero is = cc
lone x y (suc n) is = absurd cc

-- how a source's text is resolved
abbrev pub Resolves : Type 0
Resolves = (base name : List ℕ) → IsName name → (s : SourceValue) → s.relative ≡ (related base name).0 → s.file ≡ (related base name).1 → resolved_text base s ≡ name

within : (text : List ℕ) → length text ≤ 4096 → nat_lt 4096 (length text) ≡ false
within text h = grind (arith, nat_tests)

named : (resolves : Resolves) (p : Planned) (base name : List ℕ) (b : OutBand) → IsName name → source_name base (shown_source p base name b) ≡ Some name
named resolves p base name b is =
    ap name_of_text (resolves base name is (shown_source p base name b) refl refl)
    ∙ (ap (λ (long : Bool). cond long None (Some (normal name))) (within name is.fits) ∙ ap Some is.is_normal)

-- the one source of a band of the document
source_is : (d : Dataset) (p : Planned) (h : DatasetHead) (k n : ℕ) (b : OutBand) → document_of d.content ≡ Some (document_by p d.head.name h) → slice_get p.bands k ≡ Some b → source_at d k n ≡ slice_get (shown_source p d.head.name h.name b ∷ []) n
source_is d p h k n b document at =
    ap (λ (o : Option DocumentValue). o >>= λ doc. slice_get doc.bands k >>= λ v. slice_get v.sources n) document
    ∙ ap (λ (o : Option BandValue). o >>= λ v. slice_get v.sources n) (slice_get-map (shown_band p d.head.name h.name) p.bands k ∙ ap (option_map (shown_band p d.head.name h.name)) at)

-- The dataset that this source names is that of the plan.
member_named : (resolves : Resolves) (cat : List Dataset) (d : Dataset) (p : Planned) (h : DatasetHead) (t : ℕ) (b : OutBand) (s : SourceValue) → IsName h.name → s ≡ shown_source p d.head.name h.name b → member_in cat d.head.name s ≡ Some t → dataset_number_in cat h.name ≡ Some t
member_named resolves cat d p h t b s name same is = sym (ap (member_in cat d.head.name) same ∙ ap (option_and_then (dataset_number_in cat)) (named resolves p d.head.name h.name b name)) ∙ is

head_is : (m : Files) (cat : List Dataset) (h : DatasetHead) (t : ℕ) (e source : Dataset) → IsWalked m cat → slice_get cat t ≡ Some e → e.head.name ≡ h.name → dataset_in m false h.name ≡ Ok source → source.head ≡ h → e.head ≡ h
head_is m cat h t e source walked there name told is =
    let same : e ≡ source = one_told e source (dataset_in m false h.name) (ap (dataset_in m false) (sym name) ∙ dataset_walked m cat t e walked there) told in
    ap (λ (x : Dataset). x.head) same ∙ is

of_member : (resolves : Resolves) (m : Files) (cat : List Dataset) (d : Dataset) (p : Planned) (h : DatasetHead) (k : ℕ) (b : OutBand) → IsCatalog cat → IsWalked m cat → document_of d.content ≡ Some (document_by p d.head.name h) → IsPublished m d.head.name p h → slice_get p.bands k ≡ Some b
    → AreOfMembers m cat d k (λ s. h.size) (λ s x y. pixel_of_name m h.name b.source x y)
of_member resolves m cat d p h k b is walked document shows at n t s e stands member there =
    let same : s ≡ shown_source p d.head.name h.name b = lone (shown_source p d.head.name h.name b) s n (sym (source_is d p h k n b document at) ∙ stands) in
    let found : dataset_number_in cat h.name ≡ Some t = member_named resolves cat d p h t b s shows.name same member in
    let name : e.head.name ≡ h.name = name_at cat h.name t e found there in
    let head : e.head ≡ h = head_is m cat h t e shows.source walked there name shows.told shows.head in
    let number : s.band ≡ b.source + 1 = ap (λ (x : SourceValue). x.band) same in
    let band : b.source ≡ s.band - 1 = omega (arith, number) in (
      ap (λ (x : DatasetHead). x.size) (sym head),
      λ x y. ap (λ (k : ℕ). pixel_of_name m h.name k x y) band
          ∙ (ap (λ (v : List ℕ). pixel_of_name m v (s.band - 1) x y) (sym name)
          ∙ sym (number_is_name m cat t (s.band - 1) x y e is walked there)),
    )

-- the output's pixel in a mosaic's plan
out_is : (p : Planned) (size : Size) (pixels : ℕ → ℕ → ℕ → ℤ) (k i j : ℕ) (b : OutBand) → p.driver ≡ Vrt → slice_get p.bands k ≡ Some b
    → out_pixel p size pixels k i j ≡ cond (is_in_raster size (shown_column p i) (shown_line p j)) (clamp b.kind (pixels b.source (unsigned_abs (shown_column p i)) (unsigned_abs (shown_line p j)))) (unwrap_or b.nodata (pos 0))
out_is p size pixels k i j b driver at =
    ap (λ (o : Option OutBand). pixel_in p size pixels o i j) at
    ∙ ap (λ (v : Driver). cond (is_in_raster size (shown_column p i) (shown_line p j)) (held v b.kind (pixels b.source (unsigned_abs (shown_column p i)) (unsigned_abs (shown_line p j)))) (unwrap_or b.nodata (pos 0))) driver

pub shows_output : (resolves : Resolves) (reads : Reads) (m : Files) (cat : List Dataset) (id k i j : ℕ) (d : Dataset) (p : Planned) (h : DatasetHead) → IsCatalog cat → IsWalked m cat → slice_get cat id ≡ Some d → IsPublished m d.head.name p h
    → k < length p.bands → i < p.size.w → j < p.size.h → pixel_of_name m d.head.name k i j ≡ out_pixel p h.size (pixel_of_name m h.name) k i j
shows_output resolves reads m cat id k i j d p h is walked there shows few across down =
    let b = at_number p.bands k few in
    let document : document_of d.content ≡ Some (document_by p d.head.name h) = published_is reads m cat id d p h walked there shows in
    let has : slice_get (document_by p d.head.name h).bands k ≡ Some (shown_band p d.head.name h.name b.0) = slice_get-map (shown_band p d.head.name h.name) p.bands k ∙ ap (option_map (shown_band p d.head.name h.name)) b.1 in
    sym (number_is_name m cat id k i j d is walked there)
    ∙ (mosaic_is_of_members m cat id k i j d (document_by p d.head.name h) (shown_band p d.head.name h.name b.0) (λ s. h.size) (λ s x y. pixel_of_name m h.name b.0.source x y) is there document has (of_member resolves m cat d p h k b.0 is walked document shows b.1)
    ∙ (band_is p d.head.name h.name b.0 h.size (λ x y. pixel_of_name m h.name b.0.source x y) i j across down
    ∙ sym (out_is p h.size (pixel_of_name m h.name) k i j b.0 shows.driver b.1)))
