-- Sources and bands one by one, and the limits on them.
use Rattle.std.proofs.Common.{◌≡◌, ℕ, suc, ◌+◌, ◌<◌, ◌≤◌, Bool, List, [], ◌∷◌, ◌++◌, length, map, Option, Some, None, Result, Ok, Err, IfOk, refl, sym, ap, ◌∙◌, arith, subst, nat_le, codes, ◌&&◌, ℤ, IfSome, IsUtf8}
use Rattle.std.specs.List.{All}
use Rattle.std.proofs.lemmas.List.Elements.{All-nil, All-push}
use Rattle.std.proofs.lemmas.List.Sums.{sum_by-cons}
use Rattle.std.proofs.lemmas.Bool.Decides.{nat_tests}
use Rattle.lists_and_answers.specs.Answers.{◌>>=◌, wants}
use Rattle.geotransform.specs.declared.types.PixelType.{PixelType}
use Rattle.vrt_markup.specs.Items.{Tag, attribute}
use Rattle.vrt_markup.specs.Forest.{Forest, stop, text, element, ForestRead, read_as, over, all_white}
use Rattle.vrt_profile.specs.Values.{SourceValue, BandValue, IsSource, IsBand, IsDecimal, source_count}
use Rattle.vrt_profile.specs.Means.{BandParts, DatasetParts, no_band_parts, once, with_source, band_parts, band_step, band_part_of, band_end, band_of, kind_in, is_placed, is_sourced}
use Rattle.vrt_markup.specs.Kept.{kept_of}
use Rattle.vrt_profile.specs.Seen.{band_by, one_more}
use Rattle.vrt_profile.specs.Parts.{IsBandParts, IsDatasetParts}
use Rattle.vrt_profile.specs.declared.elements.BandPart.{BandPart}
use Rattle.vrt_profile.specs.declared.elements.BandPart.TheVariants.{NoData, Simple, Complex, Past, Unknown}
use Rattle.vrt_markup.specs.declared.fault.VrtFault.{VrtFault}
use Rattle.vrt_markup.specs.declared.fault.VrtFault.TheVariants.{BadNumber, Unsupported, Limit}
use Rattle.vrt_profile.proofs.Tables.{bind_ok, ok_same, cond_err}

pub no_sources : (p : BandParts) → p.sources ≡ [] → IsBandParts p
no_sources p e = record { sources = subst (All IsSource) (sym e) (All-nil IsSource) }

abbrev count : BandValue → ℕ
count b = length b.sources

plain : (a : ℕ) → a + 0 ≡ 0 + a
plain a = omega arith

shuffle : (a b c : ℕ) → a + (b + c) ≡ (a + b) + c
shuffle a b c = omega arith

count_push : (bands : List BandValue) (b : BandValue) → source_count (bands ++ b ∷ []) ≡ source_count bands + length b.sources
count_push [] b = sum_by-cons (λ n. n) (length b.sources) [] ∙ plain (length b.sources)
count_push (x ∷ xs) b =
    sum_by-cons (λ n. n) (length x.sources) (map count (xs ++ b ∷ []))
    ∙ ap (λ n. length x.sources + n) (count_push xs b)
    ∙ shuffle (length x.sources) (source_count xs) (length b.sources)
    ∙ ap (λ n. n + length b.sources) (sym (sum_by-cons (λ n. n) (length x.sources) (map count xs)))

length_push : {A : Type 0} (xs : List A) (x : A) → length (xs ++ x ∷ []) ≡ suc (length xs)
length_push [] x = refl
length_push (y ∷ ys) x = ap suc (length_push ys x)

pub no_bands : (p : DatasetParts) → p.srs ≡ None → p.geo ≡ None → p.bands ≡ [] → p.taken ≡ 0 → IsDatasetParts p
no_bands p srs geo bands taken = record {
  srs = subst (λ o. IfSome o IsUtf8) (sym srs) tt;
  geo = subst (λ o. IfSome o IsDecimal) (sym geo) tt;
  few = omega (arith, ap length bands);
  counted = ap source_count bands ∙ sym taken;
  sources = omega (arith, taken);
  bands = subst (All IsBand) (sym bands) (All-nil IsBand);
}

pub more_bands : (p q : DatasetParts) (b : BandValue) → IsDatasetParts p → IsBand b → q.srs ≡ p.srs → q.geo ≡ p.geo → q.bands ≡ p.bands ++ b ∷ [] → q.taken ≡ p.taken + length b.sources → length p.bands < 256 → p.taken + length b.sources ≤ 262144 → IsDatasetParts q
more_bands p q b rules new srs geo bands taken few fits = record {
  srs = subst (λ o. IfSome o IsUtf8) (sym srs) rules.srs;
  geo = subst (λ o. IfSome o IsDecimal) (sym geo) rules.geo;
  few = omega (arith, ap length bands, length_push p.bands b, few);
  counted = ap source_count bands ∙ count_push p.bands b ∙ ap (λ n. n + length b.sources) rules.counted ∙ sym taken;
  sources = omega (arith, taken, fits);
  bands = subst (All IsBand) (sym bands) (All-push IsBand p.bands b rules.bands new);
}

-- A band's sources and those taken before it stay within the limit.
pub record Fits (taken : ℕ) (p : BandParts) : Type 0 where
  pub same : p.taken ≡ taken
  pub few : taken + length p.sources ≤ 262144

fits_source : (taken : ℕ) (s t : BandParts) (source : Result SourceValue VrtFault) → Fits taken s → with_source s source ≡ Ok t → Fits taken t
fits_source taken s t source f h =
    let a = cond_err (nat_le 262144 (s.taken + length s.sources)) Limit (source >>= λ x. Ok (record s { sources = s.sources ++ x ∷ [] })) t h in
    let b = bind_ok source _ t a.1 in
    let low : s.taken + length s.sources < 262144 = grind (arith, nat_tests, a.0) in
    subst (Fits taken) (ok_same (record s { sources = s.sources ++ b.0 ∷ [] }) t b.2) (record { same = f.same; few = omega (arith, low, f.same, length_push s.sources b.0) })

fits_once : (taken : ℕ) (s t : BandParts) (o : Option (Option ℤ)) (new : Result (Option ℤ) VrtFault) → Fits taken s → once o new (λ x. record s { nodata = Some x }) ≡ Ok t → Fits taken t
fits_once taken s t (Some x) new f h = absurd cc
fits_once taken s t None (Ok x) f h = subst (Fits taken) (ok_same (record s { nodata = Some x }) t h) (record { same = f.same; few = f.few })
fits_once taken s t None (Err e) f h = absurd cc

fits_part : (taken : ℕ) (s t : BandParts) (place : ℕ) (tag : Tag) (inside : Forest) (part : BandPart) → Fits taken s → band_parts s place tag inside part ≡ Ok t → Fits taken t
fits_part taken s t place tag inside NoData f h = fits_once taken s t s.nodata _ f h
fits_part taken s t place tag inside Simple f h = fits_source taken s t _ f h
fits_part taken s t place tag inside Complex f h = fits_source taken s t _ f h
fits_part taken s t place tag inside Past f h = subst (Fits taken) (ok_same s t h) f
fits_part taken s t place tag inside Unknown f h = absurd cc

fits_over : (taken : ℕ) (s t : BandParts) (f : Forest) → Fits taken s → over band_step s f ≡ Ok t → Fits taken t
fits_over taken s t stop fits h = subst (Fits taken) (ok_same s t h) fits
fits_over taken s t (text raw more) fits h = fits_over taken s t more fits h
fits_over taken s t (element place tag inside more) fits h =
    let a = bind_ok (band_step s place tag inside) _ t h in
    fits_over taken a.0 t more (fits_part taken s a.0 place tag inside (band_part_of tag.name) fits a.1) a.2

abbrev sources_of : BandParts → Result BandValue VrtFault → List SourceValue
sources_of p (Ok b) = b.sources
sources_of p (Err e) = p.sources

band_by_ok : (kind : Result PixelType VrtFault) (placed sourced white : Bool) (parts : Result BandParts VrtFault) (b : BandValue) → band_by kind placed sourced white parts ≡ Ok b → (p : BandParts) × (parts ≡ Ok p) × (p.sources ≡ b.sources)
band_by_ok kind placed sourced white parts b h =
    let k = bind_ok kind _ b h in
    let place = bind_ok (wants placed BadNumber) _ b k.2 in
    let plain = bind_ok (wants (sourced && white) Unsupported) _ b place.2 in
    let p = bind_ok parts (band_end k.0) b plain.2 in
    (p.0, p.1, ap (λ (r : Result BandValue VrtFault). sources_of p.0 r) p.2)

abbrev value_of : Result (Result BandValue VrtFault × List ℕ) VrtFault → Result BandValue VrtFault
value_of (Ok x) = x.0
value_of (Err e) = Err e

pub band_fits : (number taken : ℕ) (tag : Tag) (b : BandValue) (f : Forest) → taken ≤ 262144 → band_of number taken tag f ≡ Ok b → taken + length b.sources ≤ 262144
band_fits number taken tag b f some h =
    let p = band_by_ok (kind_in (attribute (codes "dataType") tag.pairs)) (is_placed number (attribute (codes "band") tag.pairs)) (is_sourced (attribute (codes "subClass") tag.pairs)) (all_white f) (over band_step (no_band_parts taken) f) b h in
    let all = fits_over taken (no_band_parts taken) p.0 f (record { same = refl; few = omega (arith, some) }) p.1 in
    omega (arith, all.few, ap length p.2)

pub bands_fit : (number taken : ℕ) (tag : Tag) (band : Result BandValue VrtFault) (rest : List ℕ) (x : ForestRead) → taken ≤ 262144 → Ok (band, rest) ≡ read_as (band_of number taken tag) x → IfOk band (λ b. taken + length b.sources ≤ 262144)
bands_fit number taken tag (Err e) rest x some h = tt
bands_fit number taken tag (Ok b) rest (Err e) some h = absurd cc
bands_fit number taken tag (Ok b) rest (Ok y) some h = band_fits number taken tag b y.0 some (sym (ap (λ (r : Result (Result BandValue VrtFault × List ℕ) VrtFault). value_of r) h))

-- a band's sources with one more, among its parts
pub grown : (s : BandParts) (new : List SourceValue) (source : Result SourceValue VrtFault) (kept : Result (Unit {0}) VrtFault) → kept_of new kept ≡ one_more s.sources source → kept_of (record s { sources = new }) kept ≡ (source >>= λ x. Ok (record s { sources = s.sources ++ x ∷ [] }))
grown s new (Ok x) (Ok u) h = ap (λ (r : Result (List SourceValue) VrtFault). r >>= λ l. Ok (record s { sources = l })) h
grown s new (Ok x) (Err e) h = absurd cc
grown s new (Err f) (Ok u) h = absurd cc
grown s new (Err f) (Err e) h = cc
