-- Where the samples of a line stand, which is one of a band or of all bands.
use Rattle.std.proofs.Common.{◌≡◌, ℕ, suc, ℤ, pos, ◌+◌, ◌*◌, ◌/◌, ◌%◌, ◌<◌, ◌≤◌, Bool, true, false, List, get_or, length, drop, refl, sym, ap, ◌∙◌, arith, zero-add}
use Rattle.std.proofs.lemmas.Nat.{div_below, mod_below, div-add-mod', div-mul-add, mod-mul-add}
use Rattle.std.proofs.Math.Nat.{mul-le-mul_right}
use Rattle.esri_hdr.specs.declared.header_parts.Layout.{Layout}
use Rattle.esri_hdr.specs.declared.header_parts.Layout.TheVariants.{Bil, Bip, Bsq}
use Rattle.esri_hdr.specs.Head.{Head, IsHead, sample_len}
use Rattle.interleaved_raw.specs.Raw.{position_by, needed_of, raw_at, sample_at, IsPlace, IsSamePlace}
use Rattle.interleaved_raw.proofs.Apart.{apart}
use Rattle.interleaved_raw.proofs.Order.{further, ends_within}
use Rattle.write_back.specs.declared.forms.Writer.{Writer}
use Rattle.write_back.specs.declared.forms.Writer.TheVariants.{Raw, Hgt, Dted}
use Rattle.write_back.specs.Forms.{band_total, block_of, cut_of, line_total, plane_of, pixel_sample, pixel_sample_by, spot_of, under, column_total}
use Rattle.write_back.specs.Spots.{band_places_of, HasPixel, IsSpot, band_places_by, IsLineSpot}
use Rattle.write_back.specs.Overlay.{IsOverlaid}
use Rattle.write_back.specs.Stores.{line_rect, IsPut, IsWindow}
use Rattle.write_back.specs.Pieces.{is_woven, planes_by, planes_of, spot_place, spots_by, spots_of}

-- the band and the column of a sample of a line
abbrev band_back : Layout → ℕ → ℕ → ℕ → ℕ
band_back Bil bands k u = k
band_back Bip bands k u = u % bands
band_back Bsq bands k u = k

abbrev column_back : Layout → ℕ → ℕ → ℕ
column_back Bil bands u = u
column_back Bip bands u = u / bands
column_back Bsq bands u = u

place_back : (l : Layout) (h : Head) (k u v : ℕ) → 0 < h.bands → k < planes_by l h.bands → u < spots_by l h.size.w h.bands → v < h.size.h → IsPlace h (band_back l h.bands k u) (column_back l h.bands u) v
place_back Bil h k u v some band spot line = record { band = band; column = spot; line = line }
place_back Bip h k u v some band spot line = record { band = mod_below u h.bands some; column = div_below u h.bands h.size.w some spot; line = line }
place_back Bsq h k u v some band spot line = record { band = band; column = spot; line = line }

from_first : (l : Layout) (h : Head) (k u v : ℕ) → is_woven l ≡ false → position_by l h k 0 v + u * sample_len h.kind ≡ position_by l h k u v
from_first Bil h k u v apart_from = further Bil h k 0 v u ∙ ap (λ c. position_by Bil h k c v) (zero-add u)
from_first Bip h k u v apart_from = absurd (let clash : true ≡ false = apart_from in cc)
from_first Bsq h k u v apart_from = further Bsq h k 0 v u ∙ ap (λ c. position_by Bsq h k c v) (zero-add u)

-- the first sample of a line of all bands
first_of : (skip y total bands s : ℕ) → skip + y * total + (0 * bands + 0) * s ≡ skip + y * total
first_of skip y total bands s = grind arith

position_back : (l : Layout) (h : Head) (k u v : ℕ) → k < planes_by l h.bands → position_by l h (band_back l h.bands k u) (column_back l h.bands u) v ≡ position_by l h k 0 v + u * sample_len h.kind
position_back Bil h k u v band = sym (from_first Bil h k u v refl)
position_back Bip h k u v band =
    let none : k ≡ 0 = omega arith in
    ap (λ m. h.skip + v * h.total_row + m * sample_len h.kind) (div-add-mod' u h.bands)
    ∙ ap (λ m. m + u * sample_len h.kind) (sym (first_of h.skip v h.total_row h.bands (sample_len h.kind)))
    ∙ ap (λ m. h.skip + v * h.total_row + (0 * h.bands + m) * sample_len h.kind + u * sample_len h.kind) (sym none)
position_back Bsq h k u v band = sym (from_first Bsq h k u v refl)

-- each sample of a line ends within the bytes that the file must have
pub spot_ends : (h : Head) (k u v : ℕ) → IsHead h → IsLineSpot h k u v → spot_place h k u v + sample_len h.kind ≤ needed_of h
spot_ends h k u v is spot =
    let e = position_back h.layout h k u v spot.band in
    let last = ends_within h (band_back h.layout h.bands k u) (column_back h.layout h.bands u) v (place_back h.layout h k u v is.bands.0 spot.band spot.spot spot.line) in
    omega arith

same_spot : (l : Layout) (bands k u m w : ℕ) → k < planes_by l bands → m < planes_by l bands → band_back l bands k u ≡ band_back l bands m w → column_back l bands u ≡ column_back l bands w → (k ≡ m) × (u ≡ w)
same_spot Bil bands k u m w p q band column = (band, column)
same_spot Bip bands k u m w p q band column = (
  omega arith,
  sym (div-add-mod' u bands) ∙ ap (λ n. n * bands + u % bands) column ∙ ap (λ n. w / bands * bands + n) band ∙ div-add-mod' w bands,
)
same_spot Bsq bands k u m w p q band column = (band, column)

-- two samples of lines that share a byte are the same
pub spots_apart : (h : Head) (k u v m w z : ℕ) → IsHead h → IsLineSpot h k u v → IsLineSpot h m w z → spot_place h k u v < spot_place h m w z + sample_len h.kind → spot_place h m w z < spot_place h k u v + sample_len h.kind → IsSamePlace k u v m w z
spots_apart h k u v m w z is one other first second =
    let e = position_back h.layout h k u v one.band in
    let f = position_back h.layout h m w z other.band in
    let same = apart h (band_back h.layout h.bands k u) (column_back h.layout h.bands u) v (band_back h.layout h.bands m w) (column_back h.layout h.bands w) z is
    (place_back h.layout h k u v is.bands.0 one.band one.spot one.line) (place_back h.layout h m w z is.bands.0 other.band other.spot other.line) (omega arith) (omega arith) in
    let both = same_spot h.layout h.bands k u m w one.band other.band same.band same.column in
    record { band = both.0; column = both.1; line = same.line }

-- a pixel is seen where it stands in the file
seen_place : (l : Layout) (h : Head) (k x y : ℕ) → position_by l h (plane_of (is_woven l) k) 0 y + spot_of false (is_woven l) h.bands k x y * sample_len h.kind ≡ position_by l h k x y
seen_place Bil h k x y = from_first Bil h k x y refl
seen_place Bip h k x y = ap (λ m. m + (x * h.bands + k) * sample_len h.kind) (first_of h.skip y h.total_row h.bands (sample_len h.kind))
seen_place Bsq h k x y = from_first Bsq h k x y refl

pub seen_sample : (h : Head) (b : List ℕ) (k x y : ℕ) → pixel_sample (Raw h) (under (Raw h) b) k x y ≡ raw_at h b k x y
seen_sample h b k x y = ap (λ p. sample_at h (drop p b)) (seen_place h.layout h k x y)

-- a pixel stands in a block
raw_plane : (l : Layout) (bands k : ℕ) → k < bands → plane_of (is_woven l) k < planes_by l bands
raw_plane Bil bands k less = less
raw_plane Bip bands k less = (let one : 0 < 1 = omega arith in one)
raw_plane Bsq bands k less = less

raw_spot : (l : Layout) (width bands k x y : ℕ) → k < bands → x < width → spot_of false (is_woven l) bands k x y < spots_by l width bands
raw_spot Bil width bands k x y band column = column
raw_spot Bip width bands k x y band column =
    let more : suc x * bands ≤ width * bands = mul-le-mul_right bands column in
    let e : suc x * bands ≡ x * bands + bands = grind arith in
    let r : x * bands + k < width * bands = omega arith in
    r
raw_spot Bsq width bands k x y band column = column

pub spot_is : (w : Writer) (k x y : ℕ) → HasPixel w k x y → IsSpot w (plane_of (cut_of w).woven k) (spot_of (cut_of w).by_columns (cut_of w).woven (band_total w) k x y) (block_of (cut_of w).by_columns x y)
spot_is (Raw h) k x y is = record { band = raw_plane h.layout h.bands k is.band; spot = raw_spot h.layout h.size.w h.bands k x y is.band is.column; block = is.line }
spot_is (Hgt side) k x y is = record { band = is.band; spot = is.column; block = is.line }
spot_is (Dted c) k x y is = record { band = is.band; spot = is.line; block = is.column }

-- the pixels of a band from a column on stand in a line
raw_places : (l : Layout) (width bands band x n i : ℕ) → band < bands → x + n ≤ width → i < n → (band_places_by (is_woven l) bands band x).start + i * (band_places_by (is_woven l) bands band x).stride < spots_by l width bands
raw_places Bil width bands band x n i less within below = (let r : x + i * 1 < width = omega arith in r)
raw_places Bip width bands band x n i less within below =
    let more : suc (x + i) * bands ≤ width * bands = mul-le-mul_right bands (omega arith) in
    let e : suc (x + i) * bands ≡ x * bands + i * bands + bands = grind arith in
    let r : x * bands + band + i * bands < width * bands = omega arith in
    r
raw_places Bsq width bands band x n i less within below = (let r : x + i * 1 < width = omega arith in r)

pub places_room : (w : Writer) (band x n : ℕ) → (cut_of w).by_columns ≡ false → band < band_total w → x + n ≤ column_total w → (i : ℕ) → i < n → (band_places_of w band x).start + i * (band_places_of w band x).stride < (cut_of w).spots
places_room (Raw h) band x n lines less within i below = raw_places h.layout h.size.w h.bands band x n i less within below
places_room (Hgt side) band x n lines less within i below = (let r : x + i * 1 < side = omega arith in r)
places_room (Dted c) band x n lines less within i below = absurd (let clash : true ≡ false = lines in cc)

raw_band : (l : Layout) (bands band x : ℕ) → band < bands → (band_places_by (is_woven l) bands band x).band < planes_by l bands
raw_band Bil bands band x less = less
raw_band Bip bands band x less = (let one : 0 < 1 = omega arith in one)
raw_band Bsq bands band x less = less

pub places_band : (w : Writer) (band x : ℕ) → band < band_total w → (band_places_of w band x).band < (cut_of w).bands
places_band (Raw h) band x less = raw_band h.layout h.bands band x less
places_band (Hgt side) band x less = less
places_band (Dted c) band x less = less

places_by : (woven : Bool) (bands band x : ℕ) → band < bands → 0 < (band_places_by woven bands band x).stride
places_by true bands band x less = (let r : 0 < bands = omega arith in r)
places_by false bands band x less = (let one : 0 < 1 = omega arith in one)

pub places_some : (w : Writer) (band x : ℕ) → band < band_total w → 0 < (band_places_of w band x).stride
places_some w band x less = places_by (cut_of w).woven (band_total w) band x less

-- a run of a band's pixels is a window of one line
woven_put : (w : Writer) (woven : Bool) (bands band x y : ℕ) (line : List ℤ) (old new : ℕ → ℕ → ℕ → ℤ) → ((k a b : ℕ) → HasPixel w k a b → IsSpot w (plane_of woven k) (spot_of false woven bands k a b) b) → ((k a b : ℕ) → HasPixel w k a b → k < bands) → band < bands
    → IsPut w (band_places_by woven bands band x) y line old new → IsOverlaid (HasPixel w) band (line_rect x y (length line)) line (pixel_sample_by false woven bands old) (pixel_sample_by false woven bands new)
woven_put w false bands band x y line old new spot within has_band put = record {
  inside = λ u v less one.
      let e : v ≡ 0 = omega arith in
      let place : v * length line + u ≡ u = (let f = ap (λ n. n * length line) e in omega arith) in
      ap (λ n. new band (x + u) n) (let f : y + v ≡ y = omega arith in f)
      ∙ ap (λ n. new band n y) (let f : x + u ≡ x + u * 1 = omega arith in f)
      ∙ put.here u less
      ∙ ap (λ n. get_or line n (pos 0)) (sym place);
  outside = λ k a b place apart_from. put.others k a b (spot k a b place)
      (λ band_is line_is i less same. apart_from (record { band_is = band_is; left = omega arith; right = omega arith; top = omega arith; bottom = omega arith }));
}
woven_put w true bands band x y line old new spot within has_band put = record {
  inside = λ u v less one.
      let e : v ≡ 0 = omega arith in
      let place : v * length line + u ≡ u = (let f = ap (λ n. n * length line) e in omega arith) in
      ap (λ n. new 0 ((x + u) * bands + band) n) (let f : y + v ≡ y = omega arith in f)
      ∙ ap (λ n. new 0 n y) (let f : (x + u) * bands + band ≡ x * bands + band + u * bands = grind arith in f)
      ∙ put.here u less
      ∙ ap (λ n. get_or line n (pos 0)) (sym place);
  outside = λ k a b place apart_from. put.others 0 (a * bands + k) b (spot k a b place)
      (λ band_is line_is i less same.
      let e : a * bands + k ≡ (x + i) * bands + band = same ∙ (let f : x * bands + band + i * bands ≡ (x + i) * bands + band = grind arith in f) in
      let column : a ≡ x + i = sym (div-mul-add a bands k (within k a b place)) ∙ ap (λ n. n / bands) e ∙ div-mul-add (x + i) bands band has_band in
      let band_same : k ≡ band = sym (mod-mul-add a bands k (within k a b place)) ∙ ap (λ n. n % bands) e ∙ mod-mul-add (x + i) bands band has_band in
      apart_from (record { band_is = band_same; left = omega arith; right = omega arith; top = omega arith; bottom = omega arith }));
}

pub places_put : (w : Writer) (band x y : ℕ) (line : List ℤ) (old new : ℕ → ℕ → ℕ → ℤ) → (cut_of w).by_columns ≡ false → band < band_total w → IsPut w (band_places_of w band x) y line old new → IsWindow w band (line_rect x y (length line)) line old new
places_put (Raw h) band x y line old new lines less put = woven_put (Raw h) (is_woven h.layout) h.bands band x y line old new (λ k a b place. spot_is (Raw h) k a b place) (λ k a b place. place.band) less put
places_put (Hgt side) band x y line old new lines less put = woven_put (Hgt side) false 1 band x y line old new (λ k a b place. spot_is (Hgt side) k a b place) (λ k a b place. place.band) less put
places_put (Dted c) band x y line old new lines less put = absurd (let clash : true ≡ false = lines in cc)

-- the blocks of a cut of lines are the lines, and those of columns the columns
pub lines_cut : (w : Writer) → (cut_of w).by_columns ≡ false → (cut_of w).blocks ≡ line_total w
lines_cut (Raw h) lines = refl
lines_cut (Hgt side) lines = refl
lines_cut (Dted c) lines = absurd (let clash : true ≡ false = lines in cc)

pub record AreColumnsCut (w : Writer) : Type 0 where
  pub bands : (cut_of w).bands ≡ band_total w
  pub blocks : (cut_of w).blocks ≡ column_total w
  pub spots : (cut_of w).spots ≡ line_total w

pub columns_cut : (w : Writer) → (cut_of w).by_columns ≡ true → AreColumnsCut w
columns_cut (Raw h) columns = absurd (let clash : false ≡ true = columns in cc)
columns_cut (Hgt side) columns = absurd (let clash : false ≡ true = columns in cc)
columns_cut (Dted c) columns = record { bands = refl; blocks = refl; spots = refl }

-- a band whose lines are its own, or those of all bands, is one of the raster
plane_by : (l : Layout) (bands k : ℕ) → 0 < bands → k < planes_by l bands → k < bands
plane_by Bil bands k some less = less
plane_by Bip bands k some less = omega arith
plane_by Bsq bands k some less = less

pub plane_within : (h : Head) (k : ℕ) → IsHead h → k < planes_of h → k < h.bands
plane_within h k is less = plane_by h.layout h.bands k is.bands.0 less

-- the place of a band's sample of a pixel is below 2^30
pub woven_bound : (width bands : ℕ) → width ≤ 4194304 → bands ≤ 256 → width * bands ≤ 1073741824
woven_bound width bands wide few =
    let a : width * bands ≤ 4194304 * bands = mul-le-mul_right bands wide in
    omega arith

pub woven_some : (width bands : ℕ) → 0 < width → 0 < bands → 0 < width * bands
woven_some width bands wide some =
    let a : 1 * bands ≤ width * bands = mul-le-mul_right bands wide in
    omega arith
