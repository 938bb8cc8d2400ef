-- The samples that the bytes of an output hold are its samples.
use Rattle.std.proofs.Common.{◌≡◌, ℕ, zero, suc, ℤ, pos, ◌+◌, ◌-◌, ◌*◌, ◌/◌, ◌%◌, ◌<◌, ◌≤◌, ◌^◌, Bool, true, List, [], ◌∷◌, ◌++◌, length, map, take, drop, get_or, refl, sym, ap, ◌∙◌, subst, arith, zero-add, length-append}
use Rattle.std.specs.Prelude.{◌&&◌, ◌==◌, slice_index}
use Rattle.std.specs.List.{All, flat_map, range_with_len, sum}
use Rattle.std.proofs.lemmas.Nat.{div-mul-add, mod-mul-add}
use Rattle.std.proofs.lemmas.Bool.Decides.{nat_tests}
use Rattle.std.proofs.lemmas.List.{take_at, drop_at, drop-drop, take-append-drop, length-take-le, length-drop, append-nil}
use Rattle.std.proofs.lemmas.List.FromFn.{length-map-range_with_len, get_or-map-range_with_len}
use Rattle.std.proofs.Math.Nat.{mul-le-mul_right}
use Rattle.byteorder.specs.Endian.{big_bytes, big_number}
use Rattle.byteorder.specs.Numbers.{big_number-reads_back, length-bytes_high_first}
use Rattle.geotransform.specs.Types.{is_in}
use Rattle.geotransform.specs.declared.types.PixelType.TheVariants.{Int16}
use Rattle.esri_hdr.specs.declared.header_parts.Layout.{Layout}
use Rattle.esri_hdr.specs.declared.header_parts.Layout.TheVariants.{Bil, Bip, Bsq}
use Rattle.esri_hdr.specs.Head.{Head, IsHead, sample_len}
use Rattle.interleaved_raw.specs.Raw.{position_by, position_of, raw_at, sample_at, sample_bytes, stride_of, IsPlace}
use Rattle.interleaved_raw.proofs.Writes.{read_again, sample_bytes_len}
use Rattle.hgt_tiles.specs.Samples as tiles
use Rattle.hgt_tiles.specs.Samples.{hgt_at, item_at, row_bytes}
use Rattle.hgt_tiles.proofs.Rows as tile_rows
use Rattle.dted_records.specs.Head as cells
use Rattle.dted_records.specs.Head.{part}
use Rattle.dted_records.specs.Places.{record_len, record_of}
use Rattle.dted_records.specs.Places as places
use Rattle.dted_records.specs.Records.{column_of, dted_at, elevation_in, is_record}
use Rattle.dted_records.specs.Written.{IsElevation, elevation_bytes, points_bytes, record_bytes, summed_bytes}
use Rattle.dted_records.proofs.Columns.{column_stands}
use Rattle.dted_records.proofs.Encoded.{record_again}
use Rattle.lists_and_answers.specs.Places.{StandsAt}
use Rattle.write_back.specs.Files.{IsTight, IsTightBy, sample_band_by, column_by, line_by, raw_bytes, line_at, tile_bytes}

-- one of the pieces of a list
pub piece : (s : ℕ) (f : ℕ → List ℕ) (k n i : ℕ) → ((j : ℕ) → length (f j) ≡ s) → i < n → take s (drop (i * s) (flat_map f (range_with_len k n))) ≡ f (k + i)
piece s f k zero i each less = absurd (omega arith)
piece s f k (suc n) zero each less = ap (λ m. take s (drop m (f k ++ flat_map f (range_with_len (k + 1) n)))) (let e : 0 * s ≡ 0 = omega arith in e) ∙ take_at (f k) (flat_map f (range_with_len (k + 1) n)) s (each k) ∙ ap f (let e : k ≡ k + zero = omega arith in e)
piece s f k (suc n) (suc i) each less =
    ap (λ m. take s (drop m (f k ++ flat_map f (range_with_len (k + 1) n)))) (let e : suc i * s ≡ s + i * s = grind arith in e)
    ∙ ap (take s) (sym (drop-drop (i * s) s (f k ++ flat_map f (range_with_len (k + 1) n))) ∙ ap (drop (i * s)) (drop_at (f k) (flat_map f (range_with_len (k + 1) n)) s (each k)))
    ∙ piece s f (k + 1) n i each (omega arith)
    ∙ ap f (let e : k + 1 + i ≡ k + suc i = omega arith in e)

pub pieces_len : (s : ℕ) (f : ℕ → List ℕ) (k n : ℕ) → ((j : ℕ) → length (f j) ≡ s) → length (flat_map f (range_with_len k n)) ≡ n * s
pieces_len s f k zero each = omega arith
pieces_len s f k (suc n) each =
    length-append (f k) (flat_map f (range_with_len (k + 1) n))
    ∙ (let a = each k in let b = pieces_len s f (k + 1) n each in let e : suc n * s ≡ s + n * s = grind arith in omega arith)

-- the number of a sample in a file, in each layout
abbrev number_by : Layout → Head → ℕ → ℕ → ℕ → ℕ
number_by Bil h k x y = (y * h.bands + k) * h.size.w + x
number_by Bip h k x y = (y * h.size.w + x) * h.bands + k
number_by Bsq h k x y = (k * h.size.h + y) * h.size.w + x

record IsNumbered (l : Layout) (h : Head) (k x y : ℕ) : Type 0 where
  pub band : sample_band_by l h (number_by l h k x y) ≡ k
  pub column : column_by l h (number_by l h k x y) ≡ x
  pub line : line_by l h (number_by l h k x y) ≡ y
  pub few : number_by l h k x y < h.bands * h.size.h * h.size.w

few_of : (a b n m : ℕ) → a < n → b < m → a * m + b < n * m
few_of a b n m p q = let big : suc a * m ≤ n * m = mul-le-mul_right m p in let e : suc a * m ≡ a * m + m = grind arith in omega arith

numbered : (l : Layout) (h : Head) (k x y : ℕ) → IsPlace h k x y → IsNumbered l h k x y
numbered Bil h k x y is =
    let a = div-mul-add (y * h.bands + k) h.size.w x is.column in
    record {
      band = ap (λ n. n % h.bands) a ∙ mod-mul-add y h.bands k is.band;
      column = mod-mul-add (y * h.bands + k) h.size.w x is.column;
      line = ap (λ n. n / h.bands) a ∙ div-mul-add y h.bands k is.band;
      few = (let b = few_of y k h.size.h h.bands is.line is.band in let c = few_of (y * h.bands + k) x (h.size.h * h.bands) h.size.w b is.column in let e : h.size.h * h.bands * h.size.w ≡ h.bands * h.size.h * h.size.w = grind arith in omega arith);
    }
numbered Bip h k x y is =
    let a = div-mul-add (y * h.size.w + x) h.bands k is.band in
    record {
      band = mod-mul-add (y * h.size.w + x) h.bands k is.band;
      column = ap (λ n. n % h.size.w) a ∙ mod-mul-add y h.size.w x is.column;
      line = ap (λ n. n / h.size.w) a ∙ div-mul-add y h.size.w x is.column;
      few = (let b = few_of y x h.size.h h.size.w is.line is.column in let c = few_of (y * h.size.w + x) k (h.size.h * h.size.w) h.bands b is.band in let e : h.size.h * h.size.w * h.bands ≡ h.bands * h.size.h * h.size.w = grind arith in omega arith);
    }
numbered Bsq h k x y is =
    let a = div-mul-add (k * h.size.h + y) h.size.w x is.column in
    record {
      band = ap (λ n. n / h.size.h) a ∙ div-mul-add k h.size.h y is.line;
      column = mod-mul-add (k * h.size.h + y) h.size.w x is.column;
      line = ap (λ n. n % h.size.h) a ∙ mod-mul-add k h.size.h y is.line;
      few = (let b = few_of k y h.bands h.size.h is.band is.line in few_of (k * h.size.h + y) x (h.bands * h.size.h) h.size.w b is.column);
    }

-- where it stands
placed_by : (l : Layout) (h : Head) (k x y : ℕ) → h.skip ≡ 0 → IsTightBy l h → position_by l h k x y ≡ number_by l h k x y * sample_len h.kind
placed_by Bil h k x y skip rows = put h.skip h.total_row h.band_row y k x h.bands h.size.w (sample_len h.kind) skip rows.1 rows.0
  where
    put : (skip total row y k x bands w s : ℕ) → skip ≡ 0 → total ≡ bands * (w * s) → row ≡ w * s → skip + y * total + k * row + x * s ≡ ((y * bands + k) * w + x) * s
    put skip total row y k x bands w s p q r = ap (λ n. n + y * total + k * row + x * s) p ∙ ap (λ n. 0 + y * n + k * row + x * s) q ∙ ap (λ n. 0 + y * (bands * (w * s)) + k * n + x * s) r ∙ omega arith
placed_by Bip h k x y skip rows = put h.skip h.total_row y x k h.bands h.size.w (sample_len h.kind) skip rows
  where
    put : (skip total y x k bands w s : ℕ) → skip ≡ 0 → total ≡ w * bands * s → skip + y * total + (x * bands + k) * s ≡ ((y * w + x) * bands + k) * s
    put skip total y x k bands w s p q = ap (λ n. n + y * total + (x * bands + k) * s) p ∙ ap (λ n. 0 + y * n + (x * bands + k) * s) q ∙ omega arith
placed_by Bsq h k x y skip rows = put h.skip h.gap k y x h.size.h h.size.w (sample_len h.kind) skip rows
  where
    put : (skip gap k y x h w s : ℕ) → skip ≡ 0 → gap ≡ 0 → skip + k * (h * w * s + gap) + (y * w + x) * s ≡ ((k * h + y) * w + x) * s
    put skip gap k y x h w s p q = ap (λ n. n + k * (h * w * s + gap) + (y * w + x) * s) p ∙ ap (λ n. 0 + k * (h * w * s + n) + (y * w + x) * s) q ∙ omega arith

abbrev sample_of : (h : Head) (samples : ℕ → ℕ → ℕ → ℤ) (i : ℕ) → List ℕ
sample_of h samples i = sample_bytes h (samples (sample_band_by h.layout h i) (column_by h.layout h i) (line_by h.layout h i))

-- the bytes of raw data hold its samples
pub raw_sample : (h : Head) (samples : ℕ → ℕ → ℕ → ℤ) (k x y : ℕ) → IsTight h → IsPlace h k x y → is_in h.kind (samples k x y) ≡ true → raw_at h (raw_bytes h samples) k x y ≡ samples k x y
raw_sample h samples k x y tight place within =
    let i = number_by h.layout h k x y in
    let is = numbered h.layout h k x y place in
    let each : (j : ℕ) → length (sample_of h samples j) ≡ sample_len h.kind = λ j. sample_bytes_len h (samples (sample_band_by h.layout h j) (column_by h.layout h j) (line_by h.layout h j)) in
    ap (λ m. sample_at h (drop m (drop (position_of h k x y) (raw_bytes h samples)))) (let e : 0 ≡ 0 * stride_of h = omega arith in e)
    ∙ read_again h (drop (position_of h k x y) (raw_bytes h samples)) 0 (samples k x y) within
    (ap (λ m. take (sample_len h.kind) (drop m (drop (position_of h k x y) (raw_bytes h samples)))) (let e : 0 * stride_of h ≡ 0 = omega arith in e)
    ∙ ap (λ m. take (sample_len h.kind) (drop m (raw_bytes h samples))) (placed_by h.layout h k x y tight.skip tight.rows)
    ∙ piece (sample_len h.kind) (sample_of h samples) 0 (h.bands * h.size.h * h.size.w) i each is.few
    ∙ ap (sample_of h samples) (zero-add i)
    ∙ ap (λ b. sample_bytes h (samples b (column_by h.layout h i) (line_by h.layout h i))) is.band
    ∙ ap (λ c. sample_bytes h (samples k c (line_by h.layout h i))) is.column
    ∙ ap (λ c. sample_bytes h (samples k x c)) is.line)

pub raw_len : (h : Head) (samples : ℕ → ℕ → ℕ → ℤ) → length (raw_bytes h samples) ≡ h.bands * h.size.h * h.size.w * sample_len h.kind
raw_len h samples = pieces_len (sample_len h.kind) (sample_of h samples) 0 (h.bands * h.size.h * h.size.w) (λ j. sample_bytes_len h (samples (sample_band_by h.layout h j) (column_by h.layout h j) (line_by h.layout h j)))

-- an item of a list that is made of a function
pub made_at : (f : ℕ → ℤ) (n i : ℕ) → i < n → get_or (map f (range_with_len 0 n)) i (pos 0) ≡ f i
made_at f n i less = get_or-map-range_with_len f 0 n i i (pos 0) less (zero-add i)

pub all_made : {X : Type 0} (P : X → Type 0) (f : ℕ → X) (n : ℕ) → ((i : ℕ) → i < n → P (f i)) → All P (map f (range_with_len 0 n))
all_made P f n each k d less = let below : k < n = (let l = length-map-range_with_len f 0 n in omega arith) in subst P (sym (get_or-map-range_with_len f 0 n k k d below (zero-add k))) (each k below)

row_len : (ns : List ℤ) → length (row_bytes ns) ≡ 2 * length ns
row_len [] = refl
row_len (n ∷ ns) = let a = length-append (tiles.sample_bytes n) (row_bytes ns) in let b = tile_rows.sample_bytes_len n in let c = row_len ns in omega arith

line_len : (samples : ℕ → ℕ → ℕ → ℤ) (side y : ℕ) → length (row_bytes (line_at samples side y)) ≡ 2 * side
line_len samples side y = row_len (line_at samples side y) ∙ ap (λ n. 2 * n) (length-map-range_with_len (λ x. samples 0 x y) 0 side)

-- bytes within the front of a list
within_front : (k n m : ℕ) (xs : List ℕ) → k + n ≤ m → take n (drop k (take m xs)) ≡ take n (drop k xs)
within_front zero zero m xs h = refl
within_front zero (suc n) zero xs h = absurd (omega arith)
within_front zero (suc n) (suc m) [] h = refl
within_front zero (suc n) (suc m) (x ∷ xs) h = ap (λ (l : List ℕ). x ∷ l) (within_front zero n m xs (omega arith))
within_front (suc k) n zero xs h = absurd (omega arith)
within_front (suc k) n (suc m) [] h = refl
within_front (suc k) n (suc m) (x ∷ xs) h = within_front k n m xs (omega arith)

-- the bytes of a tile hold its samples
pub tile_sample : (side : ℕ) (samples : ℕ → ℕ → ℕ → ℤ) (x y : ℕ) → x < side → y < side → ((u v : ℕ) → u < side → v < side → is_in Int16 (samples 0 u v) ≡ true) → hgt_at side (tile_bytes side samples) x y ≡ samples 0 x y
tile_sample side samples x y column line within =
    let b : List ℕ = tile_bytes side samples in
    let row : List ℕ = row_bytes (line_at samples side y) in
    let n : length (line_at samples side y) ≡ side = length-map-range_with_len (λ u. samples 0 u y) 0 side in
    let is : take (2 * side) (drop (y * (2 * side)) b) ≡ row = piece (2 * side) (λ v. row_bytes (line_at samples side v)) 0 side y (λ v. line_len samples side v) line ∙ ap (λ v. row_bytes (line_at samples side v)) (zero-add y) in
    let read = tile_rows.row_again (line_at samples side y) (all_made (λ n. is_in Int16 n ≡ true) (λ u. samples 0 u y) side (λ u less. within u y less line)) in
    ap (λ m. tiles.sample_at (drop m b)) (let e : 2 * (y * side + x) ≡ y * (2 * side) + x * 2 = grind arith in e)
    ∙ ap tiles.sample_at (sym (drop-drop (x * 2) (y * (2 * side)) b))
    ∙ front_sample (drop (x * 2) (drop (y * (2 * side)) b)) (drop (x * 2) row) (sym (within_front (x * 2) 2 (2 * side) (drop (y * (2 * side)) b) (omega arith)) ∙ ap (λ (l : List ℕ). take 2 (drop (x * 2) l)) is)
    ∙ sym (get_or-map-range_with_len (item_at row) 0 (length (line_at samples side y)) x x (pos 0) (omega arith) (zero-add x))
    ∙ ap (λ (l : List ℤ). get_or l x (pos 0)) read
    ∙ made_at (λ u. samples 0 u y) side x column
  where
    front_sample : (a b : List ℕ) → take 2 a ≡ take 2 b → tiles.sample_at a ≡ tiles.sample_at b
    front_sample a b e = cc

pub tile_len : (side : ℕ) (samples : ℕ → ℕ → ℕ → ℤ) → length (tile_bytes side samples) ≡ 2 * (side * side)
tile_len side samples = pieces_len (2 * side) (λ v. row_bytes (line_at samples side v)) 0 side (λ v. line_len samples side v) ∙ (let e : side * (2 * side) ≡ 2 * (side * side) = grind arith in e)
