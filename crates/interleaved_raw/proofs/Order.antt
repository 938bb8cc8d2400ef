-- Samples in their file.
use Rattle.std.proofs.Common.{◌≡◌, ℕ, ℤ, pos, ◌+◌, ◌-◌, ◌*◌, ◌<◌, ◌≤◌, List, length, map, take, drop, ap, ◌∙◌, arith, zero-add}
use Rattle.std.specs.List.{range_with_len}
use Rattle.std.proofs.lemmas.List.{drop-drop, take-take}
use Rattle.std.proofs.lemmas.List.FromFn.{fill_by_all, length-map-range_with_len, get_or-map-range_with_len}
use Rattle.std.proofs.Math.Nat.{add-mul, mul_assoc, mul-le-mul_right}
use Rattle.esri_hdr.specs.declared.header_parts.Layout.{Layout}
use Rattle.esri_hdr.specs.declared.header_parts.Layout.TheVariants.{Bil, Bip, Bsq}
use Rattle.esri_hdr.specs.Head.{Head, sample_len}
use Rattle.interleaved_raw.specs.Raw.{position_by, position_of, stride_by, stride_of, sample_at, value_of, number_in, strided_at, raw_at, row_of, needed_of, IsPlace, Holds}
use Rattle.lists_and_answers.specs.Places.{StandsAt}
use Rattle.lists_and_answers.proofs.Stands.{stands-part}
use Rattle.interleaved_raw.proofs.Runs.{room}

-- the place of a later sample of the line
pub further : (l : Layout) (h : Head) (band x y i : ℕ) → position_by l h band x y + i * stride_by l h ≡ position_by l h band (x + i) y
further Bil h band x y i = omega (arith, add-mul x i (sample_len h.kind))
further Bip h band x y i = omega (arith, add-mul (x * h.bands) band (sample_len h.kind), add-mul ((x + i) * h.bands) band (sample_len h.kind), add-mul x i h.bands, add-mul (x * h.bands) (i * h.bands) (sample_len h.kind), mul_assoc i h.bands (sample_len h.kind), ap (λ k. k * sample_len h.kind) (add-mul x i h.bands))
further Bsq h band x y i = omega (arith, add-mul (y * h.size.w) x (sample_len h.kind), add-mul (y * h.size.w) (x + i) (sample_len h.kind), add-mul x i (sample_len h.kind))

pub run_is : (h : Head) (bytes : List ℕ) (band x y i : ℕ) → strided_at h (drop (position_of h band x y) bytes) i ≡ raw_at h bytes band (x + i) y
run_is h bytes band x y i = ap (sample_at h) (drop-drop (i * stride_of h) (position_of h band x y) bytes ∙ ap (λ k. drop k bytes) (further h.layout h band x y i))

pub last_place : (l : Layout) (h : Head) (band x y : ℕ) → band < h.bands → x < h.size.w → y < h.size.h → position_by l h band x y ≤ position_by l h (h.bands - 1) (h.size.w - 1) (h.size.h - 1)
last_place Bil h band x y b c d =
    let rows : y * h.total_row ≤ (h.size.h - 1) * h.total_row = mul-le-mul_right h.total_row (omega arith) in
    let bands : band * h.band_row ≤ (h.bands - 1) * h.band_row = mul-le-mul_right h.band_row (omega arith) in
    let columns : x * sample_len h.kind ≤ (h.size.w - 1) * sample_len h.kind = mul-le-mul_right (sample_len h.kind) (omega arith) in
    omega arith
last_place Bip h band x y b c d =
    let rows : y * h.total_row ≤ (h.size.h - 1) * h.total_row = mul-le-mul_right h.total_row (omega arith) in
    let columns : x * h.bands ≤ (h.size.w - 1) * h.bands = mul-le-mul_right h.bands (omega arith) in
    let samples : (x * h.bands + band) * sample_len h.kind ≤ ((h.size.w - 1) * h.bands + (h.bands - 1)) * sample_len h.kind = mul-le-mul_right (sample_len h.kind) (omega arith) in
    omega arith
last_place Bsq h band x y b c d =
    let bands : band * (h.size.h * h.size.w * sample_len h.kind + h.gap) ≤ (h.bands - 1) * (h.size.h * h.size.w * sample_len h.kind + h.gap) = mul-le-mul_right (h.size.h * h.size.w * sample_len h.kind + h.gap) (omega arith) in
    let rows : y * h.size.w ≤ (h.size.h - 1) * h.size.w = mul-le-mul_right h.size.w (omega arith) in
    let samples : (y * h.size.w + x) * sample_len h.kind ≤ ((h.size.h - 1) * h.size.w + (h.size.w - 1)) * sample_len h.kind = mul-le-mul_right (sample_len h.kind) (omega arith) in
    omega arith

-- each sample ends within the bytes that the file must have
pub ends_within : (h : Head) (band x y : ℕ) → IsPlace h band x y → position_of h band x y + sample_len h.kind ≤ needed_of h
ends_within h band x y p = omega (arith, last_place h.layout h band x y p.band p.column p.line)

-- the bytes of a sample that stand in a file are the sample that stands there
pub sample_stands : (h : Head) (file bytes : List ℕ) (at : ℕ) → sample_len h.kind ≤ length bytes → StandsAt file bytes at → sample_at h bytes ≡ sample_at h (drop at file)
sample_stands h file bytes at enough stands = ap (λ (l : List ℕ). value_of h.kind (number_in h.big (sample_len h.kind) l)) (ap (take (sample_len h.kind)) stands ∙ take-take (sample_len h.kind) (length bytes) (drop at file) enough)

-- a sample of a run that stands in a file is the one that stands there in its band and line
pub run_stands : (h : Head) (file bytes : List ℕ) (band x y i : ℕ) → i * stride_of h + sample_len h.kind ≤ length bytes → StandsAt file bytes (position_of h band x y) → strided_at h bytes i ≡ raw_at h file band (x + i) y
run_stands h file bytes band x y i enough stands =
    let at : ℕ = position_of h band x y in
    let p : ℕ = i * stride_of h in
    ap (λ (l : List ℕ). value_of h.kind (number_in h.big (sample_len h.kind) l)) (stands-part file bytes at p (sample_len h.kind) enough stands)
    ∙ ap (λ k. sample_at h (drop k file)) (further h.layout h band x y i)

map_range_same : (f g : ℕ → ℤ) (n : ℕ) → ((i : ℕ) → i < n → f i ≡ g i) → map f (range_with_len 0 n) ≡ map g (range_with_len 0 n)
map_range_same f g n same = fill_by_all g (map f (range_with_len 0 n)) n (pos 0) (length-map-range_with_len f 0 n) (λ k below. get_or-map-range_with_len f 0 n k k (pos 0) below (zero-add k) ∙ same k below)

-- a run that stands in a file is the samples of its band and line
pub row_stands : (h : Head) (file bytes : List ℕ) (band x y n : ℕ) → Holds h bytes n → StandsAt file bytes (position_of h band x y) → map (strided_at h bytes) (range_with_len 0 n) ≡ row_of h file band x y n
row_stands h file bytes band x y n holds stands = map_range_same (strided_at h bytes) (λ i. raw_at h file band (x + i) y) n (λ i below. run_stands h file bytes band x y i (room h bytes i n below holds) stands)
