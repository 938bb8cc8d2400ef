-- Lemmas on runs of samples.
use Rattle.std.proofs.Common.{◌≡◌, true, ℕ, ℤ, ◌<◌, ◌≤◌, ◌^◌, List, length, get_or, map, pos, arith, set, ap, ◌∙◌, ◌+◌, ◌-◌, take, drop, ◌*◌, sym, zero-add, ⊎_elim}
use Rattle.std.proofs.lemmas.List.Edits.{fill_by_more}
use Rattle.std.proofs.lemmas.List.{take_rest}
use Rattle.esri_hdr.specs.Head.{Head, sample_len}
use Rattle.std.proofs.Math.Nat.{mul-le-mul_right}
use Rattle.interleaved_raw.specs.Raw.{sample_at, stride_of, Holds}
use Rattle.std.specs.List.{range_with_len, list_all, All}
use Rattle.std.proofs.lemmas.List.Sums.{AllPass-from_list_all}
use Rattle.geotransform.specs.Types.{is_in}
use Rattle.geotransform.specs.declared.types.PixelType.{PixelType}
use Rattle.std.proofs.lemmas.List.FromFn.{fill_by_all, length-map-range_with_len, get_or-map-range_with_len}
use Rattle.std.proofs.lemmas.Bool.{cases_lt}
use Rattle.esri_hdr.specs.declared.header_parts.Layout.{Layout}
use Rattle.esri_hdr.specs.declared.header_parts.Layout.TheVariants.{Bil, Bip, Bsq}
use Rattle.esri_hdr.specs.Values.{GapFits}

pub gap_bound : (layout : Layout) (gap : ℕ) → GapFits layout gap → gap ≤ 2 ^ 40
gap_bound Bil gap h = omega arith
gap_bound Bip gap h = omega arith
gap_bound Bsq gap h = h

pub filled : (f : ℕ → ℤ) (xs : List ℤ) (n : ℕ) → length xs ≡ n → ((k : ℕ) → k < n → get_or xs k (pos 0) ≡ f k) → xs ≡ map f (range_with_len 0 n)
filled f xs n e h = fill_by_all f xs n (pos 0) e h

pub filled_more : (f : ℕ → ℤ) (xs : List ℤ) (i : ℕ) (v w : ℤ) → i < length xs → w ≡ v → v ≡ f i → ((k : ℕ) → k < i → get_or xs k (pos 0) ≡ f k) → (k : ℕ) → k < i + 1 → get_or (set xs i w) k (pos 0) ≡ f k
filled_more f xs i v w less same is so_far k below = ap (λ x. get_or (set xs i x) k (pos 0)) (same ∙ is) ∙ fill_by_more f xs i (pos 0) less so_far k below

-- one more value of f is in the range of a type
pub range_more : (kind : PixelType) (f : ℕ → ℤ) (i : ℕ) (v : ℤ) → v ≡ f i → is_in kind v ≡ true → ((k : ℕ) → k < i → is_in kind (f k) ≡ true) → (k : ℕ) → k < i + 1 → is_in kind (f k) ≡ true
range_more kind f i v is within so_far k below =
    ⊎_elim (λ (earlier : k < i). so_far k earlier)
    (λ (last : i ≤ k). ap (λ j. is_in kind (f j)) (omega arith) ∙ ap (is_in kind) (sym is) ∙ within)
    (cases_lt k i)

-- values of f that are in the range, as a list
pub range_of_all : (kind : PixelType) (f : ℕ → ℤ) (n : ℕ) → ((k : ℕ) → k < n → is_in kind (f k) ≡ true) → All (λ m. is_in kind m ≡ true) (map f (range_with_len 0 n))
range_of_all kind f n h = λ k d below.
    let less : k < n = omega (arith, length-map-range_with_len f 0 n) in
    ap (is_in kind) (get_or-map-range_with_len f 0 n k k d less (zero-add k)) ∙ h k less

-- what stands from a place on
pub same_rest : (h : Head) (bytes : List ℕ) (at place : ℕ) → at ≡ place → sample_at h (take (length bytes - at) (drop at bytes)) ≡ sample_at h (drop place bytes)
same_rest h bytes at place e = ap (sample_at h) (take_rest bytes at) ∙ ap (λ k. sample_at h (drop k bytes)) e

-- each sample of a run is within the bytes that hold it
pub room : (h : Head) (bytes : List ℕ) (i n : ℕ) → i < n → Holds h bytes n → i * stride_of h + sample_len h.kind ≤ length bytes
room h bytes i n below holds =
    let less : i * stride_of h ≤ (n - 1) * stride_of h = mul-le-mul_right (stride_of h) (omega arith) in
    omega (arith, holds (omega arith))

-- a run whose samples all pass the test of their type
pub all_in : (kind : PixelType) (xs : List ℤ) → list_all (is_in kind) xs ≡ true → All (λ n. is_in kind n ≡ true) xs
all_in kind xs h = AllPass-from_list_all (is_in kind) xs h
