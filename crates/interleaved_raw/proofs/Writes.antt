-- A sample that is written a stride apart from the others.
use Rattle.std.proofs.Common.{◌≡◌, ℕ, ℤ, ◌+◌, ◌-◌, ◌*◌, ◌/◌, ◌%◌, ◌<◌, ◌≤◌, ◌^◌, ◌⊎◌, inl, inr, ⊎_elim, true, false, Bool, List, [], length, take, drop, get_or, map, refl, ◌++◌, sym, ap, ◌∙◌, arith, pos}
use Rattle.std.proofs.lemmas.List.{take_at, drop_at, length-take-le, drop-take, append-nil, get_or-take, get_or-drop}
use Rattle.std.proofs.lemmas.Slice.{take-put_mid_below, drop-put_mid}
use Rattle.std.proofs.lemmas.Bool.{cases_lt}
use Rattle.std.proofs.lemmas.Nat.{div-mul-add, mod-mul-add}
use Rattle.std.proofs.Math.Nat.{mul-le-mul_right, add-mul}
use Rattle.std.specs.List.{range_with_len, All}
use Rattle.std.proofs.lemmas.List.FromFn.{fill_by_all}
use borrow.Rule.Slice.PartMut.{put_mid, post_of}
use Rattle.byteorder.specs.Endian.{big_number, little_number, big_bytes, little_bytes}
use Rattle.byteorder.specs.Numbers.{big_number-reads_back, little_number-reads_back, length-bytes_high_first, length-bytes_low_first}
use Rattle.geotransform.specs.Types.{is_in}
use Rattle.esri_hdr.specs.Head.{Head, sample_len}
use Rattle.interleaved_raw.specs.Raw.{stride_of, strided_at, bytes_at, number_bytes, sample_bytes, number_in, value_of, bits_of, IsBetween}
use Rattle.interleaved_raw.proofs.Bits.{bits_fit, value_again}

before_kept : (a k s p : ℕ) (xs ys : List ℕ) → p + s ≤ a → a ≤ length xs → take s (drop p (put_mid a k xs ys)) ≡ take s (drop p xs)
before_kept a k s p xs ys before within = sym (drop-take p s (put_mid a k xs ys)) ∙ ap (drop p) (take-put_mid_below a k xs ys (p + s) before within) ∙ drop-take p s xs

here_put : (a k s : ℕ) (xs ys : List ℕ) → a ≤ length xs → length ys ≡ s → take s (drop a (put_mid a k xs ys)) ≡ ys
here_put a k s xs ys within len = ap (take s) (drop_at (take a xs) (ys ++ post_of a k xs) a (length-take-le a xs within)) ∙ take_at ys (post_of a k xs) s len

others_kept : (a k j : ℕ) (xs ys : List ℕ) → length ys ≡ k → a + k ≤ length xs → (j < a) ⊎ (a + k ≤ j) → get_or (put_mid a k xs ys) j 0 ≡ get_or xs j 0
others_kept a k j xs ys len within h =
    ⊎_elim
    (λ (low : j < a). sym (get_or-take a (put_mid a k xs ys) j 0 low) ∙ ap (λ (l : List ℕ). get_or l j 0) (take-put_mid_below a k xs ys a (omega arith) (omega arith)) ∙ get_or-take a xs j 0 low)
    (λ (high : a + k ≤ j).
    let place : (a + k) + (j - (a + k)) ≡ j = omega arith in
    ap (λ i. get_or (put_mid a k xs ys) i 0) (sym place) ∙ sym (get_or-drop (a + k) (put_mid a k xs ys) (j - (a + k)) 0) ∙ ap (λ (l : List ℕ). get_or l (j - (a + k)) 0) (drop-put_mid a k xs ys (a + k) (omega arith) (omega arith) len) ∙ get_or-drop (a + k) xs (j - (a + k)) 0 ∙ ap (λ i. get_or xs i 0) place)
    h

number_again : (big : Bool) (s x : ℕ) → x < 256 ^ s → number_in big s (number_bytes big s x) ≡ x
number_again true s x less = ap (big_number s) (sym (append-nil (big_bytes s x))) ∙ big_number-reads_back s x [] less
number_again false s x less = ap (little_number s) (sym (append-nil (little_bytes s x))) ∙ little_number-reads_back s x [] less

-- what was written is read again
sample_again : (h : Head) (n : ℤ) → is_in h.kind n ≡ true → value_of h.kind (number_in h.big (sample_len h.kind) (sample_bytes h n)) ≡ n
sample_again h n within = ap (value_of h.kind) (number_again h.big (sample_len h.kind) (bits_of h.kind n) (bits_fit h.kind n within)) ∙ value_again h.kind n within

-- one more sample stands where it was written, and the earlier ones still do
pub written_more : (h : Head) (old ys : List ℕ) (i k at : ℕ) (n : ℤ) (samples : List ℤ) → at ≡ i * stride_of h → k ≡ sample_len h.kind → at ≤ length old → length ys ≡ k → ys ≡ sample_bytes h n → n ≡ get_or samples i (pos 0) → sample_len h.kind ≤ stride_of h
    → ((j : ℕ) → j < i → bytes_at h old j ≡ sample_bytes h (get_or samples j (pos 0)))
    → (j : ℕ) → j < i + 1 → bytes_at h (put_mid at k old ys) j ≡ sample_bytes h (get_or samples j (pos 0))
written_more h old ys i k at n samples is_at is_k within len is_ys is_n wide so_far j below =
    ⊎_elim
    (λ (earlier : j < i).
    let next : (j + 1) * stride_of h ≤ i * stride_of h = mul-le-mul_right (stride_of h) (omega arith) in
    let before : j * stride_of h + sample_len h.kind ≤ at = omega (arith, add-mul j 1 (stride_of h)) in
    before_kept at k (sample_len h.kind) (j * stride_of h) old ys before within ∙ so_far j earlier)
    (λ (last : i ≤ j).
    let same : j ≡ i = omega arith in
    let place : j * stride_of h ≡ at = ap (λ x. x * stride_of h) same ∙ sym is_at in
    ap (λ x. take (sample_len h.kind) (drop x (put_mid at k old ys))) place
    ∙ here_put at k (sample_len h.kind) old ys within (len ∙ is_k) ∙ is_ys
    ∙ ap (sample_bytes h) (is_n ∙ ap (λ x. get_or samples x (pos 0)) (sym same)))
    (cases_lt j i)

-- the bytes that write a sample of the type are read as it
pub read_again : (h : Head) (bytes : List ℕ) (i : ℕ) (n : ℤ) → is_in h.kind n ≡ true → bytes_at h bytes i ≡ sample_bytes h n → strided_at h bytes i ≡ n
read_again h bytes i n within is = ap (λ (l : List ℕ). value_of h.kind (number_in h.big (sample_len h.kind) l)) is ∙ sample_again h n within

-- so with a run
pub run_again : (h : Head) (bytes : List ℕ) (samples : List ℤ) → All (λ n. is_in h.kind n ≡ true) samples → ((i : ℕ) → i < length samples → bytes_at h bytes i ≡ sample_bytes h (get_or samples i (pos 0))) → map (strided_at h bytes) (range_with_len 0 (length samples)) ≡ samples
run_again h bytes samples within is = sym (fill_by_all (strided_at h bytes) samples (length samples) (pos 0) refl (λ k less. sym (read_again h bytes k (get_or samples k (pos 0)) (within k (pos 0) less) (is k less))))

-- a byte that is in no sample stays
pub others_more : (h : Head) (first old ys : List ℕ) (i k at : ℕ) → at ≡ i * stride_of h → k ≡ sample_len h.kind → at + k ≤ length old → length ys ≡ k → sample_len h.kind ≤ stride_of h
    → ((j : ℕ) → IsBetween h i j → get_or old j 0 ≡ get_or first j 0)
    → (j : ℕ) → IsBetween h (i + 1) j → get_or (put_mid at k old ys) j 0 ≡ get_or first j 0
others_more h first old ys i k at is_at is_k within len wide so_far j between =
    let earlier : IsBetween h i j = ⊎_elim (λ (x : sample_len h.kind ≤ j % stride_of h). inl x) (λ (x : i + 1 ≤ j / stride_of h). inr (omega arith)) between in
    let apart : (j < at) ⊎ (at + k ≤ j) =
    ⊎_elim (λ (low : j < at). inl low)
    (λ (from : at ≤ j). ⊎_elim
    (λ (inside : j < at + k).
    let small : j - at < stride_of h = omega arith in
    let place : i * stride_of h + (j - at) ≡ j = omega arith in
    let rem : j % stride_of h ≡ j - at = ap (λ x. x % stride_of h) (sym place) ∙ mod-mul-add i (stride_of h) (j - at) small in
    let quot : j / stride_of h ≡ i = ap (λ x. x / stride_of h) (sym place) ∙ div-mul-add i (stride_of h) (j - at) small in
    ⊎_elim (λ (x : sample_len h.kind ≤ j % stride_of h). absurd (omega arith)) (λ (x : i + 1 ≤ j / stride_of h). absurd (omega arith)) between)
    (λ (past : at + k ≤ j). inr past) (cases_lt j (at + k)))
    (cases_lt j at) in
    others_kept at k j old ys len within apart ∙ so_far j earlier

bytes_len : (big : Bool) (s x : ℕ) → length (number_bytes big s x) ≡ s
bytes_len true s x = length-bytes_high_first s x
bytes_len false s x = length-bytes_low_first 0 s x

pub sample_bytes_len : (h : Head) (n : ℤ) → length (sample_bytes h n) ≡ sample_len h.kind
sample_bytes_len h n = bytes_len h.big (sample_len h.kind) (bits_of h.kind n)
