-- Runs of samples that are put into raw data.
use Rattle.std.proofs.Common.{◌≡◌, ℕ, suc, ℤ, pos, ◌+◌, ◌-◌, ◌*◌, ◌/◌, ◌%◌, ◌<◌, ◌≤◌, ◌⊎◌, inl, inr, ⊎_elim, min, List, length, take, drop, get_or, sym, ap, ◌∙◌, arith, zero-add}
use Rattle.std.proofs.lemmas.List.{length-take, length-drop, get_or-take, get_or-drop, ext_get_or}
use Rattle.std.proofs.lemmas.List.FromFn.{get_or-map-range_with_len}
use Rattle.std.proofs.lemmas.Bool.{cases_lt}
use Rattle.std.proofs.lemmas.Nat.{div-add-mod', mod_below, div_below}
use Rattle.std.proofs.Math.Nat.{add-mul, mul-le-mul_right}
use Rattle.outside.specs.Outside.{put_at}
use Rattle.lists_and_answers.specs.Places.{StandsAt}
use Rattle.geotransform.proofs.Ranges.{bytes_bounds}
use Rattle.esri_hdr.specs.declared.header_parts.Layout.TheVariants.{Bip}
use Rattle.esri_hdr.specs.Head.{Head, IsHead, sample_len}
use Rattle.interleaved_raw.specs.Raw.{position_by, position_of, stride_of, sample_at, value_of, number_in, strided_at, raw_at, row_of, IsPlace, IsSamePlace, IsBetween}
use Rattle.interleaved_raw.proofs.Apart.{apart}
use Rattle.interleaved_raw.proofs.Order.{further, row_stands, run_stands}
use Rattle.interleaved_raw.proofs.Runs.{room}
use Rattle.written_samples.specs.Put.{IsInRun, IsRunFor, AreSamplesFor, number_in_line}
use Rattle.written_samples.proofs.Put.{put_len, put_stands, put_below, put_here, put_past, part_beside, part_inside}

pub sample_inside : (h : Head) (file bytes : List ℕ) (at p band x y : ℕ) → at + length bytes ≤ length file → position_of h band x y ≡ at + p → p + sample_len h.kind ≤ length bytes → raw_at h (put_at at bytes file) band x y ≡ sample_at h (drop p bytes)
sample_inside h file bytes at p band x y within is enough =
    ap (λ k. sample_at h (drop k (put_at at bytes file))) is
    ∙ ap (λ (l : List ℕ). value_of h.kind (number_in h.big (sample_len h.kind) l)) (part_inside file bytes at within p (sample_len h.kind) enough)

pub sample_beside : (h : Head) (file bytes : List ℕ) (at band x y : ℕ) → at + length bytes ≤ length file → (position_of h band x y + sample_len h.kind ≤ at) ⊎ (at + length bytes ≤ position_of h band x y) → raw_at h (put_at at bytes file) band x y ≡ raw_at h file band x y
sample_beside h file bytes at band x y within beside =
    ap (λ (l : List ℕ). value_of h.kind (number_in h.big (sample_len h.kind) l)) (part_beside file bytes at within (position_of h band x y) (sample_len h.kind) beside)

pub run_line : (h : Head) (file bytes : List ℕ) (band x y : ℕ) (samples : List ℤ) → IsRunFor h file band x y samples bytes → row_of h (put_at (position_of h band x y) bytes file) band x y (length samples) ≡ samples
run_line h file bytes band x y samples run = sym (row_stands h (put_at (position_of h band x y) bytes file) bytes band x y (length samples) run.holds (put_stands file bytes (position_of h band x y) run.in_file)) ∙ run.read

pub run_read : (h : Head) (file bytes : List ℕ) (band x y i : ℕ) (samples : List ℤ) → IsRunFor h file band x y samples bytes → i < length samples → raw_at h (put_at (position_of h band x y) bytes file) band (x + i) y ≡ get_or samples i (pos 0)
run_read h file bytes band x y i samples run less =
    sym (run_stands h (put_at (position_of h band x y) bytes file) bytes band x y i (room h bytes i (length samples) less run.holds) (put_stands file bytes (position_of h band x y) run.in_file))
    ∙ sym (get_or-map-range_with_len (strided_at h bytes) 0 (length samples) i i (pos 0) less (zero-add i))
    ∙ ap (λ (l : List ℤ). get_or l i (pos 0)) run.read

-- bytes of a sample that are the same
same_sample : (h : Head) (b c : List ℕ) (p : ℕ) → length c ≡ length b → ((i : ℕ) → i < sample_len h.kind → get_or c (p + i) 0 ≡ get_or b (p + i) 0) → sample_at h (drop p c) ≡ sample_at h (drop p b)
same_sample h b c p len same =
    let lb = length-take (sample_len h.kind) (drop p b) in
    let lc = length-take (sample_len h.kind) (drop p c) in
    let db = length-drop p b in
    let dc = length-drop p c in
    let long : length (take (sample_len h.kind) (drop p c)) ≡ length (take (sample_len h.kind) (drop p b)) = lc ∙ ap (min (sample_len h.kind)) (dc ∙ ap (λ n. n - p) len ∙ sym db) ∙ sym lb in
    ap (λ (l : List ℕ). value_of h.kind (number_in h.big (sample_len h.kind) l))
    (ext_get_or 0 (take (sample_len h.kind) (drop p c)) (take (sample_len h.kind) (drop p b)) long
    (λ i less. (let below : i < sample_len h.kind = omega arith in
    get_or-take (sample_len h.kind) (drop p c) i 0 below ∙ get_or-drop p c i 0 ∙ same i below ∙ sym (get_or-drop p b i 0) ∙ sym (get_or-take (sample_len h.kind) (drop p b) i 0 below))))

between_cases : (h : Head) (n j : ℕ) → IsBetween h n j ⊎ ((j % stride_of h < sample_len h.kind) × (j / stride_of h < n))
between_cases h n j =
    ⊎_elim (λ (rest : j % stride_of h < sample_len h.kind).
    ⊎_elim (λ (number : j / stride_of h < n). inr (rest, number)) (λ (past : n ≤ j / stride_of h). inl (inr past)) (cases_lt (j / stride_of h) n))
    (λ (gap : sample_len h.kind ≤ j % stride_of h). inl (inl gap)) (cases_lt (j % stride_of h) (sample_len h.kind))

-- a byte of a file is one of a sample that isn't a pixel's
record IsOther (h : Head) (k u v p : ℕ) : Type 0 where
  l : ℕ
  s : ℕ
  t : ℕ
  place : IsPlace h l s t
  from : position_of h l s t ≤ p
  to : p < position_of h l s t + sample_len h.kind
  other : IsSamePlace l s t k u v → ⊥

-- a sample stays where each byte that is put is one of another sample, or the file's own
module _ (h : Head) (file bytes : List ℕ) (at k u v : ℕ) (is : IsHead h) (within : at + length bytes ≤ length file) (place : IsPlace h k u v) (free : (j : ℕ) → j < length bytes → (get_or bytes j 0 ≡ get_or file (at + j) 0) ⊎ IsOther h k u v (at + j)) where
  byte_inside : (i j : ℕ) → i < sample_len h.kind → j < length bytes → at + j ≡ position_of h k u v + i → get_or bytes j 0 ≡ get_or file (at + j) 0
  byte_inside i j less below meets = ⊎_elim
      (λ (same : get_or bytes j 0 ≡ get_or file (at + j) 0). same)
      (λ (o : IsOther h k u v (at + j)). let from = o.from in let to = o.to in absurd (o.other (apart h o.l o.s o.t k u v is o.place place (omega arith) (omega arith))))
      (free j below)

  byte_stays : (i : ℕ) → i < sample_len h.kind → get_or (put_at at bytes file) (position_of h k u v + i) 0 ≡ get_or file (position_of h k u v + i) 0
  byte_stays i less =
      ⊎_elim
      (λ (low : position_of h k u v + i < at). put_below file bytes at within (position_of h k u v + i) low)
      (λ (from : at ≤ position_of h k u v + i).
      ⊎_elim
      (λ (to : position_of h k u v + i < at + length bytes).
      let back : at + (position_of h k u v + i - at) ≡ position_of h k u v + i = omega arith in
      put_here file bytes at within (position_of h k u v + i) from to
      ∙ byte_inside i (position_of h k u v + i - at) less (omega arith) back
      ∙ ap (λ n. get_or file n 0) back)
      (λ (past : at + length bytes ≤ position_of h k u v + i). put_past file bytes at within (position_of h k u v + i) past)
      (cases_lt (position_of h k u v + i) (at + length bytes)))
      (cases_lt (position_of h k u v + i) at)

  sample_stays : raw_at h (put_at at bytes file) k u v ≡ raw_at h file k u v
  sample_stays = same_sample h file (put_at at bytes file) (position_of h k u v) (put_len file bytes at within) byte_stays

pub run_others : (h : Head) (file bytes : List ℕ) (band x y k u v : ℕ) (samples : List ℤ) → IsHead h → IsRunFor h file band x y samples bytes → IsPlace h k u v → (IsInRun band x y (length samples) k u v → ⊥) → raw_at h (put_at (position_of h band x y) bytes file) k u v ≡ raw_at h file k u v
run_others h file bytes band x y k u v samples is run place other =
    sample_stays h file bytes (position_of h band x y) k u v is run.in_file place (λ j less. ⊎_elim
    (λ (between : IsBetween h (length samples) j). inl (run.between j less between))
    (λ (hit : (j % stride_of h < sample_len h.kind) × (j / stride_of h < length samples)).
    let parts = div-add-mod' j (stride_of h) in
    let rest = hit.0 in
    let number = hit.1 in
    let columns = run.in_columns in
    let there : position_of h band x y + j / stride_of h * stride_of h ≡ position_of h band (x + j / stride_of h) y = further h.layout h band x y (j / stride_of h) in
    inr (record {
      l = band;
      s = x + j / stride_of h;
      t = y;
      place = record { band = run.in_bands; column = omega arith; line = run.in_lines };
      from = omega arith;
      to = omega arith;
      other = λ same. (let column = same.column in other (record { band_is = sym same.band; row = record { line = sym same.line; left = omega arith; right = omega arith } }));
    }))
    (between_cases h (length samples) j))

-- the place of a later sample of a line, where those of all bands stand one behind the other
place_behind : (h : Head) (band x y k u i : ℕ) → h.layout ≡ Bip → number_in_line h k u ≡ number_in_line h band x + i → position_of h k u y ≡ position_of h band x y + i * sample_len h.kind
place_behind h band x y k u i bip number =
    let far : (u * h.bands + k) * sample_len h.kind ≡ (x * h.bands + band) * sample_len h.kind + i * sample_len h.kind = ap (λ m. m * sample_len h.kind) number ∙ add-mul (x * h.bands + band) i (sample_len h.kind) in
    let both : position_by Bip h k u y ≡ position_by Bip h band x y + i * sample_len h.kind = omega arith in
    ap (λ l. position_by l h k u y) bip ∙ both ∙ sym (ap (λ l. position_by l h band x y + i * sample_len h.kind) bip)

pub pixel_read : (h : Head) (file bytes : List ℕ) (band x y n k u i : ℕ) → AreSamplesFor h file band x y n bytes → number_in_line h k u ≡ number_in_line h band x + i → i < n → raw_at h (put_at (position_of h band x y) bytes file) k u y ≡ sample_at h (drop (i * sample_len h.kind) bytes)
pixel_read h file bytes band x y n k u i samples number less =
    let size = samples.size in
    let room : suc i * sample_len h.kind ≤ n * sample_len h.kind = mul-le-mul_right (sample_len h.kind) less in
    let e : suc i * sample_len h.kind ≡ i * sample_len h.kind + sample_len h.kind = grind arith in
    sample_inside h file bytes (position_of h band x y) (i * sample_len h.kind) k u y samples.in_file (place_behind h band x y k u i samples.bip number) (omega arith)

pub pixel_others : (h : Head) (file bytes : List ℕ) (band x y n k u v : ℕ) → IsHead h → AreSamplesFor h file band x y n bytes → IsPlace h k u v → (v ≡ y → number_in_line h band x ≤ number_in_line h k u → number_in_line h k u < number_in_line h band x + n → ⊥) → raw_at h (put_at (position_of h band x y) bytes file) k u v ≡ raw_at h file k u v
pixel_others h file bytes band x y n k u v is samples place other =
    sample_stays h file bytes (position_of h band x y) k u v is samples.in_file place (λ j less.
    let some : 1 ≤ sample_len h.kind = (bytes_bounds h.kind).0 in
    let banded : 0 < h.bands = (let b = place.band in omega arith) in
    let size = samples.size in
    let columns : x * h.bands + band + n ≤ h.size.w * h.bands = samples.in_columns in
    let parts = div-add-mod' j (sample_len h.kind) in
    let rest = mod_below j (sample_len h.kind) (omega arith) in
    let number : j / sample_len h.kind < n = div_below j (sample_len h.kind) n (omega arith) (omega arith) in
    let halves = div-add-mod' (x * h.bands + band + j / sample_len h.kind) h.bands in
    let there = place_behind h band x y ((x * h.bands + band + j / sample_len h.kind) % h.bands) ((x * h.bands + band + j / sample_len h.kind) / h.bands) (j / sample_len h.kind) samples.bip halves in
    inr (record {
      l = (x * h.bands + band + j / sample_len h.kind) % h.bands;
      s = (x * h.bands + band + j / sample_len h.kind) / h.bands;
      t = y;
      place = record { band = mod_below (x * h.bands + band + j / sample_len h.kind) h.bands banded; column = div_below (x * h.bands + band + j / sample_len h.kind) h.bands h.size.w banded (omega arith); line = samples.in_lines };
      from = omega arith;
      to = omega arith;
      other = λ same. (
          let here : u * h.bands + k ≡ x * h.bands + band + j / sample_len h.kind = ap (λ c. c * h.bands + k) (sym same.column) ∙ ap (λ c. (x * h.bands + band + j / sample_len h.kind) / h.bands * h.bands + c) (sym same.band) ∙ halves in
          other (sym same.line) (omega arith) (omega arith)
          );
    }))

-- a byte of bytes that stand in a file
pub over_file : (h : Head) (file old new : List ℕ) (at n : ℕ) → StandsAt file old at → length new ≡ length old → ((j : ℕ) → IsBetween h n j → get_or new j 0 ≡ get_or old j 0) → (j : ℕ) → j < length new → IsBetween h n j → get_or new j 0 ≡ get_or file (at + j) 0
over_file h file old new at n stands len same j less between =
    same j between
    ∙ ap (λ (l : List ℕ). get_or l j 0) stands
    ∙ get_or-take (length old) (drop at file) j 0 (omega arith)
    ∙ get_or-drop at file j 0

pub none_between : (h : Head) (bytes : List ℕ) (n j : ℕ) → stride_of h ≡ sample_len h.kind → length bytes ≡ n * sample_len h.kind → j < length bytes → IsBetween h n j → ⊥
none_between h bytes n j close len less between =
    let some : 1 ≤ sample_len h.kind = (bytes_bounds h.kind).0 in
    let size : length bytes ≡ n * stride_of h = len ∙ ap (λ s. n * s) (sym close) in
    let rest = mod_below j (stride_of h) (omega arith) in
    let number = div_below j (stride_of h) n (omega arith) (omega arith) in
    ⊎_elim (λ (gap : sample_len h.kind ≤ j % stride_of h). absurd (omega arith)) (λ (past : n ≤ j / stride_of h). absurd (omega arith)) between
