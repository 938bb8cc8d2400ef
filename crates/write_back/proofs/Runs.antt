-- A piece of a line that is written into a draft, and one that is read.
use Rattle.std.proofs.Common.{◌≡◌, ℕ, suc, ℤ, pos, ◌+◌, ◌-◌, ◌*◌, ◌/◌, ◌%◌, ◌<◌, ◌≤◌, ◌⊎◌, inl, inr, ⊎_elim, min, List, ◌++◌, length, take, drop, get_or, map, refl, sym, ap, ◌∙◌, subst, arith, append_assoc, length-append, zero-add}
use Rattle.std.specs.Prelude.{Result, Ok, Err, IfOk, OnOk}
use Rattle.std.specs.List.{range_with_len}
use Rattle.std.proofs.lemmas.List.{length-take-le, length-drop, take_at, drop_at, get_or-take, get_or-drop, get_or_append_left, get_or-append_right, ext_get_or}
use Rattle.std.proofs.lemmas.List.FromFn.{fill_by_all, get_or-map-range_with_len, length-map-range_with_len}
use Rattle.std.proofs.lemmas.Bool.{cases_lt, cases_eq}
use Rattle.std.proofs.lemmas.Nat.{div_below, mod_below, div-add-mod'}
use Rattle.std.proofs.Math.Nat.{mul-le-mul_right, add-mul}
use Rattle.outside.specs.Outside.{put_at}
use Rattle.geotransform.specs.declared.types.PixelType.{PixelType}
use Rattle.geotransform.proofs.Ranges.{bytes_bounds}
use Rattle.esri_hdr.specs.Head.{Head, IsHead, sample_len}
use Rattle.interleaved_raw.specs.Raw.{needed_of, sample_at, value_of, number_in, strided_at, Holds}
use Rattle.lists_and_answers.specs.Places.{StandsAt}
use Rattle.lists_and_answers.proofs.Stands.{stands-part}
use Rattle.catalog.specs.Places.{steps_over}
use Rattle.band_blocks.specs.Blocks.{written}
use Rattle.band_blocks.proofs.Corners.{step_within, reach}
use Rattle.write_back.specs.Pieces.{planes_of, spot_at, spot_place, spots_of, AreBytes}
use Rattle.write_back.specs.Spots.{plain_of, spots_from, IsInRun, IsLineSpot, IsRunWritten}
use Rattle.write_back.proofs.Lines.{written_below, written_here}
use Rattle.write_back.proofs.Woven.{spot_ends, spots_apart}

-- what follows where an answer is Ok
pub on_ok : {T E : Type 0} (r : Result T E) (P Q : Type 0) → (P → Q) → OnOk r P → OnOk r Q
on_ok (Ok v) P Q f p = f p
on_ok (Err e) P Q f p = p

pub if_ok : {T E : Type 0} (r : Result T E) (P Q : T → Type 0) → ((t : T) → P t → Q t) → IfOk r P → IfOk r Q
if_ok (Ok t) P Q f p = f t p
if_ok (Err e) P Q f p = p

pub sample_some : (kind : PixelType) → 1 ≤ sample_len kind
sample_some kind = (bytes_bounds kind).0

pub run_cases : (band y x n k u v : ℕ) → IsInRun band y x n k u v ⊎ (IsInRun band y x n k u v → ⊥)
run_cases band y x n k u v =
    ⊎_elim (λ (a : k ≡ band).
    ⊎_elim (λ (b : v ≡ y).
    ⊎_elim (λ (low : u < x). inr (λ i. let l = i.left in absurd (omega arith)))
    (λ (from : x ≤ u). ⊎_elim (λ (below : u < x + n). inl (record { band_is = a; line_is = b; left = from; right = below }))
    (λ (past : x + n ≤ u). inr (λ i. let r = i.right in absurd (omega arith))) (cases_lt u (x + n)))
    (cases_lt u x))
    (λ (other : v ≡ y → ⊥). inr (λ i. other i.line_is)) (cases_eq v y))
    (λ (other : k ≡ band → ⊥). inr (λ i. other i.band_is)) (cases_eq k band)

-- the parts of a list over which bytes were put
module _ (at : ℕ) (ys b : List ℕ) (within : at + length ys ≤ length b) where
  front : length (take at b) ≡ at
  front = length-take-le at b (omega arith)

  both : length (take at b ++ ys) ≡ at + length ys
  both = length-append (take at b) ys ∙ ap (λ n. n + length ys) front

  pub put_len : length (put_at at ys b) ≡ length b
  put_len = let l = length-append (take at b ++ ys) (drop (at + length ys) b) in let d = length-drop (at + length ys) b in let e = both in omega arith

  pub put_below : (j : ℕ) → j < at → get_or (put_at at ys b) j 0 ≡ get_or b j 0
  put_below j less = let f = front in let e = both in
      get_or_append_left (take at b ++ ys) (drop (at + length ys) b) 0 j (omega arith)
      ∙ get_or_append_left (take at b) ys 0 j (omega arith)
      ∙ get_or-take at b j 0 less

  pub put_here : (j : ℕ) → at ≤ j → j < at + length ys → get_or (put_at at ys b) j 0 ≡ get_or ys (j - at) 0
  put_here j low high = let e = both in
      get_or_append_left (take at b ++ ys) (drop (at + length ys) b) 0 j (omega arith)
      ∙ get_or-append_right (take at b) ys at j 0 front low

  pub put_past : (j : ℕ) → at + length ys ≤ j → get_or (put_at at ys b) j 0 ≡ get_or b j 0
  put_past j past =
      get_or-append_right (take at b ++ ys) (drop (at + length ys) b) (at + length ys) j 0 both past
      ∙ get_or-drop (at + length ys) b (j - (at + length ys)) 0
      ∙ ap (λ i. get_or b i 0) (omega arith)

  pub put_small : AreBytes b → AreBytes ys → AreBytes (put_at at ys b)
  put_small old new j = ⊎_elim
      (λ (low : j < at). let e = put_below j low in let s = old j in omega arith)
      (λ (from : at ≤ j). ⊎_elim
      (λ (inside : j < at + length ys). let e = put_here j from inside in let s = new (j - at) in omega arith)
      (λ (past : at + length ys ≤ j). let e = put_past j past in let s = old j in omega arith)
      (cases_lt j (at + length ys)))
      (cases_lt j at)

  pub put_stands : StandsAt (put_at at ys b) ys at
  put_stands = sym (
      ap (λ (l : List ℕ). take (length ys) (drop at l)) (append_assoc (take at b) ys (drop (at + length ys) b))
      ∙ ap (take (length ys)) (drop_at (take at b) (ys ++ drop (at + length ys) b) at front)
      ∙ take_at ys (drop (at + length ys) b) (length ys) (λ _. length ys)
      )

-- a sample whose bytes are the same is the same
pub same_sample : (h : Head) (b c : List ℕ) (p : ℕ) → p + sample_len h.kind ≤ length b → length c ≡ length b → ((i : ℕ) → i < sample_len h.kind → get_or c (p + i) 0 ≡ get_or b (p + i) 0) → sample_at h (drop p c) ≡ sample_at h (drop p b)
same_sample h b c p within len same =
    let s : ℕ = sample_len h.kind in
    let lb : length (take (sample_len h.kind) (drop p b)) ≡ sample_len h.kind = length-take-le (sample_len h.kind) (drop p b) (let d = length-drop p b in omega arith) in
    let lc : length (take (sample_len h.kind) (drop p c)) ≡ sample_len h.kind = length-take-le (sample_len h.kind) (drop p c) (let d = length-drop p c in omega arith) in
    ap (λ (l : List ℕ). value_of h.kind (number_in h.big (sample_len h.kind) l))
    (ext_get_or 0 (take (sample_len h.kind) (drop p c)) (take (sample_len h.kind) (drop p b)) (lc ∙ sym lb)
    (λ i less. (let below : i < sample_len h.kind = omega arith in
    get_or-take (sample_len h.kind) (drop p c) i 0 below ∙ get_or-drop p c i 0 ∙ same i below ∙ sym (get_or-drop p b i 0) ∙ sym (get_or-take (sample_len h.kind) (drop p b) i 0 below))))

-- a sample of a run ends within it
in_run : (s n i : ℕ) → i < n → i * s + s ≤ n * s
in_run s n i less =
    let more : suc i * s ≤ n * s = mul-le-mul_right s less in
    let e : suc i * s ≡ i * s + s = grind arith in
    omega arith

-- bytes of n samples hold them one behind the other
pub plain_holds : (h p : Head) (bytes : List ℕ) (n : ℕ) → p ≡ plain_of h → length bytes ≡ n * sample_len h.kind → Holds p bytes n
plain_holds h p bytes n is len = subst (λ (q : Head). Holds q bytes n) (sym is) (λ some. (let fits = in_run (sample_len h.kind) n (n - 1) (omega arith) in let r : (n - 1) * sample_len h.kind + sample_len h.kind ≤ length bytes = omega arith in r))

-- a sample of a line stands so many samples behind another one
behind : (h : Head) (band x y i : ℕ) → spot_place h band (x + i) y ≡ spot_place h band x y + i * sample_len h.kind
behind h band x y i = let e = add-mul x i (sample_len h.kind) in omega arith

-- samples of a line end within the bytes that the file must have
pub run_within : (h : Head) (band x y n : ℕ) → IsHead h → band < planes_of h → 0 < n → x + n ≤ spots_of h → y < h.size.h → spot_place h band x y + n * sample_len h.kind ≤ needed_of h
run_within h band x y n is has_band some spots has_line =
    let last = spot_ends h band (x + (n - 1)) y is (record { band = has_band; spot = omega arith; line = has_line }) in
    let e = behind h band x y (n - 1) in
    let f : suc (n - 1) * sample_len h.kind ≡ (n - 1) * sample_len h.kind + sample_len h.kind = grind arith in
    let g : suc (n - 1) ≡ n = omega arith in
    let k : suc (n - 1) * sample_len h.kind ≡ n * sample_len h.kind = ap (λ m. m * sample_len h.kind) g in
    omega arith

-- a sample of a run that stands in a file is the one that stands there in its line
pub spot_stands : (h : Head) (file bytes : List ℕ) (band x y n i : ℕ) → length bytes ≡ n * sample_len h.kind → i < n → StandsAt file bytes (spot_place h band x y) → strided_at (plain_of h) bytes i ≡ spot_at h file band (x + i) y
spot_stands h file bytes band x y n i len less stands =
    let fits = in_run (sample_len h.kind) n i less in
    ap (λ (l : List ℕ). value_of h.kind (number_in h.big (sample_len h.kind) l)) (stands-part file bytes (spot_place h band x y) (i * sample_len h.kind) (sample_len h.kind) (omega arith) stands)
    ∙ ap (λ k. sample_at h (drop k file)) (sym (behind h band x y i))

-- so are those of a run
pub run_stands : (h : Head) (file bytes : List ℕ) (band x y n : ℕ) → length bytes ≡ n * sample_len h.kind → StandsAt file bytes (spot_place h band x y) → map (strided_at (plain_of h) bytes) (range_with_len 0 n) ≡ spots_from h file band x y n
run_stands h file bytes band x y n len stands =
    fill_by_all (λ i. spot_at h file band (x + i) y) (map (strided_at (plain_of h) bytes) (range_with_len 0 n)) n (pos 0) (length-map-range_with_len (strided_at (plain_of h) bytes) 0 n)
    (λ k below. get_or-map-range_with_len (strided_at (plain_of h) bytes) 0 n k k (pos 0) below (zero-add k) ∙ spot_stands h file bytes band x y n k len below stands)

-- a piece of a line that was written
module _ (h : Head) (band x y n : ℕ) (b ys : List ℕ) (is : IsHead h) (has_band : band < planes_of h) (some : 0 < n) (spots : x + n ≤ spots_of h) (has_line : y < h.size.h) (long : length b ≡ needed_of h) (len : length ys ≡ n * sample_len h.kind) where
  within : spot_place h band x y + length ys ≤ length b
  within = let p = run_within h band x y n is has_band some spots has_line in omega arith

  -- no byte of another sample is in the piece
  none_inside : (k u v i : ℕ) → IsLineSpot h k u v → (IsInRun band y x n k u v → ⊥) → i < sample_len h.kind → spot_place h band x y ≤ spot_place h k u v + i → spot_place h k u v + i < spot_place h band x y + length ys → ⊥
  none_inside k u v i place apart_from less low high =
      let s : ℕ = sample_len h.kind in
      let q : ℕ = spot_place h k u v + i - spot_place h band x y in
      let parts = div-add-mod' (spot_place h k u v + i - spot_place h band x y) (sample_len h.kind) in
      let rest = mod_below (spot_place h k u v + i - spot_place h band x y) (sample_len h.kind) (omega arith) in
      let number = div_below (spot_place h k u v + i - spot_place h band x y) (sample_len h.kind) n (omega arith) (omega arith) in
      let c : ℕ = (spot_place h k u v + i - spot_place h band x y) / sample_len h.kind in
      let there = behind h band x y ((spot_place h k u v + i - spot_place h band x y) / sample_len h.kind) in
      let same = spots_apart h band (x + (spot_place h k u v + i - spot_place h band x y) / sample_len h.kind) y k u v is (record { band = has_band; spot = omega arith; line = has_line }) place (omega arith) (omega arith) in
      let column = same.column in
      apart_from (record { band_is = sym same.band; line_is = sym same.line; left = omega arith; right = omega arith })

  other_byte : (k u v i : ℕ) → IsLineSpot h k u v → (IsInRun band y x n k u v → ⊥) → i < sample_len h.kind → get_or (put_at (spot_place h band x y) ys b) (spot_place h k u v + i) 0 ≡ get_or b (spot_place h k u v + i) 0
  other_byte k u v i place apart_from less =
      ⊎_elim
      (λ (low : spot_place h k u v + i < spot_place h band x y). put_below (spot_place h band x y) ys b within (spot_place h k u v + i) low)
      (λ (from : spot_place h band x y ≤ spot_place h k u v + i).
      ⊎_elim
      (λ (inside : spot_place h k u v + i < spot_place h band x y + length ys). absurd (none_inside k u v i place apart_from less from inside))
      (λ (past : spot_place h band x y + length ys ≤ spot_place h k u v + i). put_past (spot_place h band x y) ys b within (spot_place h k u v + i) past)
      (cases_lt (spot_place h k u v + i) (spot_place h band x y + length ys)))
      (cases_lt (spot_place h k u v + i) (spot_place h band x y))

  pub piece_written : (line xs : List ℤ) → AreBytes ys → xs ≡ take n (drop x line) → map (strided_at (plain_of h) ys) (range_with_len 0 n) ≡ xs → IsRunWritten h band y x n line b (put_at (spot_place h band x y) ys b)
  piece_written line xs bytes part encoded = record {
    len = put_len (spot_place h band x y) ys b within;
    small = λ old. put_small (spot_place h band x y) ys b within old bytes;
    here = λ u low high. (
        let i : ℕ = u - x in
        let below : u - x < n = omega arith in
        let e : x + (u - x) ≡ u = omega arith in
        ap (λ c. spot_at h (put_at (spot_place h band x y) ys b) band c y) (sym e)
        ∙ sym (spot_stands h (put_at (spot_place h band x y) ys b) ys band x y n (u - x) len below (put_stands (spot_place h band x y) ys b within))
        ∙ sym (get_or-map-range_with_len (strided_at (plain_of h) ys) 0 n (u - x) (u - x) (pos 0) below (zero-add (u - x)))
        ∙ ap (λ (l : List ℤ). get_or l (u - x) (pos 0)) (encoded ∙ part)
        ∙ get_or-take n (drop x line) (u - x) (pos 0) below
        ∙ get_or-drop x line (u - x) (pos 0)
        ∙ ap (λ m. get_or line m (pos 0)) e
        );
    others = λ k u v place apart_from. same_sample h b (put_at (spot_place h band x y) ys b) (spot_place h k u v) (let last = spot_ends h k u v is place in omega arith) (put_len (spot_place h band x y) ys b within) (λ i less. other_byte k u v i place apart_from less);
  }

-- no piece is written
pub none_written : (h : Head) (band y n : ℕ) (line : List ℤ) (b : List ℕ) → n ≡ 0 → IsRunWritten h band y 0 n line b b
none_written h band y n line b none = record {
  len = refl;
  small = λ old. old;
  here = λ u low high. absurd (omega arith);
  others = λ k u v place apart_from. refl;
}

-- one more piece is written
pub runs_more : (h : Head) (band y x n m : ℕ) (line : List ℤ) (b c d : List ℕ) → band < planes_of h → y < h.size.h → x ≤ spots_of h → m ≡ x + n → IsRunWritten h band y 0 x line b c → IsRunWritten h band y x n line c d → IsRunWritten h band y 0 m line b d
runs_more h band y x n m line b c d has_band has_line within all first second = record {
  len = second.len ∙ first.len;
  small = λ old. second.small (first.small old);
  here = λ u low high. ⊎_elim
      (λ (earlier : u < x). second.others band u y (record { band = has_band; spot = omega arith; line = has_line }) (λ i. let l = i.left in absurd (omega arith)) ∙ first.here u low (omega arith))
      (λ (late : x ≤ u). second.here u late (omega arith))
      (cases_lt u x);
  others = λ k u v place apart_from. second.others k u v place (λ i. apart_from (record { band_is = i.band_is; line_is = i.line_is; left = omega arith; right = let r = i.right in omega arith }))
      ∙ first.others k u v place (λ i. apart_from (record { band_is = i.band_is; line_is = i.line_is; left = i.left; right = let r = i.right in omega arith }));
}

pub pieces_more : (h : Head) (band y step piece n : ℕ) (line : List ℤ) (b c d : List ℕ) → 0 < step → 0 < spots_of h → band < planes_of h → y < h.size.h → piece < steps_over step (spots_of h) → n ≡ min step (spots_of h - piece * step)
    → IsRunWritten h band y 0 (min (piece * step) (spots_of h)) line b c → IsRunWritten h band y (piece * step) n line c d → IsRunWritten h band y 0 (min ((piece + 1) * step) (spots_of h)) line b d
pieces_more h band y step piece n line b c d some has_spots has_band has_line below is first second =
    let within = step_within (spots_of h) step piece some has_spots below in
    let e : (piece + 1) * step ≡ piece * step + step = grind arith in
    let start : min (piece * step) (spots_of h) ≡ piece * step = omega arith in
    runs_more h band y (piece * step) n (min ((piece + 1) * step) (spots_of h)) line b c d has_band has_line (omega arith) (omega arith) (subst (λ k. IsRunWritten h band y 0 k line b c) start first) second

pub pieces_done : (h : Head) (band y step piece : ℕ) (line : List ℤ) (b c : List ℕ) → 0 < step → steps_over step (spots_of h) ≤ piece → IsRunWritten h band y 0 (min (piece * step) (spots_of h)) line b c → IsRunWritten h band y 0 (spots_of h) line b c
pieces_done h band y step piece line b c some above written =
    let all : steps_over step (spots_of h) * step ≤ piece * step = mul-le-mul_right step above in
    let r = reach (spots_of h) step some in
    let whole : min (piece * step) (spots_of h) ≡ spots_of h = omega arith in
    subst (λ k. IsRunWritten h band y 0 k line b c) whole written

-- the first n samples of a block are those of f
abbrev pub AreRead : (ℕ → ℤ) → ℕ → List ℤ → Type 0
AreRead f n samples = (k : ℕ) → k < n → get_or samples k (pos 0) ≡ f k

-- one more piece is read
read_more : (f : ℕ → ℤ) (at n : ℕ) (old : List ℤ) → at + n ≤ length old → AreRead f at old → AreRead f (at + n) (written at (map (λ i. f (at + i)) (range_with_len 0 n)) old)
read_more f at n old within so_far k below =
    let len = length-map-range_with_len (λ i. f (at + i)) 0 n in
    ⊎_elim (λ (earlier : k < at). written_below at (map (λ i. f (at + i)) (range_with_len 0 n)) old k (omega arith) earlier ∙ so_far k earlier)
    (λ (here : at ≤ k).
    (let e : at + (k - at) ≡ k = omega arith in
    written_here at (map (λ i. f (at + i)) (range_with_len 0 n)) old k (omega arith) here (omega arith)
    ∙ get_or-map-range_with_len (λ i. f (at + i)) 0 n (k - at) (k - at) (pos 0) (omega arith) (zero-add (k - at))
    ∙ ap f e))
    (cases_lt k at)

pub piece_read : (f : ℕ → ℤ) (w step piece n : ℕ) (old new : List ℤ) → 0 < step → 0 < w → length old ≡ w → piece < steps_over step w → n ≡ min step (w - piece * step)
    → new ≡ written (piece * step) (map (λ i. f (piece * step + i)) (range_with_len 0 n)) old → AreRead f (min (piece * step) w) old → AreRead f (min ((piece + 1) * step) w) new
piece_read f w step piece n old new some wide len below is made so_far =
    let within = step_within w step piece some wide below in
    let e : (piece + 1) * step ≡ piece * step + step = grind arith in
    let start : min (piece * step) w ≡ piece * step = omega arith in
    let end : min ((piece + 1) * step) w ≡ piece * step + n = omega arith in
    let more = read_more f (piece * step) n old (omega arith) (λ k less. so_far k (omega (arith, start))) in
    λ k less. ap (λ (l : List ℤ). get_or l k (pos 0)) made ∙ more k (omega (arith, end))

-- all pieces are read
pub pieces_read : (f : ℕ → ℤ) (w step piece : ℕ) (samples : List ℤ) → 0 < step → length samples ≡ w → steps_over step w ≤ piece → AreRead f (min (piece * step) w) samples → samples ≡ map (λ i. f (0 + i)) (range_with_len 0 w)
pieces_read f w step piece samples some len above is =
    let all : steps_over step w * step ≤ piece * step = mul-le-mul_right step above in
    let r = reach w step some in
    let whole : min (piece * step) w ≡ w = omega arith in
    fill_by_all (λ i. f (0 + i)) samples w (pos 0) len (λ k below. is k (omega (arith, whole)) ∙ ap f (sym (zero-add k)))
