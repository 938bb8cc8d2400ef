-- The head of a cell stands in front of its records.
use Rattle.std.proofs.Common.{◌≡◌, ℕ, zero, suc, ◌+◌, ◌-◌, ◌*◌, ◌≤◌, ℤ, List, length, take, drop, min, Result, Ok, Err, refl, sym, ap, ◌∙◌, arith}
use Rattle.std.specs.Prelude.{nat_le, ◌==◌, codes}
use Rattle.std.specs.Cmp.Lexicographic.{pointwise}
use Rattle.std.proofs.lemmas.Bool.Decides.{nat_tests}
use Rattle.std.proofs.lemmas.List.{drop-take, take-take, length-take}
use Rattle.lists_and_answers.specs.Answers.{◌>>=◌, wants}
use Rattle.dted_records.specs.declared.head.DtedFault.{DtedFault}
use Rattle.dted_records.specs.declared.head.DtedFault.TheVariants.{NotDted, Short}
use Rattle.dted_records.specs.Head.{Head, part, begins, positive_in, angle_in, east, west, north, south, is_leading, leading, fields_in, head_in, dted_head}
use Rattle.dted_records.proofs.Front.{head_same}

long_same : (k n : ℕ) (b : List ℕ) → k ≤ n → nat_le k (length (take n b)) ≡ nat_le k (length b)
long_same k n b h = ap (nat_le k) (length-take n b) ∙ min_same k n (length b) h
  where
    min_same : (k n l : ℕ) → k ≤ n → nat_le k (min n l) ≡ nat_le k l
    min_same k n l h = grind (arith, nat_tests)

begins_same : (w : List ℕ) (n : ℕ) (b : List ℕ) → length w ≤ n → begins (take n b) w ≡ begins b w
begins_same w n b h = ap (pointwise (λ x y. x == y) w) (take-take (length w) n b h)

behind_same : (at n : ℕ) (b : List ℕ) → at ≤ n → drop at (take n b) ≡ take (n - at) (drop at b)
behind_same at n b h = ap (λ k. drop at (take k b)) (omega arith) ∙ drop-take at (n - at) b

is_leading_same : (n : ℕ) (b : List ℕ) → 80 ≤ n → is_leading (take n b) ≡ is_leading b
is_leading_same n b h = rw (long_same 80 n b h, begins_same (codes "VOL") n b (omega arith), begins_same (codes "HDR") n b (omega arith)) refl

leading_same : (most n : ℕ) (b : List ℕ) → 80 * most ≤ n → leading most (take n b) ≡ leading most b
unfolding leading
leading_same zero n b h = refl
leading_same (suc most) n b h =
    let rest : leading most (drop 80 (take n b)) ≡ leading most (drop 80 b) = ap (leading most) (behind_same 80 n b (omega arith)) ∙ leading_same most (n - 80) (drop 80 b) (omega arith) in
    rw (is_leading_same n b (omega arith), rest) refl

-- a file whose leading records have this length has its head in the bytes up to the first record
front_same : (skip : ℕ) (file : List ℕ) → leading 8 file ≡ skip → dted_head (take (skip + 3428) file) ≡ dted_head file
unfolding dted_head
front_same skip file is =
    let front : leading 8 (take (skip + 3428) file) ≡ leading 8 file = leading_same 8 (skip + 3428) file (omega arith) in
    let room : skip + 3428 - leading 8 file ≡ 3428 = omega arith in
    rw front (ap (head_in (leading 8 file)) (behind_same (leading 8 file) (skip + 3428) file (omega arith)) ∙ head_same (leading 8 file) (skip + 3428 - leading 8 file) (drop (leading 8 file) file) (omega arith))

abbrev skip_of : Result Head DtedFault → ℕ
skip_of (Ok k) = k.skip
skip_of (Err f) = 0

-- the head that fields give has the leading records that it was given
fields_by : (skip : ℕ) (a b : Result ℤ DtedFault) (c d e f : Result ℕ DtedFault) (h : Head) → (a >>= λ lon. b >>= λ lat. c >>= λ lon_step. d >>= λ lat_step. e >>= λ lines. f >>= λ points. Ok (record { skip = skip; lon = lon; lat = lat; lon_step = lon_step; lat_step = lat_step; lines = lines; points = points })) ≡ Ok h → skip ≡ h.skip
fields_by skip (Err x) b c d e f h is = absurd cc
fields_by skip (Ok lon) (Err x) c d e f h is = absurd cc
fields_by skip (Ok lon) (Ok lat) (Err x) d e f h is = absurd cc
fields_by skip (Ok lon) (Ok lat) (Ok i) (Err x) e f h is = absurd cc
fields_by skip (Ok lon) (Ok lat) (Ok i) (Ok j) (Err x) f h is = absurd cc
fields_by skip (Ok lon) (Ok lat) (Ok i) (Ok j) (Ok lines) (Err x) h is = absurd cc
fields_by skip (Ok lon) (Ok lat) (Ok i) (Ok j) (Ok lines) (Ok points) h is = ap skip_of is

fields_skip : (skip : ℕ) (label : List ℕ) (h : Head) → fields_in skip label ≡ Ok h → skip ≡ h.skip
unfolding fields_in
fields_skip skip label h is = fields_by skip (angle_in east west 180 (part 4 8 label)) (angle_in north south 90 (part 12 8 label)) (positive_in (part 20 4 label)) (positive_in (part 24 4 label)) (positive_in (part 47 4 label)) (positive_in (part 51 4 label)) h is

-- the head is that of the fields
head_by : (a b : Result (Unit {0}) DtedFault) (q : Result Head DtedFault) (c d e : Result (Unit {0}) DtedFault) (h : Head) → (a >>= λ some. b >>= λ uhl. q >>= λ head. c >>= λ whole. d >>= λ dsi. e >>= λ acc. Ok head) ≡ Ok h → q ≡ Ok h
head_by (Err x) b q c d e h is = absurd cc
head_by (Ok t) (Err x) q c d e h is = absurd cc
head_by (Ok t) (Ok u) (Err x) c d e h is = absurd cc
head_by (Ok t) (Ok u) (Ok k) (Err x) d e h is = absurd cc
head_by (Ok t) (Ok u) (Ok k) (Ok v) (Err x) e h is = absurd cc
head_by (Ok t) (Ok u) (Ok k) (Ok v) (Ok w) (Err x) h is = absurd cc
head_by (Ok t) (Ok u) (Ok k) (Ok v) (Ok w) (Ok z) h is = is

head_skip : (skip : ℕ) (bytes : List ℕ) (h : Head) → head_in skip bytes ≡ Ok h → skip ≡ h.skip
unfolding head_in
head_skip skip bytes h is = fields_skip skip bytes h (head_by (wants (nat_le 80 (length bytes)) Short) (wants (begins bytes (codes "UHL1")) NotDted) (fields_in skip bytes) (wants (nat_le 3428 (length bytes)) Short) (wants (begins (drop 80 bytes) (codes "DSI")) NotDted) (wants (begins (drop 728 bytes) (codes "ACC")) NotDted) h is)

file_skip : (file : List ℕ) (h : Head) → dted_head file ≡ Ok h → leading 8 file ≡ h.skip
unfolding dted_head
file_skip file h is = head_skip (leading 8 file) (drop (leading 8 file) file) h is

-- a file whose bytes in front of the records are the same has the same head
pub head_stays : (file new : List ℕ) (h : Head) → take (h.skip + 3428) new ≡ take (h.skip + 3428) file → dted_head file ≡ Ok h → dted_head new ≡ Ok h
head_stays file new h same is =
    let skip : leading 8 file ≡ h.skip = file_skip file h is in
    let now : leading 8 new ≡ h.skip = sym (leading_same 8 (h.skip + 3428) new (omega arith)) ∙ ap (leading 8) same ∙ leading_same 8 (h.skip + 3428) file (omega arith) ∙ skip in
    sym (front_same h.skip new now) ∙ ap dted_head same ∙ front_same h.skip file skip ∙ is
