-- The records of a cell's bytes.
use Rattle.std.proofs.Common.{◌≡◌, ℕ, zero, suc, ℤ, pos, ◌+◌, ◌-◌, ◌*◌, ◌/◌, ◌%◌, ◌<◌, ◌≤◌, ◌^◌, Bool, true, false, List, [], ◌∷◌, ◌++◌, length, map, take, drop, get_or, refl, sym, ap, ◌∙◌, subst, arith, zero-add, length-append}
use Rattle.std.specs.Prelude.{◌&&◌, ◌==◌, nat_le, reverse, Ok, codes}
use Rattle.std.specs.List.{All, flat_map, range_with_len, sum}
use Rattle.std.proofs.lemmas.Bool.Decides.{nat_tests}
use Rattle.std.proofs.lemmas.List.{take_at, drop_at, drop-drop, length-reverse, append-nil}
use Rattle.std.proofs.lemmas.List.FromFn.{length-map-range_with_len, get_or-map-range_with_len}
use Rattle.std.proofs.lemmas.List.Sums.{sum_by-append, sum_by-cons}
use Rattle.std.specs.Int.{byte_at}
use Rattle.byteorder.specs.Endian.{big_bytes, big_number}
use Rattle.byteorder.specs.Numbers.{big_number-reads_back, length-bytes_high_first}
use Rattle.dted_records.specs.Head as cells
use Rattle.dted_records.specs.Head.{part, dted_head, head_in, is_leading, leading}
use Rattle.dted_records.specs.Fit.{IsPlain}
use Rattle.dted_records.specs.Text.{head_text, label_text, dsi_text, acc_text}
use Rattle.dted_records.specs.Places.{record_len, record_of, needed_of}
use Rattle.dted_records.specs.Records.{column_of, dted_at, elevation_in, is_record, sum_in, summed}
use Rattle.dted_records.specs.Written.{IsElevation, bits_of, elevation_bytes, front_bytes, points_bytes, record_bytes, summed_bytes}
use Rattle.dted_records.proofs.Columns.{column_stands}
use Rattle.dted_records.proofs.Encoded.{elevation_bytes_len, record_again}
use Rattle.dted_records.proofs.Front.{head_same}
use Rattle.dted_records.proofs.HeadAgain.{head_again, head_len}
use Rattle.dted_records.proofs.Heads.{no_more}
use Rattle.write_back.specs.Columns.{Cell}
use Rattle.write_back.specs.Files.{column_at, cell_bytes}
use Rattle.write_back.proofs.Decoded.{all_made, made_at, piece, pieces_len}
use Rattle.write_back.proofs.RecordBytes.{record_size}

-- the sum of bytes
sum_two : (xs ys : List ℕ) → sum (xs ++ ys) ≡ sum xs + sum ys
sum_two xs ys = sum_by-append (λ x. x) xs ys

sum_high : (n x : ℕ) → sum (big_bytes n x) ≤ 255 * n
sum_high zero x = omega arith
sum_high (suc n) x = let e = sum_high n x in let c = sum_by-cons (λ b. b) (byte_at n x) (big_bytes n x) in let b = byte_small n x in omega arith
  where
    byte_small : (k x : ℕ) → byte_at k x < 256
    byte_small zero x = omega arith
    byte_small (suc k) x = omega arith

sum_points : (ns : List ℤ) → sum (flat_map elevation_bytes ns) ≤ 510 * length ns
sum_points [] = omega arith
sum_points (n ∷ ns) = let a = sum_two (elevation_bytes n) (flat_map elevation_bytes ns) in let b = sum_high 2 (bits_of n) in let c = sum_points ns in omega arith

sum_front : (line : ℕ) → sum (front_bytes line) ≤ 2040
sum_front line =
    let a = sum_two (170 ∷ big_bytes 3 line) (big_bytes 2 line ++ big_bytes 2 0) in
    let b = sum_two (big_bytes 2 line) (big_bytes 2 0) in
    let c = sum_high 3 line in
    let d = sum_high 2 line in
    let e = sum_high 2 0 in
    omega arith

sum_record : (line : ℕ) (samples : List ℤ) → length samples < 10000 → sum (summed_bytes line samples) < 256 ^ 4
sum_record line samples few =
    let a = sum_two (front_bytes line) (points_bytes samples) in
    let b = sum_front line in
    let c = sum_points (reverse samples) in
    let d : length (reverse samples) ≡ length samples = length-reverse samples in
    omega arith

-- a record that is written is whole
pub record_whole : (line : ℕ) (samples : List ℤ) → length samples < 10000 → is_record (record_bytes line samples) ≡ true
record_whole line samples few =
    let front : List ℕ = summed_bytes line samples in
    let last : List ℕ = big_bytes 4 (sum front) in
    let l4 : length last ≡ 4 = length-bytes_high_first 4 (sum front) in
    let cut : length (front ++ last) - 4 ≡ length front = (let e = length-append front last in omega arith) in
    let total : sum_in (front ++ last) ≡ sum front =
    ap (λ n. big_number 4 (drop n (front ++ last))) cut
    ∙ ap (big_number 4) (drop_at front last (length front) refl ∙ sym (append-nil last))
    ∙ big_number-reads_back 4 (sum front) [] (sum_record line samples few) in
    let before : summed (front ++ last) ≡ front = ap (λ n. take n (front ++ last)) cut ∙ take_at front last (length front) refl in
    ap (λ n. n == sum (summed (front ++ last))) total ∙ ap (λ l. sum front == sum l) before ∙ same (sum front)
  where
    same : (n : ℕ) → (n == n) ≡ true
    same n = grind (arith, nat_tests)

column_len : (samples : ℕ → ℕ → ℕ → ℤ) (h : cells.Head) (x : ℕ) → length (record_bytes x (column_at samples h.points x)) ≡ record_len h
column_len samples h x = record_size x (column_at samples h.points x) ∙ ap (λ n. 12 + 2 * n) (length-map-range_with_len (λ y. samples 0 x y) 0 h.points)

-- the record of a column
pub record_at : (c : Cell) (samples : ℕ → ℕ → ℕ → ℤ) (x : ℕ) → length c.front ≡ record_of c.head 0 → x < c.head.lines → part (record_of c.head x) (record_len c.head) (cell_bytes c samples) ≡ record_bytes x (column_at samples c.head.points x)
record_at c samples x long less =
    let f : ℕ → List ℕ = λ v. record_bytes v (column_at samples c.head.points v) in
    let rest : List ℕ = flat_map f (range_with_len 0 c.head.lines) in
    ap (λ n. take (record_len c.head) (drop n (c.front ++ rest))) (let e : record_of c.head x ≡ record_of c.head 0 + x * record_len c.head = omega arith in e)
    ∙ ap (take (record_len c.head)) (sym (drop-drop (x * record_len c.head) (record_of c.head 0) (c.front ++ rest)) ∙ ap (drop (x * record_len c.head)) (drop_at c.front rest (record_of c.head 0) long))
    ∙ piece (record_len c.head) f 0 c.head.lines x (λ v. column_len samples c.head v) less
    ∙ ap f (zero-add x)

pub cell_len : (c : Cell) (samples : ℕ → ℕ → ℕ → ℤ) → length c.front ≡ record_of c.head 0 → length (cell_bytes c samples) ≡ needed_of c.head
cell_len c samples long =
    length-append c.front (flat_map (λ v. record_bytes v (column_at samples c.head.points v)) (range_with_len 0 c.head.lines))
    ∙ (let a = pieces_len (record_len c.head) (λ v. record_bytes v (column_at samples c.head.points v)) 0 c.head.lines (λ v. column_len samples c.head v) in omega arith)

-- the bytes of a cell hold its samples
pub cell_sample : (c : Cell) (samples : ℕ → ℕ → ℕ → ℤ) (x y : ℕ) → length c.front ≡ record_of c.head 0 → x < c.head.lines → y < c.head.points → ((u v : ℕ) → u < c.head.lines → v < c.head.points → IsElevation (samples 0 u v)) → dted_at c.head (cell_bytes c samples) x y ≡ samples 0 x y
cell_sample c samples x y long column line within =
    let col : List ℤ = column_at samples c.head.points x in
    let bytes : List ℕ = record_bytes x col in
    let n : length col ≡ c.head.points = length-map-range_with_len (λ v. samples 0 x v) 0 c.head.points in
    let stands : bytes ≡ take (length bytes) (drop (record_of c.head x) (cell_bytes c samples)) = sym (ap (λ k. take k (drop (record_of c.head x) (cell_bytes c samples))) (column_len samples c.head x) ∙ record_at c samples x long column) in
    let read = record_again c.head col x (big_bytes 4 (sum (summed_bytes x col))) (sym n) (all_made IsElevation (λ v. samples 0 x v) c.head.points (λ v less. within x v column less)) in
    sym (made_at (λ v. dted_at c.head (cell_bytes c samples) x v) c.head.points y line)
    ∙ ap (λ (l : List ℤ). get_or l y (pos 0)) (sym (column_stands c.head (cell_bytes c samples) bytes x (column_len samples c.head x) stands) ∙ read)
    ∙ made_at (λ v. samples 0 x v) c.head.points y line

-- the head that is written in front is read as the head
none_leading : (h : cells.Head) (rest : List ℕ) → is_leading (head_text h ++ rest) ≡ false
unfolding head_text
none_leading h rest = and_false (nat_le 80 (length ((label_text h ++ (dsi_text h ++ acc_text)) ++ rest)))
  where
    and_false : (b : Bool) → b && false ≡ false
    and_false true = refl
    and_false false = refl

pub front_head : (h : cells.Head) (rest : List ℕ) → cells.IsHead h → IsPlain h → dted_head (head_text h ++ rest) ≡ Ok h
unfolding dted_head
front_head h rest is plain =
    let a : leading 8 (head_text h ++ rest) ≡ 0 = no_more 8 (head_text h ++ rest) (none_leading h rest) in
    let b : leading 8 (head_text h) ≡ 0 = no_more 8 (head_text h) (ap is_leading (sym (append-nil (head_text h))) ∙ none_leading h []) in
    ap (λ n. head_in n (drop n (head_text h ++ rest))) a
    ∙ sym (head_same 0 3428 (head_text h ++ rest) (omega arith))
    ∙ ap (head_in 0) (take_at (head_text h) rest 3428 (head_len h))
    ∙ ap (λ n. head_in n (drop n (head_text h))) (sym b)
    ∙ head_again h is plain
