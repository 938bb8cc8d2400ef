-- Blocks that are packed into the bytes of an output.
use Rattle.std.proofs.Common.{◌≡◌, ◌∙◌, ap, sym, subst, refl, ℕ, suc, ℤ, pos, ◌+◌, ◌-◌, ◌*◌, ◌<◌, ◌≤◌, ⊎_elim, length, take, drop, get_or, map, List, ◌++◌, append_assoc, zero-add, arith}
use Rattle.std.specs.List.{range_with_len}
use Rattle.std.proofs.lemmas.Bool.{cases_lt}
use Rattle.std.proofs.lemmas.List.{drop-drop, length-drop, length-take-le, take_all, take_at}
use Rattle.std.proofs.lemmas.List.FromFn.{fill_by_all, get_or-map-range_with_len, length-map-range_with_len}
use Rattle.std.proofs.Math.Nat.{add-mul, mul-le-mul_right}
use borrow.Rule.Slice.PartMut.{mid_of, put_mid}
use Rattle.outside.specs.Outside.{put_at}
use Rattle.esri_hdr.specs.Head.{Head, sample_len}
use Rattle.interleaved_raw.specs.Raw.{number_in, sample_at, value_of, strided_at as sample_of}
use Rattle.hgt_tiles.specs.Samples.{row_bytes, row_of}
use Rattle.hgt_tiles.proofs.Rows.{row_again}
use Rattle.lists_and_answers.proofs.Stands.{stands-part}
use Rattle.band_blocks.specs.Blocks.{BlockView, block_view, samples_from, written}
use Rattle.band_blocks.proofs.Rows.{length-written}
use Rattle.write_back.specs.declared.forms.Writer.{Writer}
use Rattle.write_back.specs.declared.forms.Writer.TheVariants.{Raw, Hgt}
use Rattle.write_back.specs.Forms.{cut_of, AreHeld}
use Rattle.write_back.specs.Packed.{block_len, in_bytes}
use Rattle.write_back.specs.Pieces.{spots_of}
use Rattle.write_back.specs.Spots.{item_head, plain_of}
use Rattle.write_back.proofs.Lines.{written_below, written_here, written_past}
use Rattle.write_back.proofs.Runs.{put_below, put_len, put_past, put_stands, same_sample}
use Rattle.write_back.proofs.States.{whole_written}

-- a block over which as many samples as it has were written
pub block_is : (old new : BlockView) (samples : List ℤ) → new ≡ block_view old.kind (written 0 samples old.samples) → length old.samples ≤ length samples → new.samples ≡ samples
block_is old new samples is long = ap (λ (b : BlockView). b.samples) is ∙ sym (whole_written samples old.samples long)

pub lines_packed : (w : Writer) (h : Head) (bytes : List ℕ) (block samples : List ℤ) (n : ℕ) → Raw h ≡ w → n ≡ spots_of h → map (sample_of (plain_of h) bytes) (range_with_len 0 n) ≡ samples_from 0 n block → block ≡ samples → length samples ≡ (cut_of w).spots → in_bytes w bytes ≡ samples
lines_packed w h bytes block samples n is count encoded same size =
    let spots : length samples ≡ spots_of h = size ∙ ap (λ v. (cut_of v).spots) (sym is) in
    subst (λ v. in_bytes v bytes ≡ samples) is
    (ap (λ k. map (sample_of (plain_of h) bytes) (range_with_len 0 k)) (sym count) ∙ encoded ∙ ap (λ (l : List ℤ). take n l) same ∙ take_all n samples (omega arith))

pub tile_packed : (w : Writer) (side : ℕ) (bytes : List ℕ) (samples : List ℤ) → Hgt side ≡ w → bytes ≡ row_bytes samples → length samples ≡ (cut_of w).spots → AreHeld w samples → in_bytes w bytes ≡ samples
tile_packed w side bytes samples is encoded size range =
    let count : length samples ≡ side = size ∙ ap (λ v. (cut_of v).spots) (sym is) in
    subst (λ v. in_bytes v bytes ≡ samples) is
    (ap (λ l. row_of l side) encoded ∙ ap (λ n. row_of (row_bytes samples) n) (sym count) ∙ row_again samples (subst (λ v. AreHeld v samples) (sym is) range))

-- a part of a list of bytes, and the list with other bytes in its place
pub mid_length : (a n : ℕ) (xs : List ℕ) → a + n ≤ length xs → length (mid_of a n xs) ≡ n
mid_length a n xs fits = let d = length-drop a xs in length-take-le n (drop a xs) (omega arith)

mid_put : (a n : ℕ) (xs ys : List ℕ) → length ys ≡ n → put_mid a n xs ys ≡ put_at a ys xs
mid_put a n xs ys long =
    ap (λ (l : List ℕ). take a xs ++ (ys ++ l)) (drop-drop n a xs ∙ ap (λ m. drop (a + m) xs) (sym long))
    ∙ sym (append_assoc (take a xs) ys (drop (a + length ys) xs))

-- the first samples of a block that were written to it
pub front_is : (old new : BlockView) (samples : List ℤ) (n : ℕ) → new ≡ block_view old.kind (written 0 samples old.samples) → n ≡ length samples → samples_from 0 n new.samples ≡ samples
front_is old new samples n is count =
    ap (λ (b : BlockView). samples_from 0 n b.samples) is
    ∙ ap (λ m. take m (written 0 samples old.samples)) count
    ∙ take_at samples (drop (0 + length samples) old.samples) (length samples) refl

pub front_count : (old new : BlockView) (samples : List ℤ) → new ≡ block_view old.kind (written 0 samples old.samples) → length samples ≤ length old.samples → length new.samples ≡ length old.samples
front_count old new samples is room = ap (λ (b : BlockView). length b.samples) is ∙ length-written 0 samples old.samples (omega arith)

-- samples of a line end within its bytes
pub piece_fits : (x n count size : ℕ) → x + n ≤ count → x * size + n * size ≤ count * size
piece_fits x n count size inside = let more : (x + n) * size ≤ count * size = mul-le-mul_right size inside in let e = add-mul x n size in omega arith

-- the samples of a line, over whose bytes those of n samples were put
module _ (h : Head) (x n count : ℕ) (b ys : List ℕ) (a : ℕ) (at : a ≡ x * sample_len h.kind) (long : length ys ≡ n * sample_len h.kind) (inside : x + n ≤ count) (len : length b ≡ count * sample_len h.kind) where
  fits : a + length ys ≤ length b
  fits = let f = piece_fits x n count (sample_len h.kind) inside in omega arith

  ends : (k : ℕ) → k < count → k * sample_len h.kind + sample_len h.kind ≤ length b
  ends k less =
      let more : suc k * sample_len h.kind ≤ count * sample_len h.kind = mul-le-mul_right (sample_len h.kind) less in
      let e : suc k * sample_len h.kind ≡ k * sample_len h.kind + sample_len h.kind = grind arith in
      omega arith

  below : (k : ℕ) → k < x → sample_of (plain_of h) (put_at a ys b) k ≡ sample_of (plain_of h) b k
  below k less =
      let more : suc k * sample_len h.kind ≤ x * sample_len h.kind = mul-le-mul_right (sample_len h.kind) less in
      let e : suc k * sample_len h.kind ≡ k * sample_len h.kind + sample_len h.kind = grind arith in
      same_sample (plain_of h) b (put_at a ys b) (k * sample_len h.kind) (ends k (omega arith)) (put_len a ys b fits) (λ i small. (let few : i < sample_len h.kind = small in put_below a ys b fits (k * sample_len h.kind + i) (omega arith)))

  past : (k : ℕ) → x + n ≤ k → k < count → sample_of (plain_of h) (put_at a ys b) k ≡ sample_of (plain_of h) b k
  past k from less =
      let f = piece_fits x n k (sample_len h.kind) from in
      same_sample (plain_of h) b (put_at a ys b) (k * sample_len h.kind) (ends k less) (put_len a ys b fits) (λ i small. put_past a ys b fits (k * sample_len h.kind + i) (omega arith))

  here : (i : ℕ) → i < n → sample_of (plain_of h) (put_at a ys b) (x + i) ≡ sample_of (plain_of h) ys i
  here i less =
      let more : suc i * sample_len h.kind ≤ n * sample_len h.kind = mul-le-mul_right (sample_len h.kind) less in
      let e : suc i * sample_len h.kind ≡ i * sample_len h.kind + sample_len h.kind = grind arith in
      let f = add-mul x i (sample_len h.kind) in
      let place : a + i * sample_len h.kind ≡ (x + i) * sample_len h.kind = omega arith in
      sym (
      ap (λ (l : List ℕ). value_of h.kind (number_in h.big (sample_len h.kind) l)) (stands-part (put_at a ys b) ys a (i * sample_len h.kind) (sample_len h.kind) (omega arith) (put_stands a ys b fits))
      ∙ ap (λ m. sample_at (plain_of h) (drop m (put_at a ys b))) place
      )

  put_over : (samples old : List ℤ) → map (sample_of (plain_of h) ys) (range_with_len 0 n) ≡ samples → old ≡ map (sample_of (plain_of h) b) (range_with_len 0 count) → map (sample_of (plain_of h) (put_at a ys b)) (range_with_len 0 count) ≡ written x samples old
  put_over samples old held was =
      let part : length samples ≡ n = ap length (sym held) ∙ length-map-range_with_len (sample_of (plain_of h) ys) 0 n in
      let counted : length old ≡ count = ap length was ∙ length-map-range_with_len (sample_of (plain_of h) b) 0 count in
      let room : x + length samples ≤ length old = omega arith in
      let before = λ (k : ℕ) (less : k < count). ap (λ (l : List ℤ). get_or l k (pos 0)) was ∙ get_or-map-range_with_len (sample_of (plain_of h) b) 0 count k k (pos 0) less (zero-add k) in
      sym (fill_by_all (sample_of (plain_of h) (put_at a ys b)) (written x samples old) count (pos 0) (length-written x samples old room ∙ counted) (λ k less. ⊎_elim
      (λ (low : k < x). written_below x samples old k room low ∙ before k less ∙ sym (below k low))
      (λ (from : x ≤ k). ⊎_elim
      (λ (high : k < x + n).
      written_here x samples old k room from (omega arith)
      ∙ ap (λ (l : List ℤ). get_or l (k - x) (pos 0)) (sym held)
      ∙ get_or-map-range_with_len (sample_of (plain_of h) ys) 0 n (k - x) (k - x) (pos 0) (omega arith) (zero-add (k - x))
      ∙ sym (here (k - x) (omega arith))
      ∙ ap (sample_of (plain_of h) (put_at a ys b)) (let e : x + (k - x) ≡ k = omega arith in e))
      (λ (over : x + n ≤ k). written_past x samples old k room (omega arith) ∙ before k less ∙ sym (past k over less))
      (cases_lt k (x + n)))
      (cases_lt k x)))

-- the same, by the part of the bytes that was written
pub piece_over : (h : Head) (x n count a k : ℕ) (b ys : List ℕ) (samples : List ℤ) → a ≡ x * sample_len h.kind → k ≡ n * sample_len h.kind → length ys ≡ k → x + n ≤ count → length b ≡ count * sample_len h.kind → map (sample_of (plain_of h) ys) (range_with_len 0 n) ≡ samples
    → map (sample_of (plain_of h) (put_mid a k b ys)) (range_with_len 0 count) ≡ written x samples (map (sample_of (plain_of h) b) (range_with_len 0 count))
piece_over h x n count a k b ys samples at size long inside len held =
    ap (λ (c : List ℕ). map (sample_of (plain_of h) c) (range_with_len 0 count)) (mid_put a k b ys long)
    ∙ put_over h x n count b ys a at (long ∙ size) inside len samples (map (sample_of (plain_of h) b) (range_with_len 0 count)) held refl

-- what the packing of a piece says of a line
pub lines_pieced : (w : Writer) (h : Head) (x count : ℕ) (old new : List ℕ) (part samples : List ℤ) → Raw h ≡ w → part ≡ samples → length old ≡ block_len w → x + count ≤ (cut_of w).spots
    → ((n : ℕ) → length old ≡ n * sample_len h.kind → x + count ≤ n → map (sample_of (plain_of h) new) (range_with_len 0 n) ≡ written x part (map (sample_of (plain_of h) old) (range_with_len 0 n)))
    → in_bytes w new ≡ written x samples (in_bytes w old)
lines_pieced w h x count old new part samples is same long inside over =
    subst (λ v. in_bytes v new ≡ written x samples (in_bytes v old)) is
    (over (spots_of h) (long ∙ ap block_len (sym is)) (subst (λ v. x + count ≤ (cut_of v).spots) (sym is) inside) ∙ ap (λ l. written x l (map (sample_of (plain_of h) old) (range_with_len 0 (spots_of h)))) same)

pub tile_pieced : (w : Writer) (side x count : ℕ) (old new : List ℕ) (part samples : List ℤ) → Hgt side ≡ w → part ≡ samples → length old ≡ block_len w → x + count ≤ (cut_of w).spots
    → ((n : ℕ) → length old ≡ n * sample_len item_head.kind → x + count ≤ n → map (sample_of (plain_of item_head) new) (range_with_len 0 n) ≡ written x part (map (sample_of (plain_of item_head) old) (range_with_len 0 n)))
    → in_bytes w new ≡ written x samples (in_bytes w old)
tile_pieced w side x count old new part samples is same long inside over =
    let two : length old ≡ 2 * side = long ∙ ap block_len (sym is) in
    let turned : length old ≡ side * 2 = omega arith in
    let pieced : row_of new side ≡ written x part (row_of old side) = over side turned (subst (λ v. x + count ≤ (cut_of v).spots) (sym is) inside) in
    subst (λ v. in_bytes v new ≡ written x samples (in_bytes v old)) is (pieced ∙ ap (λ l. written x l (row_of old side)) same)
