-- What a record of a cell is as a block.
use Rattle.std.proofs.Common.{◌≡◌, ℕ, suc, ℤ, pos, ◌+◌, ◌-◌, ◌*◌, ◌<◌, ◌≤◌, ◌⊎◌, inl, inr, ⊎_elim, true, List, [], ◌∷◌, ◌++◌, get_or, length, map, take, drop, replicate, sym, ap, ◌∙◌, subst, refl, arith, zero-add, length-append}
use Rattle.std.specs.Prelude.{Option, Some, Result, Ok, Err, OnOk}
use Rattle.std.specs.List.{All, range_with_len, sum}
use Rattle.std.proofs.lemmas.Bool.{cases_lt}
use Rattle.std.proofs.lemmas.List.FromFn.{fill_by_all, length-map-range_with_len, get_or-map-range_with_len}
use Rattle.std.proofs.Math.Nat.{mul-le-mul_right}
use Rattle.byteorder.specs.Endian.{big_bytes, big_number}
use Rattle.outside.specs.Outside.{put_at, Written}
use Rattle.dted_records.specs.Head.{Head, part}
use Rattle.dted_records.specs.Places.{record_len, record_of}
use Rattle.dted_records.specs.Places as places
use Rattle.dted_records.specs.Records.{elevation, elevation_in, two_at, point_place_of, dted_at, column_of}
use Rattle.lists_and_answers.specs.Places as records
use Rattle.dted_records.proofs.Columns.{column_stands}
use Rattle.band_blocks.specs.declared.key.BlockKey.{BlockKey}
use Rattle.band_blocks.specs.Blocks.{BlockView}
use Rattle.write_back.specs.declared.forms.Writer.{Writer}
use Rattle.write_back.specs.declared.forms.Writer.TheVariants.{Dted}
use Rattle.dted_records.specs.Written.{record_bytes, summed_bytes}
use Rattle.dted_records.proofs.Encoded.{record_again}
use Rattle.write_back.specs.Columns.{Cell, is_elevation, IsBegun, IsCell}
use Rattle.write_back.specs.Forms.{needed_of}
use Rattle.write_back.specs.Spots.{IsSpot}
use Rattle.write_back.specs.Overlay.{line_key, IsLine}
use Rattle.write_back.specs.Stores.{IsBlockWritten}
use Rattle.write_back.specs.Pieces.{AreBytes}
use Rattle.write_back.proofs.Blocks.{other_block, part_apart, range_same}
use Rattle.write_back.proofs.RecordBytes.{elevations_of, record_size}
use Rattle.write_back.proofs.Runs.{put_len, put_small, put_stands, put_here, put_below, put_past}

-- a record lies before each later one
pub record_before : (h : Head) (v x : ℕ) → v < x → record_of h v + record_len h ≤ record_of h x
record_before h v x less =
    let big : suc v * record_len h ≤ x * record_len h = mul-le-mul_right (record_len h) less in
    let e : suc v * record_len h ≡ v * record_len h + record_len h = grind arith in
    omega arith

-- the record of a column that was written
module _ (c : Cell) (key : BlockKey) (samples : List ℤ) (b : List ℕ) (file : key.dataset ≡ 0) (band : key.band < 1) (line : key.block < c.head.lines) (count : length samples ≡ c.head.points) (range : All (λ n. is_elevation n ≡ true) samples)
    (small : AreBytes (record_bytes key.block samples)) (long : length b ≡ places.needed_of c.head) where
  size : length (record_bytes key.block samples) ≡ record_len c.head
  size = record_size key.block samples ∙ ap (λ n. 12 + 2 * n) count

  within : record_of c.head key.block + length (record_bytes key.block samples) ≤ length b
  within = let s = size in let m = record_before c.head key.block c.head.lines line in omega arith

  stands : records.StandsAt (put_at (record_of c.head key.block) (record_bytes key.block samples) b) (record_bytes key.block samples) (record_of c.head key.block)
  stands = put_stands (record_of c.head key.block) (record_bytes key.block samples) b within

  here : (u : ℕ) → u < c.head.points → dted_at c.head (put_at (record_of c.head key.block) (record_bytes key.block samples) b) key.block u ≡ get_or samples u (pos 0)
  here u less =
      let file_bytes : List ℕ = put_at (record_of c.head key.block) (record_bytes key.block samples) b in
      let all = column_stands c.head (put_at (record_of c.head key.block) (record_bytes key.block samples) b) (record_bytes key.block samples) key.block size stands in
      sym (get_or-map-range_with_len (λ y. dted_at c.head (put_at (record_of c.head key.block) (record_bytes key.block samples) b) key.block y) 0 c.head.points u u (pos 0) less (zero-add u))
      ∙ ap (λ (l : List ℤ). get_or l u (pos 0)) (sym all)
      ∙ ap (λ (l : List ℤ). get_or l u (pos 0)) (record_again c.head samples key.block (big_bytes 4 (sum (summed_bytes key.block samples))) (sym count) (elevations_of samples range))

  -- bytes of another record, and of the front
  beside : (x n p : ℕ) → x < c.head.lines → (x ≡ key.block → ⊥) → record_of c.head x ≤ p → p + n ≤ record_of c.head x + record_len c.head → (p + n ≤ record_of c.head key.block) ⊎ (record_of c.head key.block + length (record_bytes key.block samples) ≤ p)
  beside x n p less other low high =
      let s = size in
      ⊎_elim (λ (before : x < key.block). inl (let a = record_before c.head x key.block before in omega arith))
      (λ (from : key.block ≤ x). ⊎_elim (λ (behind : key.block < x). inr (let a = record_before c.head key.block x behind in omega arith))
      (λ (same : x ≤ key.block). absurd (other (omega arith)))
      (cases_lt key.block x))
      (cases_lt x key.block)

  other_part : (x n p : ℕ) → x < c.head.lines → (x ≡ key.block → ⊥) → record_of c.head x ≤ p → p + n ≤ record_of c.head x + record_len c.head → take n (drop p (put_at (record_of c.head key.block) (record_bytes key.block samples) b)) ≡ take n (drop p b)
  other_part x n p less other low high =
      let m = record_before c.head x c.head.lines less in
      part_apart n p (record_of c.head key.block) (record_bytes key.block samples) b within (omega arith) (beside x n p less other low high)

  other_point : (x y : ℕ) → x < c.head.lines → y < c.head.points → (x ≡ key.block → ⊥) → dted_at c.head (put_at (record_of c.head key.block) (record_bytes key.block samples) b) x y ≡ dted_at c.head b x y
  other_point x y less row other = ap (λ (l : List ℕ). elevation (big_number 2 l)) (other_part x 2 (record_of c.head x + point_place_of c.head y) less other (omega arith) (omega arith))

  other_first : (x : ℕ) → x < c.head.lines → (x ≡ key.block → ⊥) → get_or (put_at (record_of c.head key.block) (record_bytes key.block samples) b) (record_of c.head x) 0 ≡ get_or b (record_of c.head x) 0
  other_first x less other = ⊎_elim
      (λ (before : record_of c.head x + 1 ≤ record_of c.head key.block). put_below (record_of c.head key.block) (record_bytes key.block samples) b within (record_of c.head x) (omega arith))
      (λ (past : record_of c.head key.block + length (record_bytes key.block samples) ≤ record_of c.head x). put_past (record_of c.head key.block) (record_bytes key.block samples) b within (record_of c.head x) past)
      (beside x 1 (record_of c.head x) less other (omega arith) (omega arith))

  begun : IsBegun c.head (put_at (record_of c.head key.block) (record_bytes key.block samples) b) key.block
  begun = let s = size in
      put_here (record_of c.head key.block) (record_bytes key.block samples) b within (record_of c.head key.block) (omega arith) (omega arith)
      ∙ ap (λ n. get_or (record_bytes key.block samples) n 0) (let e : record_of c.head key.block - record_of c.head key.block ≡ 0 = omega arith in e)

  same_column : column_of c.head (put_at (record_of c.head key.block) (record_bytes key.block samples) b) key.block ≡ samples
  same_column = sym (fill_by_all (λ y. dted_at c.head (put_at (record_of c.head key.block) (record_bytes key.block samples) b) key.block y) samples c.head.points (pos 0) count (λ k below. sym (here k below)))

  cases_of : (x : ℕ) → (x ≡ key.block) ⊎ (x ≡ key.block → ⊥)
  cases_of x = ⊎_elim (λ (before : x < key.block). inr (λ same. absurd (omega arith)))
      (λ (from : key.block ≤ x). ⊎_elim (λ (behind : key.block < x). inr (λ same. absurd (omega arith))) (λ (same : x ≤ key.block). inl (omega arith)) (cases_lt key.block x))
      (cases_lt x key.block)

  whole : IsCell c b → (x : ℕ) → x < c.head.lines → IsBegun c.head (put_at (record_of c.head key.block) (record_bytes key.block samples) b) x
      → part (record_of c.head x) (record_len c.head) (put_at (record_of c.head key.block) (record_bytes key.block samples) b) ≡ record_bytes x (column_of c.head (put_at (record_of c.head key.block) (record_bytes key.block samples) b) x)
  whole old x less is = ⊎_elim
      (λ (same : x ≡ key.block).
      let now : part (record_of c.head key.block) (record_len c.head) (put_at (record_of c.head key.block) (record_bytes key.block samples) b) ≡ record_bytes key.block (column_of c.head (put_at (record_of c.head key.block) (record_bytes key.block samples) b) key.block) =
      ap (λ n. part (record_of c.head key.block) n (put_at (record_of c.head key.block) (record_bytes key.block samples) b)) (sym size) ∙ sym stands ∙ ap (record_bytes key.block) (sym same_column) in
      subst (λ v. part (record_of c.head v) (record_len c.head) (put_at (record_of c.head key.block) (record_bytes key.block samples) b) ≡ record_bytes v (column_of c.head (put_at (record_of c.head key.block) (record_bytes key.block samples) b) v)) (sym same) now)
      (λ (other : x ≡ key.block → ⊥).
      other_part x (record_len c.head) (record_of c.head x) less other (omega arith) (omega arith)
      ∙ old.whole x less (sym (other_first x less other) ∙ is)
      ∙ ap (record_bytes x) (range_same (λ y. dted_at c.head b x y) (λ y. dted_at c.head (put_at (record_of c.head key.block) (record_bytes key.block samples) b) x y) c.head.points (λ y row. sym (other_point x y less row other))))
      (cases_of x)

  zeros : IsCell c b → (x y : ℕ) → x < c.head.lines → y < c.head.points → (IsBegun c.head (put_at (record_of c.head key.block) (record_bytes key.block samples) b) x → ⊥) → dted_at c.head (put_at (record_of c.head key.block) (record_bytes key.block samples) b) x y ≡ pos 0
  zeros old x y less row none = ⊎_elim
      (λ (same : x ≡ key.block). absurd (none (subst (IsBegun c.head (put_at (record_of c.head key.block) (record_bytes key.block samples) b)) (sym same) begun)))
      (λ (other : x ≡ key.block → ⊥). other_point x y less row other ∙ old.zeros x y less row (λ was. none (other_first x less other ∙ was)))
      (cases_of x)

  front : IsCell c b → take (record_of c.head 0) (put_at (record_of c.head key.block) (record_bytes key.block samples) b) ≡ c.front
  front old =
      let m : record_of c.head 0 ≤ record_of c.head key.block = omega arith in
      let w = within in
      part_apart (record_of c.head 0) 0 (record_of c.head key.block) (record_bytes key.block samples) b within (omega arith) (inl (omega arith)) ∙ old.front

  pub cell_written : IsBlockWritten (Dted c) key samples b (put_at (record_of c.head key.block) (record_bytes key.block samples) b)
  cell_written = record {
    len = put_len (record_of c.head key.block) (record_bytes key.block samples) b within;
    formed = λ old. record {
      small = put_small (record_of c.head key.block) (record_bytes key.block samples) b within old.small small;
      front = front old;
      whole = whole old;
      zeros = zeros old;
    };
    here = here;
    others = λ k u v spot other. other_point v u spot.block spot.spot (other_block key k v file band spot.band other);
    met = begun;
    stays = λ v less was. ⊎_elim (λ (same : v ≡ key.block). subst (IsBegun c.head (put_at (record_of c.head key.block) (record_bytes key.block samples) b)) (sym same) begun) (λ (other : v ≡ key.block → ⊥). other_first v less other ∙ was) (cases_of v);
  }

module _ {E : Type 0} (c : Cell) (key : BlockKey) (block : BlockView) (old new : Option (List ℕ)) (small : AreBytes (record_bytes key.block block.samples)) where
  cell_done : (r : Result (Unit {0}) E) → IsLine (Dted c) key block → OnOk r (Written (record_of c.head key.block) (record_bytes key.block block.samples) old new)
      → OnOk r ((b : List ℕ) → old ≡ Some b → length b ≡ needed_of (Dted c) → (d : List ℕ) × (new ≡ Some d) × IsBlockWritten (Dted c) key block.samples b d)
  cell_done (Err e) line put = put
  cell_done (Ok x) line put = λ b told long. (put_at (record_of c.head key.block) (record_bytes key.block block.samples) b, put b told, cell_written c key block.samples b line.dataset_is line.band line.line line.count line.range small long)

  pub cell_block : (w : Writer) (r : Result (Unit {0}) E) → w ≡ Dted c → IsLine w key block → OnOk r (Written (record_of c.head key.block) (record_bytes key.block block.samples) old new)
      → OnOk r ((b : List ℕ) → old ≡ Some b → length b ≡ needed_of w → (d : List ℕ) × (new ≡ Some d) × IsBlockWritten w key block.samples b d)
  cell_block w r is line put = subst (λ v. OnOk r ((b : List ℕ) → old ≡ Some b → length b ≡ needed_of v → (d : List ℕ) × (new ≡ Some d) × IsBlockWritten v key block.samples b d)) (sym is) (cell_done r (subst (λ v. IsLine v key block) is line) put)
