-- What a line of raw data or of a tile is as a block.
use Rattle.std.proofs.Common.{◌≡◌, ℕ, suc, ℤ, pos, ◌+◌, ◌*◌, ◌<◌, ◌≤◌, ◌⊎◌, inl, inr, ⊎_elim, true, List, [], ◌∷◌, get_or, length, map, take, drop, sym, ap, ◌∙◌, subst, refl, arith, zero-add, length-append}
use Rattle.std.specs.Prelude.{Option, Some, Result, Ok, Err, OnOk}
use Rattle.std.specs.List.{All, list_all, range_with_len}
use Rattle.std.proofs.lemmas.List.Sums.{AllPass-from_list_all}
use Rattle.std.specs.Int.{w16, cast_signed}
use Rattle.std.proofs.lemmas.Bool.{cases_lt}
use Rattle.std.proofs.lemmas.List.{length-take-le, length-drop, get_or-take, get_or-drop, ext_get_or}
use Rattle.std.proofs.lemmas.List.FromFn.{fill_by_all, length-map-range_with_len, get_or-map-range_with_len}
use Rattle.std.proofs.Math.Nat.{mul-le-mul_right}
use Rattle.byteorder.specs.Endian.{big_number}
use Rattle.outside.specs.Outside.{put_at, Written}
use Rattle.geotransform.specs.Types.{is_in}
use Rattle.geotransform.specs.declared.types.PixelType.TheVariants.{Int16}
use Rattle.esri_hdr.specs.Head.{Head}
use Rattle.hgt_tiles.specs.Samples.{hgt_at, line_of, row_bytes, row_of, sample_bytes}
use Rattle.lists_and_answers.specs.Places.{StandsAt}
use Rattle.hgt_tiles.proofs.Rows.{row_again, row_stands, sample_bytes_len}
use Rattle.band_blocks.specs.declared.key.BlockKey.{BlockKey}
use Rattle.write_back.specs.declared.forms.Writer.{Writer}
use Rattle.write_back.specs.declared.forms.Writer.TheVariants.{Raw, Hgt}
use Rattle.band_blocks.specs.Blocks.{BlockView}
use Rattle.write_back.specs.Forms.{holds, needed_of, AreHeld, IsFormed}
use Rattle.write_back.specs.Spots.{IsSpot, spots_from, IsLineSpot, IsRunWritten}
use Rattle.write_back.specs.Overlay.{line_key, held_in, IsLine}
use Rattle.write_back.specs.Stores.{IsBlockWritten}
use Rattle.write_back.specs.Pieces.{spot_at, spots_of, AreBytes}
use Rattle.write_back.proofs.Lines.{line_is}
use Rattle.write_back.proofs.Runs.{put_len, put_small, put_stands, put_below, put_past}

pub range_same : (f g : ℕ → ℤ) (n : ℕ) → ((i : ℕ) → i < n → f i ≡ g i) → map f (range_with_len 0 n) ≡ map g (range_with_len 0 n)
range_same f g n same = fill_by_all g (map f (range_with_len 0 n)) n (pos 0) (length-map-range_with_len f 0 n) (λ k below. get_or-map-range_with_len f 0 n k k (pos 0) below (zero-add k) ∙ same k below)

pub line_spot : (h : Head) (k u v : ℕ) → IsSpot (Raw h) k u v → IsLineSpot h k u v
line_spot h k u v spot = record { band = spot.band; spot = spot.spot; line = spot.block }

-- a whole line that was written is a block that was written
pub raw_written : (h : Head) (key : BlockKey) (line : List ℤ) (b c : List ℕ) → key.dataset ≡ 0 → IsRunWritten h key.band key.block 0 (spots_of h) line b c → IsBlockWritten (Raw h) key line b c
raw_written h key line b c file put = record {
  len = put.len;
  formed = put.small;
  here = λ u less. put.here u (omega arith) (omega arith);
  others = λ k u v spot other. put.others k u v (line_spot h k u v spot) (λ i. other (ap (λ n. line_key n v) i.band_is ∙ ap (λ n. line_key key.band n) i.line_is ∙ line_is key file));
  met = tt;
  stays = λ v less was. tt;
}

module _ {E : Type 0} (h : Head) (key : BlockKey) (block : BlockView) (old new : Option (List ℕ)) where
  raw_done : (r : Result (Unit {0}) E) → IsLine (Raw h) key block
      → OnOk r ((b : List ℕ) → old ≡ Some b → length b ≡ needed_of (Raw h) → (c : List ℕ) × (new ≡ Some c) × IsRunWritten h key.band key.block 0 (spots_of h) block.samples b c)
      → OnOk r ((b : List ℕ) → old ≡ Some b → length b ≡ needed_of (Raw h) → IsFormed (Raw h) b → (c : List ℕ) × (new ≡ Some c) × IsBlockWritten (Raw h) key block.samples b c)
  raw_done (Err e) line put = put
  raw_done (Ok x) line put = λ b told long formed. (let now = put b told long in (now.0, now.1, raw_written h key block.samples b now.0 line.dataset_is now.2))

  pub raw_block : (w : Writer) (r : Result (Unit {0}) E) → w ≡ Raw h → IsLine w key block
      → OnOk r ((b : List ℕ) → old ≡ Some b → length b ≡ needed_of (Raw h) → (c : List ℕ) × (new ≡ Some c) × IsRunWritten h key.band key.block 0 (spots_of h) block.samples b c)
      → OnOk r ((b : List ℕ) → old ≡ Some b → length b ≡ needed_of w → IsFormed w b → (c : List ℕ) × (new ≡ Some c) × IsBlockWritten w key block.samples b c)
  raw_block w r is line put = subst (λ v. OnOk r ((b : List ℕ) → old ≡ Some b → length b ≡ needed_of v → IsFormed v b → (c : List ℕ) × (new ≡ Some c) × IsBlockWritten v key block.samples b c)) (sym is)
      (raw_done r (subst (λ v. IsLine v key block) is line) put)

pub raw_row : (h : Head) (b : List ℕ) (band y : ℕ) → spots_from h b band 0 y (spots_of h) ≡ held_in (Raw h) b band y
raw_row h b band y = range_same (λ i. spot_at h b band (0 + i) y) (λ i. spot_at h b band i y) (spots_of h) (λ i less. ap (λ j. spot_at h b band j y) (zero-add i))

-- a part whose bytes are the same
pub same_part : (n p : ℕ) (b c : List ℕ) → p + n ≤ length b → length c ≡ length b → ((i : ℕ) → i < n → get_or c (p + i) 0 ≡ get_or b (p + i) 0) → take n (drop p c) ≡ take n (drop p b)
same_part n p b c within len same =
    let lb : length (take n (drop p b)) ≡ n = length-take-le n (drop p b) (let d = length-drop p b in omega arith) in
    let lc : length (take n (drop p c)) ≡ n = length-take-le n (drop p c) (let d = length-drop p c in omega arith) in
    ext_get_or 0 (take n (drop p c)) (take n (drop p b)) (lc ∙ sym lb)
    (λ i less. (let below : i < n = omega arith in
    get_or-take n (drop p c) i 0 below ∙ get_or-drop p c i 0 ∙ same i below ∙ sym (get_or-drop p b i 0) ∙ sym (get_or-take n (drop p b) i 0 below)))

-- bytes beside those that were put
pub part_apart : (n p at : ℕ) (ys b : List ℕ) → at + length ys ≤ length b → p + n ≤ length b → (p + n ≤ at) ⊎ (at + length ys ≤ p) → take n (drop p (put_at at ys b)) ≡ take n (drop p b)
part_apart n p at ys b within inside beside = same_part n p b (put_at at ys b) inside (put_len at ys b within) (λ i less. ⊎_elim
    (λ (before : p + n ≤ at). put_below at ys b within (p + i) (omega arith))
    (λ (past : at + length ys ≤ p). put_past at ys b within (p + i) (omega arith))
    beside)

pub bytes_len : (ns : List ℤ) → length (row_bytes ns) ≡ 2 * length ns
bytes_len [] = refl
bytes_len (n ∷ ns) = let a = length-append (sample_bytes n) (row_bytes ns) in let b = sample_bytes_len n in let c = bytes_len ns in omega arith

-- blocks of one band that differ are of other numbers
pub other_block : (key : BlockKey) (k v : ℕ) → key.dataset ≡ 0 → key.band < 1 → k < 1 → (line_key k v ≡ key → ⊥) → v ≡ key.block → ⊥
other_block key k v file band one other same = other (ap (λ n. line_key n v) (let e : k ≡ key.band = omega arith in e) ∙ ap (λ n. line_key key.band n) same ∙ line_is key file)

-- the line of a tile that was written, by its bytes
module _ (side : ℕ) (key : BlockKey) (samples : List ℤ) (ys b : List ℕ) (file : key.dataset ≡ 0) (band : key.band < 1) (line : key.block < side) (len : length ys ≡ 2 * side) (same : row_of ys side ≡ samples)
    (small : AreBytes ys) (long : length b ≡ 2 * (side * side)) where
  more : (v y : ℕ) → v < y → v * side + side ≤ y * side
  more v y less = let big : suc v * side ≤ y * side = mul-le-mul_right side less in let e : suc v * side ≡ v * side + side = grind arith in omega arith

  within : 2 * (key.block * side) + length ys ≤ length b
  within = let m = more key.block side line in omega arith

  here : (u : ℕ) → u < side → hgt_at side (put_at (2 * (key.block * side)) ys b) u key.block ≡ get_or samples u (pos 0)
  here u less =
      let at : 2 * (key.block * side) ≡ 2 * (key.block * side + 0) = omega arith in
      let stands : StandsAt (put_at (2 * (key.block * side)) ys b) ys (2 * (key.block * side + 0)) = subst (λ k. StandsAt (put_at (2 * (key.block * side)) ys b) ys k) at (put_stands (2 * (key.block * side)) ys b within) in
      let rows = row_stands (put_at (2 * (key.block * side)) ys b) ys side 0 key.block side len stands in
      ap (λ n. hgt_at side (put_at (2 * (key.block * side)) ys b) n key.block) (sym (zero-add u))
      ∙ sym (get_or-map-range_with_len (λ i. hgt_at side (put_at (2 * (key.block * side)) ys b) (0 + i) key.block) 0 side u u (pos 0) less (zero-add u))
      ∙ ap (λ (l : List ℤ). get_or l u (pos 0)) (sym rows ∙ same)

  others : (k u v : ℕ) → IsSpot (Hgt side) k u v → (line_key k v ≡ key → ⊥) → hgt_at side (put_at (2 * (key.block * side)) ys b) u v ≡ hgt_at side b u v
  others k u v spot other =
      let s = spot.spot in
      let m = more v side spot.block in
      ap (λ (l : List ℕ). cast_signed w16 (big_number 2 l)) (part_apart 2 (2 * (v * side + u)) (2 * (key.block * side)) ys b within (omega arith)
      (⊎_elim (λ (before : v < key.block). inl (let a = more v key.block before in omega arith))
      (λ (from : key.block ≤ v). ⊎_elim (λ (behind : key.block < v). inr (let a = more key.block v behind in omega arith))
      (λ (same : v ≤ key.block). absurd (other_block key k v file band spot.band other (omega arith)))
      (cases_lt key.block v))
      (cases_lt v key.block)))

  pub tile_put : IsBlockWritten (Hgt side) key samples b (put_at (2 * (key.block * side)) ys b)
  tile_put = record {
    len = put_len (2 * (key.block * side)) ys b within;
    formed = λ old. put_small (2 * (key.block * side)) ys b within old small;
    here = here;
    others = others;
    met = tt;
    stays = λ v less was. tt;
  }

-- the same by its samples
pub tile_written : (side : ℕ) (key : BlockKey) (samples : List ℤ) (b : List ℕ) → key.dataset ≡ 0 → key.band < 1 → key.block < side → length samples ≡ side → All (λ n. is_in Int16 n ≡ true) samples → AreBytes (row_bytes samples) → length b ≡ 2 * (side * side)
    → IsBlockWritten (Hgt side) key samples b (put_at (2 * (key.block * side)) (row_bytes samples) b)
tile_written side key samples b file band line count range small long =
    tile_put side key samples (row_bytes samples) b file band line (bytes_len samples ∙ ap (λ n. 2 * n) count) (subst (λ n. row_of (row_bytes samples) n ≡ samples) count (row_again samples range)) small long

pub tile_row : (side : ℕ) (b : List ℕ) (band y : ℕ) → line_of side b 0 y side ≡ held_in (Hgt side) b band y
tile_row side b band y = range_same (λ i. hgt_at side b (0 + i) y) (λ i. hgt_at side b i y) side (λ i less. ap (λ j. hgt_at side b j y) (zero-add i))

module _ {E : Type 0} (side : ℕ) (key : BlockKey) (block : BlockView) (old new : Option (List ℕ)) (small : AreBytes (row_bytes block.samples)) where
  tile_done : (r : Result (Unit {0}) E) → IsLine (Hgt side) key block → OnOk r (Written (2 * (key.block * side)) (row_bytes block.samples) old new)
      → OnOk r ((b : List ℕ) → old ≡ Some b → length b ≡ needed_of (Hgt side) → (c : List ℕ) × (new ≡ Some c) × IsBlockWritten (Hgt side) key block.samples b c)
  tile_done (Err e) line put = put
  tile_done (Ok x) line put = λ b told long. (put_at (2 * (key.block * side)) (row_bytes block.samples) b, put b told, tile_written side key block.samples b line.dataset_is line.band line.line line.count line.range small long)

  pub tile_block : (w : Writer) (r : Result (Unit {0}) E) → w ≡ Hgt side → IsLine w key block → OnOk r (Written (2 * (key.block * side)) (row_bytes block.samples) old new)
      → OnOk r ((b : List ℕ) → old ≡ Some b → length b ≡ needed_of w → (c : List ℕ) × (new ≡ Some c) × IsBlockWritten w key block.samples b c)
  tile_block w r is line put = subst (λ v. OnOk r ((b : List ℕ) → old ≡ Some b → length b ≡ needed_of v → (c : List ℕ) × (new ≡ Some c) × IsBlockWritten v key block.samples b c)) (sym is) (tile_done r (subst (λ v. IsLine v key block) is line) put)

-- samples that each can be written
pub all_held : (w : Writer) (xs : List ℤ) → list_all (holds w) xs ≡ true → AreHeld w xs
all_held w xs h = AllPass-from_list_all (holds w) xs h
