-- A block of a band that is written past an empty pool, by its bytes.
use Rattle.std.proofs.Common.{◌≡◌, ℕ, ℤ, pos, ◌+◌, ◌-◌, ◌*◌, ◌<◌, ◌≤◌, inl, inr, true, false, List, [], get_or, length, map, Option, Some, None, refl, sym, ap, ◌∙◌, subst, arith, zero-add}
use Rattle.std.specs.Prelude.{Result, Ok, Err, OnOk}
use Rattle.std.specs.Result.{result_err}
use Rattle.std.specs.List.{range_with_len}
use Rattle.std.proofs.lemmas.List.FromFn.{length-map-range_with_len}
use Rattle.geotransform.specs.declared.types.Rect.{Rect}
use Rattle.outside.specs.Outside.{Files, put_at, Written}
use Rattle.esri_hdr.specs.declared.header_parts.Layout.{Layout}
use Rattle.esri_hdr.specs.declared.header_parts.Layout.TheVariants.{Bil, Bip, Bsq}
use Rattle.esri_hdr.specs.Head.{Head}
use Rattle.interleaved_raw.specs.Raw.{strided_at}
use Rattle.hgt_tiles.specs.Samples.{item_at, row_of}
use Rattle.dted_records.specs.Places.{record_of}
use Rattle.dted_records.specs.Records.{elevation_in}
use Rattle.band_blocks.specs.declared.key.BlockKey.{BlockKey}
use Rattle.block_cache.specs.Entries.{PoolView}
use Rattle.write_back.specs.declared.fault.TargetFault.{TargetFault}
use Rattle.write_back.specs.declared.forms.Writer.{Writer}
use Rattle.write_back.specs.declared.forms.Writer.TheVariants.{Raw, Hgt, Dted}
use Rattle.write_back.specs.Columns.{Cell}
use Rattle.write_back.specs.Forms.{band_total, cut_of, line_total, most_calls, needed_of, pixel_sample, pixel_sample_by, column_total, IsFormed, TellsMet}
use Rattle.write_back.specs.Spots.{HasPixel, IsSpot, plain_of, IsRunWritten}
use Rattle.write_back.specs.Overlay.{line_key, overlay, AreKept}
use Rattle.write_back.specs.Stores.{line_rect, IsBlockWritten, IsLineSet, IsWindow, Stays, StoreState, AreMet, Changes, Serves}
use Rattle.write_back.specs.Packed.{block_rect, in_bytes, packed_in, packed_rect, IsApart, IsBlockOf, IsLined, Passes}
use Rattle.write_back.specs.Pieces.{is_woven, planes_by, spots_by, spots_of, AreBytes}
use Rattle.write_back.specs.State.{HasDraft, IsRight}
use Rattle.write_back.specs.View.{SheetView, target_of, IsSoundOn}
use Rattle.write_back.specs.Served.{PutsWindow}
use Rattle.write_back.specs.Files.{header_in, HasHeader, IsForm, IsTarget}
use Rattle.write_back.proofs.Blocks.{raw_written, tile_put}
use Rattle.write_back.proofs.CellBlocks.{cell_written}
use Rattle.write_back.proofs.RecordBytes.{elevations}
use Rattle.write_back.proofs.Sheets.{blocks_at, put_of}
use Rattle.write_back.proofs.Windowed.{right_after}

-- the bytes of a block have as many samples as the block
pub length_in : (w : Writer) (bytes : List ℕ) → length (in_bytes w bytes) ≡ (cut_of w).spots
length_in (Raw h) bytes = length-map-range_with_len (strided_at (plain_of h) bytes) 0 (spots_of h)
length_in (Hgt side) bytes = length-map-range_with_len (item_at bytes) 0 side
length_in (Dted c) bytes = length-map-range_with_len (elevation_in c.head bytes) 0 c.head.points

-- blocks that are lines of one band: as many bands as the raster has, and as many samples as it has columns
raw_wide : (l : Layout) (width bands : ℕ) → is_woven l ≡ false → spots_by l width bands ≡ width
raw_wide Bil width bands apart = refl
raw_wide Bip width bands apart = absurd (let clash : true ≡ false = apart in cc)
raw_wide Bsq width bands apart = refl

raw_planes : (l : Layout) (bands : ℕ) → is_woven l ≡ false → planes_by l bands ≡ bands
raw_planes Bil bands apart = refl
raw_planes Bip bands apart = absurd (let clash : true ≡ false = apart in cc)
raw_planes Bsq bands apart = refl

pub lined_wide : (w : Writer) → IsLined w → (cut_of w).spots ≡ column_total w
lined_wide (Raw h) lined = raw_wide h.layout h.size.w h.bands lined.apart
lined_wide (Hgt side) lined = refl
lined_wide (Dted c) lined = absurd (let clash : true ≡ false = lined.rows in cc)

pub lined_bands : (w : Writer) → IsLined w → (cut_of w).bands ≡ band_total w
lined_bands (Raw h) lined = raw_planes h.layout h.bands lined.apart
lined_bands (Hgt side) lined = refl
lined_bands (Dted c) lined = absurd (let clash : true ≡ false = lined.rows in cc)

pub lined_rows : (w : Writer) → IsLined w → (cut_of w).blocks ≡ line_total w
lined_rows (Raw h) lined = refl
lined_rows (Hgt side) lined = refl
lined_rows (Dted c) lined = absurd (let clash : true ≡ false = lined.rows in cc)

-- where the samples of each block are of one band, the bands of the blocks are those of the raster
pub apart_bands : (w : Writer) → IsApart w → (cut_of w).bands ≡ band_total w
apart_bands (Raw h) apart = raw_planes h.layout h.bands apart
apart_bands (Hgt side) apart = refl
apart_bands (Dted c) apart = refl

-- any bytes are those of a line
pub lined_whole : (w : Writer) (block : ℕ) (bytes : List ℕ) → IsLined w → IsBlockOf w block bytes
lined_whole (Raw h) block bytes lined = tt
lined_whole (Hgt side) block bytes lined = tt
lined_whole (Dted c) block bytes lined = absurd (let clash : true ≡ false = lined.rows in cc)

-- the pixels of a block are a line, or a column
pub lined_rect : (w : Writer) (block : ℕ) → IsLined w → block_rect w block ≡ line_rect 0 block (column_total w)
lined_rect (Raw h) block lined = refl
lined_rect (Hgt side) block lined = refl
lined_rect (Dted c) block lined = absurd (let clash : true ≡ false = lined.rows in cc)

pub column_rect : (w : Writer) (x : ℕ) → (cut_of w).by_columns ≡ true → block_rect w x ≡ record { x = x; y = 0; w = 1; h = line_total w }
column_rect (Raw h) x columns = absurd (let clash : false ≡ true = columns in cc)
column_rect (Hgt side) x columns = absurd (let clash : false ≡ true = columns in cc)
column_rect (Dted c) x columns = refl

-- a line that was set is a window
module _ (w : Writer) (band block : ℕ) (line : List ℤ) (old new : ℕ → ℕ → ℕ → ℤ) (lined : IsLined w) (set : IsLineSet w (line_key band block) line old new) where
  seen : (f : ℕ → ℕ → ℕ → ℤ) (k x y : ℕ) → pixel_sample w f k x y ≡ f k x y
  seen f k x y =
      ap (λ t. pixel_sample_by t (cut_of w).woven (band_total w) f k x y) lined.rows
      ∙ ap (λ t. pixel_sample_by false t (band_total w) f k x y) lined.apart

  place : (k x y : ℕ) → HasPixel w k x y → IsSpot w k x y
  place k x y is = record {
    band = subst (λ n. k < n) (sym (lined_bands w lined)) is.band;
    spot = subst (λ n. x < n) (sym (lined_wide w lined)) is.column;
    block = subst (λ n. y < n) (sym (lined_rows w lined)) is.line;
  }

  line_window : IsWindow w band (line_rect 0 block (column_total w)) line old new
  line_window = record {
    inside = λ x y wide high.
        let first : y ≡ 0 = omega arith in
        let here : x ≡ y * column_total w + x = (let e = ap (λ n. n * column_total w) first in omega arith) in
        seen new band (0 + x) (block + y)
        ∙ ap (λ n. new band n (block + y)) (zero-add x)
        ∙ ap (new band x) (let e : block + y ≡ block = omega arith in e)
        ∙ set.here x (subst (λ n. x < n) (sym (lined_wide w lined)) wide)
        ∙ ap (λ n. get_or line n (pos 0)) here;
    outside = λ k x y is apart_from.
        let column = is.column in
        seen new k x y
        ∙ set.others k x y (place k x y is) (λ same.
        let row : y ≡ block = ap (λ (j : BlockKey). j.block) same in
        apart_from (record { band_is = ap (λ (j : BlockKey). j.band) same; left = omega arith; right = omega arith; top = omega arith; bottom = omega arith }))
        ∙ sym (seen old k x y);
  }

-- so is a column
column_window : (c : Cell) (band block : ℕ) (line : List ℤ) (old new : ℕ → ℕ → ℕ → ℤ) → IsLineSet (Dted c) (line_key band block) line old new → IsWindow (Dted c) band (block_rect (Dted c) block) line old new
column_window c band block line old new set = record {
  inside = λ x y wide high.
      let first : x ≡ 0 = omega arith in
      ap (λ n. new band n (block + x)) (zero-add y)
      ∙ ap (new band y) (let e : block + x ≡ block = omega arith in e)
      ∙ set.here y high
      ∙ ap (λ n. get_or line n (pos 0)) (let e : y ≡ y * 1 + x = omega arith in e);
  outside = λ k x y is apart_from.
      let row = is.line in
      set.others k y x (record { band = is.band; spot = is.line; block = is.column }) (λ same.
      let column : x ≡ block = ap (λ (j : BlockKey). j.block) same in
      apart_from (record { band_is = ap (λ (j : BlockKey). j.band) same; left = omega arith; right = omega arith; top = omega arith; bottom = omega arith }));
}

-- a block that was set is a window
set_window : (w : Writer) (band block : ℕ) (line : List ℤ) (old new : ℕ → ℕ → ℕ → ℤ) → IsApart w → IsLineSet w (line_key band block) line old new → IsWindow w band (block_rect w block) line old new
set_window (Raw h) band block line old new apart set = line_window (Raw h) band block line old new (record { rows = refl; apart = apart }) set
set_window (Hgt side) band block line old new apart set = line_window (Hgt side) band block line old new (record { rows = refl; apart = refl }) set
set_window (Dted c) band block line old new apart set = column_window c band block line old new set

-- what a writer's call says of a block, by what its line's call says
module _ {E : Type 0} (key : BlockKey) (bytes : List ℕ) (old new : Option (List ℕ)) where
  raw_done : (h : Head) (r : Result (Unit {0}) E) → key.dataset ≡ 0
      → OnOk r ((b : List ℕ) → old ≡ Some b → length b ≡ needed_of (Raw h) → (c : List ℕ) × (new ≡ Some c) × IsRunWritten h key.band key.block 0 (spots_of h) (map (strided_at (plain_of h) bytes) (range_with_len 0 (spots_of h))) b c)
      → OnOk r ((b : List ℕ) → old ≡ Some b → length b ≡ needed_of (Raw h) → IsFormed (Raw h) b → (c : List ℕ) × (new ≡ Some c) × IsBlockWritten (Raw h) key (in_bytes (Raw h) bytes) b c)
  raw_done h (Err e) file put = put
  raw_done h (Ok x) file put = λ b told long formed. (let now = put b told long in (now.0, now.1, raw_written h key (map (strided_at (plain_of h) bytes) (range_with_len 0 (spots_of h))) b now.0 file now.2))

  pub raw_past : (w : Writer) (h : Head) (r : Result (Unit {0}) E) → w ≡ Raw h → key.dataset ≡ 0
      → OnOk r ((b : List ℕ) → old ≡ Some b → length b ≡ needed_of (Raw h) → (c : List ℕ) × (new ≡ Some c) × IsRunWritten h key.band key.block 0 (spots_of h) (map (strided_at (plain_of h) bytes) (range_with_len 0 (spots_of h))) b c)
      → OnOk r ((b : List ℕ) → old ≡ Some b → length b ≡ needed_of w → IsFormed w b → (c : List ℕ) × (new ≡ Some c) × IsBlockWritten w key (in_bytes w bytes) b c)
  raw_past w h r is file put =
      subst (λ v. OnOk r ((b : List ℕ) → old ≡ Some b → length b ≡ needed_of v → IsFormed v b → (c : List ℕ) × (new ≡ Some c) × IsBlockWritten v key (in_bytes v bytes) b c)) (sym is) (raw_done h r file put)

  tile_done : (side : ℕ) (r : Result (Unit {0}) E) → key.dataset ≡ 0 → key.band < 1 → key.block < side → length bytes ≡ 2 * side → AreBytes bytes → OnOk r (Written (2 * (key.block * side)) bytes old new)
      → OnOk r ((b : List ℕ) → old ≡ Some b → length b ≡ needed_of (Hgt side) → IsFormed (Hgt side) b → (c : List ℕ) × (new ≡ Some c) × IsBlockWritten (Hgt side) key (in_bytes (Hgt side) bytes) b c)
  tile_done side (Err e) file band line len small put = put
  tile_done side (Ok x) file band line len small put = λ b told long formed. (put_at (2 * (key.block * side)) bytes b, put b told, tile_put side key (row_of bytes side) bytes b file band line len refl small long)

  pub tile_past : (w : Writer) (side : ℕ) (r : Result (Unit {0}) E) → w ≡ Hgt side → key.dataset ≡ 0 → key.band < 1 → key.block < side → length bytes ≡ 2 * side → AreBytes bytes → OnOk r (Written (2 * (key.block * side)) bytes old new)
      → OnOk r ((b : List ℕ) → old ≡ Some b → length b ≡ needed_of w → IsFormed w b → (c : List ℕ) × (new ≡ Some c) × IsBlockWritten w key (in_bytes w bytes) b c)
  tile_past w side r is file band line len small put =
      subst (λ v. OnOk r ((b : List ℕ) → old ≡ Some b → length b ≡ needed_of v → IsFormed v b → (c : List ℕ) × (new ≡ Some c) × IsBlockWritten v key (in_bytes v bytes) b c)) (sym is) (tile_done side r file band line len small put)

  cell_done : (c : Cell) (r : Result (Unit {0}) E) → key.dataset ≡ 0 → key.band < 1 → key.block < c.head.lines → IsBlockOf (Dted c) key.block bytes → AreBytes bytes → OnOk r (Written (record_of c.head key.block) bytes old new)
      → OnOk r ((b : List ℕ) → old ≡ Some b → length b ≡ needed_of (Dted c) → IsFormed (Dted c) b → (d : List ℕ) × (new ≡ Some d) × IsBlockWritten (Dted c) key (in_bytes (Dted c) bytes) b d)
  cell_done c (Err e) file band line whole small put = put
  cell_done c (Ok x) file band line whole small put = λ b told long formed. (
    put_at (record_of c.head key.block) bytes b,
    put b told,
    subst (λ ys. IsBlockWritten (Dted c) key (in_bytes (Dted c) bytes) b (put_at (record_of c.head key.block) ys b)) (sym whole)
        (cell_written c key (in_bytes (Dted c) bytes) b file band line (length_in (Dted c) bytes) (elevations c.head bytes small) (subst AreBytes whole small) long),
  )

  pub cell_past : (w : Writer) (c : Cell) (r : Result (Unit {0}) E) → w ≡ Dted c → key.dataset ≡ 0 → key.band < 1 → key.block < c.head.lines → IsBlockOf (Dted c) key.block bytes → AreBytes bytes → OnOk r (Written (record_of c.head key.block) bytes old new)
      → OnOk r ((b : List ℕ) → old ≡ Some b → length b ≡ needed_of w → IsFormed w b → (d : List ℕ) × (new ≡ Some d) × IsBlockWritten w key (in_bytes w bytes) b d)
  cell_past w c r is file band line whole small put =
      subst (λ v. OnOk r ((b : List ℕ) → old ≡ Some b → length b ≡ needed_of v → IsFormed v b → (d : List ℕ) × (new ≡ Some d) × IsBlockWritten v key (in_bytes v bytes) b d)) (sym is) (cell_done c r file band line whole small put)

-- nothing is held
module _ (w : Writer) (key : BlockKey) (line : List ℤ) (b c : List ℕ) (put : IsBlockWritten w key line b c) where
  none_kept : AreKept w [] c
  none_kept j e held clean u less = absurd (let clash : None ≡ Some e = held in cc)

  none_set : IsLineSet w key line (overlay w [] b) (overlay w [] c)
  none_set = record { here = λ u less. put.here u less; others = λ k u v spot other. put.others k u v spot other }

  none_stays : Stays w [] b [] c
  none_stays k v band block (inl met) = inl (put.stays v block met)
  none_stays k v band block (inr was) = absurd (let clash : None ≡ Some was.0 = was.1 in cc)

  -- a block that was written past an empty pool
  pub past_changes : (p : PoolView) (draft draft' : Option (List ℕ)) → p.entries ≡ [] → HasDraft w p draft b → draft' ≡ Some c
      → (d : List ℕ) × HasDraft w p draft' d × IsLineSet w key line (overlay w p.entries b) (overlay w p.entries d) × Stays w p.entries b p.entries d
  past_changes p draft draft' none has now = (
    c,
    record {
      is = now;
      long = put.len ∙ has.long;
      formed = put.formed has.formed;
      kept = subst (λ es. AreKept w es c) (sym none) none_kept;
    },
    subst (λ es. IsLineSet w key line (overlay w es b) (overlay w es c)) (sym none) none_set,
    subst (λ es. Stays w es b es c) (sym none) none_stays,
  )

-- a block that was written so is a window
pub past_window : (w : Writer) (p q : PoolView) (band block : ℕ) (bytes b c : List ℕ) (draft draft' : Option (List ℕ)) → IsApart w → q ≡ p → p.entries ≡ [] → HasDraft w p draft b → IsBlockWritten w (line_key band block) (in_bytes w bytes) b c → draft' ≡ Some c
    → (d : List ℕ) × HasDraft w q draft' d × IsWindow w band (block_rect w block) (in_bytes w bytes) (overlay w p.entries b) (overlay w q.entries d) × Stays w p.entries b q.entries d
past_window w p q band block bytes b c draft draft' apart same none has put now =
    let m = past_changes w (line_key band block) (in_bytes w bytes) b c put p draft draft' none has now in
    let window : IsWindow w band (block_rect w block) (in_bytes w bytes) (overlay w p.entries b) (overlay w p.entries m.0) = set_window w band block (in_bytes w bytes) (overlay w p.entries b) (overlay w p.entries m.0) apart m.2 in
    subst (λ (r : PoolView). (d : List ℕ) × HasDraft w r draft' d × IsWindow w band (block_rect w block) (in_bytes w bytes) (overlay w p.entries b) (overlay w r.entries d) × Stays w p.entries b r.entries d) (sym same) (m.0, m.1, window, m.3)

-- the column of a record that was written is met
pub past_met : (w : Writer) (band block : ℕ) (samples : List ℤ) (s t : StoreState) → ((b : List ℕ) → s.draft ≡ Some b → length b ≡ needed_of w → IsFormed w b → (c : List ℕ) × (t.draft ≡ Some c) × IsBlockWritten w (line_key band block) samples b c)
    → (cut_of w).by_columns ≡ true → AreMet w band (block_rect w block).x (block_rect w block).w s t
past_met (Raw h) band block samples s t written columns = absurd (let clash : false ≡ true = columns in cc)
past_met (Hgt side) band block samples s t written columns = absurd (let clash : false ≡ true = columns in cc)
past_met (Dted cell) band block samples s t written columns = record {
  each = λ b c has is i less.
      let now = written b has.is has.long has.formed in
      let both : Some now.0 ≡ Some c = sym now.1 ∙ is in
      let same : now.0 ≡ c = cc in
      let few : i < 1 = less in
      let place : block ≡ block + i = omega arith in
      inl (subst (TellsMet (Dted cell) c) place (subst (λ d. TellsMet (Dted cell) d block) same now.2.met));
}

-- what a contract sees of the data after such a block
pub passes_of : (w w' : Writer) (s t : StoreState) (old new : SheetView) → blocks_at w s ≡ old → blocks_at w' t ≡ new → w' ≡ w → Serves w 1 1 s t → t.pool ≡ s.pool → t.writes ≡ s.writes + 1 → t.calls ≤ s.calls + most_calls w → Passes old new s.told t.told s.reads t.reads s.calls t.calls s.writes t.writes
passes_of w w' s t old new is now same a pool one calls =
    subst (λ v. Passes v new s.told t.told s.reads t.reads s.calls t.calls s.writes t.writes) is
    (subst (λ v. Passes (blocks_at w s) v s.told t.told s.reads t.reads s.calls t.calls s.writes t.writes) (ap (λ u. blocks_at u t) (sym same) ∙ now)
    (record { sound = a.sound; output = refl; name = a.name; pool = pool; names = a.told; reads = a.reads; one = one; calls = calls }))

pub past_of : (w w' : Writer) (band block : ℕ) (bytes : List ℕ) (s t : StoreState) (old new : SheetView) → blocks_at w s ≡ old → blocks_at w' t ≡ new → w' ≡ w → IsRight w s.told s.len s.draft s.pool → band < band_total w → t.told ≡ s.told
    → Changes w (IsWindow w band (block_rect w block) (in_bytes w bytes)) s t → ((cut_of w).by_columns ≡ true → AreMet w band (block_rect w block).x (block_rect w block).w s t) → PutsWindow band (packed_rect old.output block) (packed_in old.output bytes) s.told t.told old new
past_of w w' band block bytes s t old new is now same right less told changed met =
    subst (λ (v : SheetView). PutsWindow band (packed_rect v.output block) (packed_in v.output bytes) s.told t.told old new) is
    (put_of w w' band (block_rect w block) (in_bytes w bytes) s t old new is now same right less told changed met)

-- a target whose data took such a block
pub target_past : (band : ℕ) (rect : Rect) (samples : List ℤ) (told told' : Option Files) (r r' c c' w w' : ℕ) (s n : SheetView) (header : Option (Option (List ℕ) × List ℕ)) (done : Result (Unit {0}) TargetFault) (fault : Option TargetFault) → IsTarget told (target_of s header None)
    → Passes s n told told' r r' c c' w w' → OnOk done (PutsWindow band rect samples told told' s n) → fault ≡ result_err done → IsTarget told' (target_of n header fault)
target_past band rect samples told told' r r' c c' w w' s n header done fault was kept put is = record {
  form = subst IsForm (sym kept.output) was.form;
  sound = subst (λ o. IsSoundOn o n) (sym kept.output) kept.sound;
  right = λ none. right_after s.output told told' band rect samples s n done kept.output put (sym is ∙ none);
  headed = subst (λ o. HasHeader (header_in o) told' n.name header) (sym kept.output)
      (subst (λ k. HasHeader (header_in s.output) told' k header) (sym kept.name) (subst (λ m. HasHeader (header_in s.output) m s.name header) (sym kept.names) was.headed));
}

-- one block's calls are those of one tick
pub one_tick : (most n m w v : ℕ) → v ≡ w + 1 → m ≤ n + most → m ≤ n + most * (v - w)
one_tick most n m w v one calls = let e : v - w ≡ 1 = omega arith in let f : most * (v - w) ≡ most * 1 = ap (λ k. most * k) e in omega arith
