-- Blocks that are made and packed.
use Rattle.std.proofs.Common.{◌≡◌, ◌∙◌, ap, sym, subst, refl, ℕ, ℤ, pos, ◌+◌, ◌-◌, ◌*◌, ◌/◌, ◌%◌, ◌<◌, ◌≤◌, arith, length, get_or, inl, inr, Bool, true, false, List, [], Option, Some, None}
use Rattle.std.specs.Prelude.{slice_get, slice_set}
use Rattle.std.specs.List.{All}
use Rattle.std.proofs.lemmas.Bool.{cases_lt}
use Rattle.std.proofs.lemmas.List.{length-set, get_or-set_other, get_or-set_same}
use Rattle.std.proofs.lemmas.List.Elements.{All-set}
use Rattle.std.proofs.lemmas.Nat.{div-mul-add, mod-mul-add, mul-add-lt}
use Rattle.outside.specs.Outside.{Files}
use Rattle.catalog.specs.Drivers.{Dataset}
use Rattle.catalog.specs.Places.{row_by_row}
use Rattle.band_blocks.specs.Blocks.{BlockView}
use Rattle.band_blocks.proofs.Corners.{filled-row_by_row}
use Rattle.translate_plan.specs.declared.options.Driver.{Driver}
use Rattle.translate_plan.specs.declared.options.Driver.TheVariants.{EHdr, SrtmHgt, AaiGrid, Vrt}
use Rattle.translate_plan.specs.declared.options.Driver.TheVariants as drivers
use Rattle.translate_plan.specs.Fits.{cell_in}
use Rattle.translate_plan.specs.Plan.{Planned, IsPlan}
use Rattle.write_back.specs.declared.forms.Writer.{Writer}
use Rattle.write_back.specs.declared.forms.Writer.TheVariants.{Raw, Hgt, Dted}
use Rattle.write_back.specs.Forms.{band_total, cut_of, AreHeld}
use Rattle.write_back.specs.Files.{IsTarget}
use Rattle.write_back.specs.Stores.{line_rect}
use Rattle.write_back.specs.Packed.{block_len, in_bytes, packed_in, packed_rect, IsApart, IsLined}
use Rattle.write_back.specs.Plans.{output_by, output_of}
use Rattle.write_back.specs.View.{Output, Blocks, Rows, TargetView, lines_after, MeetsAll, Shows}
use Rattle.write_back.proofs.Outputs.{cell_found, has_size, is_same}
use Rattle.write_back.proofs.Past.{length_in, lined_rect, lined_rows, lined_whole, lined_wide}
use Rattle.write_back.proofs.Woven.{columns_cut}
use Rattle.strip_copies.specs.Copies.{lines_rect, IsHeldIn}
use Rattle.strip_copies.specs.Portions.{has_columns}
use Rattle.output_copies.specs.Filled.{IsFilled}
use Rattle.output_copies.specs.Packed.{place_in, AreFronts, AreMade, ArePacks, HoldsFront, IsBlockFor, IsMade, IsPackedAt}
use Rattle.output_copies.specs.Steps.{raster_of}
use Rattle.output_copies.proofs.Copied.{are_writable, filled_behind}

one_line : (y : ℕ) → y + 1 - y ≡ 1
one_line y = omega arith

-- how the blocks of a plan's output lie
module _ (p : Planned) (w : Writer) (plan : IsPlan p) (output : output_of p ≡ Some (Blocks w)) where
  pub line_spots : IsLined w → (cut_of w).spots ≡ p.size.w
  line_spots lined = let size = has_size p (Blocks w) plan output in lined_wide w lined ∙ size.columns_are

  pub line_blocks : IsLined w → (cut_of w).blocks ≡ p.size.h
  line_blocks lined = let size = has_size p (Blocks w) plan output in lined_rows w lined ∙ size.lines_are

  pub column_spots : (cut_of w).by_columns ≡ true → (cut_of w).spots ≡ p.size.h
  column_spots columns = let size = has_size p (Blocks w) plan output in (columns_cut w columns).spots ∙ size.lines_are

  pub column_blocks : (cut_of w).by_columns ≡ true → (cut_of w).blocks ≡ p.size.w
  column_blocks columns = let size = has_size p (Blocks w) plan output in (columns_cut w columns).blocks ∙ size.columns_are

  -- each sample that was read can be written
  pub are_held : (k : ℕ) (samples : List ℤ) (told : Option Files) (cat : List Dataset) (id : ℕ) → k < length p.bands → All (IsHeldIn p k) samples → AreHeld w samples
  are_held k samples told cat id band held = are_writable told cat id p plan (Blocks w) k samples output band held

pub is_lined : (w : Writer) → IsApart w → (cut_of w).by_columns ≡ false → IsLined w
is_lined w apart rows = record { rows = rows; apart = apart }

-- a band has a block
pub some_blocks : (p : Planned) (w : Writer) → IsPlan p → output_of p ≡ Some (Blocks w) → IsApart w → (b : Bool) → (cut_of w).by_columns ≡ b → 0 < (cut_of w).blocks
some_blocks p w plan output apart false rows = let high = line_blocks p w plan output (is_lined w apart rows) in let some = plan.size.some_lines in omega (arith, high, some)
some_blocks p w plan output apart true columns = let wide = column_blocks p w plan output columns in let some = plan.size.some_columns in omega (arith, wide, some)

single_by : (w : Writer) → (cut_of w).by_columns ≡ true → band_total w ≡ 1
single_by (Raw h) columns = absurd (let clash : false ≡ true = columns in cc)
single_by (Hgt side) columns = refl
single_by (Dted c) columns = refl

-- whether an output's blocks are columns: a grid has none
columns_on : Output → Bool
columns_on (Blocks w) = (cut_of w).by_columns
columns_on (Rows g) = false

-- the blocks of a driver's files are columns where those of its writer are
pub columns_by : (d : Driver) (p : Planned) (w : Writer) → output_by d p ≡ Some (Blocks w) → has_columns d ≡ (cut_of w).by_columns
unfolding columns_on
columns_by EHdr p w e = ap columns_on (is_same _ (Blocks w) e)
columns_by (drivers.Dted level) p w e = let c = cell_found (cell_in level p.size p.geo) (Blocks w) e in sym (ap columns_on c.output)
columns_by SrtmHgt p w e = ap columns_on (is_same _ (Blocks w) e)
columns_by AaiGrid p w e = ap columns_on (is_same _ (Blocks w) e)
columns_by Vrt p w e = absurd cc

-- an output of columns has one band
pub column_band : (p : Planned) (w : Writer) → IsPlan p → output_of p ≡ Some (Blocks w) → (cut_of w).by_columns ≡ true → length p.bands ≡ 1
column_band p w plan output columns = let size = has_size p (Blocks w) plan output in sym size.bands_are ∙ single_by w columns

-- each band's block has a place of its own
pub place_apart : (bands b k r s : ℕ) → b < bands → k < bands → place_in bands b r ≡ place_in bands k s → (b ≡ k) × (r ≡ s)
place_apart bands b k r s less more same = (
  sym (mod-mul-add r bands b less) ∙ ap (λ n. n % bands) same ∙ mod-mul-add s bands k more,
  sym (div-mul-add r bands b less) ∙ ap (λ n. n / bands) same ∙ div-mul-add s bands k more,
)

pub place_within : (bands b r rows : ℕ) → b < bands → r < rows → place_in bands b r < rows * bands
place_within bands b r rows less more =
    let a = mul-add-lt r bands b rows more less in
    let turned : bands * rows ≡ rows * bands = grind arith in
    let e : r * bands + b < rows * bands = omega (arith, a, turned) in
    e

-- packed blocks of which one was packed again
pub packs_set : (p : Planned) (w : Writer) (rows : ℕ) (old new : BlockView) (packed : List (List ℕ)) (at : ℕ) (bytes : List ℕ) → ArePacks p w rows old packed → IsBlockFor w new → length bytes ≡ block_len w → ArePacks p w rows new (slice_set packed at bytes)
packs_set p w rows old new packed at bytes packs block long = record {
  block_is = block;
  long = length-set packed at bytes ∙ packs.long;
  each = All-set (λ b. length b ≡ block_len w) packed at bytes long packs.each;
}

module _ (told : Option Files) (cat : List Dataset) (id : ℕ) (p : Planned) (w : Writer) (top : ℕ) (packed : List (List ℕ)) (band y : ℕ) (bytes : List ℕ) (has_band : band < length p.bands) (from : top ≤ y) where
  -- what was packed stands in its place
  pub packed_here : (d : List ℕ) → place_in (length p.bands) band (y - top) < length packed → get_or (slice_set packed (place_in (length p.bands) band (y - top)) bytes) (place_in (length p.bands) band (y - top)) d ≡ bytes
  packed_here d within = get_or-set_same packed (place_in (length p.bands) band (y - top)) bytes d within

  pub packed_there : (b v : ℕ) → b < length p.bands → top ≤ v → (b ≡ band → v ≡ y → ⊥) → get_or (slice_set packed (place_in (length p.bands) band (y - top)) bytes) (place_in (length p.bands) b (v - top)) [] ≡ get_or packed (place_in (length p.bands) b (v - top)) []
  packed_there b v less low other =
      get_or-set_other packed (place_in (length p.bands) band (y - top)) (place_in (length p.bands) b (v - top)) bytes []
      (λ same. (let apart = place_apart (length p.bands) b band (v - top) (y - top) less has_band same in other apart.0 (omega (arith, apart.1))))

  -- the block that was packed
  pub made_here : place_in (length p.bands) band (y - top) < length packed → IsPackedAt told cat id p w band y bytes → IsMade told cat id p w top (slice_set packed (place_in (length p.bands) band (y - top)) bytes) band y
  made_here within made = subst (IsPackedAt told cat id p w band y) (sym (packed_here [] within)) made

  -- and every other one stays
  pub made_there : (b v : ℕ) → b < length p.bands → top ≤ v → (b ≡ band → v ≡ y → ⊥) → IsMade told cat id p w top packed b v → IsMade told cat id p w top (slice_set packed (place_in (length p.bands) band (y - top)) bytes) b v
  made_there b v less low other made = subst (IsPackedAt told cat id p w b v) (sym (packed_there b v less low other)) made

-- nothing is made of no blocks
pub made_none : (told : Option Files) (cat : List Dataset) (id : ℕ) (p : Planned) (w : Writer) (top : ℕ) (packed : List (List ℕ)) → AreMade told cat id p w top packed top top 0
made_none told cat id p w top packed = record { above = λ b y band low less. absurd (omega arith); beside = λ b y less low high. absurd (omega arith) }

-- the next blocks may be any
pub made_to : (told : Option Files) (cat : List Dataset) (id : ℕ) (p : Planned) (w : Writer) (top : ℕ) (packed : List (List ℕ)) (first end next : ℕ) → AreMade told cat id p w top packed first end 0 → AreMade told cat id p w top packed first next 0
made_to told cat id p w top packed first end next made = record { above = made.above; beside = λ b y less low high. absurd (omega arith) }

-- all bands were made up to a block
pub made_next : (told : Option Files) (cat : List Dataset) (id : ℕ) (p : Planned) (w : Writer) (top : ℕ) (packed : List (List ℕ)) (first end : ℕ) → AreMade told cat id p w top packed first end (length p.bands) → AreMade told cat id p w top packed end end 0
made_next told cat id p w top packed first end made = record {
  above = λ b y band low less. elim (cases_lt y first) [
    | inl before ↦ made.above b y band low before
    | inr behind ↦ made.beside b y band behind less
  ];
  beside = λ b y less low high. absurd (omega arith);
}

-- the blocks up to one that was made
pub made_line : (told : Option Files) (cat : List Dataset) (id : ℕ) (p : Planned) (w : Writer) (top : ℕ) (packed : List (List ℕ)) (end : ℕ) → AreMade told cat id p w top packed end end 0 → (y : ℕ) → y < end → AreMade told cat id p w top packed (y + 1) (y + 1) 0
made_line told cat id p w top packed end made y below = record { above = λ b v band low less. made.above b v band low (omega arith); beside = λ b v less low high. absurd (omega arith) }

-- lines all of whose samples stand packed
pub made_fronts : (told : Option Files) (cat : List Dataset) (id : ℕ) (p : Planned) (w : Writer) (top : ℕ) (packed : List (List ℕ)) (first end k : ℕ) → IsLined w → AreMade told cat id p w top packed first end k → AreFronts told cat id p w top packed first end k (cut_of w).spots → AreMade told cat id p w top packed first end (k + 1)
made_fronts told cat id p w top packed first end k lined made fronts = record {
  above = made.above;
  beside = λ b y less low high. elim (cases_lt b k) [
    | inl before ↦ made.beside b y before low high
    | inr last ↦ (
        let same : k ≡ b = omega arith in
        let bytes = get_or packed (place_in (length p.bands) k (y - top)) [] in
        subst (λ n. IsMade told cat id p w top packed n y) same (record {
          front = subst (λ c. HoldsFront told cat id p c k y (cut_of w).spots (in_bytes w bytes)) (sym lined.rows) (fronts y low high);
          whole = lined_whole w y bytes lined;
        })
        )
  ];
}

-- the samples of a line that stands packed
module _ (told : Option Files) (cat : List Dataset) (id : ℕ) (p : Planned) (w : Writer) (lined : IsLined w) (wide : (cut_of w).spots ≡ p.size.w) (k y : ℕ) (bytes : List ℕ) (packed : IsPackedAt told cat id p w k y bytes) where
  line_front : HoldsFront told cat id p false k y (cut_of w).spots (in_bytes w bytes)
  line_front = subst (λ c. HoldsFront told cat id p c k y (cut_of w).spots (in_bytes w bytes)) lined.rows packed.front

  pub line_pixels : (m : Files) (d : Dataset) → told ≡ Some m → slice_get cat id ≡ Some d → in_bytes w bytes ≡ row_by_row (raster_of m d p k) (lines_rect p.size y (y + 1))
  line_pixels m d e at =
      let whole : p.size.w * (y + 1 - y) ≡ p.size.w = ap (λ n. p.size.w * n) (one_line y) ∙ (let u : p.size.w * 1 ≡ p.size.w = omega arith in u) in
      filled-row_by_row (raster_of m d p k) (lines_rect p.size y (y + 1)) (in_bytes w bytes) (pos 0) (length_in w bytes ∙ wide ∙ sym whole)
      (λ i less.
      let inside : i < p.size.w = omega (arith, whole, less) in
      let alone : 0 * p.size.w + i ≡ i = omega arith in
      let column : i ≡ 0 + i % p.size.w = (let r : i % p.size.w ≡ i = ap (λ n. n % p.size.w) (sym alone) ∙ mod-mul-add 0 p.size.w i inside in omega (arith, r)) in
      let row : y ≡ y + i / p.size.w = (let none : i / p.size.w ≡ 0 = ap (λ n. n / p.size.w) (sym alone) ∙ div-mul-add 0 p.size.w i inside in omega (arith, none)) in
      (line_front).pixels m d e at i (omega (arith, inside, wide))
      ∙ ap (λ n. raster_of m d p k n y) column
      ∙ ap (λ n. raster_of m d p k (0 + i % p.size.w) n) row)

-- a line of a band more was written
pub filled_line : (told : Option Files) (cat : List Dataset) (id : ℕ) (p : Planned) → IsPlan p → (w : Writer) → IsLined w → (new : Option Files) (t u : TargetView) (y k : ℕ) (bytes : List ℕ) → output_of p ≡ Some (Blocks w) → new ≡ told → y < p.size.h → k < length p.bands → IsFilled told cat id p t y (y + 1) k
    → IsTarget new u → u.output ≡ t.output → u.fault ≡ None → u.lines ≡ lines_after t.output t.lines (packed_rect t.output y)
    → Shows told k (packed_rect t.output y) (packed_in t.output bytes) t u → MeetsAll told (packed_rect t.output y) t u → IsPackedAt told cat id p w k y bytes → IsFilled new cat id p u y (y + 1) (k + 1)
filled_line told cat id p plan w lined new t u y k bytes output new_is low band filled target same fault lines shows meets packed =
    let out : t.output ≡ Blocks w = is_same t.output (Blocks w) (sym filled.output ∙ output) in
    let size = has_size p (Blocks w) plan output in
    let rect : packed_rect t.output y ≡ lines_rect p.size y (y + 1) = ap (λ o. packed_rect o y) out ∙ lined_rect w y lined ∙ ap (λ n. line_rect 0 y n) size.columns_are ∙ ap (λ n. record { x = 0; y = y; w = p.size.w; h = n }) (sym (one_line y)) in
    let samples : packed_in t.output bytes ≡ in_bytes w bytes = ap (λ o. packed_in o bytes) out in
    filled_behind told cat id p plan told new p.size t u y (y + 1) k (in_bytes w bytes) refl new_is refl (omega arith) (omega arith) band filled target same fault
    (lines ∙ ap (λ r. lines_after t.output t.lines r) rect)
    (subst (λ (l : List ℤ). Shows told k (lines_rect p.size y (y + 1)) l t u) samples (subst (λ r. Shows told k r (packed_in t.output bytes) t u) rect shows))
    (subst (λ r. MeetsAll told r t u) rect meets) (λ m e d at. line_pixels told cat id p w lined (line_spots p w plan output lined) k y bytes packed m d e at)
