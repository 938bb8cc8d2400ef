-- The outputs of plans: their sizes, and the samples that they can hold.
use Rattle.std.proofs.Common.{◌≡◌, ℕ, ℤ, ◌<◌, ◌≤◌, Bool, true, false, List, length, refl, ap, sym, ◌∙◌, subst, arith, pos, negsuc, Option, Some, None}
use Rattle.std.specs.Prelude.{is_some, IsSome, slice_get, get_or}
use Rattle.std.specs.List.{All}
use Rattle.std.proofs.lemmas.Int.{ints}
use Rattle.std.proofs.lemmas.Bool.Decides.{nat_tests}
use Rattle.std.proofs.lemmas.List.Sums.{AllPass-from_list_all}
use Rattle.std.proofs.lemmas.Option.{get_or_from_slice_get, slice_get-get_or, slice_get_within}
use Rattle.geotransform.specs.Types.{is_in}
use Rattle.geotransform.specs.Geo.{Transform}
use Rattle.geotransform.specs.declared.types.Size.{Size}
use Rattle.geotransform.specs.declared.types.PixelType.{PixelType}
use Rattle.geotransform.specs.declared.types.PixelType.TheVariants.{Byte, Int8, UInt16, Int16, UInt32, Int32, UInt64, Int64}
use Rattle.dted_records.specs.Head as cells
use Rattle.dted_records.specs.Text.{head_text}
use Rattle.dted_records.specs.Written.{IsElevation}
use Rattle.dted_records.proofs.FitsAgain.{same_size}
use Rattle.hgt_tiles.specs.Names.{Place}
use Rattle.hgt_tiles.specs.Places.{IsSide, tile_of}
use Rattle.hgt_tiles.proofs.Fits as tiles
use Rattle.ascii_grid.specs.Values.{is_value}
use Rattle.translate_plan.specs.declared.options.Driver.{Driver}
use Rattle.translate_plan.specs.declared.options.Driver.TheVariants.{EHdr, Dted, SrtmHgt, AaiGrid, Vrt}
use Rattle.translate_plan.specs.declared.band.OutBand.{OutBand}
use Rattle.translate_plan.specs.Bands.{no_out_band}
use Rattle.translate_plan.specs.Fits.{is_single, is_within_int32, cell_in, tile_in}
use Rattle.translate_plan.specs.Plan.{Planned, first_band, out_pixel, raw_head, BandsHold, IsAlike, IsPlan}
use Rattle.translate_plan.proofs.Shown.{pixel_held, cell_held}
use Rattle.translate_plan.proofs.Written.{cell_is, tile_is}
use Rattle.write_back.specs.declared.forms.Writer.TheVariants as writers
use Rattle.write_back.specs.Columns.{cell_with_front, is_elevation}
use Rattle.write_back.specs.Plans.{cell_output, grid_form, output_by, output_of}
use Rattle.write_back.specs.View.{Output, Blocks, Rows, bands_of, columns_of, is_writable, line_count_of}

pub is_same : (a b : Output) → Some a ≡ Some b → a ≡ b
is_same a b e = cc

-- what is found of a cell
pub record IsCellOf (m : Option cells.Head) (o : Output) : Type 0 where
  pub head : cells.Head
  pub found : m ≡ Some head
  pub output : o ≡ Blocks (writers.Dted (cell_with_front head (head_text head)))

pub cell_found : (m : Option cells.Head) (o : Output) → cell_output m ≡ Some o → IsCellOf m o
cell_found None o e = absurd cc
cell_found (Some h) o e = record { head = h; found = refl; output = sym (is_same _ o e) }

pub cell_size : (level : ℕ) (size : Size) (geo : Option Transform) (h : cells.Head) → cell_in level size geo ≡ Some h → (h.lines ≡ size.w) × (h.points ≡ size.h)
cell_size level size None h e = absurd cc
cell_size level size (Some g) h e = same_size level size g h e

pub tile_square : (size : Size) (geo : Option Transform) → is_some (tile_in size geo) ≡ true → (size.w ≡ size.h) × IsSide size.w
tile_square size None e = absurd cc
tile_square size (Some g) e = found (tile_of size g) refl e
  where
    found : (m : Option Place) → tile_of size g ≡ m → is_some m ≡ true → (size.w ≡ size.h) × IsSide size.w
    found None h e = absurd cc
    found (Some p) h e = let t = tiles.tile_is size g p h in (t.square, t.side)

pub tile_side : (p : Planned) → IsPlan p → p.driver ≡ SrtmHgt → IsSide p.size.w
tile_side p plan is = (tile_square p.size p.geo (tile_is p plan is)).1

-- an output has these bands, columns and lines
pub record HasSize (bands : ℕ) (size : Size) (o : Output) : Type 0 where
  pub bands_are : bands_of o ≡ bands
  pub columns_are : columns_of o ≡ size.w
  pub lines_are : line_count_of o ≡ size.h

pub one_band : (p : Planned) (d : Driver) → IsPlan p → p.driver ≡ d → is_single d ≡ true → 1 ≡ length p.bands
one_band p d plan is single = let few = plan.single (ap is_single is ∙ single) in let some = plan.some_band in omega arith

size_by : (d : Driver) (p : Planned) (o : Output) → IsPlan p → p.driver ≡ d → output_by d p ≡ Some o → HasSize (length p.bands) p.size o
size_by EHdr p o plan is e = subst (HasSize (length p.bands) p.size) (is_same _ o e) (record { bands_are = refl; columns_are = refl; lines_are = refl })
size_by (Dted level) p o plan is e =
    let c = cell_found (cell_in level p.size p.geo) o e in
    let s = cell_size level p.size p.geo c.head c.found in
    subst (HasSize (length p.bands) p.size) (sym c.output) (record { bands_are = one_band p (Dted level) plan is refl; columns_are = s.0; lines_are = s.1 })
size_by SrtmHgt p o plan is e = subst (HasSize (length p.bands) p.size) (is_same _ o e) (record { bands_are = one_band p SrtmHgt plan is refl; columns_are = refl; lines_are = (tile_square p.size p.geo (tile_is p plan is)).0 })
size_by AaiGrid p o plan is e = subst (HasSize (length p.bands) p.size) (is_same _ o e) (record { bands_are = one_band p AaiGrid plan is refl; columns_are = refl; lines_are = refl })
size_by Vrt p o plan is e = absurd cc

pub has_size : (p : Planned) (o : Output) → IsPlan p → output_of p ≡ Some o → HasSize (length p.bands) p.size o
has_size p o plan e = size_by p.driver p o plan refl e

some_cell : (m : Option cells.Head) → is_some m ≡ true → IsSome (cell_output m)
some_cell None e = absurd cc
some_cell (Some h) e = refl

some_by : (d : Driver) (p : Planned) → IsPlan p → p.driver ≡ d → (d ≡ Vrt → ⊥) → IsSome (output_by d p)
some_by EHdr p plan is files = refl
some_by (Dted level) p plan is files = some_cell (cell_in level p.size p.geo) (cell_is p level plan is)
some_by SrtmHgt p plan is files = refl
some_by AaiGrid p plan is files = refl
some_by Vrt p plan is files = absurd (files refl)

pub has_output : (p : Planned) → IsPlan p → (p.driver ≡ Vrt → ⊥) → IsSome (output_of p)
has_output p plan files = some_by p.driver p plan refl files

-- what holds of all bands holds of one
pub one_of : (P : OutBand → Type 0) (bs : List OutBand) (k : ℕ) (b : OutBand) → All P bs → slice_get bs k ≡ Some b → P b
one_of P bs k b all e = subst P (get_or_from_slice_get bs k b b e) (all k b (slice_get_within bs k b e))

elevation_held : (n : ℤ) → is_in Int16 n ≡ true → IsElevation n → is_elevation n ≡ true
elevation_held n h e = grind (arith, nat_tests, ints)

pub value_held : (kind : PixelType) (n : ℤ) → is_within_int32 kind ≡ true → is_in kind n ≡ true → is_value n ≡ true
value_held Byte n k h = grind (arith, nat_tests, ints)
value_held Int8 n k h = grind (arith, nat_tests, ints)
value_held UInt16 n k h = grind (arith, nat_tests, ints)
value_held Int16 n k h = grind (arith, nat_tests, ints)
value_held UInt32 n k h = absurd cc
value_held Int32 n k h = h
value_held UInt64 n k h = absurd cc
value_held Int64 n k h = absurd cc

held_by : (d : Driver) (p : Planned) (o : Output) (b : OutBand) (k : ℕ) (n : ℤ) → IsPlan p → p.driver ≡ d → output_by d p ≡ Some o → slice_get p.bands k ≡ Some b → is_in b.kind n ≡ true → ((level : ℕ) → p.driver ≡ Dted level → IsElevation n) → is_writable o n ≡ true
held_by EHdr p o b k n plan is e at h elevation =
    let alike : BandsHold EHdr p.bands = subst (λ d. BandsHold d p.bands) is plan.alike in
    let same : IsAlike (first_band p) b = one_of (IsAlike (first_band p)) p.bands k b (alike 0 no_out_band plan.some_band) at in
    ap (λ x. is_writable x n) (sym (is_same _ o e)) ∙ ap (λ t. is_in t n) same.kind ∙ h
held_by (Dted level) p o b k n plan is e at h elevation =
    let c = cell_found (cell_in level p.size p.geo) o e in
    let bands : BandsHold (Dted level) p.bands = subst (λ d. BandsHold d p.bands) is plan.alike in
    let same = one_of (λ b. (b.kind ≡ Int16) × (b.nodata ≡ Some (negsuc 32766))) p.bands k b bands at in
    ap (λ x. is_writable x n) c.output ∙ elevation_held n (ap (λ t. is_in t n) (sym same.0) ∙ h) (elevation level is)
held_by SrtmHgt p o b k n plan is e at h elevation =
    let bands : BandsHold SrtmHgt p.bands = subst (λ d. BandsHold d p.bands) is plan.alike in
    let same = one_of (λ b. (b.kind ≡ Int16) × (b.nodata ≡ Some (negsuc 32767))) p.bands k b bands at in
    ap (λ x. is_writable x n) (sym (is_same _ o e)) ∙ ap (λ t. is_in t n) (sym same.0) ∙ h
held_by AaiGrid p o b k n plan is e at h elevation =
    let bands : BandsHold AaiGrid p.bands = subst (λ d. BandsHold d p.bands) is plan.alike in
    let kind : is_within_int32 b.kind ≡ true = one_of (λ b. is_within_int32 b.kind ≡ true) p.bands k b (AllPass-from_list_all (λ b. is_within_int32 b.kind) p.bands bands) at in
    ap (λ x. is_writable x n) (sym (is_same _ o e)) ∙ value_held b.kind n kind h
held_by Vrt p o b k n plan is e at h elevation = absurd cc

pub sample_held : (p : Planned) (o : Output) (b : OutBand) (k : ℕ) (n : ℤ) → IsPlan p → output_of p ≡ Some o → slice_get p.bands k ≡ Some b → is_in b.kind n ≡ true → ((level : ℕ) → p.driver ≡ Dted level → IsElevation n) → is_writable o n ≡ true
sample_held p o b k n plan e at h elevation = held_by p.driver p o b k n plan refl e at h elevation

pub pixel_writable : (p : Planned) (o : Output) (source : Size) (pixels : ℕ → ℕ → ℕ → ℤ) (k i j : ℕ) → IsPlan p → output_of p ≡ Some o → k < length p.bands → is_writable o (out_pixel p source pixels k i j) ≡ true
pixel_writable p o source pixels k i j plan e less =
    let b = get_or p.bands k no_out_band in
    let at : slice_get p.bands k ≡ Some b = slice_get-get_or p.bands k no_out_band less in
    sample_held p o b k (out_pixel p source pixels k i j) plan e at (pixel_held p source pixels k i j b plan at) (λ level is. cell_held p source pixels k i j level plan is)
