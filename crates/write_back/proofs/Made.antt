-- New targets.
use Rattle.std.proofs.Common.{◌≡◌, ℕ, zero, suc, ℤ, pos, ◌+◌, ◌-◌, ◌*◌, ◌<◌, ◌≤◌, List, [], ◌++◌, length, replicate, Option, Some, None, refl, sym, ap, ◌∙◌, subst, arith, append-nil}
use Rattle.std.proofs.lemmas.List.{length-replicate}
use Rattle.outside.specs.Outside.{Files}
use Rattle.geotransform.specs.Geo.{IsRaster}
use Rattle.block_cache.specs.Entries.{PoolView, IsPool, pool_view}
use Rattle.esri_hdr.specs.Head.{Head, IsHead}
use Rattle.interleaved_raw.specs.Raw as raw
use Rattle.dted_records.specs.Head as dted
use Rattle.dted_records.specs.Places as cell
use Rattle.write_back.specs.declared.forms.Writer.{Writer}
use Rattle.write_back.specs.declared.forms.Writer.TheVariants.{Raw, Hgt, Dted}
use Rattle.write_back.specs.declared.rows.GridForm.{GridForm}
use Rattle.write_back.specs.Columns.{Cell, cell_with_front}
use Rattle.write_back.specs.Forms.{band_total, block_of, cut_of, needed_of, plane_of, spot_of, under, IsFormed}
use Rattle.write_back.specs.Spots.{IsSpot}
use Rattle.write_back.specs.Grids.{front_of, grid_in, HasRows}
use Rattle.write_back.specs.Overlay.{overlay}
use Rattle.write_back.specs.Pieces.{spot_place, AreBytes}
use Rattle.write_back.specs.State.{IsRight}
use Rattle.write_back.specs.View.{Blocks, Rows, TargetView, shown_on, IsIn}
use Rattle.write_back.specs.Files.{header_text, HasHeader, IsBlockForm, IsTarget}
use Rattle.write_back.proofs.Blocks.{line_spot}
use Rattle.write_back.proofs.GridRows.{row_value}
use Rattle.write_back.proofs.Sheets.{pixel_of}
use Rattle.write_back.proofs.Taken.{empty_sound, empty_kept}
use Rattle.write_back.proofs.Woven.{spot_ends, spot_is}
use Rattle.write_back.proofs.Zeros.{zero_sample, zero_tile, zeros_small, new_cell, new_long, new_point}

-- a target of blocks as a contract sees it
abbrev pub target_at : Writer → PoolView → Option (List ℕ) → ℕ → List ℕ → Option (Option (List ℕ) × List ℕ) → TargetView
target_at w pool draft len name header = record { output = Blocks w; pool = pool; draft = draft; len = len; name = name; lines = 0; header = header; fault = None }

-- a new target is right
pub made : (w v : Writer) (told : Option Files) (pool : PoolView) (capacity : ℕ) (draft : Option (List ℕ)) (len : ℕ) (name : List ℕ) (header : Option (Option (List ℕ) × List ℕ)) (bytes : List ℕ) → v ≡ w → IsPool pool → pool ≡ pool_view [] capacity → IsBlockForm w → len ≡ needed_of w → length bytes ≡ needed_of w → IsFormed w bytes
    → ((m : Files) → told ≡ Some m → draft ≡ Some bytes) → HasHeader (header_text w) told name header → IsTarget told (target_at v pool draft len name header)
made w v told pool capacity draft len name header bytes same valid empty form long size formed is headed = subst (λ u. IsTarget told (target_at u pool draft len name header)) (sym same) (record {
  form = form;
  sound = empty_sound w pool capacity valid empty;
  right = λ none. record {
    long = long;
    holds = λ m e. (bytes, record { is = is m e; long = size; formed = formed; kept = empty_kept w pool capacity empty bytes });
  };
  headed = headed;
})

-- and shows what the draft's bytes hold
pub shows : (w v : Writer) (pool : PoolView) (capacity : ℕ) (draft : Option (List ℕ)) (bytes : List ℕ) → v ≡ w → pool ≡ pool_view [] capacity → draft ≡ Some bytes → ((k u n : ℕ) → IsSpot w k u n → under w bytes k u n ≡ pos 0) → (k x y : ℕ) → IsIn (Blocks v) k x y → shown_on (Blocks v) pool draft k x y ≡ pos 0
shows w v pool capacity draft bytes same empty is none = subst (λ u. (k x y : ℕ) → IsIn (Blocks u) k x y → shown_on (Blocks u) pool draft k x y ≡ pos 0) (sym same)
    (λ k x y place. ap (λ (p : PoolView). shown_on (Blocks w) p draft k x y) empty ∙ ap (λ d. shown_on (Blocks w) (pool_view [] capacity) d k x y) is ∙ none (plane_of (cut_of w).woven k) (spot_of (cut_of w).by_columns (cut_of w).woven (band_total w) k x y) (block_of (cut_of w).by_columns x y) (spot_is w k x y (pixel_of w k x y place)))

pub raw_zero : (h : Head) (n : ℕ) → IsHead h → n ≡ raw.needed_of h → (k u v : ℕ) → IsSpot (Raw h) k u v → under (Raw h) (replicate n 0) k u v ≡ pos 0
raw_zero h n is long k u v spot = zero_sample h n (spot_place h k u v) (let last = spot_ends h k u v is (line_spot h k u v spot) in omega arith)

pub tile_zero : (side : ℕ) → (k u v : ℕ) → IsSpot (Hgt side) k u v → under (Hgt side) (replicate (2 * (side * side)) 0) k u v ≡ pos 0
tile_zero side k u v spot = zero_tile side u v spot.spot spot.block

pub cell_zero : (h : dted.Head) (front : List ℕ) → length front ≡ cell.record_of h 0 → AreBytes front → (k u v : ℕ) → IsSpot (Dted (cell_with_front h front)) k u v → under (Dted (cell_with_front h front)) (front ++ replicate (cell.needed_of h - length front) 0) k u v ≡ pos 0
cell_zero h front len small k u v spot = new_point h front len small v u spot.block spot.spot

-- a grid of which no line is written
abbrev pub grid_at : GridForm → PoolView → Option (List ℕ) → ℕ → List ℕ → TargetView
grid_at g pool draft len name = record { output = Rows g; pool = pool; draft = draft; len = len; name = name; lines = 0; header = None; fault = None }

no_rows : (g : GridForm) (draft : Option (List ℕ)) → draft ≡ Some (front_of g) → HasRows g 0 draft []
no_rows g draft is = record {
  is = is ∙ ap (λ (l : List ℕ). Some l) (sym (append-nil (front_of g)));
  count = refl;
  each = record { long = λ k d less. absurd (omega arith); values = λ k d less. absurd (omega arith) };
}

pub grid_made : (g : GridForm) (told : Option Files) (pool : PoolView) (draft : Option (List ℕ)) (len : ℕ) (name : List ℕ) → IsRaster g.size → ((m : Files) → told ≡ Some m → draft ≡ Some (front_of g)) → IsTarget told (grid_at g pool draft len name)
grid_made g told pool draft len name form is = record { form = form; sound = omega arith; right = λ none m e. ([], no_rows g draft (is m e)); headed = refl }

grid_zero : (g : GridForm) (draft : Option (List ℕ)) (x y : ℕ) → HasRows g 0 draft [] → x < g.size.w → y < g.size.h → grid_in g draft x y ≡ pos 0
grid_zero g None x y has column line = refl
grid_zero g (Some b) x y has column line = row_value g 0 b [] x y has column line

pub grid_shows : (g : GridForm) (pool : PoolView) (draft : Option (List ℕ)) → draft ≡ Some (front_of g) → (k x y : ℕ) → IsIn (Rows g) k x y → shown_on (Rows g) pool draft k x y ≡ pos 0
grid_shows g pool draft is k x y place = grid_zero g draft x y (no_rows g draft is) place.column place.line
