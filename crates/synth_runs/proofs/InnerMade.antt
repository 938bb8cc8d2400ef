-- The mosaic that is made of the tiles.
use Rattle.std.proofs.Common.{◌≡◌, ◌∙◌, sym, ap, refl, arith, ℕ, ℤ, pos, neg_ℤ, ◌+◌, ◌*◌, ◌/◌, ◌%◌, ◌<◌, ◌≤◌, ◌≤ℤ◌, ◌^◌, ◌+ℤ◌, ◌-ℤ◌, ◌*ℤ◌, Bool, true, ◌&&◌, List, [], ◌∷◌, Option, Some, None, Result, Ok, unsigned_abs}
use Rattle.std.specs.Prelude.{if◌then◌else◌, option_map, ok_or}
use Rattle.std.proofs.lemmas.Int.{ints}
use Rattle.std.proofs.lemmas.Bool.Decides.{nat_tests}
use Rattle.lists_and_answers.specs.Answers.{◌>>=◌}
use Rattle.outside.specs.Names.{header_of}
use Rattle.geotransform.specs.Geo.{Transform, is_near, along, IsRaster}
use Rattle.geotransform.specs.Places.{half}
use Rattle.geotransform.specs.Print.{unit}
use Rattle.geotransform.specs.declared.types.PixelType.TheVariants.{Int16}
use Rattle.geotransform.specs.declared.types.Size.{Size}
use Rattle.geotransform.proofs.Floors.{half_only}
use Rattle.esri_hdr.specs.declared.header_parts.RawGeo.{RawGeo}
use Rattle.esri_hdr.specs.Head.{raw_geo, raw_geo_of, placed, is_origin, is_half_near}
use Rattle.vrt_profile.specs.Values.{SourceValue, BandValue}
use Rattle.vrt_profile.specs.Built.{pixel_rectangle, plain_source}
use Rattle.vrt_profile.specs.Cover.{whole}
use Rattle.vrt_profile.specs.Resolve.{related}
use Rattle.catalog.specs.Dataset.{DatasetHead}
use Rattle.catalog.specs.declared.kind.Kind.TheVariants.{Raw}
use Rattle.buildvrt.specs.Tiles.{TileValue}
use Rattle.buildvrt.specs.Judging.{judged_of, judged_alone, judged_beside}
use Rattle.buildvrt.specs.Grids.{GridValue, IsGrid, less_of, greater_of, union_of, some_pixels, side_within, side_of, rounded_transform, grid_by, grid_of}
use Rattle.buildvrt.specs.Rectangles.{PatchValue, rectangle_of, shown_in, patch_of, patches_of}
use Rattle.buildvrt.specs.Bands.{all_bands, bands_within}
use Rattle.buildvrt.specs.Mosaic.{document_on, document_by, mosaic_of, mosaic_by}
use Rattle.buildvrt.specs.declared.options.Extent.{Extent}
use Rattle.buildvrt.specs.declared.patch.PixelRect.{PixelRect}
use Rattle.buildvrt.specs.declared.faults.BuildFault.{BuildFault}
use Rattle.buildvrt.specs.declared.faults.BuildFault.TheVariants.{Limit}
use Rattle.buildvrt.proofs.Bounds.{aligned}
use Rattle.buildvrt.proofs.Made.{made, mosaic_made}
use Rattle.buildvrt.proofs.Patches.{shown_is}
use Rattle.synthetic_rasters.specs.Names.{tile_name, inner_name}
use Rattle.synthetic_rasters.specs.Outer.{outer_place}
use Rattle.synthetic_rasters.specs.Tiles.{IsSide, nodata}
use Rattle.synth_runs.specs.Runs.{inner_options}
use Rattle.synth_runs.proofs.Standing.{tile_dataset, tile_heads, tile_source, tile_bands, inner_document}

-- a place so many pixels right of the left edge, and one so many below the upper edge
abbrev east : ℕ → ℤ
east k = pos (unit * k)

abbrev south : ℕ → ℤ
south k = neg_ℤ (pos (unit * k))

-- the place of a tile with this upper left corner
abbrev corner_at : ℤ → ℤ → Transform
corner_at x y = record { ox = x; oy = y; dx = pos unit; dy = neg_ℤ (pos unit) }

abbrev place : ℕ → ℕ → Transform
place a b = corner_at (east a) (south b)

-- the centre of its first pixel, in units of the 16th place
abbrev centre_at : ℤ → ℤ → RawGeo
centre_at x y = record { ulx = pos 18 *ℤ x; uly = pos 18 *ℤ y; xdim = pos unit; ydim = pos unit }

abbrev places : ℕ → ℕ
places a = 5000000000000000 * (2 * a + 1)

abbrev centre : ℕ → ℕ → RawGeo
centre a b = centre_at (pos (places a)) (neg_ℤ (pos (places b)))

exactly : (v q : ℤ) → v ≡ q *ℤ pos 36 → half v 36 ≡ q
exactly v q e = half_only v 36 q (omega arith) (record { near = omega (arith, ints, e); away = λ h. absurd (omega (arith, ints, e, h)) })

left_half : (a : ℕ) → pos 2 *ℤ east a +ℤ pos unit ≡ pos (places a) *ℤ pos 36
left_half a = omega (arith, ints)

top_half : (b : ℕ) → pos 2 *ℤ south b +ℤ neg_ℤ (pos unit) ≡ neg_ℤ (pos (places b)) *ℤ pos 36
top_half b = omega (arith, ints)

raw_is : (a b : ℕ) → raw_geo (place a b) ≡ centre a b
raw_is a b =
    ap (λ (x : ℤ). centre_at x (half (pos 2 *ℤ south b +ℤ neg_ℤ (pos unit)) 36)) (exactly _ (pos (places a)) (left_half a))
    ∙ ap (centre_at (pos (places a))) (exactly _ (neg_ℤ (pos (places b))) (top_half b))

-- a header can hold it
near_is : (v : ℤ) → unsigned_abs v < 10 ^ 12 * unit → is_near v ≡ true
near_is v h = grind (arith, nat_tests)

half_near_is : (v : ℤ) → unsigned_abs v < 2 * (10 ^ 12 * unit) → is_half_near v ≡ true
half_near_is v h = grind (arith, nat_tests)

both_and_both : (a b c d : Bool) → a ≡ true → b ≡ true → c ≡ true → d ≡ true → ((a && b) && (c && d)) ≡ true
both_and_both a b c d p q r s = rw (p, q, r, s) refl

origin_is : (a b : ℕ) → a ≤ 4096 → b ≤ 4096 → is_origin (centre a b) ≡ true
origin_is a b p q =
    both_and_both _ _ _ _
    (near_is (pos 18 *ℤ pos (places a)) (omega (arith, ints)))
    (near_is (pos 18 *ℤ neg_ℤ (pos (places b))) (omega (arith, ints)))
    (half_near_is (pos 18 *ℤ pos (places a) +ℤ pos 18 *ℤ pos (places a) -ℤ pos unit) (omega (arith, ints)))
    (half_near_is (pos 18 *ℤ neg_ℤ (pos (places b)) +ℤ pos 18 *ℤ neg_ℤ (pos (places b)) +ℤ pos unit) (omega (arith, ints)))

held_is : (a b : ℕ) → a ≤ 4096 → b ≤ 4096 → raw_geo_of (place a b) ≡ Some (centre a b)
held_is a b p q =
    ap (λ (h : Bool). if h then Some (raw_geo (place a b)) else None) (ap is_origin (raw_is a b) ∙ origin_is a b p q)
    ∙ ap Some (raw_is a b)

left_again : (a : ℕ) → pos 18 *ℤ pos (places a) -ℤ pos 90000000000000000 ≡ east a
left_again a = omega (arith, ints)

top_again : (b : ℕ) → pos 18 *ℤ neg_ℤ (pos (places b)) +ℤ pos 90000000000000000 ≡ south b
top_again b = omega (arith, ints)

placed_is : (a b : ℕ) → placed (centre a b) ≡ place a b
placed_is a b =
    ap (λ (x : ℤ). corner_at x (pos 18 *ℤ neg_ℤ (pos (places b)) +ℤ pos 90000000000000000)) (left_again a)
    ∙ ap (corner_at (east a)) (top_again b)

-- what the header of a tile says of its place is the place
place_again : (a b : ℕ) → a ≤ 4096 → b ≤ 4096 → option_map placed (raw_geo_of (place a b)) ≡ Some (place a b)
place_again a b p q = ap (option_map placed) (held_is a b p q) ∙ ap Some (placed_is a b)

-- the heads of the tiles
abbrev square : ℕ → Size
square n = record { w = n; h = n }

abbrev head_with : ℕ → ℕ → Option Transform → DatasetHead
head_with n t geo = record {
  name = tile_name t;
  kind = Raw;
  size = square n;
  geo = geo;
  srs = None;
  bands = record { kind = Int16; nodata = Some nodata; block = record { w = n; h = 1 } } ∷ [];
  files = tile_name t ∷ header_of (tile_name t) ∷ [];
}

abbrev head : ℕ → ℕ → ℕ → ℕ → DatasetHead
head n t a b = head_with n t (Some (place a b))

abbrev heads : ℕ → List DatasetHead
heads n = head n 0 0 0 ∷ head n 1 n 0 ∷ head n 2 0 n ∷ head n 3 n n ∷ []

geo_is : (x y a b : ℕ) → x ≡ a → y ≡ b → a ≤ 4096 → b ≤ 4096 → option_map placed (raw_geo_of (place x y)) ≡ Some (place a b)
geo_is x y a b p q l m =
    ap (λ (k : ℕ). option_map placed (raw_geo_of (place k y))) p
    ∙ ap (λ (k : ℕ). option_map placed (raw_geo_of (place a k))) q
    ∙ place_again a b l m

head_is : (n t a b : ℕ) → t % 2 * n ≡ a → t / 2 * n ≡ b → a ≤ 4096 → b ≤ 4096 → (tile_dataset n t).head ≡ head n t a b
head_is n t a b p q l m = ap (head_with n t) (geo_is (t % 2 * n) (t / 2 * n) a b p q l m)

four_are : {A : Type 0} (a b c d e f g h : A) → a ≡ e → b ≡ f → c ≡ g → d ≡ h → a ∷ b ∷ c ∷ d ∷ [] ≡ e ∷ f ∷ g ∷ h ∷ []
four_are a b c d e f g h p q r s = rw (p, q, r, s) refl

none_of : (n : ℕ) → 0 * n ≡ 0
none_of n = omega arith

one_of : (n : ℕ) → 1 * n ≡ n
one_of n = omega arith

heads_are : (n : ℕ) → n ≤ 4096 → tile_heads n ≡ heads n
heads_are n few =
    four_are _ _ _ _ (head n 0 0 0) (head n 1 n 0) (head n 2 0 n) (head n 3 n n)
    (head_is n 0 0 0 (none_of n) (none_of n) (omega arith) (omega arith))
    (head_is n 1 n 0 (one_of n) (none_of n) few (omega arith))
    (head_is n 2 0 n (none_of n) (one_of n) (omega arith) few)
    (head_is n 3 n n (one_of n) (one_of n) few few)

-- none is skipped
abbrev tile : ℕ → ℕ → ℕ → ℕ → TileValue
tile n t a b = record { head = head n t a b; place = place a b }

abbrev tiles : ℕ → List TileValue
tiles n = tile n 0 0 0 ∷ tile n 1 n 0 ∷ tile n 2 0 n ∷ tile n 3 n n ∷ []

judged_are : (n : ℕ) → judged_of inner_options (heads n) ≡ record { tiles = tiles n; skipped = [] }
unfolding judged_alone judged_beside
judged_are n = refl

-- of two numbers the first, or the second
less_first : (x y : ℤ) → x ≤ℤ y → less_of x y ≡ x
less_first x y h = grind (arith, ints, nat_tests)

less_second : (x y : ℤ) → y ≤ℤ x → less_of x y ≡ y
less_second x y h = grind (arith, ints, nat_tests)

greater_first : (x y : ℤ) → y ≤ℤ x → greater_of x y ≡ x
greater_first x y h = grind (arith, ints, nat_tests)

greater_second : (x y : ℤ) → x ≤ℤ y → greater_of x y ≡ y
greater_second x y h = grind (arith, ints, nat_tests)

-- of four numbers, where it is known which one it is
least_first : (a b c d : ℤ) → a ≤ℤ b → a ≤ℤ c → a ≤ℤ d → less_of (less_of (less_of a b) c) d ≡ a
least_first a b c d p q r =
    ap (λ (x : ℤ). less_of (less_of x c) d) (less_first a b p)
    ∙ ap (λ (x : ℤ). less_of x d) (less_first a c q)
    ∙ less_first a d r

least_third : (a b c d : ℤ) → a ≤ℤ b → c ≤ℤ a → c ≤ℤ d → less_of (less_of (less_of a b) c) d ≡ c
least_third a b c d p q r =
    ap (λ (x : ℤ). less_of (less_of x c) d) (less_first a b p)
    ∙ ap (λ (x : ℤ). less_of x d) (less_second a c q)
    ∙ less_first c d r

greatest_first : (a b c d : ℤ) → b ≤ℤ a → c ≤ℤ a → d ≤ℤ a → greater_of (greater_of (greater_of a b) c) d ≡ a
greatest_first a b c d p q r =
    ap (λ (x : ℤ). greater_of (greater_of x c) d) (greater_first a b p)
    ∙ ap (λ (x : ℤ). greater_of x d) (greater_first a c q)
    ∙ greater_first a d r

greatest_second : (a b c d : ℤ) → a ≤ℤ b → c ≤ℤ b → d ≤ℤ b → greater_of (greater_of (greater_of a b) c) d ≡ b
greatest_second a b c d p q r =
    ap (λ (x : ℤ). greater_of (greater_of x c) d) (greater_second a b p)
    ∙ ap (λ (x : ℤ). greater_of x d) (greater_first b c q)
    ∙ greater_first b d r

-- the edges of the tiles, and those of all together
abbrev right_of : ℕ → ℕ → ℤ
right_of n a = along (east a) (pos unit) (pos n)

abbrev bottom_of : ℕ → ℕ → ℤ
bottom_of n b = along (south b) (neg_ℤ (pos unit)) (pos n)

left_is : (n : ℕ) → less_of (less_of (less_of (east 0) (east n)) (east 0)) (east n) ≡ pos 0
left_is n = least_first (east 0) (east n) (east 0) (east n) (omega (arith, ints)) (omega (arith, ints)) (omega (arith, ints))

top_is : (n : ℕ) → greater_of (greater_of (greater_of (south 0) (south 0)) (south n)) (south n) ≡ pos 0
top_is n = greatest_first (south 0) (south 0) (south n) (south n) (omega (arith, ints)) (omega (arith, ints)) (omega (arith, ints))

right_is : (n : ℕ) → greater_of (greater_of (greater_of (right_of n 0) (right_of n n)) (right_of n 0)) (right_of n n) ≡ east (2 * n)
right_is n =
    greatest_second (right_of n 0) (right_of n n) (right_of n 0) (right_of n n) (omega (arith, ints)) (omega (arith, ints)) (omega (arith, ints))
    ∙ omega (arith, ints)

bottom_is : (n : ℕ) → less_of (less_of (less_of (bottom_of n 0) (bottom_of n 0)) (bottom_of n n)) (bottom_of n n) ≡ south (2 * n)
bottom_is n =
    least_third (bottom_of n 0) (bottom_of n 0) (bottom_of n n) (bottom_of n n) (omega (arith, ints)) (omega (arith, ints)) (omega (arith, ints))
    ∙ omega (arith, ints)

abbrev reach : ℕ → Extent
reach n = record { xmin = pos 0; ymin = south (2 * n); xmax = east (2 * n); ymax = pos 0 }

reach_by : (a b c d e f g h : ℤ) → a ≡ e → b ≡ f → c ≡ g → d ≡ h → (r : Extent) → r ≡ record { xmin = a; ymin = b; xmax = c; ymax = d } → r ≡ record { xmin = e; ymin = f; xmax = g; ymax = h }
reach_by a b c d e f g h p q r s x is = is ∙ rw (p, q, r, s) refl

union_is : (n : ℕ) → union_of (tiles n) ≡ reach n
union_is n = reach_by _ _ _ _ (pos 0) (south (2 * n)) (east (2 * n)) (pos 0) (left_is n) (bottom_is n) (right_is n) (top_is n) (union_of (tiles n)) refl

-- the grid
abbrev grid : ℕ → GridValue
grid n = record { left = pos 0; top = pos 0; dx = pos unit; dy = pos unit; size = square (2 * n); geo = outer_place }

square_raster : (n : ℕ) → 1 ≤ n → n ≤ 8192 → IsRaster (square n)
square_raster n some few = record { some_columns = omega arith; some_lines = omega arith; columns = omega arith; lines = omega arith }

grid_rules : (n : ℕ) → IsSide n → IsGrid (grid n)
grid_rules n side =
    let some = side.some in
    let few = side.few in
    record {
      left = omega arith;
      top = omega arith;
      column = record { above = omega (arith, ints); low = omega arith };
      line = record { above = omega (arith, ints); low = omega arith };
      size = square_raster (2 * n) (omega arith) (omega arith);
      geo = record {
        transform = record {
          column = λ e. absurd (omega (arith, ints, e));
          line = λ e. absurd (omega (arith, ints, e));
          ox_near = omega arith;
          oy_near = omega arith;
          dx_near = omega arith;
          dy_near = omega arith;
        };
        ox = refl;
        oy = refl;
        dx = refl;
        dy = refl;
      };
    }

-- each tile lies on whole pixels of it
rectangle_is : (n m t a b : ℕ) → IsSide n → 1 ≤ m → m ≤ 8192 → rectangle_of (grid n) (tile m t a b) ≡ record { x = pos a; y = pos b; w = pos m; h = pos m }
rectangle_is n m t a b side some few =
    aligned (grid n) (tile m t a b) (pos a) (pos b) (grid_rules n side) (square_raster m some few) refl refl (omega (arith, ints)) (omega (arith, ints))

within_is : (n : ℕ) → n ≤ 4096 → side_within (pos (2 * n)) ≡ Some (2 * n)
within_is n few = grind (arith, nat_tests)

side_is : (n : ℕ) (way : ℤ) → IsSide n → way ≡ pos (2 * n) *ℤ pos unit → side_of way (pos unit) ≡ Some (2 * n)
side_is n way side e =
    let some = side.some in
    let few = side.few in
    let pixels : some_pixels (pos (2 * n) *ℤ pos unit) (pos unit) ≡ pos (2 * n) = ap (λ (r : PixelRect). r.w) (rectangle_is n (2 * n) 0 0 0 side (omega arith) (omega arith)) in
    ap (λ (w : ℤ). side_of w (pos unit)) e ∙ ap side_within pixels ∙ within_is n few

gridded : (e : Extent) (w h : ℕ) (geo : Transform) → side_of (e.xmax -ℤ e.xmin) (pos unit) ≡ Some w → side_of (e.ymax -ℤ e.ymin) (pos unit) ≡ Some h → rounded_transform e.xmin e.ymax (pos unit) (pos unit) ≡ Some geo → grid_by e (pos unit, pos unit) ≡ Some (record { left = e.xmin; top = e.ymax; dx = pos unit; dy = pos unit; size = record { w = w; h = h }; geo = geo })
unfolding grid_by
gridded e w h geo p q r = rw (p, q, r) refl

grid_is : (n : ℕ) → IsSide n → grid_of inner_options (tiles n) ≡ Some (grid n)
grid_is n side =
    ap (λ (e : Extent). grid_by e (pos unit, pos unit)) (union_is n)
    ∙ gridded (reach n) (2 * n) (2 * n) outer_place
    (side_is n (east (2 * n) -ℤ pos 0) side (omega (arith, ints)))
    (side_is n (pos 0 -ℤ south (2 * n)) side (omega (arith, ints)))
    refl

-- the rectangles of the tiles
abbrev patch : ℕ → ℕ → ℕ → ℕ → PatchValue
patch n t a b = record { head = head n t a b; shown = Some (pixel_rectangle (pos a) (pos b) (pos n) (pos n)) }

abbrev patches : ℕ → List PatchValue
patches n = patch n 0 0 0 ∷ patch n 1 n 0 ∷ patch n 2 0 n ∷ patch n 3 n n ∷ []

abbrev rect : ℕ → ℕ → ℕ → PixelRect
rect n a b = record { x = pos a; y = pos b; w = pos n; h = pos n }

shown_here : (n a b : ℕ) → IsSide n → a ≤ n → b ≤ n → shown_in (square (2 * n)) (rect n a b) ≡ Ok (Some (pixel_rectangle (pos a) (pos b) (pos n) (pos n)))
shown_here n a b side p q =
    let some = side.some in
    let few = side.few in
    shown_is (square (2 * n)) (rect n a b) (grind (arith, nat_tests)) (grind (arith, nat_tests)) (grind (arith, nat_tests)) (grind (arith, nat_tests)) (grind (arith, nat_tests))

patch_is : (n t a b : ℕ) → IsSide n → a ≤ n → b ≤ n → patch_of (grid n) (tile n t a b) ≡ Ok (patch n t a b)
unfolding patch_of
patch_is n t a b side p q =
    let few = side.few in
    ap (λ (r : PixelRect). shown_in (square (2 * n)) r >>= λ shown. Ok (record { head = head n t a b; shown = shown })) (rectangle_is n n t a b side side.some (omega arith))
    ∙ ap (λ (r : Result _ BuildFault). r >>= λ shown. Ok (record { head = head n t a b; shown = shown })) (shown_here n a b side p q)

with_one : (g : GridValue) (t : TileValue) (ts : List TileValue) (p : PatchValue) (ps : List PatchValue) → patch_of g t ≡ Ok p → patches_of g ts ≡ Ok ps → patches_of g (t ∷ ts) ≡ Ok (p ∷ ps)
with_one g t ts p ps e f = rw (e, f) refl

patches_are : (n : ℕ) → IsSide n → patches_of (grid n) (tiles n) ≡ Ok (patches n)
patches_are n side =
    with_one _ _ (tile n 1 n 0 ∷ tile n 2 0 n ∷ tile n 3 n n ∷ []) _ _ (patch_is n 0 0 0 side (omega arith) (omega arith))
    (with_one _ _ (tile n 2 0 n ∷ tile n 3 n n ∷ []) _ _ (patch_is n 1 n 0 side (omega arith) (omega arith))
    (with_one _ _ (tile n 3 n n ∷ []) _ _ (patch_is n 2 0 n side (omega arith) (omega arith))
    (with_one _ _ [] _ _ (patch_is n 3 n n side (omega arith) (omega arith)) refl)))

-- the band
abbrev source : ℕ → ℕ → ℕ → ℕ → SourceValue
source n t a b = plain_source (related inner_name (tile_name t)) 1 (whole (square n)) (pixel_rectangle (pos a) (pos b) (pos n) (pos n)) (Some nodata)

abbrev band_of_sources : List SourceValue → List BandValue
band_of_sources sources = record { kind = Int16; nodata = Some nodata; sources = sources } ∷ []

abbrev bands : ℕ → List BandValue
bands n = band_of_sources (source n 0 0 0 ∷ source n 1 n 0 ∷ source n 2 0 n ∷ source n 3 n n ∷ [])

bands_are : (n : ℕ) → bands_within (all_bands inner_options (head n 0 0 0) (patches n)) ≡ Ok (bands n)
bands_are n = refl

source_is : (n t a b : ℕ) → t % 2 * n ≡ a → t / 2 * n ≡ b → tile_source n t ≡ source n t a b
source_is n t a b p q = ap (λ (k : ℕ). source n t k (t / 2 * n)) p ∙ ap (source n t a) q

bands_stand : (n : ℕ) → tile_bands n ≡ bands n
bands_stand n =
    ap band_of_sources (four_are _ _ _ _ (source n 0 0 0) (source n 1 n 0) (source n 2 0 n) (source n 3 n n)
    (source_is n 0 0 0 (none_of n) (none_of n))
    (source_is n 1 n 0 (one_of n) (none_of n))
    (source_is n 2 0 n (none_of n) (one_of n))
    (source_is n 3 n n (one_of n) (one_of n)))

-- the document
document_is : (n : ℕ) → IsSide n → document_on inner_options (head n 0 0 0) (grid n) (tiles n) ≡ Ok (inner_document n)
unfolding inner_document
document_is n side =
    made inner_options (head n 0 0 0) (grid n) (tiles n) (patches n) (bands n) (patches_are n side) (bands_are n)
    ∙ ap (λ (b : List BandValue). Ok (record { size = square (2 * n); srs = None; geo = Some outer_place; bands = b })) (sym (bands_stand n))

document_made : (n : ℕ) → IsSide n → document_by inner_options (tiles n) ≡ Ok (inner_document n)
unfolding document_by
document_made n side =
    ap (λ (g : Option GridValue). ok_or g Limit >>= λ grid. document_on inner_options (head n 0 0 0) grid (tiles n)) (grid_is n side)
    ∙ document_is n side

-- no tile is skipped, and the mosaic is the one that stands
pub inner_is_made : (n : ℕ) → IsSide n → mosaic_of inner_options (tile_heads n) ≡ Ok (inner_document n, [])
inner_is_made n side =
    ap (mosaic_of inner_options) (heads_are n side.few)
    ∙ ap (mosaic_by inner_options (heads n)) (judged_are n)
    ∙ mosaic_made inner_options (heads n) (record { tiles = tiles n; skipped = [] }) (inner_document n) refl (document_made n side)
