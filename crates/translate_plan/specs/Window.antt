-- The window of the source that is translated, and the size that it gets.
use Rattle.std.specs.Prelude.{ℕ, ℤ, pos, ◌+ℤ◌, ◌*◌, ◌/◌, Bool, false, not, ◌&&◌, ◌||◌, Option, Some, None, Result, Ok}
use Rattle.std.specs.Prelude.{Err, nat_lt, int_lt, int_le, ◌==◌, if◌then◌else◌, unsigned_abs}
use Rattle.geotransform.specs.Limits.{most_side, farthest}
use Rattle.geotransform.specs.Places.{rounded_up}
use Rattle.geotransform.specs.Geo.{Transform, window_between}
use Rattle.geotransform.specs.declared.types.Size.{Size}
use Rattle.geotransform.specs.declared.faults.PlanFault.{PlanFault}
use Rattle.geotransform.specs.declared.faults.PlanFault.TheVariants.{NoGeo, EmptyWindow, Limit, Outside}
use Rattle.translate_plan.specs.declared.options.View.{View}
use Rattle.translate_plan.specs.declared.options.View.TheVariants.{Whole, Pixels, Places}
use Rattle.translate_plan.specs.declared.options.OutSize.{OutSize}
use Rattle.translate_plan.specs.declared.options.OutSize.TheVariants.{Count, Percent}
use Rattle.translate_plan.specs.declared.window.Asked.{Asked}
use Rattle.translate_plan.specs.declared.window.Window.{Window}

-- the window that four numbers give
abbrev pub asked_of : ℤ × ℤ × ℤ × ℤ → Asked
asked_of n = record { x = n.0; y = n.1; w = n.2; h = n.3 }

-- places in a raster with or without a geotransform
abbrev pub asked_between : Option Transform → ℤ → ℤ → ℤ → ℤ → Result Asked PlanFault
asked_between None ulx uly lrx lry = Err NoGeo
asked_between (Some g) ulx uly lrx lry = Ok (asked_of (window_between g ulx uly lrx lry))

-- what is asked for: the whole raster, pixels, or places, which need a geotransform
abbrev pub asked_in : View → Size → Option Transform → Result Asked PlanFault
asked_in Whole size geo = Ok (asked_of (pos 0, pos 0, pos size.w, pos size.h))
asked_in (Pixels x y w h) size geo = Ok (asked_of (x, y, w, h))
asked_in (Places ulx uly lrx lry) size geo = asked_between geo ulx uly lrx lry

-- there is no column or no line
abbrev pub is_empty : ℤ → ℤ → Bool
is_empty w h = int_lt w (pos 1) || int_lt h (pos 1)

-- a side is past its limit
abbrev pub is_large : ℤ → ℤ → Bool
is_large w h = int_lt (pos most_side) w || int_lt (pos most_side) h

-- an offset is past its limit
abbrev pub is_far : ℤ → ℤ → Bool
is_far x y = nat_lt farthest (unsigned_abs x) || nat_lt farthest (unsigned_abs y)

-- the window, within its limits
abbrev pub window_in : Asked → Result Window PlanFault
window_in a =
    if is_empty a.w a.h then Err EmptyWindow else
    (if is_large a.w a.h || is_far a.x a.y then Err Limit else
    Ok (record { x = a.x; y = a.y; size = record { w = unsigned_abs a.w; h = unsigned_abs a.h } }))

-- the window lies in the raster with all its pixels
abbrev pub is_within : Window → Size → Bool
is_within v size = (int_le (pos 0) v.x && int_le (pos 0) v.y) &&
    (int_le (v.x +ℤ pos v.size.w) (pos size.w) && int_le (v.y +ℤ pos v.size.h) (pos size.h))

-- some pixel of the window lies in the raster
abbrev pub meets : Window → Size → Bool
meets v size = (int_lt v.x (pos size.w) && int_lt v.y (pos size.h)) &&
    (int_lt (pos 0) (v.x +ℤ pos v.size.w) && int_lt (pos 0) (v.y +ℤ pos v.size.h))

-- the window may leave the raster in part, or as a whole, unless the words refuse it
abbrev pub inside_in : Bool → Bool → Window → Size → Result (Unit {0}) PlanFault
inside_in epo eco v size = if (epo && not (is_within v size)) || (eco && not (meets v size)) then Err Outside else Ok tt

-- a side by itself, of a window's side
abbrev pub side_of : OutSize → ℕ → ℕ
side_of (Count n) side = n
side_of (Percent p) side = side * p / 100

-- a side that may follow the other
abbrev pub is_free : OutSize → Bool
is_free (Count n) = n == 0
is_free (Percent p) = false

-- a side of the output, of a window's side: where it is free and the other isn't, the other in the window's proportion
abbrev pub side_by : OutSize → OutSize → ℕ → ℕ → ℕ
side_by a b side other = if is_free a && not (is_free b)
    then unsigned_abs (rounded_up (pos (side_of b other * side)) (pos other)) else side_of a side

-- the sides of the output
abbrev pub sides_of : Option (OutSize × OutSize) → Size → ℕ × ℕ
sides_of None size = (size.w, size.h)
sides_of (Some s) size = (side_by s.0 s.1 size.w size.h, side_by s.1 s.0 size.h size.w)

-- the size of the output, within its limits
abbrev pub size_in : ℕ × ℕ → Result Size PlanFault
size_in s = if is_empty (pos s.0) (pos s.1) then Err EmptyWindow
    else (if is_large (pos s.0) (pos s.1) then Err Limit else Ok (record { w = s.0; h = s.1 }))
