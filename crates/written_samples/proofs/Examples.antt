-- What the laws say, worked out on given bytes.
use Rattle.std.proofs.Common.{◌≡◌, ◌+◌, ◌<◌, ℕ, zero, suc, pos, inl, inr, get_or, arith, negsuc, false, List, [], ◌∷◌, ◌++◌, map, None, Err, refl}
use Rattle.std.specs.Prelude.{codes}
use Rattle.outside.specs.Outside.{put_at}
use Rattle.geotransform.specs.Decimal.{ticks_of, parts_of}
use Rattle.geotransform.specs.declared.types.PixelType.TheVariants.{Byte}
use Rattle.esri_hdr.specs.Head.{Head}
use Rattle.esri_hdr.specs.declared.header_parts.Layout.TheVariants.{Bip}
use Rattle.interleaved_raw.specs.Raw.{position_of, raw_at, IsBetween}
use Rattle.hgt_tiles.specs.Samples.{hgt_at, row_bytes}
use Rattle.ascii_grid.specs.declared.faults.GridFault.TheVariants.{TooFew}
use Rattle.ascii_grid.specs.Values.{side_in, step_in, value_in}
use Rattle.ascii_grid.specs.Keys.{with_value, shape_of}
use Rattle.ascii_grid.specs.Grid.{head_of, body_of, grid_in, grid_of, ascii_at}
use Rattle.written_samples.specs.Put.{IsRunFor}
use Rattle.written_samples.proofs.RawRuns.{run_read}

-- two bands of a line of two pixels, behind one byte
abbrev pixels : Head
pixels = record { size = record { w = 2; h = 1 }; bands = 2; kind = Byte; big = false; layout = Bip; skip = 1; band_row = 2; total_row = 4; gap = 0; nodata = None; geo = None }

abbrev old : List ℕ
old = 9 ∷ 1 ∷ 2 ∷ 3 ∷ 4 ∷ []

-- the second band gets 7 and 8, with the sample between them as it was
abbrev new : List ℕ
new = put_at (position_of pixels 1 0 0) (7 ∷ 3 ∷ 8 ∷ []) old

second_band : map (λ x. raw_at pixels new 1 x 0) (0 ∷ 1 ∷ []) ≡ pos 7 ∷ pos 8 ∷ []
second_band = refl

first_band : map (λ x. raw_at pixels new 0 x 0) (0 ∷ 1 ∷ []) ≡ pos 1 ∷ pos 3 ∷ []
first_band = refl

-- these bytes are a run, so the law speaks of them
run : IsRunFor pixels old 1 0 0 (pos 7 ∷ pos 8 ∷ []) (7 ∷ 3 ∷ 8 ∷ [])
run = record {
  in_bands = omega arith;
  in_lines = omega arith;
  in_columns = omega arith;
  in_file = omega arith;
  holds = λ some. omega arith;
  read = refl;
  between = λ j less free. between j less free;
}
  where
    between : (j : ℕ) → j < 3 → IsBetween pixels 2 j → get_or (7 ∷ 3 ∷ 8 ∷ []) j 0 ≡ get_or old (2 + j) 0
    between zero less (inl gap) = absurd (omega arith)
    between zero less (inr past) = absurd (omega arith)
    between (suc zero) less free = refl
    between (suc (suc zero)) less (inl gap) = absurd (omega arith)
    between (suc (suc zero)) less (inr past) = absurd (omega arith)
    between (suc (suc (suc j))) less free = absurd (omega arith)

last_is_read : raw_at pixels new 1 1 0 ≡ pos 8
last_is_read = run_read pixels old (7 ∷ 3 ∷ 8 ∷ []) 1 0 0 1 (pos 7 ∷ pos 8 ∷ []) run (omega arith)

-- a line of two samples below another one
lower_line : map (λ y. hgt_at 2 (put_at 4 (row_bytes (negsuc 1 ∷ pos 258 ∷ [])) (0 ∷ 5 ∷ 0 ∷ 6 ∷ 0 ∷ 7 ∷ 0 ∷ 8 ∷ [])) 1 y) (0 ∷ 1 ∷ []) ≡ pos 6 ∷ pos 258 ∷ []
lower_line = refl

abbrev head : List ℕ
head = codes "ncols 2 nrows 2 xllcorner 0 yllcorner 0 cellsize 1 "

-- a row of two, and another one behind it
second_value : ascii_at (head ++ codes "1 -2\n+3 04") 1 0 ≡ negsuc 1
unfolding grid_of grid_in head_of body_of with_value shape_of side_in step_in value_in ticks_of parts_of
second_value = refl

-- the other one is missing
half_a_grid : grid_of (head ++ codes "1 -2\n") ≡ Err TooFew
unfolding grid_of grid_in head_of body_of with_value shape_of side_in step_in value_in ticks_of parts_of
half_a_grid = refl
