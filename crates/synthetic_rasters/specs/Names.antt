-- The names of what is made.
use Rattle.std.specs.Prelude.{ℕ, ◌+◌, List, ◌∷◌, ◌++◌, map, codes}
use Rattle.std.specs.List.{range_with_len}

-- the names of the tiles, each with its number from 0 to 3 (48 is the code of 0)
abbrev pub tile_name : ℕ → List ℕ
tile_name t = codes "synth_t" ++ (48 + t) ∷ codes ".bil"

abbrev pub tile_names : List (List ℕ)
tile_names = map tile_name (range_with_len 0 4)

-- the names of the mosaic of the tiles, of the outer mosaic, and of the output that is made of it
abbrev pub inner_name : List ℕ
inner_name = codes "synth_inner.vrt"

abbrev pub outer_name : List ℕ
outer_name = codes "synth_outer.vrt"

abbrev pub output_name : List ℕ
output_name = codes "synth_out.bil"
