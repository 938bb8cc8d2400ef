-- Tiles of samples that a formula gives: four rasters, two beside two, and the files that hold them.
use Rattle.std.specs.Prelude.{ℕ, ℤ, pos, neg_ℤ, ◌*ℤ◌, ◌+◌, ◌*◌, ◌/◌, ◌%◌, ◌==◌, ◌≤◌, List, [], ◌∷◌, flat_map, Some}
use Rattle.std.specs.Prelude.{if◌then◌else◌}
use Rattle.std.specs.List.{range_with_len}
use Rattle.outside.specs.Names.{header_of}
use Rattle.geotransform.specs.Print.{unit}
use Rattle.geotransform.specs.Geo.{Transform}
use Rattle.geotransform.specs.declared.types.PixelType.TheVariants.{Int16}
use Rattle.esri_hdr.specs.declared.header_parts.Layout.TheVariants.{Bil}
use Rattle.esri_hdr.specs.Head.{Head, raw_geo_of, plain_head}
use Rattle.esri_hdr.specs.Text.{hdr_text}
use Rattle.interleaved_raw.specs.Raw.{sample_bytes}
use Rattle.synthetic_rasters.specs.Names.{tile_name}

-- The most columns of a tile, and the most lines.
abbrev pub most_tile_side : ℕ
most_tile_side = 4096

-- the side of a tile, in pixels
pub record IsSide (n : ℕ) : Type 0 where
  pub some : 1 ≤ n
  pub few : n ≤ most_tile_side

-- the NODATA of the tiles, and of all that is made of them
abbrev pub nodata : ℤ
nodata = neg_ℤ (pos 1)

-- The sample of tile t in column x, line y: none in one of five, along diagonals, and else a number below 1000 by which
-- the tiles, their columns and their lines differ.
abbrev pub tile_sample : ℕ → ℕ → ℕ → ℤ
tile_sample t x y = if (x + y + t) % 5 == 4 then nodata else pos ((7 * x + 13 * y + 31 * t) % 1000)

-- The tiles 0 and 1 lie side by side, 2 and 3 below them: the place of a tile whose pixels are units.
abbrev pub tile_place : ℕ → ℕ → Transform
tile_place n t = record {
  ox = pos unit *ℤ pos (t % 2 * n);
  oy = neg_ℤ (pos unit *ℤ pos (t / 2 * n));
  dx = pos unit;
  dy = neg_ℤ (pos unit);
}

-- the head of a tile
abbrev pub tile_head : ℕ → ℕ → Head
tile_head n t = plain_head (record { w = n; h = n }) 1 Int16 Bil (Some nodata) (raw_geo_of (tile_place n t))

-- the bytes of line y of a tile, and of all its lines from north to south
abbrev pub line_bytes : ℕ → ℕ → ℕ → List ℕ
line_bytes n t y = flat_map (λ x. sample_bytes (tile_head n t) (tile_sample t x y)) (range_with_len 0 n)

unfoldable pub tile_data : ℕ → ℕ → List ℕ
tile_data n t = flat_map (line_bytes n t) (range_with_len 0 n)

-- the names and the bytes of a tile's files: its data, then its header
abbrev pub tile_files : ℕ → ℕ → List (List ℕ × List ℕ)
tile_files n t = (tile_name t, tile_data n t) ∷ (header_of (tile_name t), hdr_text (tile_head n t)) ∷ []

-- those of all tiles, in order
unfoldable pub tiles_files : ℕ → List (List ℕ × List ℕ)
tiles_files n = flat_map (tile_files n) (range_with_len 0 4)

-- a line of a tile of this side, as it is kept between two lines: its bytes
pub record LineOfTile : Type 0 where
  pub side : ℕ
  pub bytes : List ℕ
