-- In how many reads it is found what the own files of datasets say.
use Rattle.std.specs.Prelude.{ℕ, ◌+◌, Bool, List, if◌then◌else◌}
use Rattle.std.specs.Int.{div_ceil}
use Rattle.std.specs.List.{sum_by}
use Rattle.catalog.specs.declared.driver.DriverHead.{DriverHead}
use Rattle.catalog.specs.declared.driver.DriverHead.TheVariants.{Raw, Dted, Hgt, Ascii}
use Rattle.catalog.specs.declared.driver.Content.{Content}
use Rattle.catalog.specs.declared.driver.Content.TheVariants.{File, Mosaic}
use Rattle.catalog.specs.Drivers.{Dataset}

-- The most bytes of a grid, a row or a line that are read or written at a time.
abbrev pub piece_len : ℕ
piece_len = 65536

-- The most reads in which the head of a file's data is found. Raw data have a header, which is read at once. Of a cell
-- the front is read, and then, where `verify` asks for the sums, the record of each line. A tile's name and length tell
-- all. A grid is read whole, in pieces of 65,536 bytes.
abbrev pub calls_to_find_head : Bool → DriverHead → ℕ → ℕ
calls_to_find_head verify (Raw h) len = 1
calls_to_find_head verify (Dted h) len = 1 + (if verify then h.lines else 0)
calls_to_find_head verify (Hgt side) len = 0
calls_to_find_head verify (Ascii h) len = div_ceil len piece_len

-- the same of a content whose file has this length; the document of a mosaic is read at once, and no source
abbrev pub calls_to_find : Bool → Content → ℕ → ℕ
calls_to_find verify (File h) len = calls_to_find_head verify h len
calls_to_find verify (Mosaic d) len = 1

-- the most reads in which a dataset's own files are read, each of them once
abbrev pub calls_to_open : Bool → Dataset → ℕ
calls_to_open verify d = calls_to_find verify d.content d.length

-- the most reads in which those of several datasets are
abbrev pub calls_to_open_all : Bool → List Dataset → ℕ
calls_to_open_all verify ds = sum_by (λ (d : Dataset). calls_to_open verify d) ds
