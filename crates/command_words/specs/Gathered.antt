-- What is said so far while the uses of a command line are gathered.
use Rattle.std.specs.Prelude.{ℕ, List, true, Some, ◌++◌, [], ◌∷◌}
use Rattle.command_words.specs.declared.options.OptionWord.{OptionWord}
use Rattle.command_words.specs.declared.spoken.MosaicSaid.{MosaicSaid}
use Rattle.command_words.specs.declared.spoken.MosaicWanted.{MosaicWanted}
use Rattle.command_words.specs.declared.spoken.MosaicSaid.TheVariants as mosaic
use Rattle.command_words.specs.declared.spoken.Said.{Said}
use Rattle.command_words.specs.declared.spoken.Spoken.{Spoken}
use Rattle.command_words.specs.declared.spoken.Said.TheVariants as said
use denote.Ref.{Bor}

-- a row of a table as the code has it
abbrev pub named : Bor (List ℕ) × OptionWord → List ℕ × OptionWord
named o = (o.0.now, o.1)

-- what is wanted of a mosaic with one use more
abbrev pub with_mosaic : ℕ → MosaicSaid → MosaicWanted → MosaicWanted
with_mosaic at (mosaic.Resolution word) m = record m { resolution = Some (at, word) }
with_mosaic at (mosaic.PixelSize size) m = record m { pixel_size = Some (at, size) }
with_mosaic at (mosaic.Extent e) m = record m { extent = Some e }
with_mosaic at (mosaic.SourceNodata word) m = record m { src_nodata = word }
with_mosaic at (mosaic.Nodata word) m = record m { vrt_nodata = word }
with_mosaic at mosaic.Separate m = record m { separate = Some at }
with_mosaic at mosaic.Strict m = record m { strict = true }

-- what is said in all with one use more
abbrev pub with_said : ℕ → Said → Spoken → Spoken
with_said at said.Setting s = s
with_said at (said.Verification on) s = record s { verify = on }
with_said at (said.Blocks blocks) s = record s { blocks = blocks }
with_said at (said.Workers workers) s = record s { workers = workers }
with_said at (said.Band band) s = record s { bands = s.bands ++ band ∷ []; band_at = Some at }
with_said at said.ValuesOnly s = record s { values_only = Some at }
with_said at said.FilesOnly s = record s { files_only = Some at }
with_said at said.Geoloc s = record s { geoloc = true }
with_said at (said.Format format) s = record s { wanted = record s.wanted { format = Some format } }
with_said at (said.Window view) s = record s { wanted = record s.wanted { window = Some (at, view) } }
with_said at (said.Places view) s = record s { wanted = record s.wanted { places = Some (at, view) } }
with_said at (said.OutSize w h) s = record s { wanted = record s.wanted { outsize = Some (w, h) } }
with_said at (said.Nodata word) s = record s { wanted = record s.wanted { nodata = word } }
with_said at (said.Kind kind) s = record s { wanted = record s.wanted { kind = Some kind } }
with_said at (said.Interleave layout) s = record s { wanted = record s.wanted { interleave = Some (at, layout) } }
with_said at said.Quiet s = record s { quiet = true }
with_said at said.Inside s = record s { wanted = record s.wanted { inside = true } }
with_said at said.Touching s = record s { wanted = record s.wanted { touching = true } }
with_said at (said.Mosaic wish) s = record s { mosaic = with_mosaic at wish s.mosaic }
with_said at (said.List name) s = record s { list = Some name }
with_said at (said.Source name) s = record s { source = Some name }
with_said at (said.Output name) s = record s { output = Some (at, name) }
with_said at (said.Input name) s = record s { inputs = s.inputs ++ name ∷ [] }
with_said at (said.X x) s = record s { x = Some x }
with_said at (said.Y y) s = record s { y = Some y }
with_said at (said.Tile n) s = record s { tile = Some n }
