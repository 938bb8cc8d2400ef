-- What the files of a folder say of a dataset, or its first refusal.
use Rattle.std.specs.Prelude.{ℕ, ◌≡◌, ◌⊎◌, Bool, not, List, [], ◌∷◌, length, nat_lt, Option, Some, None, Result}
use Rattle.std.specs.Prelude.{Ok, Err, ok_or, option_and_then, if◌then◌else◌}
use Rattle.std.specs.List.{range_with_len}
use Rattle.std.specs.FinMap.{get}
use Rattle.lists_and_answers.specs.Answers.{◌>>=◌}
use Rattle.outside.specs.Outside.{Files}
use Rattle.outside.specs.Names.{extension_of, header_of, last_part}
use Rattle.outside.specs.declared.name.Ext.{Ext}
use Rattle.outside.specs.declared.name.Ext.TheVariants.{Bil, Bip, Bsq, Dt0, Dt1, Dt2, Hgt, Asc, Grd, Vrt}
use Rattle.esri_hdr.specs.Head.{Head, esri_head}
use Rattle.interleaved_raw.specs.Raw as raw
use Rattle.dted_records.specs.declared.head.DtedFault.TheVariants.{BadRecord}
use Rattle.dted_records.specs.Head as dted
use Rattle.dted_records.specs.Places as dted_places
use Rattle.dted_records.specs.Records.{is_record}
use Rattle.hgt_tiles.specs.declared.corner.HgtFault.TheVariants.{BadName, BadLength}
use Rattle.hgt_tiles.specs.Names as hgt_names
use Rattle.hgt_tiles.specs.Places as hgt_places
use Rattle.ascii_grid.specs.Grid as ascii
use Rattle.ascii_grid.specs.declared.faults.GridFault.TheVariants as grid
use Rattle.vrt_profile.specs.Values.{DocumentValue, SourceValue, longest_document}
use Rattle.vrt_profile.specs.Resolve.{resolved_text}
use Rattle.vrt_profile.specs.Document.{document_of}
use Rattle.vrt_markup.specs.declared.fault.VrtFault.TheVariants as vrt
use Rattle.catalog.specs.Mosaics.{source_name, sources_of}
use Rattle.catalog.specs.Dataset.{DatasetHead}
use Rattle.catalog.specs.Drivers.{Dataset, dataset_of}
use Rattle.catalog.specs.declared.driver.Found.{Found}
use Rattle.catalog.specs.declared.kind.Kind.{Kind}
use Rattle.catalog.specs.declared.kind.Kind.TheVariants as kinds
use Rattle.catalog.specs.declared.driver.DriverHead.TheVariants as drivers
use Rattle.catalog.specs.declared.driver.Content.{Content}
use Rattle.catalog.specs.declared.driver.Content.TheVariants.{File, Mosaic}
use Rattle.catalog.specs.declared.faults.LimitKind.TheVariants as limits
use Rattle.catalog.specs.declared.faults.Bad.{Bad}
use Rattle.catalog.specs.declared.faults.Bad.TheVariants as bad
use Rattle.catalog.specs.declared.faults.WalkFault.{WalkFault}
use Rattle.catalog.specs.declared.faults.WalkFault.TheVariants.{Absent, NotRecognized, Malformed, Short, Cycle, TooDeep}
use Rattle.catalog.specs.declared.faults.WalkFault.TheVariants.{Limit, SourceBand, FolderFault, Memory}

-- the bytes under a name
abbrev pub file_in : Files → List ℕ → Result (List ℕ) WalkFault
file_in m name = ok_or (get m name) (Absent name)

-- the kind of dataset that an extension stands for, where it is read
abbrev pub kind_of : Ext → Option Kind
kind_of Bil = Some kinds.Raw
kind_of Bip = Some kinds.Raw
kind_of Bsq = Some kinds.Raw
kind_of Dt0 = Some kinds.Dted
kind_of Dt1 = Some kinds.Dted
kind_of Dt2 = Some kinds.Dted
kind_of Hgt = Some kinds.Hgt
kind_of Asc = Some kinds.Ascii
kind_of Grd = Some kinds.Ascii
kind_of Vrt = Some kinds.Vrt

-- the kind that the extension of a name tells
abbrev pub kind_in : List ℕ → Result Kind WalkFault
kind_in name = ok_or (option_and_then kind_of (extension_of name)) (NotRecognized name)

-- a fault of a file, under the name of the file
abbrev pub named : {T E : Type 0} → (E → WalkFault) → Result T E → Result T WalkFault
named fault (Ok x) = Ok x
named fault (Err e) = Err (fault e)

-- a file is as long as its head asks
abbrev pub long_enough : ℕ → List ℕ → List ℕ → Result (Unit {0}) WalkFault
long_enough needed bytes name = if nat_lt (length bytes) needed then Err (Short name needed (length bytes)) else Ok tt

-- what the header under a name says
unfoldable pub header_in : Files → List ℕ → Result Head WalkFault
header_in m name = do
  bytes ← file_in m name
  named (λ f. Malformed name (bad.Hdr f)) (esri_head bytes)

-- what is found of the raw data under a name
unfoldable pub raw_in : Files → List ℕ → Result Found WalkFault
raw_in m name = do
  bytes ← file_in m name
  head ← header_in m (header_of name)
  enough ← long_enough (raw.needed_of head) bytes name
  Ok (record { content = File (drivers.Raw head); length = length bytes })

-- whether the record of a line of a cell isn't whole
abbrev pub is_broken : dted.Head → List ℕ → ℕ → Bool
is_broken h bytes line = not (is_record (dted.part (dted_places.record_of h line) (dted_places.record_len h) bytes))

-- the first of some lines of a cell whose record isn't whole
abbrev pub broken_in : dted.Head → List ℕ → List ℕ → Option ℕ
broken_in h bytes [] = None
broken_in h bytes (line ∷ lines) = if is_broken h bytes line then Some line else broken_in h bytes lines

-- no record is found that isn't whole
abbrev pub all_whole : List ℕ → Option ℕ → Result (Unit {0}) WalkFault
all_whole name None = Ok tt
all_whole name (Some line) = Err (Malformed name (bad.Dted (BadRecord line)))

-- each record of a cell is whole, from west to east
abbrev pub records_whole : dted.Head → List ℕ → List ℕ → Result (Unit {0}) WalkFault
records_whole h bytes name = all_whole name (broken_in h bytes (range_with_len 0 h.lines))

-- the head of the cell whose bytes stand under a name, which are as many as it asks
unfoldable pub cell_in : List ℕ → List ℕ → Result dted.Head WalkFault
cell_in bytes name = do
  head ← named (λ f. Malformed name (bad.Dted f)) (dted.dted_head bytes)
  enough ← long_enough (dted_places.needed_of head) bytes name
  Ok head

-- what is found of the cell under a name; `verify` asks for the sums of its records
unfoldable pub dted_in : Files → Bool → List ℕ → Result Found WalkFault
dted_in m verify name = do
  bytes ← file_in m name
  head ← cell_in bytes name
  whole ← (if verify then records_whole head bytes name else Ok tt)
  Ok (record { content = File (drivers.Dted head); length = length bytes })

-- what is found of the tile under a name
unfoldable pub hgt_in : Files → List ℕ → Result Found WalkFault
hgt_in m name = do
  corner ← ok_or (hgt_names.corner_of (last_part name)) (Malformed name (bad.Hgt BadName))
  bytes ← file_in m name
  side ← ok_or (hgt_places.side_of_length (length bytes)) (Malformed name (bad.Hgt BadLength))
  Ok (record { content = File (drivers.Hgt side); length = length bytes })

-- the head of the grid whose bytes stand under a name
abbrev pub grid_in : List ℕ → List ℕ → Result ascii.Head WalkFault
grid_in bytes name = named (λ f. Malformed name (bad.Grid f)) (ascii.grid_head bytes)

-- what is found of the grid under a name
unfoldable pub ascii_in : Files → List ℕ → Result Found WalkFault
ascii_in m name = do
  bytes ← file_in m name
  head ← grid_in bytes name
  Ok (record { content = File (drivers.Ascii head); length = length bytes })

-- the document of the mosaic whose bytes stand under a name, which are at most 67,108,864
abbrev pub document_in : List ℕ → List ℕ → Result DocumentValue WalkFault
document_in bytes name = if nat_lt longest_document (length bytes) then Err (Malformed name (bad.Vrt vrt.Limit))
    else named (λ f. Malformed name (bad.Vrt f)) (document_of bytes)

-- what is found of the mosaic under a name
unfoldable pub vrt_in : Files → List ℕ → Result Found WalkFault
vrt_in m name = do
  bytes ← file_in m name
  document ← document_in bytes name
  Ok (record { content = Mosaic document; length = length bytes })

-- what is found of the files of a dataset of this kind
abbrev pub found_in : Kind → Files → Bool → List ℕ → Result Found WalkFault
found_in kinds.Raw m verify name = raw_in m name
found_in kinds.Dted m verify name = dted_in m verify name
found_in kinds.Hgt m verify name = hgt_in m name
found_in kinds.Ascii m verify name = ascii_in m name
found_in kinds.Vrt m verify name = vrt_in m name

-- the dataset of a name whose kind is known
unfoldable pub dataset_by : Kind → Files → Bool → List ℕ → Result Dataset WalkFault
dataset_by kind m verify name = do
  found ← found_in kind m verify name
  Ok (dataset_of name found)

-- the dataset of a name, by its own files
unfoldable pub dataset_in : Files → Bool → List ℕ → Result Dataset WalkFault
dataset_in m verify name = do
  kind ← kind_in name
  dataset_by kind m verify name

-- the name of a source of the mosaic with the name `base`, or the refusal of its length
abbrev pub resolved : List ℕ → SourceValue → Result (List ℕ) WalkFault
resolved base s = ok_or (source_name base s) (Limit limits.Name (length (resolved_text base s)))

-- the name of each source is within the limit
abbrev pub all_resolved : List ℕ → List SourceValue → Result (Unit {0}) WalkFault
all_resolved base [] = Ok tt
all_resolved base (s ∷ ss) = resolved base s >>= λ name. all_resolved base ss

-- the names of the sources, if it is a mosaic, are within the limit
abbrev pub names_within : List ℕ → Content → Result (Unit {0}) WalkFault
names_within name (File h) = Ok tt
names_within name (Mosaic d) = all_resolved name (sources_of d)

-- the head of the dataset of a name; `verify` asks for the sums of DTED records
unfoldable pub head_in : Files → Bool → List ℕ → Result DatasetHead WalkFault
head_in m verify name = do
  d ← dataset_in m verify name
  within ← names_within name d.content
  Ok d.head

-- a file that is malformed is so by a fault of its own, and not by want of memory
abbrev pub IsOwnFault : Bad → Type 0
IsOwnFault (bad.Hdr f) = Unit {0}
IsOwnFault (bad.Dted f) = Unit {0}
IsOwnFault (bad.Hgt f) = Unit {0}
IsOwnFault (bad.Grid f) = f ≡ grid.Memory → ⊥
IsOwnFault (bad.Vrt f) = f ≡ vrt.Memory → ⊥
IsOwnFault bad.List = Unit {0}

-- where a file is malformed, its fault is its own
abbrev pub OwnsFaults : {T : Type 0} → Result T WalkFault → Type 0
OwnsFaults result = (name : List ℕ) (b : Bad) → result ≡ Err (Malformed name b) → IsOwnFault b

-- the same, or that a name tells no kind, or that the name of a source is too long; and nothing that only a walk finds
abbrev pub IsOfHead : WalkFault → Type 0
IsOfHead (Absent name) = Unit {0}
IsOfHead (NotRecognized name) = Unit {0}
IsOfHead (Malformed name b) = IsOwnFault b
IsOfHead (Short name needed has) = Unit {0}
IsOfHead (Cycle name) = ⊥
IsOfHead (TooDeep name) = ⊥
IsOfHead (Limit what value) = what ≡ limits.Name
IsOfHead (SourceBand name band) = ⊥
IsOfHead FolderFault = Unit {0}
IsOfHead Memory = Unit {0}

-- a name that tells no kind is refused so or for want of memory, and nothing else is refused so
pub record RefusesUnknown {T : Type 0} (name : List ℕ) (result : Result T WalkFault) : Type 0 where
  pub always : (fault : WalkFault) → kind_in name ≡ Err fault → (result ≡ Err fault) ⊎ (result ≡ Err Memory)
  pub only : (n : List ℕ) → result ≡ Err (NotRecognized n) → kind_in name ≡ Err (NotRecognized n)
