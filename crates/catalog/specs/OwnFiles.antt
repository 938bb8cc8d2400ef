-- What is read of a dataset in its own files, and what that may be refused for.
use Rattle.std.specs.Prelude.{ℕ, List, ◌≡◌, Option, Some, Ok}
use Rattle.outside.specs.Outside.{Files}
use Rattle.vrt_profile.specs.Values.{IsDocument}
use Rattle.catalog.specs.declared.kind.Kind.{Kind}
use Rattle.catalog.specs.declared.driver.DriverHead.{DriverHead}
use Rattle.catalog.specs.declared.driver.DriverHead.TheVariants.{Raw, Dted, Hgt, Ascii}
use Rattle.catalog.specs.declared.kind.Kind.TheVariants as kinds
use Rattle.catalog.specs.declared.driver.Content.{Content}
use Rattle.catalog.specs.declared.driver.Content.TheVariants.{File, Mosaic}
use Rattle.catalog.specs.Drivers.{IsOfKind}
use Rattle.catalog.specs.declared.faults.WalkFault.{WalkFault}
use Rattle.catalog.specs.declared.faults.WalkFault.TheVariants.{Absent, NotRecognized, Malformed, Short, Cycle, TooDeep}
use Rattle.catalog.specs.declared.faults.WalkFault.TheVariants.{Limit, SourceBand, FolderFault, Memory}
use Rattle.catalog.specs.Heads.{IsOwnFault, file_in}

-- the kind of the head of a file
abbrev pub driver_kind : DriverHead → Kind
driver_kind (Raw h) = kinds.Raw
driver_kind (Dted h) = kinds.Dted
driver_kind (Hgt side) = kinds.Hgt
driver_kind (Ascii h) = kinds.Ascii

-- the kind of a content
abbrev pub content_kind : Content → Kind
content_kind (File h) = driver_kind h
content_kind (Mosaic d) = kinds.Vrt

-- the same of a content; a document keeps its rules
abbrev pub IsOfContent : List ℕ → Content → Type 0
IsOfContent name (File h) = IsOfKind name h
IsOfContent name (Mosaic d) = IsDocument d

-- What the own files of a dataset are refused for: that one isn't there, isn't of its form or is too short. Else it is
-- what failed outside.
abbrev pub IsOfFile : WalkFault → Type 0
IsOfFile (Absent name) = Unit {0}
IsOfFile (NotRecognized name) = ⊥
IsOfFile (Malformed name b) = IsOwnFault b
IsOfFile (Short name needed has) = Unit {0}
IsOfFile (Cycle name) = ⊥
IsOfFile (TooDeep name) = ⊥
IsOfFile (Limit what value) = ⊥
IsOfFile (SourceBand name band) = ⊥
IsOfFile FolderFault = Unit {0}
IsOfFile Memory = Unit {0}

-- over a folder that tells its names, the file of a name is there, and the open file has its bytes
abbrev pub IsFile : Option Files → List ℕ → Option (List ℕ) → Type 0
IsFile names name bytes = (m : Files) → names ≡ Some m → (b : List ℕ) × (file_in m name ≡ Ok b) × (bytes ≡ Some b)
