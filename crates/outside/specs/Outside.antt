-- What the calls of a folder do to what it holds.
use Rattle.std.specs.Prelude.{ℕ, ◌+◌, ◌-◌, ◌≡◌, List, [], ◌++◌, length, take, drop, replicate, Option, Some, None}
use Rattle.std.specs.Prelude.{Result, Err}
use Rattle.std.specs.Ordering.{nat_cmp}
use Rattle.std.specs.Cmp.Lexicographic.{slice_cmp}
use Rattle.std.specs.FinMap.{FinMap, get, insert}
use Rattle.outside.specs.declared.folder.OpenFault.{OpenFault}
use Rattle.outside.specs.declared.folder.OpenFault.TheVariants.{Absent}

-- the bytes under each name
abbrev pub Files : Type 0
Files = FinMap (slice_cmp nat_cmp) (List ℕ)

-- over a folder that tells its names, an open file has the bytes of its name
abbrev pub Opened : Option Files → List ℕ → Option (List ℕ) → Type 0
Opened names name bytes = (m : Files) → names ≡ Some m → (b : List ℕ) × (get m name ≡ Some b) × (bytes ≡ Some b)

-- where its bytes are told, an open file has their length
abbrev pub IsLong : Option (List ℕ) → ℕ → Type 0
IsLong bytes len = (b : List ℕ) → bytes ≡ Some b → len ≡ length b

-- Absent comes only for a name that the map lacks
abbrev pub NotThere : {T : Type 0} → Option Files → List ℕ → Result T OpenFault → Type 0
NotThere names name result = result ≡ Err Absent → (m : Files) → names ≡ Some m → get m name ≡ None

-- out is the n bytes at this place
abbrev pub ReadsBytes : Option (List ℕ) → ℕ → ℕ → List ℕ → Type 0
ReadsBytes bytes pos n out = (b : List ℕ) → bytes ≡ Some b → out ≡ take n (drop pos b)

-- an empty draft that carries the name
pub record Created (names : Option Files) (name : List ℕ) (draft_name : List ℕ) (bytes : Option (List ℕ)) (len : ℕ)
    : Type 0 where
  pub name_is : draft_name ≡ name
  pub len_is : len ≡ 0
  pub told : (m : Files) → names ≡ Some m → bytes ≡ Some []

-- zeros up to a length
abbrev pub Grown : ℕ → Option (List ℕ) → Option (List ℕ) → Type 0
Grown len old new = (b : List ℕ) → old ≡ Some b → new ≡ Some (b ++ replicate (len - length b) 0)

-- these bytes at this place, and all others as before
abbrev pub put_at : ℕ → List ℕ → List ℕ → List ℕ
put_at pos bytes b = take pos b ++ bytes ++ drop (pos + length bytes) b

abbrev pub Written : ℕ → List ℕ → Option (List ℕ) → Option (List ℕ) → Type 0
Written pos bytes old new = (b : List ℕ) → old ≡ Some b → new ≡ Some (put_at pos bytes b)

abbrev pub Appended : List ℕ → Option (List ℕ) → Option (List ℕ) → Type 0
Appended bytes old new = (b : List ℕ) → old ≡ Some b → new ≡ Some (b ++ bytes)

-- the map has these bytes under the name, and every other name keeps its own
abbrev pub WithFile : List ℕ → List ℕ → Option Files → Option Files → Type 0
WithFile name bytes old new = (m : Files) → old ≡ Some m → new ≡ Some (insert m name bytes)

-- whatever the draft held, every other name keeps its own bytes
abbrev pub ChangesOnly : List ℕ → Option Files → Option Files → Type 0
ChangesOnly name old new = (m : Files) → old ≡ Some m → (b : List ℕ) × (new ≡ Some (insert m name b))

-- what stands under a name
abbrev pub IsUnder : List ℕ → Option Files → Option (List ℕ) → Type 0
IsUnder name names bytes = (m : Files) → names ≡ Some m → get m name ≡ bytes

-- the draft's bytes stand under its name, and every other name keeps its own
abbrev pub Published : List ℕ → Option (List ℕ) → Option Files → Option Files → Type 0
Published name bytes old new = (m : Files) (b : List ℕ) → old ≡ Some m → bytes ≡ Some b → new ≡ Some (insert m name b)

-- a view has the folder's names, and counts of its own
pub record IsView (names : Option Files) (view_names : Option Files) (faults reads writes : ℕ) : Type 0 where
  pub same : view_names ≡ names
  pub no_faults : faults ≡ 0
  pub no_reads : reads ≡ 0
  pub no_writes : writes ≡ 0
