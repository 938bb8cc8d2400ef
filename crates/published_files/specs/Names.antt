-- Names that are to be published, and the files of the datasets that were read.
use Rattle.std.specs.Prelude.{ℕ, ◌&&◌, ◌||◌, Bool, List, [], ◌∷◌, bytes_eq, Result, Ok, Err, if◌then◌else◌}
use Rattle.std.specs.List.{list_any}
use Rattle.lists_and_answers.specs.Answers.{◌>>=◌}
use Rattle.outside.specs.Names.{extension_of, header_of, is_raw}
use Rattle.catalog.specs.Drivers.{Dataset}
use Rattle.error_lines.specs.declared.faults.Fault.{Fault}
use Rattle.error_lines.specs.declared.faults.Fault.TheVariants.{SameName}

-- a name is that of an own file of the dataset of another: that name itself, or beside raw data its header
abbrev pub is_own : List ℕ → List ℕ → Bool
is_own dataset name = bytes_eq dataset name || (is_raw (extension_of dataset) && bytes_eq (header_of dataset) name)

-- it is that of an own file of some dataset of a catalog
abbrev pub is_read : List Dataset → List ℕ → Bool
is_read cat name = list_any (λ (d : Dataset). is_own d.head.name name) cat

abbrev pub unless_own : List Dataset → List ℕ → Result (Unit {0}) Fault
unless_own cat name = if is_read cat name then Err (SameName name) else Ok tt

-- none of these names is, or the first that is
abbrev pub unless_read : List Dataset → List (List ℕ) → Result (Unit {0}) Fault
unless_read cat [] = Ok tt
unless_read cat (name ∷ names) = unless_own cat name >>= λ free. unless_read cat names
