-- The faults of a run: where they come from, and how they end it.
use Rattle.std.specs.Prelude.{ℕ, List, ◌≡◌, ◌≤◌, Option, Some, None, Result, Ok, Err}
use Rattle.outside.specs.Outside.{Files}
use Rattle.outside.specs.Causes.{Rose}
use Rattle.catalog.specs.Heads.{IsOwnFault}
use Rattle.catalog.specs.declared.faults.Bad.{Bad}
use Rattle.catalog.specs.declared.faults.WalkFault.{WalkFault}
use Rattle.catalog.specs.declared.faults.WalkFault.TheVariants as walk
use Rattle.buildvrt.specs.declared.faults.BuildFault.{BuildFault}
use Rattle.buildvrt.specs.declared.faults.BuildFault.TheVariants as build
use Rattle.band_blocks.specs.declared.fault.LoadFault.{LoadFault}
use Rattle.band_blocks.specs.declared.fault.LoadFault.TheVariants as load
use Rattle.info_report.specs.declared.report.ReportFault.{ReportFault}
use Rattle.info_report.specs.declared.report.ReportFault.TheVariants as report
use Rattle.write_back.specs.declared.fault.TargetFault.{TargetFault}
use Rattle.write_back.specs.declared.fault.TargetFault.TheVariants as target
use Rattle.error_lines.specs.declared.faults.Fault.{Fault}
use Rattle.error_lines.specs.declared.faults.Fault.TheVariants.{Usage, Absent, NotRecognized, Malformed, Short, Cycle}
use Rattle.error_lines.specs.declared.faults.Fault.TheVariants.{TooDeep, Limit, SourceBand, Plan, Build, SameName}
use Rattle.error_lines.specs.declared.faults.Fault.TheVariants.{BadPoint, Changed, FolderFault, InputFault, OutFault}
use Rattle.error_lines.specs.declared.faults.Fault.TheVariants.{Memory}

-- a fault of a walk, of a mosaic, of a block, of a report and of an output as the run's
abbrev pub fault_of : WalkFault → Fault
fault_of (walk.Absent name) = Absent name
fault_of (walk.NotRecognized name) = NotRecognized name
fault_of (walk.Malformed name bad) = Malformed name bad
fault_of (walk.Short name needed has) = Short name needed has
fault_of (walk.Cycle name) = Cycle name
fault_of (walk.TooDeep name) = TooDeep name
fault_of (walk.Limit what value) = Limit what value
fault_of (walk.SourceBand name band) = SourceBand name band
fault_of walk.FolderFault = FolderFault
fault_of walk.Memory = Memory

abbrev pub build_fault_of : BuildFault → Fault
build_fault_of build.Nothing = Build build.Nothing
build_fault_of (build.Strict name why) = Build (build.Strict name why)
build_fault_of build.Limit = Build build.Limit
build_fault_of build.Memory = Memory

abbrev pub load_fault_of : LoadFault → Fault
load_fault_of load.FolderFault = FolderFault
load_fault_of (load.Changed name was now) = Changed name was now
load_fault_of load.Memory = Memory

abbrev pub report_fault_of : ReportFault → Fault
report_fault_of report.OutFault = OutFault
report_fault_of report.Memory = Memory

abbrev pub target_fault_of : TargetFault → Fault
target_fault_of target.FolderFault = FolderFault
target_fault_of target.Memory = Memory

-- what a walk finds, as the run's answer
abbrev pub by_walk : {T : Type 0} → Result T WalkFault → Result T Fault
by_walk (Ok x) = Ok x
by_walk (Err f) = Err (fault_of f)

-- what is made of inputs, as the run's answer
abbrev pub by_build : {T : Type 0} → Result T BuildFault → Result T Fault
by_build (Ok x) = Ok x
by_build (Err f) = Err (build_fault_of f)

-- a fault that no definition gives: a call of the outside failed, or memory was refused
abbrev pub IsOutside : Fault → Type 0
IsOutside (Usage n) = ⊥
IsOutside (Absent name) = ⊥
IsOutside (NotRecognized name) = ⊥
IsOutside (Malformed name bad) = ⊥
IsOutside (Short name needed has) = ⊥
IsOutside (Cycle name) = ⊥
IsOutside (TooDeep name) = ⊥
IsOutside (Limit what value) = ⊥
IsOutside (SourceBand name band) = ⊥
IsOutside (Plan fault) = ⊥
IsOutside (Build fault) = ⊥
IsOutside (SameName name) = ⊥
IsOutside (BadPoint line) = ⊥
IsOutside (Changed name was now) = ⊥
IsOutside FolderFault = Unit {0}
IsOutside InputFault = Unit {0}
IsOutside OutFault = Unit {0}
IsOutside Memory = Unit {0}

-- a fault behind the walk: what a dataset lacks, a line of the input, one of the outside, or a file that isn't as the
-- walk found it
abbrev pub IsLate : Fault → Type 0
IsLate (Usage n) = ⊥
IsLate (Absent name) = ⊥
IsLate (NotRecognized name) = ⊥
IsLate (Malformed name bad) = ⊥
IsLate (Short name needed has) = ⊥
IsLate (Cycle name) = ⊥
IsLate (TooDeep name) = ⊥
IsLate (Limit what value) = Unit {0}
IsLate (SourceBand name band) = ⊥
IsLate (Plan fault) = Unit {0}
IsLate (Build fault) = ⊥
IsLate (SameName name) = ⊥
IsLate (BadPoint line) = Unit {0}
IsLate (Changed name was now) = Unit {0}
IsLate FolderFault = Unit {0}
IsLate InputFault = Unit {0}
IsLate OutFault = Unit {0}
IsLate Memory = Unit {0}

-- a fault that reading pixels, and putting their text or writing them, may end with
abbrev pub IsOfReading : Fault → Type 0
IsOfReading (Usage n) = ⊥
IsOfReading (Absent name) = ⊥
IsOfReading (NotRecognized name) = ⊥
IsOfReading (Malformed name bad) = ⊥
IsOfReading (Short name needed has) = ⊥
IsOfReading (Cycle name) = ⊥
IsOfReading (TooDeep name) = ⊥
IsOfReading (Limit what value) = ⊥
IsOfReading (SourceBand name band) = ⊥
IsOfReading (Plan fault) = ⊥
IsOfReading (Build fault) = ⊥
IsOfReading (SameName name) = ⊥
IsOfReading (BadPoint line) = ⊥
IsOfReading (Changed name was now) = Unit {0}
IsOfReading FolderFault = Unit {0}
IsOfReading InputFault = ⊥
IsOfReading OutFault = Unit {0}
IsOfReading Memory = Unit {0}

-- the status that a fault ends a run with
abbrev pub fault_status : Fault → ℕ
fault_status (Usage n) = 1
fault_status (Absent name) = 1
fault_status (NotRecognized name) = 1
fault_status (Malformed name bad) = 1
fault_status (Short name needed has) = 1
fault_status (Cycle name) = 1
fault_status (TooDeep name) = 1
fault_status (Limit what value) = 1
fault_status (SourceBand name band) = 1
fault_status (Plan fault) = 1
fault_status (Build fault) = 1
fault_status (SameName name) = 1
fault_status (BadPoint line) = 1
fault_status (Changed name was now) = 2
fault_status FolderFault = 2
fault_status InputFault = 2
fault_status OutFault = 2
fault_status Memory = 3

abbrev pub status_of : Option Fault → ℕ
status_of None = 0
status_of (Some fault) = fault_status fault

-- a file that is malformed is so by a fault of its own, and what is made of inputs is refused by one, not for want of
-- memory
pub record OwnsFault (fault : Option Fault) : Type 0 where
  pub malformed : (name : List ℕ) (b : Bad) → fault ≡ Some (Malformed name b) → IsOwnFault b
  pub build : fault ≡ Some (Build build.Memory) → ⊥

-- the counts of a folder and an output don't fall, and each has risen where its fault is answered
pub record HasCauses {T : Type 0} (folder folder_now out out_now : ℕ) (result : Result T Fault) : Type 0 where
  pub folder_later : folder ≤ folder_now
  pub out_later : out ≤ out_now
  pub folder_failed : result ≡ Err FolderFault → Rose folder folder_now
  pub out_failed : result ≡ Err OutFault → Rose out out_now

-- no fault of the folder, of the input or of the output
pub record HasNoCause {T : Type 0} (result : Result T Fault) : Type 0 where
  pub not_folder : result ≡ Err FolderFault → ⊥
  pub not_input : result ≡ Err InputFault → ⊥
  pub not_out : result ≡ Err OutFault → ⊥

-- where a length is said to have changed, it is another one
abbrev pub Differs : {T : Type 0} → Result T Fault → Type 0
Differs result = (name : List ℕ) (was : ℕ) (now : Option ℕ) → result ≡ Err (Changed name was now) → now ≡ Some was → ⊥

-- the same where a run ended so, which comes only over a folder that doesn't tell its names
pub record HasChanged (names : Option Files) (fault : Option Fault) : Type 0 where
  pub untold : (name : List ℕ) (was : ℕ) (now : Option ℕ) → fault ≡ Some (Changed name was now) → names ≡ None
  pub differs : (name : List ℕ) (was : ℕ) (now : Option ℕ) → fault ≡ Some (Changed name was now) → now ≡ Some was → ⊥
