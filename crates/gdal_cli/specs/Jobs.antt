-- What the parts of a run do: how far texts are put, which names are refused, and who warns.
use Rattle.std.specs.Prelude.{ℕ, ℤ, List, flat_map, Option, Result, Ok, Err, Bool, false, ◌≡◌, ◌⊎◌, true, Some, None}
use Rattle.std.specs.Prelude.{[]}
use Rattle.outside.specs.Streams.{Gets, GetsPart}
use Rattle.input_points.specs.declared.entry.Entry.{Entry}
use Rattle.catalog.specs.Heads.{kind_in}
use Rattle.catalog.specs.declared.kind.Kind.{Kind}
use Rattle.catalog.specs.declared.faults.WalkFault.{WalkFault}
use Rattle.catalog.specs.declared.kind.Kind.TheVariants as kinds
use Rattle.catalog.specs.declared.faults.WalkFault.TheVariants as walk
use Rattle.command_words.specs.declared.command.Job.{Job}
use Rattle.command_words.specs.declared.command.Job.TheVariants.{Info, Locate, Translate, Build, Synth}
use Rattle.error_lines.specs.declared.faults.Fault.{Fault}
use Rattle.error_lines.specs.Faults.{IsOutside, fault_of}
use Rattle.error_lines.specs.declared.faults.Fault.TheVariants.{Usage, NotRecognized, Memory}
use Rattle.error_lines.specs.Steps.{Done, printed, AreWarned}
use Rattle.mosaic_builds.specs.Steps.{warns}
use Rattle.gdal_cli.specs.Location.{line_text}
use Rattle.gdal_cli.specs.Run.{IsRefusal}

-- the answers to lines, and the first of their faults
abbrev pub lines_text : (ℤ → ℤ → List ℕ) → List Entry → List ℕ
lines_text tell lines = flat_map (λ (e : Entry). line_text tell e.kind) lines

-- a call puts a whole text, or a first part of it behind which the outside failed
abbrev pub PutsText : List ℕ → Result (Unit {0}) Fault → Option (List ℕ) → Option (List ℕ) → Type 0
PutsText text (Ok done) before after = Gets text before after
PutsText text (Err fault) before after = IsOutside fault × GetsPart text before after

-- whether nothing is told of a job's work
abbrev pub is_quiet : Job → Bool
is_quiet (Info name) = false
is_quiet (Locate name point bands form geoloc) = false
is_quiet (Translate src options quiet) = quiet
is_quiet (Build inputs list options quiet) = quiet
is_quiet (Synth side) = false

-- A name that tells no kind is refused so, or for want of memory; no other name is refused so that tells a kind, and
-- where `alone` holds no other name at all. Words are not looked at again.
pub record RefusesKind (alone : Bool) (name : List ℕ) (result : Result (Unit {0}) Fault) : Type 0 where
  pub always : (f : WalkFault) → kind_in name ≡ Err f → (result ≡ Err (fault_of f)) ⊎ (result ≡ Err Memory)
  pub only : (n : List ℕ) → result ≡ Err (NotRecognized n) → kind_in n ≡ Err (walk.NotRecognized n)
  pub own : alone ≡ true → (n : List ℕ) → result ≡ Err (NotRecognized n) → kind_in name ≡ Err (walk.NotRecognized n)
  pub file : (k : Kind) (n : List ℕ) → kind_in name ≡ Ok k → (k ≡ kinds.Vrt → ⊥) → result ≡ Err (NotRecognized n) → ⊥
  pub no_usage : (n : ℕ) → result ≡ Err (Usage n) → ⊥

-- The same of a job: where many names are read, none that tells a kind is refused so.
pub record RefusesOnly (result : Result (Unit {0}) Fault) : Type 0 where
  pub only : (n : List ℕ) → result ≡ Err (NotRecognized n) → kind_in n ≡ Err (walk.NotRecognized n)
  pub no_usage : (n : ℕ) → result ≡ Err (Usage n) → ⊥

-- a name of one dataset is refused as RefusesKind says; where many are read, names are refused as RefusesOnly says
abbrev pub RefusesIn : Bool → Option (List ℕ) → Result (Unit {0}) Fault → Type 0
RefusesIn alone None result = RefusesOnly result
RefusesIn alone (Some name) result = RefusesKind alone name result

-- how far the texts of a run were put: all of them, or a first part before a fault of the outside
abbrev pub Ends : Done → Result (Unit {0}) Fault → Option (List ℕ) → Option (List ℕ) → Type 0
Ends r (Ok done) before after = (r.fault ≡ None) × Gets (printed r.steps) before after
Ends r (Err fault) before after = ((r.fault ≡ Some fault) × Gets (printed r.steps) before after) ⊎ (IsOutside fault ×
    GetsPart (printed r.steps) before after)

-- the warnings that a job put on the error stream, which may have failed meanwhile
pub record MayWarn (may : Bool) (fault : Option Fault) (failed : Bool) (faults faults_now : ℕ)
    (before after : Option (List ℕ)) : Type 0 where
  pub warnings : List (List ℕ)
  pub told : AreWarned (warns warnings) failed faults faults_now before after
  pub none : may ≡ false → warnings ≡ []
  pub refused : IsRefusal fault → warnings ≡ []
