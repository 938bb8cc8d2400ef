-- How the lines of an input are answered while it is read.
use Rattle.std.specs.Prelude.{◌≡◌, ◌⊎◌, ◌≤◌, false, ℕ, ℤ, ◌+◌, ◌*◌, ◌-◌, List, [], ◌++◌, length, drop, Option, Some}
use Rattle.std.specs.Prelude.{None, Result, Ok, Err}
use Rattle.std.specs.Str.Lines.{lines}
use Rattle.outside.specs.Streams.{Gets, GetsPart}
use Rattle.input_points.specs.declared.entry.Entry.{Entry}
use Rattle.input_points.specs.Lines.{ended_lines}
use Rattle.input_points.specs.Points.{longest_line}
use Rattle.input_points.specs.Entries.{most_lines, entries}
use Rattle.input_points.specs.Reading.{Reading, start, coming}
use Rattle.catalog.specs.declared.faults.LimitKind.TheVariants.{Points}
use Rattle.error_lines.specs.declared.faults.Fault.{Fault}
use Rattle.error_lines.specs.Faults.{IsOutside}
use Rattle.error_lines.specs.declared.faults.Fault.TheVariants.{Usage, Absent, NotRecognized, Malformed, Short, Cycle}
use Rattle.error_lines.specs.declared.faults.Fault.TheVariants.{TooDeep, Limit, SourceBand, Plan, Build, SameName}
use Rattle.error_lines.specs.declared.faults.Fault.TheVariants.{BadPoint, Changed, FolderFault, InputFault, OutFault}
use Rattle.error_lines.specs.declared.faults.Fault.TheVariants.{Memory}
use Rattle.gdal_cli.specs.Location.{lines_fault}
use Rattle.gdal_cli.specs.Jobs.{lines_text}

-- a reading goes on, within the limits on lines
pub record IsReading (r : Reading) : Type 0 where
  pub going : r.over ≡ false
  pub most : r.line ≤ most_lines + 1
  pub few : length r.held ≤ longest_line + 1

-- how much more a reading can take at the most, of lines that aren't too long
abbrev pub room_of : Reading → ℕ
room_of r = (most_lines + 2 - r.line) * (longest_line + 2) - length r.held

-- These lines ended while a reading came from one text to the rest of it, and none of them ends the reading.
pub record Passed (old : Reading) (text : List ℕ) (new : Reading) (rest : List ℕ) (given : List Entry) : Type 0 where
  pub all : (more : List ℕ) → coming lines old (text ++ more) ≡ given ++ coming lines new (rest ++ more)
  pub ended : (more : List ℕ) → coming ended_lines old (text ++ more) ≡ given ++ coming ended_lines new (rest ++ more)
  pub good : lines_fault given ≡ None

-- the same, and the answers to the lines were put
pub record Answered (tell : ℤ → ℤ → List ℕ) (old : Reading) (text : List ℕ) (new : Reading) (rest : List ℕ)
    (before after : Option (List ℕ)) : Type 0 where
  pub given : List Entry
  pub passed : Passed old text new rest given
  pub put : Gets (lines_text tell given) before after

-- the answers to these lines were put, the last of which ends the reading; or the outside failed behind a first part
abbrev pub EndsLines : (ℤ → ℤ → List ℕ) → List Entry → Fault → Option (List ℕ) → Option (List ℕ) → Type 0
EndsLines tell coming_lines fault before after =
    ((lines_fault coming_lines ≡ Some fault) × Gets (lines_text tell coming_lines) before after) ⊎ (IsOutside fault ×
    GetsPart (lines_text tell coming_lines) before after)

-- a call that answers the next line which ends in a piece, and reads so many bytes of it
abbrev pub AnswersNext : (ℤ → ℤ → List ℕ) → Reading → List ℕ → Reading → Result ℕ Fault → Option (List ℕ) →
    Option (List ℕ) → Type 0
AnswersNext tell old piece new (Ok used) before after = Answered tell old piece new (drop used piece) before after
AnswersNext tell old piece new (Err fault) before after = (more : List ℕ) →
    EndsLines tell (coming lines old (piece ++ more)) fault before after

-- a call that answers the lines which end in a piece
abbrev pub AnswersPiece : (ℤ → ℤ → List ℕ) → Reading → List ℕ → Reading → Result (Unit {0}) Fault → Option (List ℕ) →
    Option (List ℕ) → Type 0
AnswersPiece tell old piece new (Ok done) before after = Answered tell old piece new [] before after
AnswersPiece tell old piece new (Err fault) before after = (more : List ℕ) →
    EndsLines tell (coming lines old (piece ++ more)) fault before after

-- a call that answers the lines which end in an input, from the start of a reading, and takes it to its end
abbrev pub AnswersPieces : (ℤ → ℤ → List ℕ) → List ℕ → Option (List ℕ) → Reading → Result (Unit {0}) Fault →
    Option (List ℕ) → Option (List ℕ) → Type 0
AnswersPieces tell input left new (Ok done) before after = Answered tell start input new [] before after ×
    (left ≡ Some [])
AnswersPieces tell input left new (Err fault) before after = EndsLines tell (entries input) fault before after

-- a call that answers all lines of an input, which it reads to the end
abbrev pub AnswersInput : (ℤ → ℤ → List ℕ) → List ℕ → Option (List ℕ) → Result (Unit {0}) Fault → Option (List ℕ) →
    Option (List ℕ) → Type 0
AnswersInput tell input left (Ok done) before after = (lines_fault (entries input) ≡ None) ×
    Gets (lines_text tell (entries input)) before after × (left ≡ Some [])
AnswersInput tell input left (Err fault) before after = EndsLines tell (entries input) fault before after

-- what holds of the bytes that an input gave, behind which these are left
pub record HoldsOfGiven (Holds : List ℕ → Type 0) (input : List ℕ) (left : Option (List ℕ)) : Type 0 where
  pub given : List ℕ
  pub rest : List ℕ
  pub parts : input ≡ given ++ rest
  pub left_is : left ≡ Some rest
  pub holds : Holds given

-- a fault that answering the lines of an input may end with
abbrev pub IsOfLines : Fault → Type 0
IsOfLines (Usage n) = ⊥
IsOfLines (Absent name) = ⊥
IsOfLines (NotRecognized name) = ⊥
IsOfLines (Malformed name bad) = ⊥
IsOfLines (Short name needed has) = ⊥
IsOfLines (Cycle name) = ⊥
IsOfLines (TooDeep name) = ⊥
IsOfLines (Limit what value) = what ≡ Points
IsOfLines (SourceBand name band) = ⊥
IsOfLines (Plan fault) = ⊥
IsOfLines (Build fault) = ⊥
IsOfLines (SameName name) = ⊥
IsOfLines (BadPoint line) = Unit {0}
IsOfLines (Changed name was now) = Unit {0}
IsOfLines FolderFault = Unit {0}
IsOfLines InputFault = Unit {0}
IsOfLines OutFault = Unit {0}
IsOfLines Memory = Unit {0}
