-- What a run does, a step at a time, and how far it goes.
use Rattle.std.specs.Prelude.{ℕ, ◌≡◌, ◌≤◌, ◌⊎◌, Bool, true, false, List, [], ◌∷◌, ◌++◌, take, drop, Option, Some, None}
use Rattle.std.specs.Prelude.{Result, Ok, Err}
use Rattle.std.specs.FinMap.{insert}
use Rattle.outside.specs.Outside.{Files}
use Rattle.outside.specs.Causes.{Rose}
use Rattle.outside.specs.Streams.{Gets, GetsPart}
use Rattle.error_lines.specs.declared.faults.Fault.{Fault}
use Rattle.error_lines.specs.Faults.{IsOutside}

-- one thing that a run does: it puts a text on the output or a line on the error stream, or gives these bytes to a name
pub data Step : Type 0 where
  Prints : List ℕ → Step
  Warns : List ℕ → Step
  Publishes : List ℕ → List ℕ → Step

-- the steps of a run, in order, and the fault behind them, if there is one
pub record Done : Type 0 where
  pub steps : List Step
  pub fault : Option Fault

-- a run that ends without a fault, and one that is refused before its first step
abbrev pub all_done : List Step → Done
all_done steps = record { steps = steps; fault = None }

abbrev pub refused : Fault → Done
refused fault = record { steps = []; fault = Some fault }

-- the steps that put these texts
abbrev pub prints : List (List ℕ) → List Step
prints [] = []
prints (text ∷ texts) = Prints text ∷ prints texts

-- the texts of steps, one after another
abbrev pub printed : List Step → List ℕ
printed [] = []
printed (Prints text ∷ steps) = text ++ printed steps
printed (Warns line ∷ steps) = printed steps
printed (Publishes name bytes ∷ steps) = printed steps

-- their warnings, one after another
abbrev pub warned : List Step → List ℕ
warned [] = []
warned (Prints text ∷ steps) = warned steps
warned (Warns line ∷ steps) = line ++ warned steps
warned (Publishes name bytes ∷ steps) = warned steps

-- the names that they publish, each with its bytes, in order
abbrev pub published : List Step → List (List ℕ × List ℕ)
published [] = []
published (Prints text ∷ steps) = published steps
published (Warns line ∷ steps) = published steps
published (Publishes name bytes ∷ steps) = (name, bytes) ∷ published steps

-- so much of the text of the first of the steps, where it puts one
abbrev pub begun : ℕ → List Step → List Step
begun count [] = []
begun count (Prints text ∷ steps) = Prints (take count text) ∷ []
begun count (Warns line ∷ steps) = []
begun count (Publishes name bytes ∷ steps) = []

-- so many of the steps, and so much of the text of the next
abbrev pub cut_short : ℕ → ℕ → List Step → List Step
cut_short whole count steps = take whole steps ++ begun count (drop whole steps)

-- the first of the steps, and a first part of the text of the next
abbrev pub IsFirstPart : List Step → List Step → Type 0
IsFirstPart part steps = (whole : ℕ) × (count : ℕ) × (part ≡ cut_short whole count steps)

-- the map after these files are published, the first of them first
abbrev pub applied : List (List ℕ × List ℕ) → Files → Files
applied [] m = m
applied (file ∷ files) m = applied files (insert m file.0 file.1)

-- these steps were done over the files of this map: their texts were put, and their files stand under their names
pub record AreDone (steps : List Step) (m : Files) (names : Option Files) (before after : Option (List ℕ)) : Type 0
  where
    pub printed : Gets (printed steps) before after
    pub published : names ≡ Some (applied (published steps) m)

-- the steps that give these files to their names
abbrev pub publishes : List (List ℕ × List ℕ) → List Step
publishes [] = []
publishes (file ∷ files) = Publishes file.0 file.1 ∷ publishes files

-- how far a run went over the files of a map: to its end, or to a fault of the outside within its steps
abbrev pub Goes : Done → Files → Result (Unit {0}) Fault → Option Files → Option (List ℕ) → Option (List ℕ) → Type 0
Goes r m (Ok done) names before after = (r.fault ≡ None) × AreDone r.steps m names before after
Goes r m (Err fault) names before after = ((r.fault ≡ Some fault) × AreDone r.steps m names before after)
    ⊎ (IsOutside fault × ((part : List Step) × IsFirstPart part r.steps × AreDone part m names before after))

-- The warnings among these steps were put on the error stream: whole where it hasn't failed, and else a first part of
-- them, where its count of faults rose. The count doesn't fall.
pub record AreWarned (steps : List Step) (failed : Bool) (faults faults_now : ℕ) (before after : Option (List ℕ)) : Type
    0 where
  pub whole : failed ≡ false → Gets (warned steps) before after
  pub part : GetsPart (warned steps) before after
  pub rose : failed ≡ true → Rose faults faults_now
  pub later : faults ≤ faults_now

-- how far a run went, where what it did is such besides
abbrev pub GoesWarning : Done → Files → Result (Unit {0}) Fault → Option Files → Option (List ℕ) → Option (List ℕ) →
    (List Step → Type 0) → Type 0
GoesWarning r m (Ok done) names before after W = (r.fault ≡ None) × AreDone r.steps m names before after × W r.steps
GoesWarning r m (Err fault) names before after W = ((r.fault ≡ Some fault) × AreDone r.steps m names before after ×
    W r.steps) ⊎ (IsOutside fault × ((part : List Step) × IsFirstPart part r.steps × AreDone part m names before after ×
    W part))
