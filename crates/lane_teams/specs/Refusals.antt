-- What the lanes of a team answer, each to its own lines of a window, and which answer is the team's.
use Rattle.std.specs.Prelude.{◌≡◌, ◌⊎◌, ℕ, ℤ, ◌+◌, ◌*◌, ◌<◌, List, [], ◌∷◌, ◌++◌, length, slice_get, Option, Some}
use Rattle.std.specs.Prelude.{Result, Ok, Err, OnOk, IfErr}
use Rattle.outside.specs.Outside.{Files}
use Rattle.catalog.specs.Drivers.{Dataset}
use Rattle.band_blocks.specs.declared.fault.LoadFault.{LoadFault}
use Rattle.band_blocks.specs.declared.fault.LoadFault.TheVariants.{Memory}
use Rattle.band_blocks.specs.Open.{IsUnchanged}
use Rattle.nearest_window.specs.declared.window.Window.{Window}
use Rattle.nearest_window.specs.Right.{TellsChangeIn}
use Rattle.lane_teams.specs.Parts.{part_of, AreOfWindow}

-- what a call that reads answers
abbrev pub Answer : Type 0
Answer = Result (Unit {0}) LoadFault

-- the first of two answers that is a refusal
abbrev pub first_of : Answer → Answer → Answer
first_of (Ok x) later = later
first_of (Err e) later = Err e

-- the first refusal, if there is one
abbrev pub first_refusal : List Answer → Answer
first_refusal [] = Ok tt
first_refusal (answer ∷ rest) = first_of answer (first_refusal rest)

-- the lane k refused so, and no lane before it refused
pub record IsFirstRefusal (answers : List Answer) (k : ℕ) (fault : LoadFault) : Type 0 where
  pub here : slice_get answers k ≡ Some (Err fault)
  pub before : (i : ℕ) → i < k → slice_get answers i ≡ Some (Ok tt)

-- What the read of a window through one lane answers, with the samples that it leaves: without a refusal they are the
-- window's pixels. A fault that says that a file changed tells what was found, and comes never over a folder that tells
-- its files.
pub record IsLaneAnswer (told : Option Files) (cat : List Dataset) (window : Window) (samples : List ℤ)
    (answer : Answer) : Type 0 where
  pub size : length samples ≡ window.rect.w * window.rect.h
  pub shown : OnOk answer (AreOfWindow told cat window samples)
  pub changed : IfErr answer (TellsChangeIn cat)
  pub never : (m : Files) → told ≡ Some m → IfErr answer IsUnchanged

-- the lanes of n from the lane k on have answered so, each to its own lines of a window, and their samples stand one
-- after the other
abbrev pub HaveAnswered : Option Files → List Dataset → Window → ℕ → ℕ → List Answer → List ℤ → Type 0
HaveAnswered told cat window n k [] samples = samples ≡ []
HaveAnswered told cat window n k (answer ∷ rest) samples =
    (front : List ℤ) × (back : List ℤ) × (samples ≡ front ++ back) ×
    IsLaneAnswer told cat (part_of window n k (k + 1)) front answer × HaveAnswered told cat window n (k + 1) rest back

-- each of n lanes has answered to its own lines of a window, and the first refusal in their order is the answer
pub record IsFirstOf (told : Option Files) (cat : List Dataset) (window : Window) (n : ℕ) (samples : List ℤ)
    (answer : Answer) : Type 0 where
  pub answers : List Answer
  pub count : length answers ≡ n
  pub each : HaveAnswered told cat window n 0 answers samples
  pub first : answer ≡ first_refusal answers

-- memory was refused for the views of the lanes, and none of them has read
pub record LacksViews (before samples : List ℤ) (answer : Answer) : Type 0 where
  pub memory : answer ≡ Err Memory
  pub unread : samples ≡ before

-- what a team answers of which n lanes read a window, with the samples before and after
abbrev pub IsTeamAnswer : Option Files → List Dataset → Window → ℕ → List ℤ → List ℤ → Answer → Type 0
IsTeamAnswer told cat window n before samples answer =
    IsFirstOf told cat window n samples answer ⊎ LacksViews before samples answer
