-- What each call of a walk ensures.
use Rattle.std.specs.Prelude.{◌≡◌, ◌<◌, ◌≤◌, ◌+◌, ◌-◌, ℕ, Bool, List, ◌∷◌, length, Option, Some, None, is_some, IsTrue}
use Rattle.std.specs.Prelude.{Result, Ok, Err, IfOk, OnOk, IfErr, take}
use Rattle.lists_and_answers.specs.Answers.{Gives, ◌>>=◌}
use Rattle.lists_and_answers.specs.Lists.{flattened}
use Rattle.outside.specs.Outside.{Files}
use Rattle.outside.specs.Causes.{HasCause}
use Rattle.vrt_profile.specs.Value.{is_plain}
use Rattle.vrt_profile.specs.Values.{DocumentValue, BandValue, SourceValue}
use Rattle.catalog.specs.declared.kind.Kind.TheVariants as kinds
use Rattle.catalog.specs.declared.driver.Content.TheVariants.{Mosaic}
use Rattle.catalog.specs.declared.faults.WalkFault.{WalkFault}
use Rattle.catalog.specs.declared.faults.WalkFault.TheVariants.{Absent, NotRecognized, Malformed, Short, Cycle, TooDeep}
use Rattle.catalog.specs.declared.faults.WalkFault.TheVariants.{Limit, SourceBand, FolderFault, Memory}
use Rattle.catalog.specs.declared.walk.Wanted.{Wanted}
use Rattle.catalog.specs.declared.walk.Meeting.{Meeting}
use Rattle.catalog.specs.declared.walk.Meeting.TheVariants.{Whole, Open}
use Rattle.catalog.specs.Drivers.{Dataset}
use Rattle.catalog.specs.Mosaics.{sources_of}
use Rattle.catalog.specs.Outcomes.{IsOutside, IsMemory}
use Rattle.catalog.specs.Heads.{kind_in, resolved, IsOwnFault, OwnsFaults}
use Rattle.catalog.specs.Walk.{dataset_number_in, one_more_source, visit, visit_sources, IsWalked, TellsKinds}
use Rattle.catalog.specs.Walk.{WalksUnknown}
use Rattle.catalog.specs.Readings.{calls_to_open_all}
use Rattle.catalog.specs.Linked.{State, met_of, most, IsLinked, IsMember, Each, AreMemberRows, IsPath, IsLow, Grows}
use Rattle.catalog.specs.Linked.{Goes}
use Rattle.catalog.specs.Linked.{pushed, one_counted, HasSource, height_at}

-- what a folder tells, and how often it was written, was read and has failed
pub record Seen : Type 0 where
  pub names : Option Files
  pub writes : ℕ
  pub reads : ℕ
  pub faults : ℕ

-- what is seen of a folder, of these parts
abbrev pub folder_seen : Option Files → ℕ → ℕ → ℕ → Seen
folder_seen names writes reads faults = record { names = names; writes = writes; reads = reads; faults = faults }

-- a refusal that says nothing of a name's kind or of a call of the folder, and of a file only what its form may lack
abbrev pub IsOrdinaryFault : WalkFault → Type 0
IsOrdinaryFault (Absent name) = Unit {0}
IsOrdinaryFault (NotRecognized name) = ⊥
IsOrdinaryFault (Malformed name bad) = IsOwnFault bad
IsOrdinaryFault (Short name needed has) = Unit {0}
IsOrdinaryFault (Cycle name) = Unit {0}
IsOrdinaryFault (TooDeep name) = Unit {0}
IsOrdinaryFault (Limit what value) = Unit {0}
IsOrdinaryFault (SourceBand name band) = Unit {0}
IsOrdinaryFault FolderFault = ⊥
IsOrdinaryFault Memory = Unit {0}

-- What was met stays, after an answer the walk went on through so many sources, and the folder is as it was but for its
-- counts.
pub record WalksOn {T : Type 0} (n : ℕ) (before after : Seen) (old new : State) (result : Result T WalkFault) : Type 0
  where
    pub grows : Grows old new
    pub goes : OnOk result (Goes n old new)
    pub read : (m : Files) → before.names ≡ Some m → IsWalked m old.datasets → OnOk result (IsWalked m new.datasets)
    pub known : TellsKinds result
    pub own : OwnsFaults result
    pub names : after.names ≡ before.names
    pub writes : after.writes ≡ before.writes
    pub cause : HasCause FolderFault before.faults after.faults result

-- there were at most as many reads as the datasets take that were met meanwhile: each was read once, and none that was
-- met before was read again
abbrev pub ReadsOnce : Bool → Seen → Seen → State → State → Type 0
ReadsOnce verify before after old new =
    after.reads + calls_to_open_all verify old.datasets ≤ before.reads + calls_to_open_all verify new.datasets

-- a name that was met costs no call of the folder
pub record IsFree (before after : Seen) : Type 0 where
  pub reads : after.reads ≡ before.reads
  pub faults : after.faults ≡ before.faults

-- a visit of a name, with room for so many mosaics more on the path that leads to it
pub record Visits (verify : Bool) (room : ℕ) (name : List ℕ) (before after : Seen) (old new : State)
    (result : Result ℕ WalkFault) : Type 0 where
  pub walks : WalksOn 0 before after old new result
  pub told : (m : Files) → before.names ≡ Some m → (path : List (List ℕ)) → IsPath old path →
      Gives IsOutside (λ id. met_of new) result (visit m verify room path (met_of old) name)
  pub reads : OnOk result (ReadsOnce verify before after old new)
  pub number : IfOk result (λ id. dataset_number_in new.datasets name ≡ Some id)
  pub low : IfOk result (λ id. IsLow new id room)
  pub again : IsTrue (is_some (dataset_number_in old.datasets name)) → IsFree before after
  pub unknown : WalksUnknown name result

-- A mosaic was met for the first time, and stands open at the end of what was met: the visit of its name is the walk
-- through its sources.
pub record IsOpened (verify : Bool) (room : ℕ) (name : List ℕ) (before after : Seen) (old new : State) (id : ℕ) : Type 0
  where
    pub dataset : Dataset
    pub document : DocumentValue
    pub content : dataset.content ≡ Mosaic document
    pub named : dataset.head.name ≡ name
    pub kind : kind_in name ≡ Ok kinds.Vrt
    pub some : 0 < room
    pub first : IsLinked old
    pub linked : IsLinked new
    pub fresh : dataset_number_in old.datasets name ≡ None
    pub is_pushed : new ≡ pushed old dataset None
    pub number : id ≡ length old.datasets
    pub read : (m : Files) → before.names ≡ Some m → IsWalked m old.datasets → IsWalked m new.datasets
    pub told : (m : Files) → before.names ≡ Some m → (path : List (List ℕ)) → IsPath old path →
        visit m verify room path (met_of old) name ≡ visit_sources (λ a n. visit m verify (room - 1) (name ∷ path) a n)
        name (met_of new) (sources_of document)
    pub names : after.names ≡ before.names
    pub writes : after.writes ≡ before.writes
    pub later : before.faults ≤ after.faults
    pub reads : ReadsOnce verify before after old new

-- how a visit of a name begins
abbrev pub MeetsName : Bool → ℕ → List ℕ → Seen → Seen → State → State → Result Meeting WalkFault → Type 0
MeetsName verify room name before after old new (Ok (Whole id)) = Visits verify room name before after old new (Ok id)
MeetsName verify room name before after old new (Ok (Open id)) = IsOpened verify room name before after old new id
MeetsName verify room name before after old new (Err fault) = Visits verify room name before after old new (Err fault)

-- the datasets that sources name were met whole, and aren't higher than this
pub record Reaches (st : State) (room : ℕ) (base : List ℕ) (ss : List SourceValue) (row : List ℕ) : Type 0 where
  pub members : Each (IsMember st base) ss row
  pub low : most st.links row ≤ room

-- and so are those that the sources of all bands name
pub record ReachesRows (st : State) (room : ℕ) (base : List ℕ) (bands : List BandValue) (rows : List (List ℕ)) : Type 0
  where
    pub members : AreMemberRows st base bands rows
    pub low : most st.links (flattened rows) ≤ room

-- the walk went through the sources of a band before one of them
pub record IsWalkedUpTo (st : State) (room id band source : ℕ) (row : List ℕ) : Type 0 where
  pub there : HasSource st id band source
  pub reached : Reaches st room there.of.mosaic.dataset.head.name (take source there.of.value.sources) row

-- a source of the mosaic with the name `base` names a dataset that was met whole, and isn't higher than this
pub record IsMetLow (st : State) (room : ℕ) (base : List ℕ) (s : SourceValue) (id : ℕ) : Type 0 where
  pub member : IsMember st base s id
  pub low : height_at st.links id ≤ room

-- a walk through sources of the mosaic with the name `base`, in order
pub record Passes {T : Type 0} (verify : Bool) (room : ℕ) (base : List ℕ) (ss : List SourceValue) (before after : Seen)
    (old new : State) (IsReached : T → Type 0) (result : Result T WalkFault) : Type 0 where
  pub walks : WalksOn (length ss) before after old new result
  pub told : (m : Files) → before.names ≡ Some m → (path : List (List ℕ)) → IsPath old path →
      Gives IsOutside (λ t. met_of new) result (visit_sources (λ a n. visit m verify room path a n) base (met_of old)
      ss)
  pub reads : OnOk result (ReadsOnce verify before after old new)
  pub reached : IfOk result IsReached

-- A source of the mosaic with the name `base` is counted, and then what it names is resolved.
pub record Names (base : List ℕ) (s : SourceValue) (old new : State) (result : Result Wanted WalkFault) : Type 0 where
  pub told : Gives IsMemory (λ (w : Wanted). w.name) result (one_more_source old.sources >>= λ counted. resolved base s)
  pub band : IfOk result (λ (w : Wanted). w.band ≡ s.band)
  pub kept : IfOk result (λ (w : Wanted). w.plain ≡ is_plain s)
  pub grows : Grows old new
  pub counted : OnOk result (new ≡ one_counted old)
  pub plain : IfErr result IsOrdinaryFault
