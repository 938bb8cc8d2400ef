-- Commands whose dataset's name tells no kind which they read.
use Rattle.std.proofs.Common.{◌≡◌, ap, refl, subst, sym, ◌⊎◌, inl, inr, ℕ, true, false, not, List, Result, Ok, Err, Option, Some, None}
use Rattle.catalog.specs.declared.faults.WalkFault.{WalkFault}
use Rattle.catalog.specs.declared.faults.WalkFault.TheVariants as walk
use Rattle.catalog.specs.Walk.{WalksUnknown}
use Rattle.error_lines.specs.Faults.{fault_of}
use Rattle.catalog.specs.Heads.{kind_in}
use Rattle.command_words.specs.declared.command.Command.{Command}
use Rattle.command_words.specs.declared.spoken.WordFault.{WordFault}
use Rattle.error_lines.specs.declared.faults.Fault.{Fault}
use Rattle.error_lines.specs.declared.faults.Fault.TheVariants.{NotRecognized, Usage, Memory}
use Rattle.translation_runs.specs.Ends.{ended}
use Rattle.translation_runs.proofs.Ended.{refused_so}
use Rattle.gdal_cli.specs.Run.{name_read, reads_sources, RefusesDataset}
use Rattle.gdal_cli.specs.Jobs.{RefusesIn, RefusesKind}

ends_so : (result : Result (Unit {0}) Fault) (f : Fault) → (result ≡ Err f) ⊎ (result ≡ Err Memory) → (ended result ≡ Some f) ⊎ (ended result ≡ Some Memory)
ends_so result f (inl is) = inl (ap ended is)
ends_so result f (inr is) = inr (ap ended is)

-- a command that the words are refuses as its job does
pub dataset_refused : (words : Result Command WordFault) (command : Command) (result : Result (Unit {0}) Fault) → words ≡ Ok command → RefusesIn (not (reads_sources command.job)) (name_read command.job) result → RefusesDataset words (ended result)
dataset_refused words command result is unknown = by (name_read command.job) refl unknown
  where
    one : (c : Command) → words ≡ Ok c → command ≡ c
    one c so = cc

    read : (c : Command) (o : Option (List ℕ)) → words ≡ Ok c → name_read command.job ≡ o → name_read c.job ≡ o
    read c o so at = subst (λ (d : Command). name_read d.job ≡ o) (one c so) at

    none : (c : Command) (name : List ℕ) → words ≡ Ok c → name_read command.job ≡ None → name_read c.job ≡ Some name → ⊥
    none c name so at named = let other = read c None so at in cc

    same : (c : Command) (name other : List ℕ) → words ≡ Ok c → name_read command.job ≡ Some name → name_read c.job ≡ Some other → other ≡ name
    same c name other so at named = let first = read c (Some name) so at in cc

    alone : (c : Command) → words ≡ Ok c → reads_sources c.job ≡ false → not (reads_sources command.job) ≡ true
    alone c so lone = ap not (subst (λ (d : Command). reads_sources d.job ≡ false) (sym (one c so)) lone)

    by : (o : Option (List ℕ)) → name_read command.job ≡ o → RefusesIn (not (reads_sources command.job)) o result → RefusesDataset words (ended result)
    by None at h = record {
      always = λ c name n so named kind. absurd (none c name so at named);
      only = λ n so. (command, is, h.only n (refused_so result (NotRecognized n) so));
      own = λ c name n so named lone told. absurd (none c name so at named);
      file = λ c name k n so named kind other told. none c name so at named;
    }
    by (Some name) at h = record {
      always = λ c other n so named kind. ends_so result (NotRecognized n) (h.always (walk.NotRecognized n) (subst (λ (x : List ℕ). kind_in x ≡ Err (walk.NotRecognized n)) (same c name other so at named) kind));
      only = λ n so. (command, is, h.only n (refused_so result (NotRecognized n) so));
      own = λ c other n so named lone told. subst (λ (x : List ℕ). kind_in x ≡ Err (walk.NotRecognized n)) (sym (same c name other so at named)) (h.own (alone c so lone) n (refused_so result (NotRecognized n) told));
      file = λ c other k n so named kind unlike told. h.file k n (subst (λ (x : List ℕ). kind_in x ≡ Ok k) (same c name other so at named) kind) unlike (refused_so result (NotRecognized n) told);
    }

-- a walk that was refused refuses a name of no kind as the walk does
abbrev refused_walk : WalkFault → Result ℕ WalkFault
refused_walk f = Err f

abbrev failed : WalkFault → Result (Unit {0}) Fault
failed f = Err (fault_of f)

walk_one : (f : WalkFault) (n : List ℕ) → failed f ≡ Err (NotRecognized n) → f ≡ walk.NotRecognized n
walk_one (walk.Absent name) n is = let no : ⊥ = cc in absurd no
walk_one (walk.NotRecognized name) n is = let one : name ≡ n = cc in ap walk.NotRecognized one
walk_one (walk.Malformed name bad) n is = let no : ⊥ = cc in absurd no
walk_one (walk.Short name needed has) n is = let no : ⊥ = cc in absurd no
walk_one (walk.Cycle name) n is = let no : ⊥ = cc in absurd no
walk_one (walk.TooDeep name) n is = let no : ⊥ = cc in absurd no
walk_one (walk.Limit what value) n is = let no : ⊥ = cc in absurd no
walk_one (walk.SourceBand name band) n is = let no : ⊥ = cc in absurd no
walk_one walk.FolderFault n is = let no : ⊥ = cc in absurd no
walk_one walk.Memory n is = let no : ⊥ = cc in absurd no

walk_no_usage : (f : WalkFault) (n : ℕ) → failed f ≡ Err (Usage n) → ⊥
walk_no_usage (walk.Absent name) n is = cc
walk_no_usage (walk.NotRecognized name) n is = cc
walk_no_usage (walk.Malformed name bad) n is = cc
walk_no_usage (walk.Short name needed has) n is = cc
walk_no_usage (walk.Cycle name) n is = cc
walk_no_usage (walk.TooDeep name) n is = cc
walk_no_usage (walk.Limit what value) n is = cc
walk_no_usage (walk.SourceBand name band) n is = cc
walk_no_usage walk.FolderFault n is = cc
walk_no_usage walk.Memory n is = cc

pub walk_refuses : (name : List ℕ) (f : WalkFault) → WalksUnknown {T = ℕ} name (Err f) → RefusesKind false name (failed f)
walk_refuses name f unknown = record {
  always = λ e kind. by e (unknown.always e kind);
  only = λ n is. unknown.only n (ap (λ (e : WalkFault). refused_walk e) (walk_one f n is));
  own = λ alone. let no : ⊥ = cc in absurd no;
  file = λ k n kind other is. unknown.file k n kind other (ap (λ (e : WalkFault). refused_walk e) (walk_one f n is));
  no_usage = walk_no_usage f;
}
  where
    by : (e : WalkFault) → (refused_walk f ≡ Err e) ⊎ (refused_walk f ≡ Err walk.Memory) → (failed f ≡ Err (fault_of e)) ⊎ (failed f ≡ Err Memory)
    by e (inl is) = let one : f ≡ e = cc in inl (ap (λ (x : WalkFault). failed x) one)
    by e (inr is) = let one : f ≡ walk.Memory = cc in inr (ap (λ (x : WalkFault). failed x) one)
