-- What the headers of raw data answer.
use Rattle.std.proofs.Common.{◌≡◌, ◌⊎◌, ◌<◌, ap, subst, inl, true, ℕ, List, length, Result, Ok, Err, Bool, cond, arith}
use Rattle.std.proofs.lemmas.Bool.Decides.{nat_tests}
use Rattle.std.specs.Prelude.{nat_lt}
use Rattle.outside.specs.Outside.{Files}
use Rattle.esri_hdr.specs.declared.header_parts.HdrFault.{HdrFault}
use Rattle.esri_hdr.specs.declared.header_parts.HdrFault.TheVariants.{Limit}
use Rattle.esri_hdr.specs.Head.{Head, esri_head, head_of}
use Rattle.esri_hdr.specs.Lines.{last_in_text}
use Rattle.catalog.specs.declared.faults.WalkFault.{WalkFault}
use Rattle.catalog.specs.declared.faults.WalkFault.TheVariants.{Absent, NotRecognized, Malformed, Short, Cycle, TooDeep, Limit as Passed, SourceBand, FolderFault, Memory}
use Rattle.catalog.specs.declared.faults.Bad.{Bad}
use Rattle.catalog.specs.declared.faults.Bad.TheVariants.{Hdr}
use Rattle.catalog.specs.Outcomes.{IsOutside, IsMemory}
use Rattle.catalog.specs.Heads.{file_in, header_in, named, IsOwnFault, IsOfHead}
use Rattle.catalog.specs.OwnFiles.{IsOfFile}

-- an answer that no definition gives
pub outside_fails : {Y : Type 0} (f : WalkFault) (d : Result Y WalkFault) → IsOutside f → IsOutside f ⊎ (d ≡ Err f)
outside_fails f d h = inl h

pub memory_fails : {Y : Type 0} (f : WalkFault) (d : Result Y WalkFault) → IsMemory f → IsMemory f ⊎ (d ≡ Err f)
memory_fails f d h = inl h

-- want of memory comes from outside
pub memory_is_outside : (f : WalkFault) → IsMemory f → IsOutside f
memory_is_outside f is = rw is tt

-- a header past its limit
too_long : (text : List ℕ) → 1048576 < length text → esri_head text ≡ Err Limit
unfolding esri_head
too_long text long = let test : nat_lt 1048576 (length text) ≡ true = grind (arith, nat_tests) in ap (λ (b : Bool). cond b (Err Limit) (head_of (last_in_text text))) test

pub long_header : (m : Files) (name text : List ℕ) → file_in m name ≡ Ok text → 1048576 < length text → header_in m name ≡ Err (Malformed name (Hdr Limit))
unfolding header_in
long_header m name text is long = rw is (ap (named (λ f. Malformed name (Hdr f))) (too_long text long))

-- a header that is there says what its text says
pub header_read : (m : Files) (name text : List ℕ) (r : Result Head HdrFault) → file_in m name ≡ Ok text → esri_head text ≡ r → header_in m name ≡ named (λ f. Malformed name (Hdr f)) r
unfolding header_in
header_read m name text r is e = rw is (ap (named (λ f. Malformed name (Hdr f))) e)

-- what failed outside is no fault of a file, and may end any reading
pub outside_of_file : (f : WalkFault) → IsOutside f → IsOfFile f
outside_of_file (Absent name) is = tt
outside_of_file (NotRecognized name) is = is
outside_of_file (Malformed name b) is = absurd is
outside_of_file (Short name needed has) is = tt
outside_of_file (Cycle name) is = is
outside_of_file (TooDeep name) is = is
outside_of_file (Passed what value) is = is
outside_of_file (SourceBand name band) is = is
outside_of_file FolderFault is = tt
outside_of_file Memory is = tt

-- a dataset whose own files are read has a known kind
pub never_unknown : (f : WalkFault) (n : List ℕ) → IsOfFile f → f ≡ NotRecognized n → ⊥
never_unknown f n of_file is = subst IsOfFile is of_file

pub owns_fault : (f : WalkFault) (n : List ℕ) (b : Bad) → IsOfFile f → f ≡ Malformed n b → IsOwnFault b
owns_fault f n b of_file is = subst IsOfFile is of_file

-- what its own files are refused for, a head is
pub file_of_head : (f : WalkFault) → IsOfFile f → IsOfHead f
file_of_head (Absent name) is = tt
file_of_head (NotRecognized name) is = tt
file_of_head (Malformed name b) is = is
file_of_head (Short name needed has) is = tt
file_of_head (Cycle name) is = is
file_of_head (TooDeep name) is = is
file_of_head (Passed what value) is = absurd is
file_of_head (SourceBand name band) is = is
file_of_head FolderFault is = tt
file_of_head Memory is = tt
