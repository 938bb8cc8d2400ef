-- The bytes of a row that stand in a file.
use Rattle.std.proofs.Common.{◌≡◌, ℕ, ℤ, Bool, true, List, [], ◌++◌, refl, sym, ap, ◌∙◌, take, drop, length, ◌≤◌, ◌+◌, ◌-◌, arith, subst, length-drop, Result, inl, inr}
use Rattle.std.specs.Prelude.{nat_le, ◌==◌, ◌||◌}
use Rattle.std.proofs.lemmas.Bool.{eq-eqb}
use Rattle.std.proofs.Math.Seq.{take-add}
use Rattle.std.proofs.lemmas.Bool.Decides.{nat_tests}
use Rattle.std.proofs.lemmas.List.{take-append-drop, take_all, drop-drop, append-nil}
use Rattle.ascii_grid.specs.Row.{RowNow, Fills, fresh, HasRead, row_of, ended_in}
use Rattle.ascii_grid.specs.Scan.{Scanned, Reads, HasScanned, IsFaultOf, IsFaultIn}
use Rattle.ascii_grid.specs.Grid.{Head, grid_head}
use Rattle.ascii_grid.specs.Faults.{IsMemory}
use Rattle.ascii_grid.specs.declared.faults.GridFault.{GridFault}
use Rattle.lists_and_answers.specs.Answers.{Gives}
use Rattle.lists_and_answers.specs.Places.{StandsAt}
use Rattle.ascii_grid.proofs.Rows.{whole_row, fresh_fills}

-- nothing was read
pub fresh_reads : (out : List ℤ) (file : List ℕ) (from : ℕ) → HasRead fresh out file from from
fresh_reads out file from = let none : 0 ≡ from - from = omega arith in record { forward = omega arith; given = subst (λ (k : ℕ). Fills fresh out (take k (drop from file))) none (fresh_fills out) }

-- what was read and the piece behind it
joined : (file bytes : List ℕ) (from at : ℕ) → from ≤ at → StandsAt file bytes at → take (at - from) (drop from file) ++ bytes ≡ take ((at - from) + length bytes) (drop from file)
joined file bytes from at forward stands =
    let place : from + (at - from) ≡ at = omega arith in
    let there : drop at file ≡ drop (at - from) (drop from file) = sym (drop-drop (at - from) from file ∙ ap (λ k. drop k file) place) in
    ap (λ (b : List ℕ). take (at - from) (drop from file) ++ b) (stands ∙ ap (take (length bytes)) there) ∙ sym (take-add (at - from) (length bytes) (drop from file))

pub more_of_file : (s : RowNow) (out : List ℤ) (file bytes : List ℕ) (from at : ℕ) → from ≤ at → Fills s out (take (at - from) (drop from file) ++ bytes) → StandsAt file bytes at → HasRead s out file from (at + length bytes)
more_of_file s out file bytes from at forward fills stands =
    let count : (at - from) + length bytes ≡ (at + length bytes) - from = omega arith in
    record { forward = omega arith; given = subst (λ (text : List ℕ). Fills s out text) (joined file bytes from at forward stands ∙ ap (λ k. take k (drop from file)) count) fills }

test_le : (n m : ℕ) → true ≡ nat_le n m → n ≤ m
test_le n m e = grind (arith, nat_tests)

-- a row that is whole is that of all bytes
pub line_of_file : (w : ℕ) (new : List ℤ) (file bytes : List ℕ) (from at : ℕ) → from ≤ at → new ≡ row_of w (take (at - from) (drop from file) ++ bytes) → true ≡ nat_le w (ended_in (take (at - from) (drop from file) ++ bytes)) → StandsAt file bytes at → new ≡ row_of w (drop from file)
line_of_file w new file bytes from at forward is enough stands =
    let text : List ℕ = take (at - from) (drop from file) ++ bytes in
    let k : ℕ = (at - from) + length bytes in
    is ∙ whole_row w text (drop k (drop from file)) (test_le w (ended_in text) enough)
    ∙ ap (λ (t : List ℕ). row_of w (t ++ drop k (drop from file))) (joined file bytes from at forward stands)
    ∙ ap (row_of w) (take-append-drop k (drop from file))

-- so it is where the file ends
pub end_of_file : (w : ℕ) (new : List ℤ) (file bytes : List ℕ) (from at : ℕ) → new ≡ row_of w (take (at - from) (drop from file) ++ bytes) → bytes ≡ [] → length file ≤ at → from ≤ at → new ≡ row_of w (drop from file)
end_of_file w new file bytes from at is none past forward =
    is ∙ ap (λ (b : List ℕ). row_of w (take (at - from) (drop from file) ++ b)) none ∙ ap (row_of w) (append-nil (take (at - from) (drop from file)) ∙ take_all (at - from) (drop from file) (omega (arith, length-drop from file)))

pub empty_is_true : (n : ℕ) (r b : Bool) → r ≡ ((n == 0) || b) → n ≡ 0 → r ≡ true
empty_is_true n r b is none = is ∙ rw (eq-eqb n 0 none) refl

-- the scanner behind a piece of a file

scanned_text : (file bytes : List ℕ) (at : ℕ) → StandsAt file bytes at → take at file ++ bytes ≡ take (at + length bytes) file
scanned_text file bytes at stands = ap (λ (b : List ℕ). take at file ++ b) stands ∙ sym (take-add at (length bytes) file)

pub scanned_more : (s : Scanned) (file bytes : List ℕ) (at : ℕ) → Reads s (take at file ++ bytes) → StandsAt file bytes at → HasScanned s file (at + length bytes)
scanned_more s file bytes at reads stands = record { reads = subst (λ (text : List ℕ). Reads s text) (scanned_text file bytes at stands) reads }

pub fault_in : (f : GridFault) (file bytes : List ℕ) (at : ℕ) → IsFaultOf f (take at file ++ bytes) → StandsAt file bytes at → IsFaultIn f file
fault_in f file bytes at (inl memory) stands = inl memory
fault_in f file bytes at (inr always) stands =
    let rest : List ℕ = drop (at + length bytes) file in
    inr (sym (ap (λ (t : List ℕ). grid_head (t ++ rest)) (scanned_text file bytes at stands) ∙ ap grid_head (take-append-drop (at + length bytes) file)) ∙ always rest)

pub scanned_all : (r : Result Head GridFault) (s : Scanned) (file : List ℕ) (at : ℕ) → HasScanned s file at → length file ≤ at → ((text : List ℕ) → Reads s text → Gives IsMemory (λ h. h) r (grid_head text)) → Gives IsMemory (λ h. h) r (grid_head file)
scanned_all r s file at h past grid = grid file (subst (λ (text : List ℕ). Reads s text) (take_all at file past) h.reads)

pub nothing_scanned : (s : Scanned) (file : List ℕ) → Reads s [] → HasScanned s file 0
nothing_scanned s file reads = record { reads = reads }
