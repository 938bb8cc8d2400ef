-- What the front of a cell's file says of the cell.
use Rattle.std.proofs.Common.{◌≡◌, ◌∙◌, ◌<◌, ◌≤◌, ap, sym, true, false, ℕ, List, length, take, Bool, Result, Ok, Err, cond, arith}
use Rattle.std.proofs.lemmas.Bool.Decides.{nat_tests}
use Rattle.std.specs.Prelude.{nat_lt}
use Rattle.lists_and_answers.specs.Answers.{◌>>=◌}
use Rattle.dted_records.specs.declared.head.DtedFault.{DtedFault}
use Rattle.dted_records.specs.Head.{Head, dted_head}
use Rattle.dted_records.specs.Places.{needed_of}
use Rattle.dted_records.proofs.Front.{front_is_enough}
use Rattle.catalog.specs.declared.faults.Bad.TheVariants.{Dted}
use Rattle.catalog.specs.declared.faults.WalkFault.{WalkFault}
use Rattle.catalog.specs.declared.faults.WalkFault.TheVariants.{Malformed, Short}
use Rattle.catalog.specs.Heads.{named, long_enough, cell_in}

-- what a cell's file says by the head that was read
by_head : (bytes name : List ℕ) → Result Head DtedFault → Result Head WalkFault
by_head bytes name read = named (λ f. Malformed name (Dted f)) read >>= λ h. long_enough (needed_of h) bytes name >>= λ _. Ok h

cell_by : (bytes name front : List ℕ) (read : Result Head DtedFault) → front ≡ take 4068 bytes → read ≡ dted_head front → cell_in bytes name ≡ by_head bytes name read
unfolding cell_in by_head
cell_by bytes name front read e f = ap (by_head bytes name) (sym (front_is_enough bytes) ∙ ap dted_head (sym e) ∙ sym f)

pub cell_bad : (bytes name front : List ℕ) (f : DtedFault) → front ≡ take 4068 bytes → Err f ≡ dted_head front → cell_in bytes name ≡ Err (Malformed name (Dted f))
unfolding by_head
cell_bad bytes name front f e g = cell_by bytes name front (Err f) e g

pub cell_short : (bytes name front : List ℕ) (h : Head) → front ≡ take 4068 bytes → Ok h ≡ dted_head front → length bytes < needed_of h → cell_in bytes name ≡ Err (Short name (needed_of h) (length bytes))
unfolding by_head
cell_short bytes name front h e g less =
    let test : nat_lt (length bytes) (needed_of h) ≡ true = grind (arith, nat_tests) in
    cell_by bytes name front (Ok h) e g
    ∙ ap (λ (b : Bool). cond b (Err (Short name (needed_of h) (length bytes))) (Ok tt) >>= λ _. Ok h) test

pub cell_fine : (bytes name front : List ℕ) (h : Head) → front ≡ take 4068 bytes → Ok h ≡ dted_head front → needed_of h ≤ length bytes → cell_in bytes name ≡ Ok h
unfolding by_head
cell_fine bytes name front h e g enough =
    let test : nat_lt (length bytes) (needed_of h) ≡ false = grind (arith, nat_tests) in
    cell_by bytes name front (Ok h) e g
    ∙ ap (λ (b : Bool). cond b (Err (Short name (needed_of h) (length bytes))) (Ok tt) >>= λ _. Ok h) test
