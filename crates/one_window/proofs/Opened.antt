-- The dataset that was opened, and what was read of it.
use Rattle.std.proofs.Common.{◌≡◌, ◌<◌, sym, ℕ, true, List, length, Some, Result, Ok, Err, OnOk, true≢false}
use Rattle.std.specs.Result.{is_ok}
use Rattle.catalog.specs.Drivers.{Dataset}
use Rattle.catalog.specs.Walk.{dataset_number_in}
use Rattle.catalog.proofs.Found.{found}
use Rattle.nearest_window.proofs.Blocks.{known}

-- the number of a name is one of the catalog's datasets
pub number_known : (cat : List Dataset) (name : List ℕ) (id : ℕ) → dataset_number_in cat name ≡ Some id → id < length cat
number_known cat name id is =
    let there = found cat name id is in
    known cat id there.dataset there.at

-- what a clause says where there is a value
pub of_ok : {T E P : Type 0} (r : Result T E) → is_ok r ≡ true → OnOk r P → P
of_ok (Ok x) is p = p
of_ok (Err e) is p = absurd (true≢false (sym is))
