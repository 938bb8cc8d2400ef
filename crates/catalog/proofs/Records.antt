-- The records of a cell, from west to east.
use Rattle.std.proofs.Common.{◌≡◌, ◌∙◌, ◌+◌, ◌-◌, ◌<◌, ap, sym, Bool, true, false, cond, not, ℕ, suc, List, take, drop, Option, Some, arith}
use Rattle.std.specs.List.{range_with_len}
use Rattle.dted_records.specs.Head.{Head}
use Rattle.dted_records.specs.Places.{record_of, record_len}
use Rattle.dted_records.specs.Records.{is_record}
use Rattle.catalog.specs.Heads.{is_broken, broken_in}

one_less : (h : Head) (bytes : List ℕ) (line lines : ℕ) → line < lines → broken_in h bytes (range_with_len line (lines - line)) ≡ cond (is_broken h bytes line) (Some line) (broken_in h bytes (range_with_len (line + 1) (lines - (line + 1))))
one_less h bytes line lines below =
    let n : lines - line ≡ suc (lines - (line + 1)) = omega arith in
    ap (λ n. broken_in h bytes (range_with_len line n)) n

tested : (h : Head) (bytes read : List ℕ) (line : ℕ) (whole : Bool) → read ≡ take (record_len h) (drop (record_of h line) bytes) → whole ≡ is_record read → is_broken h bytes line ≡ not whole
tested h bytes read line whole is e = sym (ap not (e ∙ ap is_record is))

-- a whole record is passed
pub passed : (h : Head) (bytes read : List ℕ) (line lines : ℕ) (whole : Bool) (all : Option ℕ) → line < lines → read ≡ take (record_len h) (drop (record_of h line) bytes) → whole ≡ is_record read → whole ≡ true
    → broken_in h bytes (range_with_len line (lines - line)) ≡ all → broken_in h bytes (range_with_len (line + 1) (lines - (line + 1))) ≡ all
passed h bytes read line lines whole all below is e so f =
    ap (λ b. cond b (Some line) (broken_in h bytes (range_with_len (line + 1) (lines - (line + 1))))) (sym (tested h bytes read line whole is e ∙ ap not so)) ∙ sym (one_less h bytes line lines below) ∙ f

-- a record that isn't whole is found
pub found : (h : Head) (bytes read : List ℕ) (line lines : ℕ) (whole : Bool) (all : Option ℕ) → line < lines → read ≡ take (record_len h) (drop (record_of h line) bytes) → whole ≡ is_record read → whole ≡ false
    → broken_in h bytes (range_with_len line (lines - line)) ≡ all → all ≡ Some line
found h bytes read line lines whole all below is e so f =
    sym f ∙ one_less h bytes line lines below ∙ ap (λ b. cond b (Some line) (broken_in h bytes (range_with_len (line + 1) (lines - (line + 1))))) (tested h bytes read line whole is e ∙ ap not so)
