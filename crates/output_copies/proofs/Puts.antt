-- What is put of a text by the time that a call answers.
use Rattle.std.proofs.Common.{◌≡◌, sym, subst, ℕ, Bool, true, false, List, [], ◌++◌, Result, Ok, Err, Option}
use Rattle.std.specs.Prelude.{OnErr, OnOk}
use Rattle.std.specs.Result.{IsErr, IsErrAnd}
use Rattle.outside.specs.Streams.{Gets, GetsPart}
use Rattle.outside.proofs.Sinks.{gets-none, gets-then, gets-then-part, gets-whole, part-first}
use Rattle.error_lines.specs.declared.faults.Fault.{Fault}
use Rattle.output_copies.specs.Copying.{spoken, Puts}
use Rattle.output_copies.proofs.Ends.{err_is}

-- a first part of it was put, and the fault is handed on
pub puts_part : {T : Type 0} (text : List ℕ) (f : Fault) (r : Result T Fault) (before after : Option (List ℕ)) → IsErr r × IsErrAnd r (λ e. e ≡ f) → GetsPart text before after → Puts text r before after
puts_part {T = T} text f r before after is part = subst (λ (e : Result T Fault). Puts text e before after) (sym (err_is r f is)) part

-- or nothing was
pub puts_none : {T : Type 0} (text : List ℕ) (f : Fault) (r : Result T Fault) (old : Option (List ℕ)) → IsErr r × IsErrAnd r (λ e. e ≡ f) → Puts text r old old
puts_none text f r old is = puts_part text f r old old is (λ g told. (0, gets-none old g told))

-- all of it was put, whatever is answered
pub puts_whole : {T : Type 0} (text : List ℕ) (r : Result T Fault) (before after : Option (List ℕ)) → Gets text before after → Puts text r before after
puts_whole text (Ok v) before after whole = whole
puts_whole text (Err f) before after whole = gets-whole text before after whole

-- by the two cases of an answer
pub puts_by : {T : Type 0} (text : List ℕ) (r : Result T Fault) (before after : Option (List ℕ)) → OnOk r (Gets text before after) → OnErr r (GetsPart text before after) → Puts text r before after
puts_by text (Ok v) before after whole part = whole
puts_by text (Err f) before after whole part = part

-- a second text, or a first part of it, behind all of the first
both : (quiet : Bool) (a b : List ℕ) (before mid after : Option (List ℕ)) → Gets (spoken quiet a) before mid → Gets (spoken quiet b) mid after → Gets (spoken quiet (a ++ b)) before after
both true a b before mid after first second = gets-then [] [] before mid after first second
both false a b before mid after first second = gets-then a b before mid after first second

pub second_part : (quiet : Bool) (a b : List ℕ) (before mid after : Option (List ℕ)) → Gets (spoken quiet a) before mid → GetsPart (spoken quiet b) mid after → GetsPart (spoken quiet (a ++ b)) before after
second_part true a b before mid after first second = gets-then-part [] [] before mid after first second
second_part false a b before mid after first second = gets-then-part a b before mid after first second

pub puts_then : {T : Type 0} (quiet : Bool) (a b : List ℕ) (r : Result T Fault) (before mid after : Option (List ℕ)) → Gets (spoken quiet a) before mid → Puts (spoken quiet b) r mid after → Puts (spoken quiet (a ++ b)) r before after
puts_then quiet a b (Ok v) before mid after first second = both quiet a b before mid after first second
puts_then quiet a b (Err f) before mid after first second = second_part quiet a b before mid after first second

-- a first part of the first text
pub first_part : (quiet : Bool) (a b : List ℕ) (before after : Option (List ℕ)) → GetsPart (spoken quiet a) before after → GetsPart (spoken quiet (a ++ b)) before after
first_part true a b before after part = part
first_part false a b before after part = part-first a b before after part
