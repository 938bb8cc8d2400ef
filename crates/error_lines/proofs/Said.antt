-- What a stream gets of a text, whether the call that puts it succeeds or not.
use Rattle.std.proofs.Common.{ℕ, List, Result, Ok, Err, Option}
use Rattle.std.specs.Prelude.{OnOk, OnErr}
use Rattle.outside.specs.Streams.{Gets, GetsPart}
use Rattle.outside.proofs.Sinks.{gets-whole}

-- whether the call succeeded or not, a first part was put
pub part_of_either : {T E : Type 0} (r : Result T E) (text : List ℕ) (before after : Option (List ℕ)) → OnOk r (Gets text before after) → OnErr r (GetsPart text before after) → GetsPart text before after
part_of_either (Ok x) text before after ok err = gets-whole text before after ok
part_of_either (Err e) text before after ok err = err
