-- Where a text's bytes stand.
use Rattle.std.specs.Prelude.{ℕ, List, string_bytes}
use Rattle.outside.specs.declared.text.Held.{Held}
use Rattle.outside.specs.declared.text.Held.TheVariants.{Here, Apart}

abbrev pub held_bytes : Held → List ℕ
held_bytes (Here text) = text.bytes
held_bytes (Apart text) = string_bytes text
