-- A file that was read whole.
use Rattle.std.proofs.Common.{◌≡◌, ℕ, List, ◌++◌, length, take, ap, ◌∙◌, arith}
use Rattle.std.specs.Prelude.{min}
use Rattle.std.proofs.Math.Nat.{min_comm}
use Rattle.std.proofs.lemmas.List.{take_all, take-append-le, take_min, length-take}

-- what was read is the whole file
pub all_read : (file out rest : List ℕ) (asked len : ℕ) → out ≡ take asked file → asked ≡ length file → len ≡ length file → take len (out ++ rest) ≡ file
all_read file out rest asked len is e f =
    let whole : out ≡ file = is ∙ take_all asked file (omega arith) in
    let all : length out ≡ length file = ap length whole in
    take-append-le len out rest (omega arith) ∙ take_all len out (omega arith) ∙ whole

-- what was read is the front of the file
pub front_read : (file out rest : List ℕ) (asked len most : ℕ) → out ≡ take asked file → asked ≡ len → len ≡ min (length file) most → take len (out ++ rest) ≡ take most file
front_read file out rest asked len most is e f =
    let front : out ≡ take most file = is ∙ ap (λ n. take n file) (e ∙ f ∙ min_comm (length file) most) ∙ take_min most file in
    let long : length out ≡ len = ap length is ∙ length-take asked file ∙ omega (arith, e, f) in
    take-append-le len out rest (omega arith) ∙ take_all len out (omega arith) ∙ front
