-- The number of a name's last bytes.
use Rattle.std.proofs.Common.{◌≡◌, ◌<◌, ◌≤◌, ◌-◌, ◌∙◌, ℕ, List, true, false, cond, length, drop, sym, ap, arith}
use Rattle.std.specs.Prelude.{nat_lt}
use Rattle.std.specs.Int.{w64, from_be_bytes}
use Rattle.std.proofs.lemmas.Bool.Decides.{nat_tests}
use Rattle.vrt_markup.specs.Keys.{bytes_number, last_bytes}

-- of eight bytes or more
pub last_word : (name last : List ℕ) → 8 ≤ length name → last ≡ drop (length name - 8) name → from_be_bytes w64 last ≡ last_bytes name
unfolding last_bytes
last_word name last long same =
    let few : nat_lt (length name) 8 ≡ false = grind (arith, nat_tests, long) in
    ap (from_be_bytes w64) same ∙ sym (ap (λ b. cond b (bytes_number 0 name) (from_be_bytes w64 (drop (length name - 8) name))) few)

-- of fewer
pub last_short : (name : List ℕ) → length name < 8 → bytes_number 0 name ≡ last_bytes name
unfolding last_bytes
last_short name short =
    let few : nat_lt (length name) 8 ≡ true = grind (arith, nat_tests, short) in
    sym (ap (λ b. cond b (bytes_number 0 name) (from_be_bytes w64 (drop (length name - 8) name))) few)
