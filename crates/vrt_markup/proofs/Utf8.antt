-- The bytes of a file that is UTF-8.
use Rattle.std.proofs.Common.{◌≡◌, ℕ, true, false, cond, List, length, Ok, Err, ap, ◌∙◌, arith, nat_lt, IsUtf8}
use Rattle.std.proofs.lemmas.Bool.Decides.{nat_tests}
use Rattle.std.specs.Str.{IsValidUpTo}
use Rattle.std.specs.Str.Lossy.{utf8_valid_len}
use Rattle.std.proofs.lemmas.Str.{utf8_valid_len-IsUtf8, utf8_valid_len-IsValidUpTo}
use Rattle.vrt_markup.specs.Tree.{utf8_of}
use Rattle.vrt_markup.specs.declared.fault.VrtFault.TheVariants.{BadText}

pub utf8_ok : (bytes : List ℕ) → IsUtf8 bytes → utf8_of bytes ≡ Ok bytes
utf8_ok bytes h =
    let all : nat_lt (utf8_valid_len bytes) (length bytes) ≡ false = grind (arith, nat_tests, utf8_valid_len-IsUtf8 bytes h) in
    ap (λ b. cond b (Err (BadText (utf8_valid_len bytes))) (Ok bytes)) all

pub utf8_err : (bytes : List ℕ) (n : ℕ) → IsValidUpTo bytes n → utf8_of bytes ≡ Err (BadText n)
utf8_err bytes n h =
    let same : utf8_valid_len bytes ≡ n = utf8_valid_len-IsValidUpTo bytes n h in
    let part : nat_lt (utf8_valid_len bytes) (length bytes) ≡ true = grind (arith, nat_tests, same, h.short) in
    ap (λ b. cond b (Err (BadText (utf8_valid_len bytes))) (Ok bytes)) part ∙ ap (λ k. Err (BadText k)) same
