-- Texts that are UTF-8, and those that aren't.
use Rattle.std.proofs.Common.{◌≡◌, ℕ, Bool, true, false, cond, List, Ok, Err, refl, ap, IsUtf8}
use Rattle.std.specs.Str.{is_utf8}
use Rattle.std.proofs.lemmas.Str.{is_utf8-from_IsUtf8, IsUtf8-from_is_utf8}
use Rattle.vrt_profile.specs.Means.{kept_text}
use Rattle.vrt_markup.specs.declared.fault.VrtFault.TheVariants.{Unsupported}

pub is_text : (bytes : List ℕ) → IsUtf8 bytes → kept_text bytes ≡ Ok bytes
is_text bytes h = ap (λ b. cond b (Ok bytes) (Err Unsupported)) (is_utf8-from_IsUtf8 bytes h)

no_text : (bytes : List ℕ) (b : Bool) → is_utf8 bytes ≡ b → ¬ (IsUtf8 bytes) → cond b (Ok bytes) (Err Unsupported) ≡ Err Unsupported
no_text bytes false e h = refl
no_text bytes true e h = absurd (h (IsUtf8-from_is_utf8 bytes e))

pub is_no_text : (bytes : List ℕ) → ¬ (IsUtf8 bytes) → kept_text bytes ≡ Err Unsupported
is_no_text bytes h = no_text bytes (is_utf8 bytes) refl h
