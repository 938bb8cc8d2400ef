-- The header beside raw data has another name.
use Rattle.std.proofs.Common.{◌≡◌, ℕ, ◌+◌, ◌-◌, Bool, true, false, cond, List, [], ◌∷◌, ◌++◌, length, take, refl, ap, sym, ◌∙◌, arith, append_assoc, length-append, Option, Some, None, option_and_then, codes, true≢false}
use Rattle.std.specs.Option.{unwrap_or}
use Rattle.std.proofs.lemmas.List.{take_at, append_cancel_left}
use Rattle.outside.specs.Names.{ending_of, extension_of, has_no_lower, header_ending, header_of, is_raw, extension_of_ending, with_header_ending}
use Rattle.outside.proofs.Cuts.{Ending, ending-is}

no_header : (r : Bool) → is_raw (extension_of_ending (cond r (codes "HDR") (codes "hdr"))) ≡ false
unfolding extension_of_ending
no_header true = refl
no_header false = refl

by_ending : (name : List ℕ) (r : Option (List ℕ)) → ending_of name ≡ r → is_raw (option_and_then extension_of_ending r) ≡ true → with_header_ending name (unwrap_or r []) ≡ name → ⊥
by_ending name None e raw same = true≢false (sym raw)
by_ending name (Some ending) e raw same =
    let w : Ending name ending = ending-is name ending e in
    let fore : List ℕ = w.front ++ (w.stem ++ 46 ∷ []) in
    let whole : name ≡ fore ++ ending = w.is ∙ ap (λ (t : List ℕ). w.front ++ t) (sym (append_assoc w.stem (46 ∷ []) ending)) ∙ sym (append_assoc w.front (w.stem ++ 46 ∷ []) ending) in
    let size : length name ≡ length fore + length ending = ap length whole ∙ length-append fore ending in
    let cut : take (length name - length ending) name ≡ fore = ap (take (length name - length ending)) whole ∙ take_at fore ending (length name - length ending) (omega arith) in
    let both : fore ++ header_ending ending ≡ fore ++ ending = sym (ap (λ (t : List ℕ). t ++ header_ending ending) cut) ∙ same ∙ whole in
    let header : header_ending ending ≡ ending = append_cancel_left fore (header_ending ending) ending both in
    true≢false (sym raw ∙ ap (λ (l : List ℕ). is_raw (extension_of_ending l)) (sym header) ∙ no_header (has_no_lower ending))

pub header_differs : (name : List ℕ) → is_raw (extension_of name) ≡ true → header_of name ≡ name → ⊥
unfolding extension_of header_of
header_differs name raw same = by_ending name (ending_of name) refl raw same
