-- What is read of the bytes is what they mean.
use Rattle.std.proofs.Common.{◌≡◌, ℕ, List, Result, Ok, Err, refl, sym, ap, subst, ◌⊎◌, inl, inr}
use Rattle.lists_and_answers.specs.Answers as answers
use Rattle.lists_and_answers.specs.Answers.{◌>>=◌}
use Rattle.vrt_markup.specs.Tree.{utf8_of, markup_of}
use Rattle.vrt_markup.specs.Faults.{IsMemory}
use Rattle.vrt_markup.specs.Kept.{Fails, Gives}
use Rattle.vrt_markup.specs.declared.fault.VrtFault.{VrtFault}
use Rattle.vrt_markup.specs.declared.fault.VrtFault.TheVariants.{BadText, UnknownElement, MissingPart, BadNumber, Unsupported, Limit, Memory}
use Rattle.vrt_profile.specs.Document.{means, document_of}
use Rattle.vrt_profile.specs.Seen.{markup_means}
use Rattle.vrt_profile.specs.Values.{DocumentValue}

fails_answer : {A : Type 0} (e : VrtFault) (d : Result A VrtFault) → Fails e d → (e ≡ Memory) ⊎ (d ≡ Err e)
fails_answer (BadText place) d h = inr (sym h)
fails_answer (UnknownElement place) d h = inr (sym h)
fails_answer MissingPart d h = inr (sym h)
fails_answer BadNumber d h = inr (sym h)
fails_answer Unsupported d h = inr (sym h)
fails_answer Limit d h = inr (sym h)
fails_answer Memory d h = inl refl

gives_whole : (result : Result DocumentValue VrtFault) (d : Result DocumentValue VrtFault) → Gives (λ x. x) result d → answers.Gives IsMemory (λ x. x) result d
gives_whole (Ok x) d h = sym h
gives_whole (Err e) d h = fails_answer e d h

-- of a text that is UTF-8 the document is that of its markup
pub gives_answer : (bytes text : List ℕ) (result : Result DocumentValue VrtFault) → Ok text ≡ utf8_of bytes → Gives (λ x. x) result (markup_means text) → answers.Gives IsMemory (λ x. x) result (document_of bytes)
gives_answer bytes text result valid h = gives_whole result (document_of bytes) (subst (Gives (λ x. x) result) (ap (λ (r : Result (List ℕ) VrtFault). (r >>= λ t. markup_of t) >>= means) valid) h)

pub utf8_fault : (bytes : List ℕ) (fault : VrtFault) → Err fault ≡ utf8_of bytes → document_of bytes ≡ Err fault
utf8_fault bytes fault h = ap (λ (r : Result (List ℕ) VrtFault). (r >>= λ t. markup_of t) >>= means) (sym h)
