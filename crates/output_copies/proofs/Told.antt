-- What is told of a translation while its lines are written.
use Rattle.std.proofs.Common.{◌≡◌, ◌∙◌, ap, sym, subst, ℕ, ◌+◌, ◌-◌, ◌≤◌, arith, Bool, true, false, List, [], ◌++◌, take, drop, Option, take-append-drop}
use Rattle.std.proofs.lemmas.List.{append-nil}
use Rattle.std.proofs.Math.Seq.{take-add}
use Rattle.outside.specs.Streams.{Gets, GetsPart}
use Rattle.outside.proofs.Sinks.{gets-none, gets-then, gets-then-part, part-first}
use Rattle.output_copies.specs.Copying.{spoken}

-- so much of a text, and behind it up to more
take_on : (text : List ℕ) (a b : ℕ) → a ≤ b → take a text ++ take (b - a) (drop a text) ≡ take b text
take_on text a b order = let whole : a + (b - a) ≡ b = omega arith in sym (take-add a (b - a) text) ∙ ap (λ (n : ℕ). take n text) whole

-- a further part was put
pub told_more : (quiet : Bool) (text part : List ℕ) (told next : ℕ) (before mid after : Option (List ℕ)) → told ≤ next → part ≡ take (next - told) (drop told text) → Gets (spoken quiet (take told text)) before mid → Gets (spoken quiet (part ++ [])) mid after → Gets (spoken quiet (take next text)) before after
told_more true text part told next before mid after order is first second = gets-then [] [] before mid after first second
told_more false text part told next before mid after order is first second =
    subst (λ (t : List ℕ). Gets t before after) (ap (λ (t : List ℕ). take told text ++ t) (append-nil part ∙ is) ∙ take_on text told next order)
    (gets-then (take told text) (part ++ []) before mid after first second)

-- or a first part of it
pub told_part : (quiet : Bool) (text part : List ℕ) (told next : ℕ) (before mid after : Option (List ℕ)) → told ≤ next → part ≡ take (next - told) (drop told text) → Gets (spoken quiet (take told text)) before mid → GetsPart (spoken quiet (part ++ [])) mid after → GetsPart (spoken quiet text) before after
told_part true text part told next before mid after order is first second = gets-then-part [] [] before mid after first second
told_part false text part told next before mid after order is first second =
    subst (λ (t : List ℕ). GetsPart t before after) (take-append-drop next text)
    (part-first (take next text) (drop next text) before after
    (subst (λ (t : List ℕ). GetsPart t before after) (ap (λ (t : List ℕ). take told text ++ t) (append-nil part ∙ is) ∙ take_on text told next order)
    (gets-then-part (take told text) (part ++ []) before mid after first second)))

-- nothing was told yet
pub told_none : (quiet : Bool) (text : List ℕ) (old : Option (List ℕ)) → Gets (spoken quiet (take 0 text)) old old
told_none true text old = gets-none old
told_none false text old = gets-none old

-- lines of which nothing more is told, after some were told
pub told_so_far : (quiet : Bool) (text : List ℕ) (told : ℕ) (before after : Option (List ℕ)) → Gets (spoken quiet (take told text)) before after → GetsPart (spoken quiet text) before after
told_so_far true text told before after first = λ g is. (0, first g is)
told_so_far false text told before after first = λ g is. (told, first g is)
