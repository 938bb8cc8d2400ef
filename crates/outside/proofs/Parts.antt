-- Parts that are put one after another.
use Rattle.std.proofs.Common.{◌≡◌, ℕ, ◌+◌, ◌<◌, List, [], ◌∷◌, ◌++◌, take, drop, get_or, ap, sym, subst, ◌∙◌, Option, Bor, length}
use Rattle.std.proofs.lemmas.List.{take_more, drop_more, append-nil, take-append-drop}
use Rattle.std.proofs.lemmas.Grind.{flat_map-append}
use Rattle.std.specs.Prelude.{OnErr, Result, Ok, Err}
use Rattle.lists_and_answers.specs.Texts.{joined}
use Rattle.outside.specs.Streams.{Gets, GetsPart}
use Rattle.outside.proofs.Sinks.{gets-then, gets-then-part, part-first}

-- one part more
pub joined-more : (ps : List (Bor (List ℕ))) (i : ℕ) (d : Bor (List ℕ)) → i < length ps → joined (take (i + 1) ps) ≡ joined (take i ps) ++ (get_or ps i d).now
joined-more ps i d h =
    ap joined (take_more ps i d h)
    ∙ flat_map-append (λ p. p.now) (take i ps) (get_or ps i d ∷ [])
    ∙ ap (λ t. joined (take i ps) ++ t) (append-nil (get_or ps i d).now)

-- the parts before one, the one, and those behind it
joined-split : (ps : List (Bor (List ℕ))) (i : ℕ) (d : Bor (List ℕ)) → i < length ps → joined ps ≡ joined (take i ps) ++ ((get_or ps i d).now ++ joined (drop (i + 1) ps))
joined-split ps i d h =
    ap joined (sym (take-append-drop i ps))
    ∙ flat_map-append (λ p. p.now) (take i ps) (drop i ps)
    ∙ ap (λ (t : List (Bor (List ℕ))). joined (take i ps) ++ joined t) (drop_more ps i d h)

-- one part more was put whole
pub gets-more : (ps : List (Bor (List ℕ))) (i : ℕ) (d : Bor (List ℕ)) (before mid after : Option (List ℕ)) → i < length ps → Gets (joined (take i ps)) before mid → Gets (get_or ps i d).now mid after → Gets (joined (take (i + 1) ps)) before after
gets-more ps i d before mid after h so_far one =
    subst (λ t. Gets t before after) (sym (joined-more ps i d h)) (gets-then (joined (take i ps)) (get_or ps i d).now before mid after so_far one)

-- a first part of a part, behind those before it, is a first part of all
pub gets-part : (ps : List (Bor (List ℕ))) (i : ℕ) (d : Bor (List ℕ)) (before mid after : Option (List ℕ)) → i < length ps → Gets (joined (take i ps)) before mid → GetsPart (get_or ps i d).now mid after → GetsPart (joined ps) before after
gets-part ps i d before mid after h so_far one =
    let rest = joined (drop (i + 1) ps) in
    subst (λ t. GetsPart t before after) (sym (joined-split ps i d h))
    (gets-then-part (joined (take i ps)) ((get_or ps i d).now ++ rest) before mid after so_far (part-first (get_or ps i d).now rest mid after one))

-- a fact holds behind a failed call where it holds anyway
pub on_err : {T E : Type 0} {P : Type 0} (r : Result T E) → P → OnErr r P
on_err (Ok x) p = tt
on_err (Err e) p = p
