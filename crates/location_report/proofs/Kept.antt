-- Lists that begin with what they held.
use Rattle.std.proofs.Common.{◌≡◌, ◌∙◌, ap, sym, ◌≤◌, List, [], ◌∷◌, ◌++◌, length, take, arith}
use Rattle.std.proofs.lemmas.List.{length-take, take-take, take_all}
use Rattle.std.proofs.Math.Seq.{take-append_seam}

pub kept_same : {T : Type 0} (a : List T) → take (length a) a ≡ a
kept_same a = take_all (length a) a (omega arith)

pub kept_added : {T : Type 0} (a b : List T) (x : T) → b ≡ a ++ x ∷ [] → take (length a) b ≡ a
kept_added a b x is = ap (take (length a)) is ∙ take-append_seam a (x ∷ [])

pub kept_then : {T : Type 0} (a b c : List T) → take (length a) b ≡ a → take (length b) c ≡ b → take (length a) c ≡ a
kept_then a b c p q =
    let same = ap length p in
    let cut = length-take (length a) b in
    let less : length a ≤ length b = omega (arith, same, cut) in
    sym (take-take (length a) (length b) c less) ∙ ap (take (length a)) q ∙ p
