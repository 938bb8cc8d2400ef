-- Attributes that stand in the order in which they are asked for.
use Rattle.std.proofs.Common.{◌≡◌, ◌∙◌, ℕ, true, false, cond, List, Some, ap, sym}
use Rattle.std.specs.Cmp.Lexicographic.{same_text}
use Rattle.vrt_markup.specs.Items.{Pair, attribute, is_equal, pair_at, pairs}
use Rattle.vrt_markup.proofs.Shorter.{pairs_next}

pub front_value : (t n : List ℕ) (p : Pair) (r : List ℕ) → pair_at t ≡ Some (p, r) → is_equal p.name n ≡ true → Some p.value ≡ attribute n (pairs t).0
front_value t n p r e same =
    sym (ap (λ (x : List Pair × List ℕ). attribute n x.0) (pairs_next t p r e) ∙ ap (λ b. cond b (Some p.value) (attribute n (pairs r).0)) same)

pub front_others : (t n other : List ℕ) (p : Pair) (r : List ℕ) → pair_at t ≡ Some (p, r) → is_equal p.name n ≡ true → is_equal n other ≡ false → attribute other (pairs r).0 ≡ attribute other (pairs t).0
front_others t n other p r e same differs =
    sym (ap (λ (x : List Pair × List ℕ). attribute other x.0) (pairs_next t p r e)
    ∙ ap (λ b. cond b (Some p.value) (attribute other (pairs r).0)) (ap (λ k. is_equal k other) (same_text p.name n (sym same)) ∙ differs))
