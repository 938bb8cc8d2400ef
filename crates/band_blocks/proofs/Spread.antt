-- Lemmas on samples that are copied to places that stand apart.
use Rattle.std.proofs.Common.{◌≡◌, ℕ, ◌+◌, ◌*◌, ◌<◌, ◌≤◌, ℤ, pos, List, map, refl, sym, ◌∙◌, subst, arith, length, get_or, inl, inr}
use Rattle.std.specs.Prelude.{slice_set}
use Rattle.std.proofs.Math.Nat.{mul-le-mul}
use Rattle.std.proofs.lemmas.Bool.{cases_lt}
use Rattle.std.proofs.lemmas.List.{get_or-set_same, get_or-set_other, length-set}
use Rattle.geotransform.specs.declared.types.PixelType.{PixelType}
use Rattle.band_blocks.specs.Blocks.{BlockView, block_view}
use Rattle.band_blocks.specs.Spread.{IsSpread}

-- an earlier place is another one
before : (start stride k i : ℕ) → 0 < stride → k < i → start + k * stride < start + i * stride
before start stride k i some less =
    let far : (k + 1) * stride ≤ i * stride = mul-le-mul (omega arith) (omega arith) in
    let next : (k + 1) * stride ≡ k * stride + stride = grind arith in
    omega arith

pub spread_none : (samples : List ℤ) (at start stride : ℕ) (out : List ℤ) → IsSpread samples at 0 start stride out out
spread_none samples at start stride out = record { size = refl; each = λ k p. absurd (omega arith); others = λ j free. refl }

-- one sample more
pub spread_more : (samples old mid : List ℤ) (at i start stride : ℕ) (v : ℤ) → 0 < stride → start + i * stride < length mid → v ≡ get_or samples (at + i) (pos 0)
    → IsSpread samples at i start stride old mid → IsSpread samples at (i + 1) start stride old (slice_set mid (start + i * stride) v)
spread_more samples old mid at i start stride v some within is so_far = record {
  size = length-set mid (start + i * stride) v ∙ so_far.size;
  each = λ k p. elim (cases_lt k i) [
    | inl a ↦ let less = before start stride k i some a in get_or-set_other mid (start + i * stride) (start + k * stride) v (pos 0) (λ z. absurd (omega arith)) ∙ so_far.each k a
    | inr b ↦
        let same : k ≡ i = omega arith in
        subst (λ n. get_or (slice_set mid (start + i * stride) v) (start + n * stride) (pos 0) ≡ get_or samples (at + n) (pos 0)) (sym same)
        (get_or-set_same mid (start + i * stride) v (pos 0) within ∙ is)
  ];
  others = λ j free. get_or-set_other mid (start + i * stride) j v (pos 0) (λ z. free i (omega arith) z) ∙ so_far.others j (λ k p z. free k (omega arith) z);
}

-- what cells show is the samples of the block
pub spread_shown : {X : Type 0} (value : X → ℤ) (xs cells : List X) (block : BlockView) (kind : PixelType) (at n start stride : ℕ) (old new : List ℤ)
    → block ≡ block_view kind (map value cells) → xs ≡ cells → IsSpread (map value xs) at n start stride old new → IsSpread block.samples at n start stride old new
spread_shown value xs cells block kind at n start stride old new shown same h =
    subst (λ (b : BlockView). IsSpread b.samples at n start stride old new) (sym shown)
    (subst (λ l. IsSpread (map value l) at n start stride old new) same h)
