-- Lemmas on samples that are put at places that stand apart.
use Rattle.std.proofs.Common.{◌≡◌, ℕ, zero, suc, ◌+◌, ◌*◌, ◌<◌, ◌≤◌, ◌⊎◌, ⊎_elim, ℤ, pos, true, List, ◌++◌, map, take, drop, refl, sym, ap, ◌∙◌, subst, arith, length, get_or, inl, inr, zero-add}
use Rattle.std.specs.Prelude.{slice_set}
use Rattle.std.specs.List.{All}
use Rattle.std.proofs.lemmas.Bool.{cases_lt, cases_eq}
use Rattle.std.proofs.lemmas.List.{get_or_default, length-map, map-set, take_at}
use Rattle.geotransform.specs.Types.{is_in}
use Rattle.geotransform.specs.declared.types.PixelType.{PixelType}
use Rattle.band_blocks.specs.Blocks.{BlockView, IsPacked, AreIn, block_view}
use Rattle.band_blocks.specs.Spread.{IsBeside, IsSpread}
use Rattle.band_blocks.proofs.Cells.{shown_packed}
use Rattle.band_blocks.proofs.Spread.{spread_more}

-- a place is one of those that stand apart, or beside them
pub record IsAmong (n start stride j : ℕ) : Type 0 where
  pub number : ℕ
  pub below : number < n
  pub is : j ≡ start + number * stride

pub beside_cases : (n start stride j : ℕ) → IsAmong n start stride j ⊎ IsBeside n start stride j
beside_cases zero start stride j = inr (λ i less is. absurd (omega arith))
beside_cases (suc n) start stride j = ⊎_elim
    (λ (last : j ≡ start + n * stride). inl (record { number = n; below = omega arith; is = last }))
    (λ (other : j ≡ start + n * stride → ⊥). ⊎_elim
    (λ (earlier : IsAmong n start stride j). let less = earlier.below in inl (record { number = earlier.number; below = omega arith; is = earlier.is }))
    (λ (beside : IsBeside n start stride j). inr (λ i less is. ⊎_elim
    (λ (before : i < n). beside i before is)
    (λ (from : n ≤ i). other (is ∙ ap (λ k. start + k * stride) (let e : i ≡ n = omega arith in e)))
    (cases_lt i n)))
    (beside_cases n start stride j))
    (cases_eq j (start + n * stride))

-- what holds of the samples that were put and of those that stood there holds of what stands there then
pub spread_all : (P : ℤ → Type 0) (samples old new : List ℤ) (start stride : ℕ) → IsSpread samples 0 (length samples) start stride old new → All P samples → All P old → All P new
spread_all P samples old new start stride h in_samples in_old k d below =
    let len = h.size in
    subst P (sym (get_or_default new k d (pos 0) below)) (⊎_elim
    (λ (among : IsAmong (length samples) start stride k).
    subst P (sym (ap (λ j. get_or new j (pos 0)) among.is ∙ h.each among.number among.below ∙ ap (λ j. get_or samples j (pos 0)) (zero-add among.number)))
    (in_samples among.number (pos 0) among.below))
    (λ (beside : IsBeside (length samples) start stride k). subst P (sym (h.others k beside)) (in_old k (pos 0) (omega arith)))
    (beside_cases (length samples) start stride k))

-- one cell more is put
pub scatter_more : {X : Type 0} (value : X → ℤ) (cells mid : List X) (samples : List ℤ) (i start stride : ℕ) (x : X) → 0 < stride → start + i * stride < length mid → value x ≡ get_or samples i (pos 0)
    → IsSpread samples 0 i start stride (map value cells) (map value mid) → IsSpread samples 0 (i + 1) start stride (map value cells) (map value (slice_set mid (start + i * stride) x))
scatter_more value cells mid samples i start stride x some within is so_far =
    subst (λ l. IsSpread samples 0 (i + 1) start stride (map value cells) l) (sym (map-set value mid (start + i * stride) x))
    (spread_more samples (map value cells) (map value mid) 0 i start stride (value x) some (let n = length-map mid value in omega arith) (is ∙ ap (λ j. get_or samples j (pos 0)) (sym (zero-add i))) so_far)

-- cells into which samples were put are packed, and show them
pub scatter_packed : {X : Type 0} (value : X → ℤ) (kind : PixelType) (block : BlockView) (old new : List X) (n at stride : ℕ) (samples : List ℤ)
    → block ≡ block_view kind (map value old) → IsPacked (block_view kind (map value old)) → length new ≡ length old → n ≡ length old → AreIn block.kind samples → IsSpread samples 0 (length samples) at stride (map value old) (map value new)
    → IsPacked (block_view kind (map value (take n (new ++ drop (length new) old))))
scatter_packed value kind block old new n at stride samples shown was same all within spread =
    let in_kind : AreIn kind samples = subst (λ (b : BlockView). AreIn b.kind samples) shown within in
    shown_packed value kind old new n (map value new) was same all (spread_all (λ m. is_in kind m ≡ true) samples (map value old) (map value new) at stride spread in_kind was.range) refl

whole : {X : Type 0} (new old : List X) (n : ℕ) → length new ≡ length old → n ≡ length old → take n (new ++ drop (length new) old) ≡ new
whole new old n same all = take_at new (drop (length new) old) n (omega arith)

pub scatter_shown : {X : Type 0} (value : X → ℤ) (shown : List ℤ) (old new : List X) (n at stride : ℕ) (samples : List ℤ)
    → shown ≡ map value old → length new ≡ length old → n ≡ length old → IsSpread samples 0 (length samples) at stride (map value old) (map value new)
    → IsSpread samples 0 (length samples) at stride shown (map value (take n (new ++ drop (length new) old)))
scatter_shown value shown old new n at stride samples is same all spread =
    subst (λ l. IsSpread samples 0 (length samples) at stride l (map value (take n (new ++ drop (length new) old)))) (sym is)
    (subst (λ l. IsSpread samples 0 (length samples) at stride (map value old) (map value l)) (sym (whole new old n same all)) spread)
