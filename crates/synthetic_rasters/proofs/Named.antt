-- The names are in their normal form, and those of tiles are names of raw data.
use Rattle.std.proofs.Common.{◌≡◌, ◌∙◌, ap, sym, refl, ℕ, zero, suc, ◌+◌, List, [], ◌∷◌, ◌++◌, map, ◌<◌, length, Result, Ok, Err, arith, zero-add}
use Rattle.std.specs.Prelude.{IsTrue, IfOk}
use Rattle.std.specs.List.{range_with_len}
use Rattle.std.proofs.lemmas.List.FromFn.{map-range_with_len_more}
use Rattle.outside.specs.Names.{extension_of, ending_of, last_part, extension_of_ending, is_raw}
use Rattle.outside.specs.Paths.{normal}
use Rattle.synthetic_rasters.specs.Names.{tile_name, inner_name, outer_name, output_name}

pub inner_normal : normal inner_name ≡ inner_name
unfolding normal
inner_normal = refl

pub outer_normal : normal outer_name ≡ outer_name
unfolding normal
outer_normal = refl

pub output_normal : normal output_name ≡ output_name
unfolding normal
output_normal = refl

pub tile_normal : (t : ℕ) → t < 4 → normal (tile_name t) ≡ tile_name t
unfolding normal
tile_normal zero less = refl
tile_normal (suc zero) less = refl
tile_normal (suc (suc zero)) less = refl
tile_normal (suc (suc (suc zero))) less = refl
tile_normal (suc (suc (suc (suc n)))) less = absurd (omega (arith, less))

pub tile_raw : (t : ℕ) → t < 4 → IsTrue (is_raw (extension_of (tile_name t)))
unfolding extension_of ending_of last_part extension_of_ending
tile_raw zero less = refl
tile_raw (suc zero) less = refl
tile_raw (suc (suc zero)) less = refl
tile_raw (suc (suc (suc zero))) less = refl
tile_raw (suc (suc (suc (suc n)))) less = absurd (omega (arith, less))

pub tile_short : (t : ℕ) → t < 4 → length (tile_name t) ≡ 12
tile_short zero less = refl
tile_short (suc zero) less = refl
tile_short (suc (suc zero)) less = refl
tile_short (suc (suc (suc zero))) less = refl
tile_short (suc (suc (suc (suc n)))) less = absurd (omega (arith, less))

-- what is known of a value that is Ok
pub if_ok : {X E : Type 0} (r : Result X E) (P Q : X → Type 0) → ((x : X) → P x → Q x) → IfOk r P → IfOk r Q
if_ok (Ok x) P Q h p = h x p
if_ok (Err e) P Q h p = p

-- one more name of a tile
pub names_more : (t : ℕ) (x y : List (List ℕ)) (n : List ℕ) → x ≡ map tile_name (range_with_len 0 t) → y ≡ x ++ n ∷ [] → n ≡ tile_name t → y ≡ map tile_name (range_with_len 0 (t + 1))
names_more t x y n so_far more is = more ∙ ap (λ (l : List (List ℕ)). l ++ n ∷ []) so_far ∙ ap (λ (m : List ℕ). map tile_name (range_with_len 0 t) ++ m ∷ []) is ∙ sym (map-range_with_len_more tile_name 0 t t (zero-add t))
