-- Lists that are filled one after the other.
use Rattle.std.proofs.Common.{◌≡◌, ◌∙◌, sym, ap, ℕ, ◌+◌, ◌<◌, List, [], ◌∷◌, ◌++◌, length, take, drop, get_or, refl, append_assoc, Option, Result, Ok, Err}
use Rattle.std.specs.List.{filter_map}
use Rattle.std.proofs.lemmas.List.{take_more, drop_more}
use Rattle.std.proofs.lemmas.List.Elements.{filter_map-append}
use Rattle.lists_and_answers.specs.Answers.{◌>>=◌}
use Rattle.buildvrt.specs.Tiles.{TileValue}
use Rattle.buildvrt.specs.Grids.{GridValue}
use Rattle.buildvrt.specs.declared.faults.BuildFault.{BuildFault}
use Rattle.buildvrt.specs.Rectangles.{PatchValue, patch_of, patches_of, with_patch}
use Rattle.buildvrt.specs.Limits.{then_patches}

-- one item more of those that are kept
pub kept_next : {A B : Type 0} (f : A → Option B) (xs : List A) (i : ℕ) (x : A) (l k : List B) → i < length xs → x ≡ get_or xs i x → l ≡ filter_map f (take i xs) → k ≡ l ++ filter_map f (x ∷ []) → k ≡ filter_map f (take (i + 1) xs)
kept_next {A} {B} f xs i x l k less is e g =
    g ∙ (ap (λ (m : List B). m ++ filter_map f (x ∷ [])) e
    ∙ (ap (λ (y : A). filter_map f (take i xs) ++ filter_map f (y ∷ [])) is
    ∙ (sym (filter_map-append f (take i xs) (get_or xs i x ∷ [])) ∙ ap (filter_map f) (sym (take_more xs i x less)))))

-- one input more
then_more : (p : PatchValue) (before : List PatchValue) (r : Result (List PatchValue) BuildFault) → then_patches (before ++ p ∷ []) r ≡ then_patches before (r >>= with_patch p)
then_more p before (Ok ps) = ap Ok (append_assoc before (p ∷ []) ps)
then_more p before (Err f) = refl

patches_at : (g : GridValue) (ts : List TileValue) (i : ℕ) (t : TileValue) → i < length ts → t ≡ get_or ts i t → patches_of g (drop i ts) ≡ (patch_of g t >>= λ p. (patches_of g (drop (i + 1) ts) >>= with_patch p))
patches_at g ts i t less is = ap (patches_of g) (drop_more ts i t less) ∙ ap (λ (u : TileValue). patch_of g u >>= λ p. (patches_of g (drop (i + 1) ts) >>= with_patch p)) (sym is)

pub patches_next : (g : GridValue) (ts : List TileValue) (i : ℕ) (t : TileValue) (p : PatchValue) (before now : List PatchValue) → i < length ts → t ≡ get_or ts i t → patch_of g t ≡ Ok p → now ≡ before ++ p ∷ [] → then_patches now (patches_of g (drop (i + 1) ts)) ≡ then_patches before (patches_of g (drop i ts))
patches_next g ts i t p before now less is ok e =
    ap (λ (l : List PatchValue). then_patches l (patches_of g (drop (i + 1) ts))) e
    ∙ (then_more p before (patches_of g (drop (i + 1) ts))
    ∙ ap (then_patches before) (ap (λ (r : Result PatchValue BuildFault). r >>= λ q. (patches_of g (drop (i + 1) ts) >>= with_patch q)) (sym ok) ∙ sym (patches_at g ts i t less is)))

pub patches_refused : (g : GridValue) (ts : List TileValue) (i : ℕ) (t : TileValue) (f : BuildFault) (before : List PatchValue) → i < length ts → t ≡ get_or ts i t → patch_of g t ≡ Err f → then_patches before (patches_of g (drop i ts)) ≡ Err f
patches_refused g ts i t f before less is err =
    ap (then_patches before) (patches_at g ts i t less is ∙ ap (λ (r : Result PatchValue BuildFault). r >>= λ q. (patches_of g (drop (i + 1) ts) >>= with_patch q)) err)

-- the same of numbers
pub kept_number : {B : Type 0} (f : ℕ → Option B) (xs : List ℕ) (i : ℕ) (l k : List B) → i < length xs → l ≡ filter_map f (take i xs) → k ≡ l ++ filter_map f (get_or xs i 0 ∷ []) → k ≡ filter_map f (take (i + 1) xs)
kept_number {B} f xs i l k less e g =
    g ∙ (ap (λ (m : List B). m ++ filter_map f (get_or xs i 0 ∷ [])) e
    ∙ (sym (filter_map-append f (take i xs) (get_or xs i 0 ∷ [])) ∙ ap (filter_map f) (sym (take_more xs i 0 less))))
