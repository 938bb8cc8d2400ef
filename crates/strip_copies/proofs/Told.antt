-- What lines that were read say.
use Rattle.std.proofs.Common.{◌≡◌, ℕ, ℤ, ◌+◌, ◌-◌, ◌*◌, ◌/◌, ◌%◌, ◌<◌, ◌≤◌, List, [], ◌∷◌, Option, Some, zero, suc, refl, ap, sym, ◌∙◌, subst, arith, pos, length, get_or, true, take, drop, length-drop}
use Rattle.std.specs.Prelude.{OnOk, Result, Ok, Err}
use Rattle.std.specs.List.{All}
use Rattle.std.proofs.lemmas.List.{length-take-le}
use Rattle.geotransform.specs.Types.{is_in}
use Rattle.geotransform.specs.declared.types.Size.{Size}
use Rattle.outside.specs.Outside.{Files}
use Rattle.dted_records.specs.Written.{IsElevation}
use Rattle.band_blocks.proofs.Corners.{filled-row_by_row}
use Rattle.catalog.specs.Pixels.{pixel_of_name}
use Rattle.catalog.specs.Places.{row_by_row}
use Rattle.translate_plan.specs.Plan.{Planned, IsPlan, out_pixel}
use Rattle.translate_plan.proofs.Shown.{pixel_held, cell_held}
use Rattle.strip_copies.specs.Copies.{lines_rect, IsHeldIn}
use Rattle.strip_copies.specs.Rows.{AreSamples, IsSample}

-- what follows from what holds where a call answers Ok
pub on_ok : {T E : Type 0} (r : Result T E) (P Q : Type 0) → (P → Q) → OnOk r P → OnOk r Q
on_ok (Ok x) P Q f h = f h
on_ok (Err e) P Q f h = h

-- reads behind reads
pub reads_more : (most a b c f g h : ℕ) → a ≤ b → b ≤ c → g ≤ f + most * (b - a) → h ≤ g + most * (c - b) → h ≤ f + most * (c - a)
reads_more most a b c f g h p q before here =
    let split : c - a ≡ (b - a) + (c - b) = omega arith in
    let spread : most * ((b - a) + (c - b)) ≡ most * (b - a) + most * (c - b) = grind arith in
    let all : most * (c - a) ≡ most * (b - a) + most * (c - b) = ap (λ n. most * n) split ∙ spread in
    omega arith

-- rows up to another, by those up to one
pub rows_up : (w a b : ℕ) → a ≤ b → b * w ≡ a * w + (b - a) * w
rows_up w a b p =
    let split : b ≡ a + (b - a) = omega arith in
    let spread : (a + (b - a)) * w ≡ a * w + (b - a) * w = grind arith in
    ap (λ n. n * w) split ∙ spread

pub part_length : (a n : ℕ) (xs : List ℤ) → a + n ≤ length xs → length (take n (drop a xs)) ≡ n
part_length a n xs fits = let d = length-drop a xs in length-take-le n (drop a xs) (omega arith)

-- the same samples by equal numbers
pub samples_moved : (told told' : Option Files) (name : List ℕ) (p : Planned) (source : Size) (k k' j j' n n' : ℕ) (ys : List ℤ) → told ≡ told' → k ≡ k' → j ≡ j' → n ≡ n' → AreSamples told name p source k j n ys → AreSamples told' name p source k' j' n' ys
samples_moved told told' name p source k k' j j' n n' ys t b l s here =
    subst (λ t. AreSamples t name p source k' j' n' ys) t (subst (λ b. AreSamples told name p source b j' n' ys) b (subst (λ l. AreSamples told name p source k l n' ys) l (subst (λ m. AreSamples told name p source k j m ys) s here)))

-- over a folder that tells its files, the lines are those of the output
pub told_lines : (told : Option Files) (p : Planned) (name : List ℕ) (source : Size) (k first end n : ℕ) (m : Files) (out : List ℤ) → told ≡ Some m → length out ≡ (end - first) * p.size.w → n ≡ length out → AreSamples told name p source k first n out
    → out ≡ row_by_row (out_pixel p source (pixel_of_name m name) k) (lines_rect p.size first end)
told_lines told p name source k first end n m out t size whole are =
    let turned : (end - first) * p.size.w ≡ p.size.w * (end - first) = grind arith in
    filled-row_by_row (out_pixel p source (pixel_of_name m name) k) (lines_rect p.size first end) out (pos 0) (size ∙ turned)
    (λ at less.
    let front : at % p.size.w ≡ 0 + at % p.size.w = omega arith in
    (are at (omega (arith, less, turned, size, whole))).named m t ∙ ap (λ i. out_pixel p source (pixel_of_name m name) k i (first + at / p.size.w)) front)

pub any_default : (xs : List ℤ) (k : ℕ) (d : ℤ) → k < length xs → get_or xs k (pos 0) ≡ get_or xs k d
any_default [] k d p = absurd (omega arith)
any_default (x ∷ xs) zero d p = refl
any_default (x ∷ xs) (suc k) d p = any_default xs k d (omega arith)

-- a band of the output can hold each sample
pub held_of : (told : Option Files) (name : List ℕ) (p : Planned) (source : Size) (k i j : ℕ) (v : ℤ) → IsPlan p → IsSample told name p source k i j v → IsHeldIn p k v
held_of told name p source k i j v plan s = record {
  kind = λ b at. subst (λ n. is_in b.kind n ≡ true) (sym s.shows) (pixel_held p source s.pixels k i j b plan at);
  elevation = λ level is. subst IsElevation (sym s.shows) (cell_held p source s.pixels k i j level plan is);
}

pub held_lines : (told : Option Files) (p : Planned) (name : List ℕ) (source : Size) (k first n : ℕ) (out : List ℤ) → IsPlan p → n ≡ length out → AreSamples told name p source k first n out → All (IsHeldIn p k) out
held_lines told p name source k first n out plan whole are at d less = subst (IsHeldIn p k) (any_default out at d less) (held_of told name p source k (at % p.size.w) (first + at / p.size.w) (get_or out at (pos 0)) plan (are at (omega (arith, less, whole))))
