-- The bytes of tiles and cells are those of their samples.
use Rattle.std.proofs.Common.{◌≡◌, ℕ, zero, suc, ℤ, pos, ◌+◌, ◌-◌, ◌*◌, ◌<◌, ◌≤◌, Bool, true, false, List, [], ◌∷◌, ◌++◌, length, map, take, drop, get_or, Option, None, refl, sym, ap, ◌∙◌, arith, zero-add}
use Rattle.std.specs.List.{flat_map, range_with_len}
use Rattle.std.proofs.lemmas.List.{take-append-drop, drop-drop, length-drop, length-take-le}
use Rattle.std.proofs.Math.Nat.{mul-le-mul_right}
use Rattle.geotransform.specs.declared.types.PixelType.TheVariants.{Int16}
use Rattle.esri_hdr.specs.declared.header_parts.Layout.TheVariants.{Bsq}
use Rattle.esri_hdr.specs.Head.{Head}
use Rattle.hgt_tiles.specs.Samples.{row_bytes, sample_bytes, hgt_at}
use Rattle.dted_records.specs.Head.{part}
use Rattle.dted_records.specs.Places.{record_len, record_of}
use Rattle.dted_records.specs.Places as cell
use Rattle.dted_records.specs.Records.{dted_at, column_of}
use Rattle.write_back.specs.declared.forms.Writer.TheVariants.{Raw, Hgt, Dted}
use Rattle.dted_records.specs.Written.{record_bytes}
use Rattle.write_back.specs.Columns.{Cell}
use Rattle.write_back.specs.Pieces.{AreBytes}
use Rattle.write_back.specs.Files.{line_at, column_at, tile_bytes, cell_bytes}
use Rattle.write_back.specs.Drafts.{HasSamples}
use Rattle.write_back.proofs.Blocks.{range_same}
use Rattle.write_back.proofs.CellBlocks.{record_before}
use Rattle.write_back.proofs.Data.{chunks}
use Rattle.write_back.proofs.Spelled.{spelled}

-- a head whose samples are those of a tile
abbrev tile_head : Head
tile_head = record { size = record { w = 1; h = 1 }; bands = 1; kind = Int16; big = true; layout = Bsq; skip = 0; band_row = 2; total_row = 2; gap = 0; nodata = None; geo = None }

flat_of : (f : ℕ → ℤ) (k n : ℕ) → flat_map (λ x. sample_bytes (f x)) (range_with_len k n) ≡ row_bytes (map f (range_with_len k n))
flat_of f k zero = refl
flat_of f k (suc n) = ap (λ (l : List ℕ). sample_bytes (f k) ++ l) (flat_of f (k + 1) n)

flat_same : (f g : ℕ → List ℕ) (k n : ℕ) → ((i : ℕ) → i < k + n → f i ≡ g i) → flat_map f (range_with_len k n) ≡ flat_map g (range_with_len k n)
flat_same f g k zero same = refl
flat_same f g k (suc n) same = ap (λ (l : List ℕ). l ++ flat_map f (range_with_len (k + 1) n)) (same k (omega arith)) ∙ ap (λ (l : List ℕ). g k ++ l) (flat_same f g (k + 1) n (λ i less. same i (omega arith)))

-- the bytes of a line of a tile
tile_line : (side : ℕ) (b : List ℕ) (y : ℕ) → AreBytes b → length b ≡ 2 * (side * side) → y < side → take (2 * side) (drop (y * (2 * side)) b) ≡ row_bytes (map (λ x. hgt_at side b x y) (range_with_len 0 side))
tile_line side b y small long less =
    let big : suc y * side ≤ side * side = mul-le-mul_right side less in
    let e : suc y * side ≡ y * side + side = grind arith in
    let f : y * (2 * side) ≡ 2 * (y * side) = grind arith in
    let d : length (drop (y * (2 * side)) b) ≡ length b - y * (2 * side) = length-drop (y * (2 * side)) b in
    let n : length (take (2 * side) (drop (y * (2 * side)) b)) ≡ side * 2 = length-take-le (2 * side) (drop (y * (2 * side)) b) (omega arith) ∙ (let g : 2 * side ≡ side * 2 = omega arith in g) in
    chunks 2 side (take (2 * side) (drop (y * (2 * side)) b)) (λ x. sample_bytes (hgt_at side b x y)) n
    (λ x column. (
    inner x (2 * side) (drop (y * (2 * side)) b) (omega arith)
    ∙ ap (take 2) (drop-drop (x * 2) (y * (2 * side)) b ∙ ap (λ m. drop m b) (let g : y * (2 * side) + x * 2 ≡ 2 * (y * side + x) = omega arith in g))
    ∙ spelled tile_head b (2 * (y * side + x)) small (omega arith)
    ))
    ∙ flat_of (λ x. hgt_at side b x y) 0 side
  where
    take_within : (n m : ℕ) (xs : List ℕ) → n ≤ m → take n (take m xs) ≡ take n xs
    take_within zero m xs h = refl
    take_within (suc n) zero xs h = absurd (omega arith)
    take_within (suc n) (suc m) [] h = refl
    take_within (suc n) (suc m) (x ∷ xs) h = ap (λ (l : List ℕ). x ∷ l) (take_within n m xs (omega arith))

    inner : (x m : ℕ) (xs : List ℕ) → x * 2 + 2 ≤ m → take 2 (drop (x * 2) (take m xs)) ≡ take 2 (drop (x * 2) xs)
    inner x m xs h = behind (x * 2) m xs h
      where
        behind : (k m : ℕ) (xs : List ℕ) → k + 2 ≤ m → take 2 (drop k (take m xs)) ≡ take 2 (drop k xs)
        behind zero m xs h = take_within 2 m xs (omega arith)
        behind (suc k) zero xs h = absurd (omega arith)
        behind (suc k) (suc m) [] h = refl
        behind (suc k) (suc m) (x ∷ xs) h = behind k m xs (omega arith)

-- a tile's bytes
pub tile_is : (side : ℕ) (samples : ℕ → ℕ → ℕ → ℤ) (met : ℕ → ℕ → Type 0) (b : List ℕ) → HasSamples (Hgt side) samples met b → b ≡ tile_bytes side samples
tile_is side samples met b has =
    let long : length b ≡ side * (2 * side) = has.len ∙ (let g : 2 * (side * side) ≡ side * (2 * side) = grind arith in g) in
    chunks (2 * side) side b (λ y. row_bytes (map (λ x. hgt_at side b x y) (range_with_len 0 side))) long (λ y less. tile_line side b y has.formed has.len less)
    ∙ flat_same (λ y. row_bytes (map (λ x. hgt_at side b x y) (range_with_len 0 side))) (λ y. row_bytes (line_at samples side y)) 0 side
    (λ y less. ap row_bytes (range_same (λ x. hgt_at side b x y) (λ x. samples 0 x y) side (λ x column. has.each 0 x y (record { band = omega arith; column = column; line = omega arith }))))

-- a cell's bytes, where each column was met
pub cell_is : (c : Cell) (samples : ℕ → ℕ → ℕ → ℤ) (met : ℕ → ℕ → Type 0) (b : List ℕ) → HasSamples (Dted c) samples met b → ((x : ℕ) → x < c.head.lines → met 0 x) → b ≡ cell_bytes c samples
cell_is c samples met b has all =
    let formed = has.formed in
    let m : record_of c.head 0 ≤ cell.needed_of c.head = omega arith in
    let rest : length (drop (record_of c.head 0) b) ≡ c.head.lines * record_len c.head = length-drop (record_of c.head 0) b ∙ (let l = has.len in omega arith) in
    sym (take-append-drop (record_of c.head 0) b)
    ∙ ap (λ (l : List ℕ). l ++ drop (record_of c.head 0) b) formed.front
    ∙ ap (λ (l : List ℕ). c.front ++ l) (
    chunks (record_len c.head) c.head.lines (drop (record_of c.head 0) b) (λ x. record_bytes x (column_of c.head b x)) rest
    (λ x less. (
    ap (take (record_len c.head)) (drop-drop (x * record_len c.head) (record_of c.head 0) b ∙ ap (λ n. drop n b) (let g : record_of c.head 0 + x * record_len c.head ≡ record_of c.head x = omega arith in g))
    ∙ formed.whole x less (has.begun 0 x (omega arith) less (all x less))
    ))
    ∙ flat_same (λ x. record_bytes x (column_of c.head b x)) (λ x. record_bytes x (column_at samples c.head.points x)) 0 c.head.lines
    (λ x less. ap (record_bytes x) (range_same (λ y. dted_at c.head b x y) (λ y. samples 0 x y) c.head.points (λ y row. has.each 0 x y (record { band = omega arith; column = omega arith; line = row })))))
