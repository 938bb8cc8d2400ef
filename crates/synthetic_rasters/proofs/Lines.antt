-- Lines of tiles: their bytes, from those of their samples.
use Rattle.std.proofs.Common.{◌≡◌, ◌∙◌, ap, sym, subst, refl, ℕ, ℤ, pos, zero, suc, ◌+◌, ◌*◌, ◌<◌, ◌≤◌, List, [], ◌∷◌, ◌++◌, length, take, drop, map, get_or, arith, zero-add, add-one}
use Rattle.std.specs.Prelude.{flat_map}
use Rattle.std.specs.List.{range_with_len}
use Rattle.std.proofs.lemmas.List.{append-nil, take-append-drop, drop-take, take-take, take_all}
use Rattle.std.proofs.lemmas.Grind.{flat_map-append}
use Rattle.std.proofs.lemmas.List.FromFn.{get_or-map-range_with_len}
use Rattle.esri_hdr.specs.Head.{Head}
use Rattle.interleaved_raw.specs.Raw.{Holds, bytes_at, sample_bytes}
use Rattle.synthetic_rasters.specs.Tiles.{tile_sample, tile_head, line_bytes}

-- one number more
range_suc : (a n : ℕ) → range_with_len a (suc n) ≡ range_with_len a n ++ (a + n) ∷ []
range_suc a zero = ap (λ (k : ℕ). k ∷ []) (omega arith)
range_suc a (suc n) = ap (λ (l : List ℕ). a ∷ l) (range_suc (a + 1) n ∙ ap (λ (k : ℕ). range_with_len (a + 1) n ++ k ∷ []) (omega arith))

pieces_suc : {T : Type 0} (f : ℕ → List T) (i : ℕ) → flat_map f (range_with_len 0 (suc i)) ≡ flat_map f (range_with_len 0 i) ++ f i
pieces_suc f i =
    ap (flat_map f) (range_suc 0 i) ∙ flat_map-append f (range_with_len 0 i) ((0 + i) ∷ [])
    ∙ ap (λ (t : List _). flat_map f (range_with_len 0 i) ++ t) (append-nil (f (0 + i)) ∙ ap f (zero-add i))

-- one piece more
pub pieces_more : {T : Type 0} (f : ℕ → List T) (i : ℕ) → flat_map f (range_with_len 0 (i + 1)) ≡ flat_map f (range_with_len 0 i) ++ f i
pieces_more f i = ap (λ (k : ℕ). flat_map f (range_with_len 0 k)) (add-one i) ∙ pieces_suc f i

take_two : (k : ℕ) (bytes : List ℕ) → take (k + 2) bytes ≡ take k bytes ++ take 2 (drop k bytes)
take_two k bytes =
    sym (take-append-drop k (take (k + 2) bytes))
    ∙ ap (λ (l : List ℕ). l ++ drop k (take (k + 2) bytes)) (take-take k (k + 2) bytes (omega arith))
    ∙ ap (λ (l : List ℕ). take k bytes ++ l) (drop-take k 2 bytes)

-- bytes that are pieces of two bytes, one behind the other
fronts : (f : ℕ → List ℕ) (bytes : List ℕ) (n : ℕ) → ((i : ℕ) → i < n → take 2 (drop (i * 2) bytes) ≡ f i) → (i : ℕ) → i ≤ n → take (i * 2) bytes ≡ flat_map f (range_with_len 0 i)
fronts f bytes n each zero within = refl
fronts f bytes n each (suc i) within =
    ap (λ (k : ℕ). take k bytes) (omega arith) ∙ take_two (i * 2) bytes
    ∙ ap (λ (l : List ℕ). l ++ take 2 (drop (i * 2) bytes)) (fronts f bytes n each i (omega (arith, within)))
    ∙ ap (λ (l : List ℕ). flat_map f (range_with_len 0 i) ++ l) (each i (omega (arith, within)))
    ∙ sym (pieces_suc f i)

whole : (f : ℕ → List ℕ) (bytes : List ℕ) (n : ℕ) → length bytes ≡ 2 * n → ((i : ℕ) → i < n → take 2 (drop (i * 2) bytes) ≡ f i) → bytes ≡ flat_map f (range_with_len 0 n)
whole f bytes n long each = sym (take_all (n * 2) bytes (omega (arith, long))) ∙ fronts f bytes n each n (omega arith)

-- there is room for a line
pub line_holds : (n t : ℕ) (head : Head) (bytes : List ℕ) (count : ℕ) → head ≡ tile_head n t → count ≡ n → length bytes ≡ 2 * n → Holds head bytes count
line_holds n t head bytes count is counted long = subst (λ (h : Head). Holds h bytes count) (sym is) (λ some. omega (arith, counted, long, some))

-- the bytes of a line, from those of its samples
pub line_is : (n t y : ℕ) (head : Head) (samples : List ℤ) (bytes : List ℕ) → head ≡ tile_head n t → length samples ≡ n → samples ≡ map (λ (x : ℕ). tile_sample t x y) (range_with_len 0 n) → length bytes ≡ 2 * n
    → ((i : ℕ) → i < length samples → bytes_at head bytes i ≡ sample_bytes head (get_or samples i (pos 0))) → bytes ≡ line_bytes n t y
line_is n t y head samples bytes is counted filled long each = whole (λ (x : ℕ). sample_bytes (tile_head n t) (tile_sample t x y)) bytes n long
    (λ i less.
    subst (λ (h : Head). bytes_at h bytes i ≡ sample_bytes h (get_or samples i (pos 0))) is (each i (omega (arith, counted, less)))
    ∙ ap (λ (s : List ℤ). sample_bytes (tile_head n t) (get_or s i (pos 0))) filled
    ∙ ap (sample_bytes (tile_head n t)) (get_or-map-range_with_len (λ (x : ℕ). tile_sample t x y) 0 n i i (pos 0) less (zero-add i)))
