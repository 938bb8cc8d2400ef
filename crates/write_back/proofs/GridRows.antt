-- The lines of a grid, and the samples that its text shows.
use Rattle.std.proofs.Common.{◌≡◌, ℕ, zero, suc, ℤ, pos, ◌+◌, ◌-◌, ◌*◌, ◌<◌, ◌≤◌, ◌⊎◌, inl, inr, ⊎_elim, List, [], ◌∷◌, ◌++◌, length, map, take, drop, get_or, replicate, Option, Some, None, true, refl, sym, ap, ◌∙◌, subst, arith, zero-add, append_assoc, length-append, append-nil}
use Rattle.std.specs.Prelude.{Ok}
use Rattle.std.specs.List.{All, flat_map, range_with_len}
use Rattle.std.proofs.lemmas.Bool.{cases_lt}
use Rattle.std.proofs.lemmas.List.{drop_at, get_or-take, get_or-drop, get_or_append_left, get_or-append_right, length-replicate, length-take-le, length-drop}
use Rattle.std.proofs.lemmas.List.FromFn.{fill_by_all, length-map-range_with_len, get_or-map-range_with_len}
use Rattle.std.proofs.Math.Nat.{mul-le-mul_right, mul_comm}
use Rattle.lists_and_answers.specs.Lists.{flattened}
use Rattle.geotransform.specs.declared.types.Rect.{Rect}
use Rattle.outside.specs.Outside.{Files, Appended}
use Rattle.ascii_grid.specs.Tokens.{tokens}
use Rattle.ascii_grid.specs.Values.{is_value}
use Rattle.ascii_grid.specs.Text.{row_text, AreRows}
use Rattle.ascii_grid.specs.Row.{row_of, value_or_zero}
use Rattle.ascii_grid.proofs.Again.{all_of, body_again}
use Rattle.ascii_grid.proofs.RowReads.{body_values}
use Rattle.write_back.specs.declared.rows.GridForm.{GridForm}
use Rattle.write_back.specs.Grids.{front_of, lines_text, grid_at, grid_in, HasRows}
use Rattle.write_back.specs.Spots.{cut_rows}
use Rattle.write_back.specs.View.{Output, Rows, IsIn}
use Rattle.write_back.specs.Overlay.{IsInBandRect, IsOverlaid}
use Rattle.write_back.specs.Files.{line_at, grid_text}

-- the values of the tokens of lines
rows_read : (w : ℕ) (rows : List (List ℤ)) → AreRows w rows → map (λ t. value_or_zero t.text) (tokens (lines_text rows)) ≡ flattened rows
rows_read w rows are = body_values (tokens (lines_text rows)) (length (flattened rows)) (flattened rows) (body_again rows 0 (all_of rows are.values))

no_zero : (n k : ℕ) → get_or (replicate n (pos 0)) k (pos 0) ≡ pos 0
no_zero zero k = refl
no_zero (suc n) zero = refl
no_zero (suc n) (suc k) = no_zero n k

tail_rows : (w : ℕ) (r : List ℤ) (rs : List (List ℤ)) → AreRows w (r ∷ rs) → AreRows w rs
tail_rows w r rs are = record { long = λ k d less. are.long (suc k) d (omega arith); values = λ k d less. are.values (suc k) d (omega arith) }

-- a value in front of zeros
pub joined_at : (w n : ℕ) (rows : List (List ℤ)) (x y : ℕ) → AreRows w rows → x < w → get_or (flattened rows ++ replicate n (pos 0)) (y * w + x) (pos 0) ≡ get_or (get_or rows y []) x (pos 0)
joined_at w n [] x y are less = no_zero n (y * w + x)
joined_at w n (r ∷ rs) x zero are less =
    let len : length r ≡ w = are.long 0 [] (omega arith) in
    let e : zero * w + x ≡ x = omega arith in
    ap (λ (l : List ℤ). get_or l (zero * w + x) (pos 0)) (append_assoc r (flattened rs) (replicate n (pos 0)))
    ∙ ap (λ i. get_or (r ++ (flattened rs ++ replicate n (pos 0))) i (pos 0)) e
    ∙ get_or_append_left r (flattened rs ++ replicate n (pos 0)) (pos 0) x (omega arith)
joined_at w n (r ∷ rs) x (suc y) are less =
    let len : length r ≡ w = are.long 0 [] (omega arith) in
    let e : suc y * w ≡ y * w + w = grind arith in
    ap (λ (l : List ℤ). get_or l (suc y * w + x) (pos 0)) (append_assoc r (flattened rs) (replicate n (pos 0)))
    ∙ get_or-append_right r (flattened rs ++ replicate n (pos 0)) w (suc y * w + x) (pos 0) len (omega arith)
    ∙ ap (λ i. get_or (flattened rs ++ replicate n (pos 0)) i (pos 0)) (let f : suc y * w + x - w ≡ y * w + x = omega arith in f)
    ∙ joined_at w n rs x y (tail_rows w r rs are) less

-- the sample of a pixel is that of its line
pub row_value : (g : GridForm) (n : ℕ) (b : List ℕ) (rows : List (List ℤ)) (x y : ℕ) → HasRows g n (Some b) rows → x < g.size.w → y < g.size.h → grid_at g b x y ≡ get_or (get_or rows y []) x (pos 0)
row_value g n b rows x y has column line =
    let is : b ≡ front_of g ++ lines_text rows = (let e : Some b ≡ Some (front_of g ++ lines_text rows) = has.is in cc) in
    let big : suc y * g.size.w ≤ g.size.h * g.size.w = mul-le-mul_right g.size.w line in
    let e : suc y * g.size.w ≡ y * g.size.w + g.size.w = grind arith in
    let c : g.size.h * g.size.w ≡ g.size.w * g.size.h = mul_comm g.size.h g.size.w in
    let count : ℕ = g.size.w * g.size.h in
    ap (λ (l : List ℕ). get_or (row_of (g.size.w * g.size.h) (drop (length (front_of g)) l)) (y * g.size.w + x) (pos 0)) is
    ∙ ap (λ (l : List ℕ). get_or (row_of (g.size.w * g.size.h) l) (y * g.size.w + x) (pos 0)) (drop_at (front_of g) (lines_text rows) (length (front_of g)) refl)
    ∙ get_or-take (g.size.w * g.size.h) (map (λ t. value_or_zero t.text) (tokens (lines_text rows)) ++ replicate (g.size.w * g.size.h) (pos 0)) (y * g.size.w + x) (pos 0) (omega arith)
    ∙ ap (λ (l : List ℤ). get_or (l ++ replicate (g.size.w * g.size.h) (pos 0)) (y * g.size.w + x) (pos 0)) (rows_read g.size.w rows has.each)
    ∙ joined_at g.size.w (g.size.w * g.size.h) rows x y has.each column

no_row : (rows : List (List ℤ)) (y : ℕ) → length rows ≤ y → get_or rows y [] ≡ []
no_row [] y h = refl
no_row (r ∷ rs) zero h = absurd (omega arith)
no_row (r ∷ rs) (suc y) h = no_row rs y (omega arith)

flat_append : (xs ys : List (List ℤ)) → lines_text (xs ++ ys) ≡ lines_text xs ++ lines_text ys
flat_append [] ys = refl
flat_append (x ∷ xs) ys = ap (λ (l : List ℕ). row_text x ++ l) (flat_append xs ys) ∙ sym (append_assoc (row_text x) (lines_text xs) (lines_text ys))

all_append : (P : List ℤ → Type 0) (xs ys : List (List ℤ)) → All P xs → All P ys → All P (xs ++ ys)
all_append P [] ys a b = b
all_append P (x ∷ xs) ys a b = more (a 0) (all_append P xs ys (λ i e low. a (suc i) e (omega arith)) b)
  where
    more : ((d : List ℤ) → 0 < length (x ∷ xs) → P x) → All P (xs ++ ys) → (k : ℕ) (d : List ℤ) → k < length ((x ∷ xs) ++ ys) → P (get_or ((x ∷ xs) ++ ys) k d)
    more first rest zero d less = first d (omega arith)
    more first rest (suc k) d less = rest k d (omega arith)

-- one line more
pub row_more : (g : GridForm) (n m : ℕ) (old new : Option (List ℕ)) (rows : List (List ℤ)) (line : List ℤ) → HasRows g n old rows → m ≡ n + 1 → length line ≡ g.size.w → All (λ v. is_value v ≡ true) line → Appended (row_text line) old new → HasRows g m new (rows ++ line ∷ [])
row_more g n m old new rows line has one len range put = record {
  is = put (front_of g ++ lines_text rows) has.is
      ∙ ap (λ (l : List ℕ). Some l) (append_assoc (front_of g) (lines_text rows) (row_text line)
      ∙ ap (λ (l : List ℕ). front_of g ++ l) (ap (λ (l : List ℕ). lines_text rows ++ l) (sym (append-nil (row_text line))) ∙ sym (flat_append rows (line ∷ []))));
  count = length-append rows (line ∷ []) ∙ (let c = has.count in omega arith);
  each = record {
    long = all_append (λ r. length r ≡ g.size.w) rows (line ∷ []) has.each.long (alone (λ r. length r ≡ g.size.w) line len);
    values = all_append (λ r. All (λ v. is_value v ≡ true) r) rows (line ∷ []) has.each.values (alone (λ r. All (λ v. is_value v ≡ true) r) line range);
  };
}
  where
    alone : (P : List ℤ → Type 0) (line : List ℤ) → P line → (k : ℕ) (d : List ℤ) → k < length (line ∷ []) → P (get_or (line ∷ []) k d)
    alone P line h zero d less = h
    alone P line h (suc k) d less = absurd (omega arith)

-- a part of samples that each have something
pub slice_all : (P : ℤ → Type 0) (xs : List ℤ) (at n : ℕ) → All P xs → at + n ≤ length xs → (k : ℕ) (d : ℤ) → k < length (take n (drop at xs)) → P (get_or (take n (drop at xs)) k d)
slice_all P xs at n all within k d below =
    let len : length (take n (drop at xs)) ≡ n = length-take-le n (drop at xs) (let l = length-drop at xs in omega arith) in
    let less : k < n = omega arith in
    subst P (sym (get_or-take n (drop at xs) k d less ∙ get_or-drop at xs k d)) (all (at + k) d (omega arith))

range_snoc : (f : ℕ → List ℤ) (k n : ℕ) → map f (range_with_len k (suc n)) ≡ map f (range_with_len k n) ++ f (k + n) ∷ []
range_snoc f k zero = ap (λ i. f i ∷ []) (let e : k ≡ k + 0 = omega arith in e)
range_snoc f k (suc n) = ap (λ (l : List (List ℤ)). f k ∷ l) (range_snoc f (k + 1) n ∙ ap (λ i. map f (range_with_len (k + 1) n) ++ f i ∷ []) (let e : k + 1 + n ≡ k + suc n = omega arith in e))

-- the rows of a rectangle up to one more
pub rows_snoc : (w n : ℕ) (samples : List ℤ) (rows : List (List ℤ)) → rows ++ cut_rows w (n + 1) samples ≡ (rows ++ cut_rows w n samples) ++ take w (drop (n * w) samples) ∷ []
rows_snoc w n samples rows =
    ap (λ m. rows ++ cut_rows w m samples) (let e : n + 1 ≡ suc n = omega arith in e)
    ∙ ap (λ (l : List (List ℤ)). rows ++ l) (range_snoc (λ r. take w (drop (r * w) samples)) 0 n ∙ ap (λ i. cut_rows w n samples ++ take w (drop (i * w) samples) ∷ []) (zero-add n))
    ∙ sym (append_assoc rows (cut_rows w n samples) (take w (drop (n * w) samples) ∷ []))

-- the samples that a grid shows after a window of whole lines
pub rows_overlaid : (g : GridForm) (rect : Rect) (n m : ℕ) (old new : Option (List ℕ)) (rows : List (List ℤ)) (samples : List ℤ) → rect.x ≡ 0 → rect.w ≡ g.size.w → rect.y ≡ n → rect.y + rect.h ≤ g.size.h → length samples ≡ rect.w * rect.h
    → HasRows g n old rows → HasRows g m new (rows ++ cut_rows rect.w rect.h samples) → IsOverlaid (IsIn (Rows g)) 0 rect samples (λ k x y. grid_in g old x y) (λ k x y. grid_in g new x y)
rows_overlaid g rect n m old new rows samples left wide top down size has now = record {
  inside = λ x y column row. (
      shown_new (rect.x + x) (rect.y + y) (omega arith) (omega arith)
      ∙ ap (λ (l : List ℤ). get_or l (rect.x + x) (pos 0)) (get_or-append_right rows (cut_rows rect.w rect.h samples) rect.y (rect.y + y) [] (has.count ∙ sym top) (omega arith))
      ∙ ap (λ i. get_or (get_or (cut_rows rect.w rect.h samples) i []) (rect.x + x) (pos 0)) (let e : rect.y + y - rect.y ≡ y = omega arith in e)
      ∙ ap (λ (l : List ℤ). get_or l (rect.x + x) (pos 0)) (get_or-map-range_with_len (λ r. take rect.w (drop (r * rect.w) samples)) 0 rect.h y y [] row (zero-add y))
      ∙ ap (λ i. get_or (take rect.w (drop (y * rect.w) samples)) i (pos 0)) (let e : rect.x + x ≡ x = omega arith in e)
      ∙ get_or-take rect.w (drop (y * rect.w) samples) x (pos 0) column
      ∙ get_or-drop (y * rect.w) samples x (pos 0)
      );
  outside = λ k x y place apart_from. (
      let p = place in
      let c : x < g.size.w = p.column in
      let l : y < g.size.h = p.line in
      let b : k < 1 = p.band in
      shown_new x y c l
      ∙ ⊎_elim (λ (above : y < n). ap (λ (r : List ℤ). get_or r x (pos 0)) (get_or_append_left rows (cut_rows rect.w rect.h samples) [] y (let q = has.count in omega arith)))
      (λ (from : n ≤ y). ⊎_elim
      (λ (inside : y < n + rect.h). absurd (apart_from (record { band_is = omega arith; left = omega arith; right = omega arith; top = omega arith; bottom = omega arith })))
      (λ (past : n + rect.h ≤ y). ap (λ (r : List ℤ). get_or r x (pos 0)) (no_row (rows ++ cut_rows rect.w rect.h samples) y (let q = now_len in omega arith) ∙ sym (no_row rows y (let q = has.count in omega arith))))
      (cases_lt y (n + rect.h)))
      (cases_lt y n)
      ∙ sym (shown_old x y c l)
      );
}
  where
    shown_by : (n : ℕ) (d : Option (List ℕ)) (rows : List (List ℤ)) (x y : ℕ) → HasRows g n d rows → x < g.size.w → y < g.size.h → grid_in g d x y ≡ get_or (get_or rows y []) x (pos 0)
    shown_by n None rows x y has c l = absurd (let clash : None ≡ Some (front_of g ++ lines_text rows) = has.is in cc)
    shown_by n (Some b) rows x y has c l = row_value g n b rows x y has c l

    shown_new : (x y : ℕ) → x < g.size.w → y < g.size.h → grid_in g new x y ≡ get_or (get_or (rows ++ cut_rows rect.w rect.h samples) y []) x (pos 0)
    shown_new x y c l = shown_by m new (rows ++ cut_rows rect.w rect.h samples) x y now c l

    shown_old : (x y : ℕ) → x < g.size.w → y < g.size.h → grid_in g old x y ≡ get_or (get_or rows y []) x (pos 0)
    shown_old x y c l = shown_by n old rows x y has c l

    now_len : length (rows ++ cut_rows rect.w rect.h samples) ≡ n + rect.h
    now_len = length-append rows (cut_rows rect.w rect.h samples) ∙ (let c = has.count in let d = length-map-range_with_len (λ r. take rect.w (drop (r * rect.w) samples)) 0 rect.h in omega arith)

-- a grid all of whose lines were written is its text
pub grid_is : (g : GridForm) (d : Option (List ℕ)) (rows : List (List ℤ)) → HasRows g g.size.h d rows → d ≡ Some (grid_text g (λ k x y. grid_in g d x y))
grid_is g None rows has = absurd (let clash : None ≡ Some (front_of g ++ lines_text rows) = has.is in cc)
grid_is g (Some b) rows has =
    has.is ∙ ap (λ (l : List (List ℤ)). Some (front_of g ++ lines_text l)) (fill_by_all (line_at (λ k x y. grid_at g b x y) g.size.w) rows g.size.h [] has.count
    (λ y below. (
    let line : y < g.size.h = (let c = has.count in omega arith) in
    fill_by_all (λ x. grid_at g b x y) (get_or rows y []) g.size.w (pos 0) (has.each.long y [] (let c = has.count in omega arith)) (λ x less. sym (row_value g g.size.h b rows x y has (let l = has.each.long y [] (let c = has.count in omega arith) in omega arith) line))
    )))
