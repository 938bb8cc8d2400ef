-- The rows of a grid that is written in part.
use Rattle.std.proofs.Common.{◌≡◌, ℕ, zero, suc, ℤ, pos, ◌+◌, ◌-◌, ◌*◌, ◌<◌, ◌≤◌, ◌⊎◌, inl, inr, ⊎_elim, true, false, List, [], ◌∷◌, ◌++◌, length, map, take, drop, get_or, replicate, Option, Result, Ok, Err, refl, sym, ap, ◌∙◌, arith, append_assoc, length-append}
use Rattle.std.specs.List.{All, flat_map}
use Rattle.std.proofs.lemmas.Bool.{cases_lt}
use Rattle.std.proofs.lemmas.List.{take_at, drop_at, get_or-take, get_or_append_left, get_or-append_right, length-replicate, length-map, map-append, append-nil}
use Rattle.std.proofs.lemmas.List.Elements.{All-append, All-replicate}
use Rattle.std.proofs.lemmas.Grind.{flat_map-append}
use Rattle.std.proofs.Math.Nat.{mul-le-mul_right, mul_comm}
use Rattle.lists_and_answers.specs.Lists.{flattened}
use Rattle.geotransform.specs.Geo.{Transform}
use Rattle.geotransform.specs.declared.types.Size.{Size}
use Rattle.ascii_grid.specs.declared.faults.GridFault.{GridFault}
use Rattle.ascii_grid.specs.declared.faults.GridFault.TheVariants.{TooFew}
use Rattle.ascii_grid.specs.declared.head_parts.Found.{Found}
use Rattle.ascii_grid.specs.declared.head_parts.Shape.{Shape}
use Rattle.ascii_grid.specs.Tokens.{Token, tokens, tokens_from}
use Rattle.ascii_grid.specs.Keys.{shape_of}
use Rattle.ascii_grid.specs.Values.{is_value}
use Rattle.ascii_grid.specs.Grid.{Head, Grid, nothing, head_of, body_of, grid_of, grid_head, ascii_by, ascii_at}
use Rattle.ascii_grid.specs.Row.{row_of, value_or_zero}
use Rattle.ascii_grid.specs.Text.{head_text, row_text, AreRows, IsGridOf}
use Rattle.ascii_grid.proofs.Again.{all_of, body_again, grid_again}
use Rattle.ascii_grid.proofs.RowReads.{body_values}
use Rattle.written_samples.specs.Grids.{IsGridHead, AreFirstRows}
use Rattle.written_samples.proofs.TokenCuts.{IsCut, cut_of, row_ends, first_end}
use Rattle.written_samples.proofs.HeadFronts.{behind, found_in, IsSwapped, IsEnough, head_swapped, too_few, IsMade, made_of, refused, IsGridText, grid_text}

abbrev values : List Token → List ℤ
values ts = map (λ t. value_or_zero t.text) ts

-- the values of the tokens of rows
rows_read : (rows : List (List ℤ)) (at : ℕ) → All (λ row. All (λ n. is_value n ≡ true) row) rows → values (tokens_from false at (flat_map row_text rows)) ≡ flattened rows
rows_read rows at are = body_values (tokens_from false at (flat_map row_text rows)) (length (flattened rows)) (flattened rows) (body_again rows at (all_of rows are))

alone : (P : List ℤ → Type 0) (row : List ℤ) → P row → (k : ℕ) (d : List ℤ) → k < length (row ∷ []) → P (get_or (row ∷ []) k d)
alone P row h zero d less = h
alone P row h (suc k) d less = absurd (omega arith)

one_read : (row : List ℤ) → All (λ n. is_value n ≡ true) row → values (tokens (row_text row)) ≡ row
one_read row range =
    ap (λ (t : List ℕ). values (tokens t)) (sym (append-nil (row_text row)))
    ∙ rows_read (row ∷ []) 0 (alone (λ r. All (λ n. is_value n ≡ true) r) row range)
    ∙ append-nil row

-- a row reads as its values, whatever follows it
pub row_read : (text rest : List ℕ) (row : List ℤ) → All (λ n. is_value n ≡ true) row → row_of (length row) (drop (length text) ((text ++ row_text row) ++ rest)) ≡ row
row_read text rest row range =
    let c = cut_of (row_text row) rest false 0 (row_ends row) in
    let more : List ℤ = values (tokens_from false c.place rest) in
    let none : List ℤ = replicate (length row) (pos 0) in
    ap (λ (t : List ℕ). row_of (length row) (drop (length text) t)) (append_assoc text (row_text row) rest)
    ∙ ap (row_of (length row)) (drop_at text (row_text row ++ rest) (length text) refl)
    ∙ ap (λ (ts : List Token). take (length row) (values ts ++ replicate (length row) (pos 0))) c.is
    ∙ ap (λ (l : List ℤ). take (length row) (l ++ replicate (length row) (pos 0))) (map-append (λ t. value_or_zero t.text) (tokens (row_text row)) (tokens_from false c.place rest))
    ∙ ap (λ (l : List ℤ). take (length row) ((l ++ values (tokens_from false c.place rest)) ++ replicate (length row) (pos 0))) (one_read row range)
    ∙ ap (take (length row)) (append_assoc row (values (tokens_from false c.place rest)) (replicate (length row) (pos 0)))
    ∙ take_at row (values (tokens_from false c.place rest) ++ replicate (length row) (pos 0)) (length row) refl

-- a value of one of the rows, with whatever follows them
joined_at : (w : ℕ) (rows : List (List ℤ)) (more : List ℤ) (x y : ℕ) → All (λ row. length row ≡ w) rows → x < w → y < length rows → get_or (flattened rows ++ more) (y * w + x) (pos 0) ≡ get_or (get_or rows y []) x (pos 0)
joined_at w [] more x y are less has = absurd (omega arith)
joined_at w (r ∷ rs) more x zero are less has =
    let len : length r ≡ w = are 0 [] (omega arith) in
    let e : zero * w + x ≡ x = omega arith in
    ap (λ (l : List ℤ). get_or l (zero * w + x) (pos 0)) (append_assoc r (flattened rs) more)
    ∙ ap (λ i. get_or (r ++ (flattened rs ++ more)) i (pos 0)) e
    ∙ get_or_append_left r (flattened rs ++ more) (pos 0) x (omega arith)
joined_at w (r ∷ rs) more x (suc y) are less has =
    let len : length r ≡ w = are 0 [] (omega arith) in
    let e : suc y * w ≡ y * w + w = grind arith in
    ap (λ (l : List ℤ). get_or l (suc y * w + x) (pos 0)) (append_assoc r (flattened rs) more)
    ∙ get_or-append_right r (flattened rs ++ more) w (suc y * w + x) (pos 0) len (omega arith)
    ∙ ap (λ i. get_or (flattened rs ++ more) i (pos 0)) (let f : suc y * w + x - w ≡ y * w + x = omega arith in f)
    ∙ joined_at w rs more x y (λ k d below. are (suc k) d (omega arith)) less (omega arith)

-- so many rows of one length
count_of : (w : ℕ) (rows : List (List ℤ)) → All (λ row. length row ≡ w) rows → length (flattened rows) ≡ length rows * w
count_of w [] are = omega arith
count_of w (r ∷ rs) are =
    let len : length r ≡ w = are 0 [] (omega arith) in
    let a = length-append r (flattened rs) in
    let b = count_of w rs (λ k d less. are (suc k) d (omega arith)) in
    let e : suc (length rs) * w ≡ length rs * w + w = grind arith in
    omega arith

no_zero : (n k : ℕ) → get_or (replicate n (pos 0)) k (pos 0) ≡ pos 0
no_zero zero k = refl
no_zero (suc n) zero = refl
no_zero (suc n) (suc k) = no_zero n k

no_row : (rows : List (List ℤ)) (y : ℕ) → length rows ≤ y → get_or rows y [] ≡ []
no_row [] y h = refl
no_row (r ∷ rs) zero h = absurd (omega arith)
no_row (r ∷ rs) (suc y) h = no_row rs y (omega arith)

-- the rows so far, and 0 where there is none yet
pub so_far : (text : List ℕ) (rows : List (List ℤ)) (w n x y : ℕ) → AreRows w rows → x < w → y * w + x < n → get_or (row_of n (drop (length text) (text ++ flat_map row_text rows))) (y * w + x) (pos 0) ≡ get_or (get_or rows y []) x (pos 0)
so_far text rows w n x y are column within =
    ap (λ (l : List ℕ). get_or (row_of n l) (y * w + x) (pos 0)) (drop_at text (flat_map row_text rows) (length text) refl)
    ∙ get_or-take n (values (tokens (flat_map row_text rows)) ++ replicate n (pos 0)) (y * w + x) (pos 0) within
    ∙ ap (λ (l : List ℤ). get_or (l ++ replicate n (pos 0)) (y * w + x) (pos 0)) (rows_read rows 0 are.values)
    ∙ ⊎_elim
    (λ (has : y < length rows). joined_at w rows (replicate n (pos 0)) x y are.long column has)
    (λ (none : length rows ≤ y).
    let far : length rows * w ≤ y * w = mul-le-mul_right w none in
    let len = count_of w rows are.long in
    get_or-append_right (flattened rows) (replicate n (pos 0)) (length (flattened rows)) (y * w + x) (pos 0) refl (omega arith)
    ∙ no_zero n (y * w + x - length (flattened rows))
    ∙ sym (ap (λ (r : List ℤ). get_or r x (pos 0)) (no_row rows y none)))
    (cases_lt y (length rows))

-- the text of a head and first rows, and rows of zeros that would make it a grid
abbrev front_of : Size → Option Transform → Option ℤ → List (List ℤ) → List ℕ
front_of size geo nodata rows = head_text size geo nodata ++ flat_map row_text rows

abbrev zeros_for : Size → List (List ℤ) → List (List ℤ)
zeros_for size rows = replicate (size.h - length rows) (replicate size.w (pos 0))

zeros_are : (size : Size) (rows : List (List ℤ)) → AreRows size.w (zeros_for size rows)
zeros_are size rows = record {
  long = All-replicate (λ r. length r ≡ size.w) (size.h - length rows) (replicate size.w (pos 0)) (length-replicate size.w (pos 0));
  values = All-replicate (λ r. All (λ n. is_value n ≡ true) r) (size.h - length rows) (replicate size.w (pos 0)) (All-replicate (λ n. is_value n ≡ true) size.w (pos 0) refl);
}

all_are : (size : Size) (rows : List (List ℤ)) → AreRows size.w rows → AreRows size.w (rows ++ zeros_for size rows)
all_are size rows are = record {
  long = All-append (λ r. length r ≡ size.w) rows (zeros_for size rows) are.long (zeros_are size rows).long;
  values = All-append (λ r. All (λ n. is_value n ≡ true) r) rows (zeros_for size rows) are.values (zeros_are size rows).values;
}

all_count : (size : Size) (rows : List (List ℤ)) → length rows ≤ size.h → length (rows ++ zeros_for size rows) ≡ size.h
all_count size rows few =
    let a = length-append rows (zeros_for size rows) in
    let b = length-replicate (size.h - length rows) (replicate size.w (pos 0)) in
    omega arith

-- two lists that are the same as a whole and have fronts of the same length
same_front : (a b c d : List ℤ) → length a ≡ length c → a ++ b ≡ c ++ d → a ≡ c
same_front a b c d len same = sym (take_at a b (length a) refl) ∙ ap (take (length a)) same ∙ take_at c d (length a) (sym len)

-- what is read of the tokens of a head and first rows, with other ones behind them, and with those that make a grid
record IsFront (size : Size) (geo : Option Transform) (nodata : Option ℤ) (rows : List (List ℤ)) (other : List Token) : Type 0 where
  found : Found
  shape : Shape
  rest : List Token
  end : List Token
  all : List ℤ
  head : head_of nothing (tokens (front_of size geo nodata rows) ++ other) ≡ Ok (found, rest ++ other)
  shape_is : shape_of found ≡ Ok shape
  wide : shape.w ≡ size.w
  high : shape.h ≡ size.h
  whole : body_of (shape.w * shape.h) (rest ++ end) ≡ Ok all
  count : length rest ≡ length rows * size.w
  read : values rest ≡ flattened rows

-- what is read of the grid that has the first rows, and zeros in the others
record IsFilled (size : Size) (geo : Option Transform) (nodata : Option ℤ) (rows : List (List ℤ)) : Type 0 where
  found : Found
  shape : Shape
  body : List Token
  end : List Token
  all : List ℤ
  head : head_of nothing (tokens (front_of size geo nodata rows) ++ end) ≡ Ok (found, body)
  shape_is : shape_of found ≡ Ok shape
  wide : shape.w ≡ size.w
  high : shape.h ≡ size.h
  whole : body_of (shape.w * shape.h) body ≡ Ok all
  read : values body ≡ flattened rows ++ values end
  count : length body ≡ length rows * size.w + length end

filled_read : (size : Size) (geo : Option Transform) (nodata : Option ℤ) (read : Transform) (rows zeros : List (List ℤ)) → IsGridHead size geo nodata read → AreRows size.w rows → AreRows size.w zeros → AreRows size.w (rows ++ zeros) → length (rows ++ zeros) ≡ size.h → IsFilled size geo nodata rows
filled_read size geo nodata read rows zeros head are none each high =
    let g : IsGridOf (front_of size geo nodata (rows ++ zeros)) size read nodata (flattened (rows ++ zeros)) = grid_again size geo nodata read (rows ++ zeros) head.raster head.in_band head.again each high in
    filled_from size geo nodata read rows zeros are none (record { head = record { size = size; geo = read; nodata = nodata; rows = g.rows }; values = flattened (rows ++ zeros) }) refl refl
    (made_of (front_of size geo nodata (rows ++ zeros)) (record { head = record { size = size; geo = read; nodata = nodata; rows = g.rows }; values = flattened (rows ++ zeros) }) g.grid)
  where
    filled_from : (size : Size) (geo : Option Transform) (nodata : Option ℤ) (read : Transform) (rows zeros : List (List ℤ)) → AreRows size.w rows → AreRows size.w zeros → (g : Grid) → g.head.size ≡ size → g.values ≡ flattened (rows ++ zeros) → IsMade (front_of size geo nodata (rows ++ zeros)) g → IsFilled size geo nodata rows
    filled_from size geo nodata read rows zeros are none g size_is values_are m =
        let c : IsCut (front_of size geo nodata rows) (flat_map row_text zeros) false 0 = cut_of (front_of size geo nodata rows) (flat_map row_text zeros) false 0 (first_end size geo nodata rows) in
        let text : front_of size geo nodata (rows ++ zeros) ≡ front_of size geo nodata rows ++ flat_map row_text zeros =
        ap (λ (t : List ℕ). head_text size geo nodata ++ t) (flat_map-append row_text rows zeros) ∙ sym (append_assoc (head_text size geo nodata) (flat_map row_text rows) (flat_map row_text zeros)) in
        let last : values (tokens_from false c.place (flat_map row_text zeros)) ≡ flattened zeros = rows_read zeros c.place none.values in
        let all : values m.body ≡ flattened rows ++ values (tokens_from false c.place (flat_map row_text zeros)) =
        body_values m.body (m.shape.w * m.shape.h) g.values m.whole ∙ values_are ∙ flat_map-append (λ (list : List ℤ). list) rows zeros ∙ ap (λ (l : List ℤ). flattened rows ++ l) (sym last) in
        record {
          found = m.found;
          shape = m.shape;
          body = m.body;
          end = tokens_from false c.place (flat_map row_text zeros);
          all = g.values;
          head = sym (ap (λ (t : List ℕ). head_of nothing (tokens t)) text ∙ ap (head_of nothing) c.is) ∙ m.head;
          shape_is = m.shape_is;
          wide = sym (ap (λ (h : Head). h.size.w) m.head_is) ∙ ap (λ (s : Size). s.w) size_is;
          high = sym (ap (λ (h : Head). h.size.h) m.head_is) ∙ ap (λ (s : Size). s.h) size_is;
          whole = m.whole;
          read = all;
          count = sym (length-map m.body (λ t. value_or_zero t.text)) ∙ ap length all ∙ length-append (flattened rows) (values (tokens_from false c.place (flat_map row_text zeros)))
              ∙ ap (λ n. n + length (values (tokens_from false c.place (flat_map row_text zeros)))) (count_of size.w rows are.long)
              ∙ ap (λ n. length rows * size.w + n) (length-map (tokens_from false c.place (flat_map row_text zeros)) (λ t. value_or_zero t.text));
        }

front_read : (size : Size) (geo : Option Transform) (nodata : Option ℤ) (read : Transform) (rows : List (List ℤ)) (other : List Token) → IsGridHead size geo nodata read → AreFirstRows size rows → (0 < length rows) ⊎ (other ≡ []) → IsFront size geo nodata rows other
front_read size geo nodata read rows other head are some =
    front_from size geo nodata rows other are.each (let wide = head.raster.some_columns in omega arith) some
    (filled_read size geo nodata read rows (zeros_for size rows) head are.each (zeros_are size rows) (all_are size rows are.each) (all_count size rows are.count))
  where
    front_from : (size : Size) (geo : Option Transform) (nodata : Option ℤ) (rows : List (List ℤ)) (other : List Token) → AreRows size.w rows → 0 < size.w → (0 < length rows) ⊎ (other ≡ []) → IsFilled size geo nodata rows → IsFront size geo nodata rows other
    front_from size geo nodata rows other are wide some m =
        let total = m.count in
        let enough : IsEnough m.end other m.body = ⊎_elim (λ (more : 0 < length rows). let one : 1 * size.w ≤ length rows * size.w = mul-le-mul_right size.w more in inl (omega arith)) (λ (none : other ≡ []). inr (none, omega arith)) some in
        let s : IsSwapped (head_of nothing (tokens (front_of size geo nodata rows) ++ other)) m.found m.end other m.body = head_swapped (tokens (front_of size geo nodata rows)) m.end other m.body nothing m.found m.head enough in
        let lens = length-append s.rest m.end in
        let sum = ap length s.body_is in
        let count : length s.rest ≡ length rows * size.w = omega arith in
        record {
          found = m.found;
          shape = m.shape;
          rest = s.rest;
          end = m.end;
          all = m.all;
          head = s.same;
          shape_is = m.shape_is;
          wide = m.wide;
          high = m.high;
          whole = ap (body_of (m.shape.w * m.shape.h)) (sym s.body_is) ∙ m.whole;
          count = count;
          read = same_front (values s.rest) (values m.end) (flattened rows) (values m.end)
              (length-map s.rest (λ t. value_or_zero t.text) ∙ count ∙ sym (count_of size.w rows are.long))
              (sym (map-append (λ t. value_or_zero t.text) s.rest m.end) ∙ ap values (sym s.body_is) ∙ m.read);
        }

same_shape : (s t : Shape) (q : Result Shape GridFault) → q ≡ Ok s → q ≡ Ok t → s ≡ t
same_shape s t q one two = cc

-- in whatever grid begins with a head and first rows, their values are the samples
pub value_read : (size : Size) (geo : Option Transform) (nodata : Option ℤ) (read : Transform) (rows : List (List ℤ)) (rest : List ℕ) (h : Head) (x y : ℕ) → IsGridHead size geo nodata read → AreFirstRows size rows → grid_head ((head_text size geo nodata ++ flat_map row_text rows) ++ rest) ≡ Ok h → x < size.w → y < length rows → ascii_at ((head_text size geo nodata ++ flat_map row_text rows) ++ rest) x y ≡ get_or (get_or rows y []) x (pos 0)
value_read size geo nodata read rows rest h x y head are is column line =
    let c = cut_of (front_of size geo nodata rows) rest false 0 (first_end size geo nodata rows) in
    let f : IsFront size geo nodata rows (tokens_from false c.place rest) = front_read size geo nodata read rows (tokens_from false c.place rest) head are (inl (omega arith)) in
    let t : IsGridText (front_of size geo nodata rows ++ rest) = grid_text (grid_of (front_of size geo nodata rows ++ rest)) (front_of size geo nodata rows ++ rest) h refl is in
    let m : IsMade (front_of size geo nodata rows ++ rest) t.grid = made_of (front_of size geo nodata rows ++ rest) t.grid t.is in
    let same : Ok (f.found, f.rest ++ tokens_from false c.place rest) ≡ Ok (m.found, m.body) = sym (ap (head_of nothing) c.is ∙ f.head) ∙ m.head in
    let found : f.found ≡ m.found = ap found_in same in
    let body : f.rest ++ tokens_from false c.place rest ≡ m.body = ap behind same in
    let shape : f.shape ≡ m.shape = same_shape f.shape m.shape (shape_of m.found) (ap shape_of (sym found) ∙ f.shape_is) m.shape_is in
    let wide : t.grid.head.size.w ≡ size.w = ap (λ (h : Head). h.size.w) m.head_is ∙ ap (λ (s : Shape). s.w) (sym shape) ∙ f.wide in
    let all : t.grid.values ≡ flattened rows ++ values (tokens_from false c.place rest) =
    sym (body_values m.body (m.shape.w * m.shape.h) t.grid.values m.whole) ∙ ap values (sym body) ∙ map-append (λ t. value_or_zero t.text) f.rest (tokens_from false c.place rest) ∙ ap (λ (l : List ℤ). l ++ values (tokens_from false c.place rest)) f.read in
    ap (λ (q : Result Grid GridFault). ascii_by q x y) t.is
    ∙ ap (λ w. get_or t.grid.values (y * w + x) (pos 0)) wide
    ∙ ap (λ (l : List ℤ). get_or l (y * size.w + x) (pos 0)) all
    ∙ joined_at size.w rows (values (tokens_from false c.place rest)) x y are.each.long column line

-- a grid of which rows are missing is none
pub rows_missing : (size : Size) (geo : Option Transform) (nodata : Option ℤ) (read : Transform) (rows : List (List ℤ)) → IsGridHead size geo nodata read → AreRows size.w rows → length rows < size.h → grid_of (head_text size geo nodata ++ flat_map row_text rows) ≡ Err TooFew
rows_missing size geo nodata read rows head each few =
    let f : IsFront size geo nodata rows [] = front_read size geo nodata read rows [] head (record { each = each; count = omega arith }) (inr refl) in
    let wide : 0 < size.w = head.raster.some_columns in
    let cells : f.shape.w * f.shape.h ≡ size.h * size.w = ap (λ w. w * f.shape.h) f.wide ∙ ap (λ h. size.w * h) f.high ∙ mul_comm size.w size.h in
    let more : suc (length rows) * size.w ≤ size.h * size.w = mul-le-mul_right size.w few in
    let e : suc (length rows) * size.w ≡ length rows * size.w + size.w = grind arith in
    let count : length f.rest ≡ length rows * size.w = f.count in
    refused (front_of size geo nodata rows) f.found f.rest f.shape
    (ap (head_of nothing) (sym (append-nil (tokens (front_of size geo nodata rows)))) ∙ f.head ∙ ap (λ (ts : List Token). Ok (f.found, ts)) (append-nil f.rest))
    f.shape_is
    (too_few f.rest f.end (f.shape.w * f.shape.h) f.all (omega arith) f.whole)
