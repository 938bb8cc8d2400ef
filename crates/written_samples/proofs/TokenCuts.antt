-- Tokens of a text that ends in white space, and of what follows it.
use Rattle.std.proofs.Common.{◌≡◌, ℕ, Bool, true, false, List, [], ◌∷◌, ◌++◌, refl, sym, ap, ◌∙◌, subst, ⊎_elim, append_assoc, Option, Some, None}
use Rattle.std.specs.List.{take_while, flat_map}
use Rattle.std.specs.Fmt.{signed_decimal}
use Rattle.std.specs.Prelude.{ℤ, codes}
use Rattle.std.proofs.lemmas.Bool.{cases_Bool}
use Rattle.std.proofs.lemmas.List.{append-nil}
use Rattle.std.proofs.lemmas.List.Sums.{take_while-cons}
use Rattle.lists_and_answers.specs.Texts.{is_white}
use Rattle.geotransform.specs.Geo.{Transform}
use Rattle.geotransform.specs.Print.{short_text}
use Rattle.geotransform.specs.declared.types.Size.{Size}
use Rattle.geotransform.specs.Places.{are_same}
use Rattle.ascii_grid.specs.declared.placing.Placing.{Placing}
use Rattle.ascii_grid.specs.Tokens.{tokens_from, token, is_dark, next}
use Rattle.ascii_grid.specs.Text.{label, line, placing_of, size_lines, edge_lines, step_lines, nodata_line, head_text, more_text, row_text}
use Rattle.ascii_grid.proofs.Places.{tok_white, tok_inside, tok_begins}

-- a text whose last byte is white space
pub record EndsWhite (text : List ℕ) : Type 0 where
  pub front : List ℕ
  pub last : ℕ
  pub is : text ≡ front ++ last ∷ []
  pub white : is_white last ≡ true

-- the tokens of a text are followed by those of what stands behind it
pub record IsCut (text more : List ℕ) (b : Bool) (at : ℕ) : Type 0 where
  pub place : ℕ
  pub is : tokens_from b at (text ++ more) ≡ tokens_from b at text ++ tokens_from false place more

-- a token doesn't go past the white space
run_same : (zs : List ℕ) (w : ℕ) (ys : List ℕ) → is_white w ≡ true → take_while is_dark ((zs ++ w ∷ []) ++ ys) ≡ take_while is_dark (zs ++ w ∷ [])
run_same [] w ys white = rw (take_while-cons is_dark w ys, take_while-cons is_dark w [], white) refl
run_same (z ∷ zs) w ys white =
    ⊎_elim
    (λ (v : is_white z ≡ true). rw (take_while-cons is_dark z ((zs ++ w ∷ []) ++ ys), take_while-cons is_dark z (zs ++ w ∷ []), v) refl)
    (λ (d : is_white z ≡ false). rw (take_while-cons is_dark z ((zs ++ w ∷ []) ++ ys), take_while-cons is_dark z (zs ++ w ∷ []), d) (ap (λ run. z ∷ run) (run_same zs w ys white)))
    (cases_Bool (is_white z))

cut_dark : (z : ℕ) (zs : List ℕ) (w : ℕ) (more : List ℕ) (b : Bool) (at : ℕ) → is_white w ≡ true → is_white z ≡ false → IsCut (zs ++ w ∷ []) more true (next at) → IsCut (z ∷ (zs ++ w ∷ [])) more b at
cut_dark z zs w more true at white dark c = record {
  place = c.place;
  is = tok_inside z ((zs ++ w ∷ []) ++ more) at dark ∙ c.is ∙ sym (ap (λ ts. ts ++ tokens_from false c.place more) (tok_inside z (zs ++ w ∷ []) at dark));
}
cut_dark z zs w more false at white dark c = record {
  place = c.place;
  is = tok_begins z ((zs ++ w ∷ []) ++ more) at dark
      ∙ ap (λ run. token at (z ∷ run) ∷ tokens_from true (next at) ((zs ++ w ∷ []) ++ more)) (run_same zs w more white)
      ∙ ap (λ ts. token at (z ∷ take_while is_dark (zs ++ w ∷ [])) ∷ ts) c.is
      ∙ sym (ap (λ ts. ts ++ tokens_from false c.place more) (tok_begins z (zs ++ w ∷ []) at dark));
}

cut_by : (zs : List ℕ) (w : ℕ) (more : List ℕ) (b : Bool) (at : ℕ) → is_white w ≡ true → IsCut (zs ++ w ∷ []) more b at
cut_by [] w more b at white = record {
  place = next at;
  is = tok_white w more b at white ∙ sym (ap (λ ts. ts ++ tokens_from false (next at) more) (tok_white w [] b at white));
}
cut_by (z ∷ zs) w more b at white =
    ⊎_elim
    (λ (v : is_white z ≡ true). let c = cut_by zs w more false (next at) white in record {
      place = c.place;
      is = tok_white z ((zs ++ w ∷ []) ++ more) b at v ∙ c.is ∙ sym (ap (λ ts. ts ++ tokens_from false c.place more) (tok_white z (zs ++ w ∷ []) b at v));
    })
    (λ (d : is_white z ≡ false). cut_dark z zs w more b at white d (cut_by zs w more true (next at) white))
    (cases_Bool (is_white z))

pub cut_of : (text more : List ℕ) (b : Bool) (at : ℕ) → EndsWhite text → IsCut text more b at
cut_of text more b at e = subst (λ (t : List ℕ). IsCut t more b at) (sym e.is) (cut_by e.front e.last more b at e.white)

-- texts of grids

pub ends_behind : (a b : List ℕ) → EndsWhite b → EndsWhite (a ++ b)
ends_behind a b e = record {
  front = a ++ e.front;
  last = e.last;
  is = ap (λ (t : List ℕ). a ++ t) e.is ∙ sym (append_assoc a e.front (e.last ∷ []));
  white = e.white;
}

line_feed : (text : List ℕ) → EndsWhite (text ++ 10 ∷ [])
line_feed text = record { front = text; last = 10; is = refl; white = refl }

line_ends : (key value : List ℕ) → EndsWhite (line key value)
line_ends key value = ends_behind (label key) (value ++ 10 ∷ []) (line_feed value)

pub row_ends : (row : List ℤ) → EndsWhite (row_text row)
row_ends [] = record { front = []; last = 10; is = refl; white = refl }
row_ends (x ∷ xs) = ends_behind (signed_decimal x) (flat_map more_text xs ++ 10 ∷ []) (line_feed (flat_map more_text xs))

pub rows_end : (row : List ℤ) (rows : List (List ℤ)) → EndsWhite (flat_map row_text (row ∷ rows))
rows_end row [] = subst (λ (t : List ℕ). EndsWhite t) (sym (append-nil (row_text row))) (row_ends row)
rows_end row (r ∷ rs) = ends_behind (row_text row) (flat_map row_text (r ∷ rs)) (rows_end r rs)

steps_end : (b : Bool) (p : Placing) → are_same p.width p.height ≡ b → EndsWhite (step_lines p)
steps_end true p is = rw is (line_ends (codes "cellsize") (short_text p.width))
steps_end false p is = rw is (ends_behind (line (codes "dx") (short_text p.width)) (line (codes "dy") (short_text p.height)) (line_ends (codes "dy") (short_text p.height)))

last_ends : (p : Placing) (nodata : Option ℤ) → EndsWhite (step_lines p ++ nodata_line nodata)
last_ends p None = subst (λ (t : List ℕ). EndsWhite t) (sym (append-nil (step_lines p))) (steps_end (are_same p.width p.height) p refl)
last_ends p (Some n) = ends_behind (step_lines p) (nodata_line (Some n)) (line_ends (codes "NODATA_value") (signed_decimal n))

pub head_ends : (size : Size) (geo : Option Transform) (nodata : Option ℤ) → EndsWhite (head_text size geo nodata)
unfolding head_text
head_ends size geo nodata =
    let p : Placing = placing_of size geo in
    ends_behind (size_lines size) (edge_lines p ++ (step_lines p ++ nodata_line nodata)) (ends_behind (edge_lines p) (step_lines p ++ nodata_line nodata) (last_ends p nodata))

-- the text of a head and of first rows
pub first_end : (size : Size) (geo : Option Transform) (nodata : Option ℤ) (rows : List (List ℤ)) → EndsWhite (head_text size geo nodata ++ flat_map row_text rows)
first_end size geo nodata [] = subst (λ (t : List ℕ). EndsWhite t) (sym (append-nil (head_text size geo nodata))) (head_ends size geo nodata)
first_end size geo nodata (r ∷ rs) = ends_behind (head_text size geo nodata) (flat_map row_text (r ∷ rs)) (rows_end r rs)
