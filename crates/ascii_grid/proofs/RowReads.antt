-- From the place of a row on, a text reads as the row's values.
use Rattle.std.proofs.Common.{◌≡◌, ◌≢◌, ℕ, ℤ, pos, Bool, true, false, List, [], ◌∷◌, ◌++◌, refl, sym, ap, ◌∙◌, ⊎_elim, take, drop, length, ◌≤◌, ◌<◌, ◌+◌, ◌-◌, ◌*◌, ◌^◌, arith, cond, map, suc, zero, zero-add, get_or, Option, Some, None, Result, Ok, Err, ok_or, replicate, subst, length-drop, mul-le-mul_left}
use Rattle.std.specs.List.{slice_get, range_with_len}
use Rattle.std.proofs.lemmas.List.FromFn.{fill_by_all, get_or-map-range_with_len}
use Rattle.std.specs.Option.{option_map}
use Rattle.std.proofs.lemmas.Bool.{cases_Bool, cases_eq, eq-eqb, ne_eqb}
use Rattle.std.proofs.lemmas.List.{drop-map, drop-drop, take-append-le, length-map, get_or-take, get_or-drop, length-take-le}
use Rattle.std.proofs.lemmas.Simd.{map-map}
use Rattle.std.proofs.lemmas.Option.{slice_get_within}
use Rattle.std.proofs.Math.Nat.{mul_comm, suc-mul}
use lib.Dec.{eqb}
use Rattle.ascii_grid.specs.declared.faults.GridFault.{GridFault}
use Rattle.ascii_grid.specs.declared.faults.GridFault.TheVariants.{BadToken}
use Rattle.ascii_grid.specs.declared.head_parts.Found.{Found}
use Rattle.ascii_grid.specs.declared.head_parts.Shape.{Shape}
use Rattle.ascii_grid.specs.declared.head_parts.Key.{Key}
use Rattle.ascii_grid.specs.Tokens.{Token, tokens_from, tokens, next}
use Rattle.lists_and_answers.specs.Answers.{◌>>=◌}
use Rattle.lists_and_answers.specs.Texts.{is_white}
use Rattle.ascii_grid.specs.Values.{is_body_start, value_in}
use Rattle.ascii_grid.specs.Keys.{key_of, with_value, shape_of}
use Rattle.ascii_grid.specs.Grid.{Head, Grid, IsHead, head_with, head_of, body_of, rows_of, nothing, grid_in, grid_of, grid_head, ascii_by, ascii_at, line_of, AreRising}
use Rattle.ascii_grid.specs.Row.{value_or_zero, or_zero, row_of, ended_in}
use Rattle.ascii_grid.proofs.Places.{tok_white, tok_inside, tok_begins, texts, stands, Stands, rows_is, place_at}
use Rattle.ascii_grid.proofs.Ended.{ended_between, then_rest}
use Rattle.ascii_grid.proofs.Rows.{whole_row}

abbrev values : List Token → List ℤ
values ts = map (λ t. value_or_zero t.text) ts

-- the body is the end of the tokens
record Ends (ts body : List Token) : Type 0 where
  count : ℕ
  same : body ≡ drop count ts

ends_more : (k v : Token) (more body : List Token) → Ends more body → Ends (k ∷ (v ∷ more)) body
ends_more k v more body e = record { count = suc (suc e.count); same = e.same }

head_value : (q : Result Found GridFault) (f : Found) (k v : Token) (more body : List Token) → ((g : Found) → head_of g more ≡ Ok (f, body) → Ends more body) → (q >>= λ g. head_of g more) ≡ Ok (f, body) → Ends (k ∷ (v ∷ more)) body
head_value (Err fault) f k v more body follows is = cc
head_value (Ok g) f k v more body follows is = ends_more k v more body (follows g is)

head_pair : (q : Option Key) (r : Key → Result Found GridFault) (f : Found) (at : ℕ) (k v : Token) (more body : List Token) → ((g : Found) → head_of g more ≡ Ok (f, body) → Ends more body) → (ok_or q (BadToken at) >>= λ key. r key >>= λ g. head_of g more) ≡ Ok (f, body) → Ends (k ∷ (v ∷ more)) body
head_pair None r f at k v more body follows is = cc
head_pair (Some key) r f at k v more body follows is = head_value (r key) f k v more body follows is

abbrev passed_over : Found → Result (Found × List Token) GridFault
passed_over g = Ok (g, [])

abbrev behind : Result (Found × List Token) GridFault → List Token
behind (Ok h) = h.1
behind (Err f) = []

head_key : (q : Option Key) (f g : Found) (at : ℕ) (k : Token) (body : List Token) → (ok_or q (BadToken at) >>= λ key. passed_over g) ≡ Ok (f, body) → Ends (k ∷ []) body
head_key None f g at k body is = cc
head_key (Some key) f g at k body is = record { count = 1; same = sym (ap behind is) }

head_ends : (ts : List Token) (g f : Found) (body : List Token) → head_of g ts ≡ Ok (f, body) → Ends ts body
unfolding head_of
head_ends [] g f body is = record { count = 0; same = sym (ap behind is) }
head_ends (k ∷ []) g f body is =
    ⊎_elim
    (λ (start : is_body_start k.text ≡ true). let e = rw start at is in record { count = 0; same = sym (ap behind e) })
    (λ (other : is_body_start k.text ≡ false). head_key (key_of k.text) f g k.at k body (rw other at is))
    (cases_Bool (is_body_start k.text))
head_ends (k ∷ (v ∷ more)) g f body is =
    ⊎_elim
    (λ (start : is_body_start k.text ≡ true). let e = rw start at is in record { count = 0; same = sym (ap behind e) })
    (λ (other : is_body_start k.text ≡ false). head_pair (key_of k.text) (λ key. with_value g key v) f k.at k v more body (λ h. head_ends more h f body) (rw other at is))
    (cases_Bool (is_body_start k.text))

value_cases : (a b c : Bool) (v n : ℤ) (f g h f' g' h' : GridFault) → cond a (cond b (Ok v) (Err f)) (cond c (Err g) (Err h)) ≡ Ok n → or_zero (cond a (cond b (Ok v) (Err f')) (cond c (Err g') (Err h'))) ≡ n
value_cases true true c v n f g h f' g' h' is = cc
value_cases true false c v n f g h f' g' h' is = cc
value_cases false b true v n f g h f' g' h' is = cc
value_cases false b false v n f g h f' g' h' is = cc

value_anywhere : (at : ℕ) (text : List ℕ) (n : ℤ) → value_in at text ≡ Ok n → value_or_zero text ≡ n
unfolding value_in
value_anywhere at text n is = value_cases _ _ _ _ n _ _ _ _ _ _ is

-- a body's values
record Body (n : ℕ) (ts : List Token) (vs : List ℤ) : Type 0 where
  count : length ts ≡ n
  same : values ts ≡ vs

body_first : (q : Result ℤ GridFault) (r : Result (List ℤ) GridFault) (n : ℕ) (t : Token) (ts : List Token) (vs : List ℤ) → n ≢ 0 → value_in t.at t.text ≡ q → ((us : List ℤ) → r ≡ Ok us → Body (n - 1) ts us) → (q >>= λ v. r >>= λ us. Ok (v ∷ us)) ≡ Ok vs → Body n (t ∷ ts) vs
body_first (Err f) r n t ts vs some v_is follows is = cc
body_first (Ok v) (Err f) n t ts vs some v_is follows is = cc
body_first (Ok v) (Ok us) n t ts vs some v_is follows is =
    let more = follows us refl in
    let all : v ∷ us ≡ vs = cc in
    record { count = omega (arith, more.count); same = ap (λ x. x ∷ values ts) (value_anywhere t.at t.text v v_is) ∙ ap (λ xs. v ∷ xs) more.same ∙ all }

body_is : (ts : List Token) (n : ℕ) (vs : List ℤ) → body_of n ts ≡ Ok vs → Body n ts vs
unfolding body_of
body_is [] n vs is =
    ⊎_elim
    (λ (e : n ≡ 0). let h = rw (eq-eqb n 0 e) at is in let none : [] ≡ vs = cc in record { count = sym e; same = none })
    (λ (e : n ≢ 0). let h = rw (ne_eqb n 0 e) at is in cc)
    (cases_eq n 0)
body_is (t ∷ ts) n vs is =
    ⊎_elim
    (λ (e : n ≡ 0). let h = rw (eq-eqb n 0 e) at is in cc)
    (λ (e : n ≢ 0). body_first (value_in t.at t.text) (body_of (n - 1) ts) n t ts vs e refl (λ us. body_is ts (n - 1) us) (rw (ne_eqb n 0 e) at is))
    (cases_eq n 0)

-- the values of a body's tokens
pub body_values : (ts : List Token) (n : ℕ) (vs : List ℤ) → body_of n ts ≡ Ok vs → map (λ t. value_or_zero t.text) ts ≡ vs
body_values ts n vs is = (body_is ts n vs is).same

get_none : (k j : ℕ) → slice_get {X = Token} [] k ≡ slice_get {X = Token} [] j
get_none k j = refl

get_behind : (m : ℕ) (ts : List Token) (k : ℕ) → slice_get (drop m ts) k ≡ slice_get ts (m + k)
get_behind zero ts k = ap (slice_get ts) (omega arith)
get_behind (suc m) [] k = get_none k (suc m + k)
get_behind (suc m) (t ∷ ts) k = let index : suc m + k ≡ suc (m + k) = omega arith in get_behind m ts k ∙ sym (ap (slice_get (t ∷ ts)) index)

record Placed (q : Option Token) (p : ℕ) : Type 0 where
  token : Token
  is : q ≡ Some token
  place : token.at ≡ p

placed : (q : Option Token) (p : ℕ) → option_map (λ t. t.at) q ≡ Some p → Placed q p
placed None p is = cc
placed (Some t) p is = record { token = t; is = refl; place = cc }

-- the text is a grid with this shape, these values and these tokens in its body
record IsGrid (text : List ℕ) (s : Shape) (values : List ℤ) (body : List Token) : Type 0 where
  found : Found
  head : head_of nothing (tokens text) ≡ Ok (found, body)
  shape : shape_of found ≡ Ok s
  whole : body_of (s.w * s.h) body ≡ Ok values

row_room : (text : List ℕ) (s : Shape) (vs : List ℤ) (body : List Token) (y : ℕ) → IsGrid text s vs body → y < s.h → s.w ≤ length (drop (y * s.w) vs)
row_room text s vs body y grid y_in =
    let b : Body (s.w * s.h) body vs = body_is body (s.w * s.h) vs grid.whole in
    let total : length vs ≡ s.w * s.h = sym (ap length b.same) ∙ length-map body (λ t. value_or_zero t.text) ∙ b.count in
    let more : s.w * suc y ≤ s.w * s.h = mul-le-mul_left s.w y_in in
    omega (arith, length-drop (y * s.w) vs, total, more, suc-mul y s.w, mul_comm (suc y) s.w)

row_reads : (text : List ℕ) (s : Shape) (vs : List ℤ) (body : List Token) (y p : ℕ) → IsGrid text s vs body → length text < 2 ^ 64 → 0 < s.w → y < s.h → slice_get (rows_of s.w 0 body) y ≡ Some p → row_of s.w (drop p text) ≡ take s.w (drop (y * s.w) vs)
row_reads text s vs body y p grid short wide y_in p_is =
    let e : Ends (tokens text) body = head_ends (tokens text) nothing grid.found body grid.head in
    let b : Body (s.w * s.h) body vs = body_is body (s.w * s.h) vs grid.whole in
    let same_index : y * s.w + 0 ≡ y * s.w = omega arith in
    let t : Placed (slice_get body (y * s.w)) p = placed (slice_get body (y * s.w)) p (sym (rows_is body s.w 0 y 0 wide refl ∙ ap (place_at body) same_index) ∙ p_is) in
    let there : slice_get (tokens text) (e.count + y * s.w) ≡ Some t.token = sym (get_behind e.count (tokens text) (y * s.w)) ∙ ap (λ ts. slice_get ts (y * s.w)) (sym e.same) ∙ t.is in
    let st : Stands text false 0 (e.count + y * s.w) t.token = stands text false 0 (e.count + y * s.w) t.token (omega arith) there in
    let far : st.far ≡ p = omega (arith, st.place, t.place) in
    let all : texts (tokens (drop p text)) ≡ drop (y * s.w) (texts body) =
    ap (λ n. texts (tokens (drop n text))) (sym far) ∙ st.rest ∙ sym (drop-drop (y * s.w) e.count (texts (tokens text))) ∙ ap (drop (y * s.w)) (drop-map (λ t. t.text) e.count (tokens text) ∙ sym (ap texts e.same)) in
    let read : values (tokens (drop p text)) ≡ drop (y * s.w) vs =
    sym (map-map value_or_zero (λ t. t.text) (tokens (drop p text))) ∙ ap (map value_or_zero) all ∙ sym (drop-map value_or_zero (y * s.w) (texts body)) ∙ ap (drop (y * s.w)) (map-map value_or_zero (λ t. t.text) body ∙ b.same) in
    let room : s.w ≤ length (drop (y * s.w) vs) = row_room text s vs body y grid y_in in
    ap (λ xs. take s.w (xs ++ replicate s.w (pos 0))) read ∙ take-append-le s.w (drop (y * s.w) vs) (replicate s.w (pos 0)) room

-- what the answer about a text says of it
record Answers (text : List ℕ) (g : Grid) : Type 0 where
  shape : Shape
  body : List Token
  grid : IsGrid text shape g.values body
  head : g.head ≡ head_with shape (rows_of shape.w 0 body)

abbrev grid_from : Shape → List Token → List ℤ → Grid
grid_from s body values = record { head = head_with s (rows_of s.w 0 body); values = values }

from_body : (q : Result (List ℤ) GridFault) (text : List ℕ) (f : Found) (body : List Token) (s : Shape) (g : Grid) → head_of nothing (tokens text) ≡ Ok (f, body) → shape_of f ≡ Ok s → body_of (s.w * s.h) body ≡ q → (q >>= λ values. Ok (grid_from s body values)) ≡ Ok g → Answers text g
from_body (Err e) text f body s g head shape is all = cc
from_body (Ok vs) text f body s g head shape is all =
    let same : grid_from s body vs ≡ g = cc in
    record {
      shape = s;
      body = body;
      grid = record { found = f; head = head; shape = shape; whole = is ∙ ap (λ (g : Grid). Ok g.values) same };
      head = ap (λ (g : Grid). g.head) (sym same);
    }

from_shape : (q : Result Shape GridFault) (text : List ℕ) (f : Found) (body : List Token) (g : Grid) → head_of nothing (tokens text) ≡ Ok (f, body) → shape_of f ≡ q → (q >>= λ s. body_of (s.w * s.h) body >>= λ values. Ok (grid_from s body values)) ≡ Ok g → Answers text g
from_shape (Err e) text f body g head is all = cc
from_shape (Ok s) text f body g head is all = from_body (body_of (s.w * s.h) body) text f body s g head is refl all

from_head : (q : Result (Found × List Token) GridFault) (text : List ℕ) (g : Grid) → head_of nothing (tokens text) ≡ q → (q >>= grid_in) ≡ Ok g → Answers text g
unfolding grid_in
from_head (Err e) text g is all = cc
from_head (Ok h) text g is all = from_shape (shape_of h.0) text h.0 h.1 g is refl all

answers : (text : List ℕ) (g : Grid) → grid_of text ≡ Ok g → Answers text g
unfolding grid_of
answers text g is = from_head (head_of nothing (tokens text)) text g refl is

-- the values of a row are those of its line
values_line : (vs : List ℤ) (w y : ℕ) → w ≤ length (drop (y * w) vs) → take w (drop (y * w) vs) ≡ map (λ i. get_or vs (y * w + (0 + i)) (pos 0)) (range_with_len 0 w)
values_line vs w y room = fill_by_all (λ i. get_or vs (y * w + (0 + i)) (pos 0)) (take w (drop (y * w) vs)) w (pos 0) (length-take-le w (drop (y * w) vs) room) (λ k below. get_or-take w (drop (y * w) vs) k (pos 0) below ∙ get_or-drop (y * w) vs k (pos 0) ∙ ap (λ j. get_or vs (y * w + j) (pos 0)) (sym (zero-add k)))

-- a grid whose head this is
record HasGrid (text : List ℕ) (h : Head) : Type 0 where
  grid : Grid
  is : grid_of text ≡ Ok grid
  head : grid.head ≡ h

has_grid : (q : Result Grid GridFault) (text : List ℕ) (h : Head) → grid_of text ≡ q → (q >>= λ g. Ok g.head) ≡ Ok h → HasGrid text h
has_grid (Err e) text h is all = cc
has_grid (Ok g) text h is all = record { grid = g; is = is; head = cc }

line_from : (text : List ℕ) (g : Grid) (y p : ℕ) → grid_of text ≡ Ok g → IsHead g.head → length text < 2 ^ 64 → slice_get g.head.rows y ≡ Some p → row_of g.head.size.w (drop p text) ≡ line_of text 0 y g.head.size.w
line_from text g y p is kept short place =
    let a : Answers text g = answers text g is in
    let w_is : g.head.size.w ≡ a.shape.w = ap (λ (h : Head). h.size.w) a.head in
    let h_is : g.head.size.h ≡ a.shape.h = ap (λ (h : Head). h.size.h) a.head in
    let wide : 0 < a.shape.w = omega (arith, kept.size.some_columns, w_is) in
    let there : slice_get (rows_of a.shape.w 0 a.body) y ≡ Some p = ap (λ (h : Head). slice_get h.rows y) (sym a.head) ∙ place in
    let y_in : y < a.shape.h = omega (arith, slice_get_within g.head.rows y p place, kept.rows, h_is) in
    let values_are : row_of a.shape.w (drop p text) ≡ take a.shape.w (drop (y * a.shape.w) g.values) = row_reads text a.shape g.values a.body y p a.grid short wide y_in there in
    let room : a.shape.w ≤ length (drop (y * a.shape.w) g.values) = row_room text a.shape g.values a.body y a.grid y_in in
    ap (λ w. row_of w (drop p text)) w_is ∙ values_are ∙ values_line g.values a.shape.w y room
    ∙ ap (λ w. map (λ i. get_or g.values (y * w + (0 + i)) (pos 0)) (range_with_len 0 w)) (sym w_is)
    ∙ ap (λ (q : Result Grid GridFault). map (λ i. ascii_by q (0 + i) y) (range_with_len 0 g.head.size.w)) (sym is)

-- the row of a place is its line of the grid
pub row_is_line : (text : List ℕ) (h : Head) (y p : ℕ) → grid_head text ≡ Ok h → IsHead h → length text < 2 ^ 64 → slice_get h.rows y ≡ Some p → row_of h.size.w (drop p text) ≡ line_of text 0 y h.size.w
row_is_line text h y p is kept short place =
    let g : HasGrid text h = has_grid (grid_of text) text h refl is in
    subst (λ (k : Head). row_of k.size.w (drop p text) ≡ line_of text 0 y k.size.w) g.head
    (line_from text g.grid y p g.is (subst (λ (k : Head). IsHead k) (sym g.head) kept) short (ap (λ (k : Head). slice_get k.rows y) g.head ∙ place))

-- a sample of a line
pub line_sample : (text : List ℕ) (x y n i : ℕ) → i < n → get_or (line_of text x y n) i (pos 0) ≡ ascii_at text (x + i) y
line_sample text x y n i below = get_or-map-range_with_len (λ i. ascii_at text (x + i) y) 0 n i i (pos 0) below (zero-add i)

-- places that rise

rising_weaker : (ps : List ℕ) (less least end : ℕ) → less ≤ least → AreRising least end ps → AreRising less end ps
rising_weaker [] less least end le r = tt
rising_weaker (p ∷ ps) less least end le r = (omega (arith, r.0), r.1, r.2)

rising_end : (ps : List ℕ) (least end last : ℕ) → end ≡ last → AreRising least end ps → AreRising least last ps
rising_end ps least end last same r = subst (λ (e : ℕ). AreRising least e ps) same r

abbrev places : List Token → List ℕ
places ts = map (λ t. t.at) ts

-- the place behind a byte
behind_byte : (at n : ℕ) → at + suc n < 2 ^ 64 → next at ≡ at + 1
behind_byte at n room = omega arith

no_token : (c : ℕ) (cs : List ℕ) (b n : Bool) (at : ℕ) → at + suc (length cs) < 2 ^ 64 → tokens_from b at (c ∷ cs) ≡ tokens_from n (next at) cs → AreRising (next at) (next at + length cs) (places (tokens_from n (next at) cs)) → AreRising at (at + suc (length cs)) (places (tokens_from b at (c ∷ cs)))
no_token c cs b n at room same r =
    let one : next at ≡ at + 1 = behind_byte at (length cs) room in
    subst (λ (ts : List Token). AreRising at (at + suc (length cs)) (places ts)) (sym same)
    (rising_end (places (tokens_from n (next at) cs)) at (next at + length cs) (at + suc (length cs)) (omega (arith, one)) (rising_weaker (places (tokens_from n (next at) cs)) at (next at) (next at + length cs) (omega (arith, one)) r))

new_token : (c : ℕ) (cs : List ℕ) (at : ℕ) → at + suc (length cs) < 2 ^ 64 → is_white c ≡ false → AreRising (next at) (next at + length cs) (places (tokens_from true (next at) cs)) → AreRising at (at + suc (length cs)) (places (tokens_from false at (c ∷ cs)))
new_token c cs at room w r =
    let one : next at ≡ at + 1 = behind_byte at (length cs) room in
    subst (λ (ts : List Token). AreRising at (at + suc (length cs)) (places ts)) (sym (tok_begins c cs at w))
    (omega arith, omega arith, rising_end (places (tokens_from true (next at) cs)) (at + 1) (next at + length cs) (at + suc (length cs)) (omega (arith, one)) (rising_weaker (places (tokens_from true (next at) cs)) (at + 1) (next at) (next at + length cs) (omega (arith, one)) r))

tokens_rise : (text : List ℕ) (b : Bool) (at : ℕ) → at + length text < 2 ^ 64 → AreRising at (at + length text) (places (tokens_from b at text))
tokens_rise [] b at room = tt
tokens_rise (c ∷ cs) true at room =
    ⊎_elim
    (λ (w : is_white c ≡ true). no_token c cs true false at room (tok_white c cs true at w) (tokens_rise cs false (next at) (omega arith)))
    (λ (w : is_white c ≡ false). no_token c cs true true at room (tok_inside c cs at w) (tokens_rise cs true (next at) (omega arith)))
    (cases_Bool (is_white c))
tokens_rise (c ∷ cs) false at room =
    ⊎_elim
    (λ (w : is_white c ≡ true). no_token c cs false false at room (tok_white c cs false at w) (tokens_rise cs false (next at) (omega arith)))
    (λ (w : is_white c ≡ false). new_token c cs at room w (tokens_rise cs true (next at) (omega arith)))
    (cases_Bool (is_white c))

drop_rises : (k : ℕ) (ts : List Token) (least end : ℕ) → AreRising least end (places ts) → AreRising least end (places (drop k ts))
drop_rises zero ts least end r = r
drop_rises (suc k) [] least end r = r
drop_rises (suc k) (t ∷ ts) least end r = drop_rises k ts least end (rising_weaker (places ts) least (t.at + 1) end (omega (arith, r.0)) r.2)

rows_rise_by : (b : Bool) (t : Token) (rest : List ℕ) (least end : ℕ) → least ≤ t.at → t.at < end → AreRising (t.at + 1) end rest → AreRising least end (cond b (t.at ∷ rest) rest)
rows_rise_by true t rest least end le less r = (le, less, r)
rows_rise_by false t rest least end le less r = rising_weaker rest least (t.at + 1) end (omega (arith, le)) r

either_rises : (b : Bool) (xs ys : List ℕ) (least end : ℕ) → AreRising least end xs → AreRising least end ys → AreRising least end (cond b xs ys)
either_rises true xs ys least end p q = p
either_rises false xs ys least end p q = q

rows_rise : (ts : List Token) (w x least end : ℕ) → AreRising least end (places ts) → AreRising least end (rows_of w x ts)
rows_rise [] w x least end r = tt
rows_rise (t ∷ ts) w x least end r = rows_rise_by (eqb x 0) t (cond (eqb (x + 1) w) (rows_of w 0 ts) (rows_of w (x + 1) ts)) least end r.0 r.1
    (either_rises (eqb (x + 1) w) (rows_of w 0 ts) (rows_of w (x + 1) ts) (t.at + 1) end (rows_rise ts w 0 (t.at + 1) end r.2) (rows_rise ts w (x + 1) (t.at + 1) end r.2))

head_rises : (text : List ℕ) (g : Grid) → grid_of text ≡ Ok g → length text < 2 ^ 64 → AreRising 0 (length text) g.head.rows
head_rises text g is short =
    let a : Answers text g = answers text g is in
    let e : Ends (tokens text) a.body = head_ends (tokens text) nothing a.grid.found a.body a.grid.head in
    let all : AreRising 0 (length text) (places (tokens text)) = rising_end (places (tokens text)) 0 (0 + length text) (length text) (omega arith) (tokens_rise text false 0 (omega arith)) in
    let body : AreRising 0 (length text) (places a.body) = subst (λ (ts : List Token). AreRising 0 (length text) (places ts)) (sym e.same) (drop_rises e.count (tokens text) 0 (length text) all) in
    subst (λ (h : Head). AreRising 0 (length text) h.rows) (sym a.head) (rows_rise a.body a.shape.w 0 0 (length text) body)

-- the rows of a grid begin one behind the other, within the text
pub rows_are_rising : (text : List ℕ) (h : Head) → grid_head text ≡ Ok h → length text < 2 ^ 64 → AreRising 0 (length text) h.rows
rows_are_rising text h is short =
    let g : HasGrid text h = has_grid (grid_of text) text h refl is in
    subst (λ (k : Head). AreRising 0 (length text) k.rows) g.head (head_rises text g.grid g.is short)

-- places that rise, by their numbers

pub rising_at : (ps : List ℕ) (least end y p : ℕ) → AreRising least end ps → slice_get ps y ≡ Some p → (least ≤ p) × (p < end)
rising_at [] least end y p r is = cc
rising_at (a ∷ ps) least end zero p r is = let same : a ≡ p = cc in (omega (arith, r.0), omega (arith, r.1))
rising_at (a ∷ ps) least end (suc y) p r is = let more = rising_at ps (a + 1) end y p r.2 is in (omega (arith, r.0, more.0), more.1)

pub rising_next : (ps : List ℕ) (least end y p q : ℕ) → AreRising least end ps → slice_get ps y ≡ Some p → slice_get ps (suc y) ≡ Some q → p < q
rising_next [] least end y p q r p_is q_is = cc
rising_next (a ∷ ps) least end zero p q r p_is q_is = let same : a ≡ p = cc in let more = rising_at ps (a + 1) end zero q r.2 q_is in omega (arith, more.0)
rising_next (a ∷ ps) least end (suc y) p q r p_is q_is = rising_next ps (a + 1) end y p q r.2 p_is q_is

-- the bytes from the place of a row up to that of the next

ends_between : (text : List ℕ) (g : Grid) (y p q : ℕ) → grid_of text ≡ Ok g → IsHead g.head → length text < 2 ^ 64 → slice_get g.head.rows y ≡ Some p → slice_get g.head.rows (suc y) ≡ Some q → p ≤ q → ended_in (drop p (take q text)) ≡ g.head.size.w
ends_between text g y p q is kept short p_is q_is forward =
    let a : Answers text g = answers text g is in
    let w_is : g.head.size.w ≡ a.shape.w = ap (λ (h : Head). h.size.w) a.head in
    let wide : 0 < a.shape.w = omega (arith, kept.size.some_columns, w_is) in
    let e : Ends (tokens text) a.body = head_ends (tokens text) nothing a.grid.found a.body a.grid.head in
    let this : y * a.shape.w + 0 ≡ y * a.shape.w = omega arith in
    let next : suc y * a.shape.w + 0 ≡ y * a.shape.w + a.shape.w = omega (arith, suc-mul y a.shape.w) in
    let s : Placed (slice_get a.body (y * a.shape.w)) p = placed (slice_get a.body (y * a.shape.w)) p (sym (rows_is a.body a.shape.w 0 y 0 wide refl ∙ ap (place_at a.body) this) ∙ ap (λ (h : Head). slice_get h.rows y) (sym a.head) ∙ p_is) in
    let t : Placed (slice_get a.body (y * a.shape.w + a.shape.w)) q = placed (slice_get a.body (y * a.shape.w + a.shape.w)) q (sym (rows_is a.body a.shape.w 0 (suc y) 0 wide refl ∙ ap (place_at a.body) next) ∙ ap (λ (h : Head). slice_get h.rows (suc y)) (sym a.head) ∙ q_is) in
    let here : slice_get (tokens text) (e.count + y * a.shape.w) ≡ Some s.token = sym (get_behind e.count (tokens text) (y * a.shape.w)) ∙ ap (λ ts. slice_get ts (y * a.shape.w)) (sym e.same) ∙ s.is in
    let index : e.count + (y * a.shape.w + a.shape.w) ≡ (e.count + y * a.shape.w) + a.shape.w = omega arith in
    let there : slice_get (tokens text) ((e.count + y * a.shape.w) + a.shape.w) ≡ Some t.token = ap (slice_get (tokens text)) (sym index) ∙ sym (get_behind e.count (tokens text) (y * a.shape.w + a.shape.w)) ∙ ap (λ ts. slice_get ts (y * a.shape.w + a.shape.w)) (sym e.same) ∙ t.is in
    let ended : ended_in (drop s.token.at (take t.token.at text)) ≡ a.shape.w = ended_between text (e.count + y * a.shape.w) a.shape.w s.token t.token short here there (omega (arith, s.place, t.place)) in
    ap (λ n. ended_in (drop p (take n text))) (sym t.place) ∙ ap (λ n. ended_in (drop n (take t.token.at text))) (sym s.place) ∙ ended ∙ sym w_is

rows_apart : (text : List ℕ) (h : Head) (y p q : ℕ) → grid_head text ≡ Ok h → length text < 2 ^ 64 → slice_get h.rows y ≡ Some p → slice_get h.rows (suc y) ≡ Some q → p < q
rows_apart text h y p q is short p_is q_is = rising_next h.rows 0 (length text) y p q (rows_are_rising text h is short) p_is q_is

-- as many tokens end in them as the row has columns
pub row_ends : (text : List ℕ) (h : Head) (y p q : ℕ) → grid_head text ≡ Ok h → IsHead h → length text < 2 ^ 64 → slice_get h.rows y ≡ Some p → slice_get h.rows (y + 1) ≡ Some q → ended_in (drop p (take q text)) ≡ h.size.w
row_ends text h y p q is kept short p_is q_is =
    let next : slice_get h.rows (suc y) ≡ Some q = (let e : suc y ≡ y + 1 = omega arith in ap (slice_get h.rows) e) ∙ q_is in
    let forward : p < q = rows_apart text h y p q is short p_is next in
    let g : HasGrid text h = has_grid (grid_of text) text h refl is in
    subst (λ (k : Head). ended_in (drop p (take q text)) ≡ k.size.w) g.head
    (ends_between text g.grid y p q g.is (subst (λ (k : Head). IsHead k) (sym g.head) kept) short (ap (λ (k : Head). slice_get k.rows y) g.head ∙ p_is) (ap (λ (k : Head). slice_get k.rows (suc y)) g.head ∙ next) (omega arith))

-- so they read as its values
pub row_within : (text : List ℕ) (h : Head) (y p q : ℕ) → grid_head text ≡ Ok h → IsHead h → length text < 2 ^ 64 → slice_get h.rows y ≡ Some p → slice_get h.rows (y + 1) ≡ Some q → row_of h.size.w (drop p (take q text)) ≡ line_of text 0 y h.size.w
row_within text h y p q is kept short p_is q_is =
    let next : slice_get h.rows (suc y) ≡ Some q = (let e : suc y ≡ y + 1 = omega arith in ap (slice_get h.rows) e) ∙ q_is in
    let forward : p < q = rows_apart text h y p q is short p_is next in
    let enough : h.size.w ≤ ended_in (drop p (take q text)) = omega (arith, row_ends text h y p q is kept short p_is q_is) in
    whole_row h.size.w (drop p (take q text)) (drop q text) enough ∙ ap (row_of h.size.w) (then_rest p q text (omega arith)) ∙ row_is_line text h y p is kept short p_is
