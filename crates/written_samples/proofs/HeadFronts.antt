-- The head that tokens give doesn't rest on those behind its body's first one.
use Rattle.std.proofs.Common.{◌≡◌, ◌≢◌, ℕ, ℤ, ◌+◌, ◌-◌, ◌*◌, ◌<◌, ◌≤◌, ◌⊎◌, inl, inr, ⊎_elim, true, false, List, [], ◌∷◌, ◌++◌, length, Option, Some, None, Result, Ok, Err, ok_or, refl, sym, ap, ◌∙◌, arith}
use Rattle.std.proofs.lemmas.Bool.{cases_Bool, ne_eqb}
use Rattle.lists_and_answers.specs.Answers.{◌>>=◌}
use Rattle.ascii_grid.specs.declared.faults.GridFault.{GridFault}
use Rattle.ascii_grid.specs.declared.faults.GridFault.TheVariants.{BadToken, TooFew}
use Rattle.ascii_grid.specs.declared.head_parts.Found.{Found}
use Rattle.ascii_grid.specs.declared.head_parts.Shape.{Shape}
use Rattle.ascii_grid.specs.declared.head_parts.Key.{Key}
use Rattle.ascii_grid.specs.Tokens.{Token, tokens}
use Rattle.ascii_grid.specs.Values.{is_body_start, value_in}
use Rattle.ascii_grid.specs.Keys.{key_of, with_value, shape_of}
use Rattle.ascii_grid.specs.Grid.{Head, Grid, head_with, head_of, body_of, rows_of, nothing, grid_in, grid_of}

abbrev pub behind : Result (Found × List Token) GridFault → List Token
behind (Ok h) = h.1
behind (Err f) = []

abbrev pub found_in : Result (Found × List Token) GridFault → Found
found_in (Ok h) = h.0
found_in (Err f) = nothing

abbrev passed_over : Found → Result (Found × List Token) GridFault
passed_over g = Ok (g, [])

-- the body is no longer than the tokens

short_value : (q : Result Found GridFault) (g : Found) (more body : List Token) → ((f : Found) → head_of f more ≡ Ok (g, body) → length body ≤ length more) → (q >>= λ f. head_of f more) ≡ Ok (g, body) → length body ≤ length more
short_value (Err fault) g more body follows is = cc
short_value (Ok f) g more body follows is = follows f is

short_pair : (q : Option Key) (r : Key → Result Found GridFault) (g : Found) (at : ℕ) (more body : List Token) → ((f : Found) → head_of f more ≡ Ok (g, body) → length body ≤ length more) → (ok_or q (BadToken at) >>= λ key. r key >>= λ f. head_of f more) ≡ Ok (g, body) → length body ≤ length more
short_pair None r g at more body follows is = cc
short_pair (Some key) r g at more body follows is = short_value (r key) g more body follows is

-- a key that is the last token
last_key : (q : Option Key) (f g : Found) (at : ℕ) (body : List Token) → (ok_or q (BadToken at) >>= λ key. passed_over f) ≡ Ok (g, body) → [] ≡ body
last_key None f g at body is = cc
last_key (Some key) f g at body is = ap behind is

body_short : (ts : List Token) (f g : Found) (body : List Token) → head_of f ts ≡ Ok (g, body) → length body ≤ length ts
unfolding head_of
body_short [] f g body is = let e = ap length (ap behind is) in omega arith
body_short (k ∷ []) f g body is =
    ⊎_elim
    (λ (start : is_body_start k.text ≡ true). let e = rw start at is in let n = ap length (ap behind e) in omega arith)
    (λ (other : is_body_start k.text ≡ false). let n = ap length (last_key (key_of k.text) f g k.at body (rw other at is)) in omega arith)
    (cases_Bool (is_body_start k.text))
body_short (k ∷ (v ∷ more)) f g body is =
    ⊎_elim
    (λ (start : is_body_start k.text ≡ true). let e = rw start at is in let n = ap length (ap behind e) in omega arith)
    (λ (other : is_body_start k.text ≡ false). let n = short_pair (key_of k.text) (λ key. with_value f key v) g k.at more body (λ h. body_short more h g body) (rw other at is) in omega arith)
    (cases_Bool (is_body_start k.text))

-- behind a key and its value
body_later : (k : Token) (ts : List Token) (f g : Found) (body : List Token) → is_body_start k.text ≡ false → head_of f (k ∷ ts) ≡ Ok (g, body) → length body + 1 ≤ length ts ⊎ (body ≡ [])
unfolding head_of
body_later k [] f g body other is = inr (sym (last_key (key_of k.text) f g k.at body (rw other at is)))
body_later k (v ∷ more) f g body other is =
    let n = short_pair (key_of k.text) (λ key. with_value f key v) g k.at more body (λ h. body_short more h g body) (rw other at is) in
    inl (omega arith)

-- the same head is found in front of other tokens
pub record IsSwapped (q : Result (Found × List Token) GridFault) (g : Found) (end other body : List Token) : Type 0 where
  pub rest : List Token
  pub body_is : body ≡ rest ++ end
  pub same : q ≡ Ok (g, rest ++ other)

swap_value : (q : Result Found GridFault) (g : Found) (more end other body : List Token) → ((f : Found) → head_of f (more ++ end) ≡ Ok (g, body) → IsSwapped (head_of f (more ++ other)) g end other body) → (q >>= λ f. head_of f (more ++ end)) ≡ Ok (g, body) → IsSwapped (q >>= λ f. head_of f (more ++ other)) g end other body
swap_value (Err fault) g more end other body follows is = absurd cc
swap_value (Ok f) g more end other body follows is = follows f is

swap_pair : (q : Option Key) (r : Key → Result Found GridFault) (g : Found) (at : ℕ) (more end other body : List Token) → ((f : Found) → head_of f (more ++ end) ≡ Ok (g, body) → IsSwapped (head_of f (more ++ other)) g end other body) → (ok_or q (BadToken at) >>= λ key. r key >>= λ f. head_of f (more ++ end)) ≡ Ok (g, body) → IsSwapped (ok_or q (BadToken at) >>= λ key. r key >>= λ f. head_of f (more ++ other)) g end other body
swap_pair None r g at more end other body follows is = absurd cc
swap_pair (Some key) r g at more end other body follows is = swap_value (r key) g more end other body follows is

-- a token that begins the body
starts : (k : Token) (ts : List Token) (f : Found) → is_body_start k.text ≡ true → head_of f (k ∷ ts) ≡ Ok (f, k ∷ ts)
unfolding head_of
starts k [] f start = rw start refl
starts k (v ∷ more) f start = rw start refl

started : (k : Token) (more end other body : List Token) (f g : Found) → is_body_start k.text ≡ true → head_of f (k ∷ (more ++ end)) ≡ Ok (g, body) → IsSwapped (head_of f (k ∷ (more ++ other))) g end other body
started k more end other body f g start is =
    let e : Ok (f, k ∷ (more ++ end)) ≡ Ok (g, body) = sym (starts k (more ++ end) f start) ∙ is in
    record {
      rest = k ∷ more;
      body_is = sym (ap behind e);
      same = starts k (more ++ other) f start ∙ ap (λ (x : Found). Ok (x, k ∷ (more ++ other))) (ap found_in e);
    }

-- nothing stands behind, or not all of the body does
abbrev pub IsEnough : List Token → List Token → List Token → Type 0
IsEnough end other body = (length end < length body) ⊎ ((other ≡ []) × (length end ≤ length body))

-- no token in front
swap_none : (end other body : List Token) (f g : Found) → head_of f end ≡ Ok (g, body) → IsEnough end other body → IsSwapped (head_of f other) g end other body
unfolding head_of
swap_none end other body f g is (inl less) = let n = body_short end f g body is in absurd (omega arith)
swap_none [] other body f g is (inr none) = record { rest = []; body_is = sym (ap behind is); same = ap (head_of f) none.0 ∙ ap (λ (x : Found). Ok (x, [])) (ap found_in is) ∙ ap (λ (ts : List Token). Ok (g, ts)) (sym none.0) }
swap_none (k ∷ end) other body f g is (inr none) =
    ⊎_elim
    (λ (start : is_body_start k.text ≡ true).
    let e : Ok (f, k ∷ end) ≡ Ok (g, body) = sym (starts k end f start) ∙ is in
    record { rest = []; body_is = sym (ap behind e); same = ap (head_of f) none.0 ∙ ap (λ (x : Found). Ok (x, [])) (ap found_in e) ∙ ap (λ (ts : List Token). Ok (g, ts)) (sym none.0) })
    (λ (key : is_body_start k.text ≡ false). let n = none.1 in ⊎_elim
    (λ (few : length body + 1 ≤ length end). absurd (omega arith))
    (λ (empty : body ≡ []). let m = ap length empty in absurd (omega arith))
    (body_later k end f g body key is))
    (cases_Bool (is_body_start k.text))

-- one token in front, which is a key
swap_key : (k : Token) (end other body : List Token) (f g : Found) → is_body_start k.text ≡ false → head_of f (k ∷ end) ≡ Ok (g, body) → IsEnough end other body → IsSwapped (head_of f (k ∷ other)) g end other body
swap_key k end other body f g key is (inl less) = ⊎_elim
    (λ (few : length body + 1 ≤ length end). absurd (omega arith))
    (λ (empty : body ≡ []). let m = ap length empty in absurd (omega arith))
    (body_later k end f g body key is)
swap_key k [] other body f g key is (inr none) = record {
  rest = body;
  body_is = sym (append_none body);
  same = ap (λ (ts : List Token). head_of f (k ∷ ts)) none.0 ∙ is ∙ ap (λ (ts : List Token). Ok (g, ts)) (sym (ap (λ (ts : List Token). body ++ ts) none.0 ∙ append_none body));
}
  where
    append_none : (ts : List Token) → ts ++ [] ≡ ts
    append_none [] = refl
    append_none (t ∷ ts) = ap (λ (us : List Token). t ∷ us) (append_none ts)
swap_key k (v ∷ end) other body f g key is (inr none) = let n = none.1 in ⊎_elim
    (λ (few : length body + 1 ≤ length (v ∷ end)). absurd (omega arith))
    (λ (empty : body ≡ []). let m = ap length empty in absurd (omega arith))
    (body_later k (v ∷ end) f g body key is)

pub head_swapped : (ts end other body : List Token) (f g : Found) → head_of f (ts ++ end) ≡ Ok (g, body) → IsEnough end other body → IsSwapped (head_of f (ts ++ other)) g end other body
unfolding head_of
head_swapped [] end other body f g is enough = swap_none end other body f g is enough
head_swapped (k ∷ []) end other body f g is enough =
    ⊎_elim
    (λ (start : is_body_start k.text ≡ true). started k [] end other body f g start is)
    (λ (key : is_body_start k.text ≡ false). swap_key k end other body f g key is enough)
    (cases_Bool (is_body_start k.text))
head_swapped (k ∷ (v ∷ more)) end other body f g is enough =
    ⊎_elim
    (λ (start : is_body_start k.text ≡ true). started k (v ∷ more) end other body f g start is)
    (λ (key : is_body_start k.text ≡ false).
    let s = swap_pair (key_of k.text) (λ q. with_value f q v) g k.at more end other body (λ h e. head_swapped more end other body h g e enough) (rw key at is) in
    record { rest = s.rest; body_is = s.body_is; same = rw key s.same })
    (cases_Bool (is_body_start k.text))

-- a body of which values are missing

few_first : (q : Result ℤ GridFault) (r s : Result (List ℤ) GridFault) (vs : List ℤ) → ((us : List ℤ) → r ≡ Ok us → s ≡ Err TooFew) → (q >>= λ v. r >>= λ us. Ok (v ∷ us)) ≡ Ok vs → (q >>= λ v. s >>= λ us. Ok (v ∷ us)) ≡ Err TooFew
few_first (Err f) r s vs follows is = absurd cc
few_first (Ok v) (Err f) s vs follows is = absurd cc
few_first (Ok v) (Ok us) s vs follows is = ap (λ (q : Result (List ℤ) GridFault). q >>= λ us. Ok (v ∷ us)) (follows us refl)

pub too_few : (ts end : List Token) (n : ℕ) (vs : List ℤ) → length ts < n → body_of n (ts ++ end) ≡ Ok vs → body_of n ts ≡ Err TooFew
unfolding body_of
too_few [] end n vs less is = let some : n ≢ 0 = omega arith in rw (ne_eqb n 0 some) refl
too_few (t ∷ ts) end n vs less is =
    let some : n ≢ 0 = omega arith in
    let e = rw (ne_eqb n 0 some) at is in
    rw (ne_eqb n 0 some) (few_first (value_in t.at t.text) (body_of (n - 1) (ts ++ end)) (body_of (n - 1) ts) vs (λ us. too_few ts end (n - 1) us (omega arith)) e)

-- what the answer about a text says of it

pub record IsMade (text : List ℕ) (g : Grid) : Type 0 where
  pub found : Found
  pub body : List Token
  pub shape : Shape
  pub head : head_of nothing (tokens text) ≡ Ok (found, body)
  pub shape_is : shape_of found ≡ Ok shape
  pub whole : body_of (shape.w * shape.h) body ≡ Ok g.values
  pub head_is : g.head ≡ head_with shape (rows_of shape.w 0 body)

abbrev grid_from : Shape → List Token → List ℤ → Grid
grid_from s body values = record { head = head_with s (rows_of s.w 0 body); values = values }

from_body : (q : Result (List ℤ) GridFault) (text : List ℕ) (f : Found) (body : List Token) (s : Shape) (g : Grid) → head_of nothing (tokens text) ≡ Ok (f, body) → shape_of f ≡ Ok s → body_of (s.w * s.h) body ≡ q → (q >>= λ values. Ok (grid_from s body values)) ≡ Ok g → IsMade text g
from_body (Err e) text f body s g head shape is all = absurd cc
from_body (Ok vs) text f body s g head shape is all =
    let same : grid_from s body vs ≡ g = cc in
    record { found = f; body = body; shape = s; head = head; shape_is = shape; whole = is ∙ ap (λ (g : Grid). Ok g.values) same; head_is = ap (λ (g : Grid). g.head) (sym same) }

from_shape : (q : Result Shape GridFault) (text : List ℕ) (f : Found) (body : List Token) (g : Grid) → head_of nothing (tokens text) ≡ Ok (f, body) → shape_of f ≡ q → (q >>= λ s. body_of (s.w * s.h) body >>= λ values. Ok (grid_from s body values)) ≡ Ok g → IsMade text g
from_shape (Err e) text f body g head shape is = absurd cc
from_shape (Ok s) text f body g head shape all = from_body (body_of (s.w * s.h) body) text f body s g head shape refl all

from_head : (q : Result (Found × List Token) GridFault) (text : List ℕ) (g : Grid) → head_of nothing (tokens text) ≡ q → (q >>= grid_in) ≡ Ok g → IsMade text g
unfolding grid_in
from_head (Err e) text g is all = absurd cc
from_head (Ok h) text g is all = from_shape (shape_of h.0) text h.0 h.1 g is refl all

pub made_of : (text : List ℕ) (g : Grid) → grid_of text ≡ Ok g → IsMade text g
unfolding grid_of
made_of text g is = from_head (head_of nothing (tokens text)) text g refl is

-- a text with this head and a body of which values are missing
pub refused : (text : List ℕ) (f : Found) (body : List Token) (s : Shape) → head_of nothing (tokens text) ≡ Ok (f, body) → shape_of f ≡ Ok s → body_of (s.w * s.h) body ≡ Err TooFew → grid_of text ≡ Err TooFew
unfolding grid_of grid_in
refused text f body s head shape few = rw (head, shape, few) refl

-- a text that has a head is a grid
pub record IsGridText (text : List ℕ) : Type 0 where
  pub grid : Grid
  pub is : grid_of text ≡ Ok grid

pub grid_text : (q : Result Grid GridFault) (text : List ℕ) (h : Head) → grid_of text ≡ q → (q >>= λ g. Ok g.head) ≡ Ok h → IsGridText text
grid_text (Err e) text h is all = absurd cc
grid_text (Ok g) text h is all = record { grid = g; is = is }
