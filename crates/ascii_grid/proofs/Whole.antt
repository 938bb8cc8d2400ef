-- The machine over tokens answers by the definition.
use Rattle.std.proofs.Common.{◌≡◌, ◌≢◌, ℕ, ℤ, Bool, true, false, List, [], ◌∷◌, ◌++◌, refl, sym, ap, ◌∙◌, Ok, Err, Result, Option, Some, None, ok_or, ⊎_elim, inl, inr, ◌+◌, ◌-◌, ◌*◌, arith, cond}
use Rattle.std.proofs.lemmas.Bool.{cases_Bool, cases_eq, eq-eqb, ne_eqb}
use Rattle.std.proofs.lemmas.Bool.Decides.{nat_tests}
use Rattle.std.proofs.lemmas.List.{append-nil, append_assoc}
use Rattle.lists_and_answers.specs.Answers.{◌>>=◌, Gives}
use Rattle.ascii_grid.specs.declared.faults.GridFault.{GridFault}
use Rattle.ascii_grid.specs.declared.faults.GridFault.TheVariants.{BadToken, TooMany, Memory}
use Rattle.ascii_grid.specs.declared.head_parts.Found.{Found}
use Rattle.ascii_grid.specs.declared.head_parts.Shape.{Shape}
use Rattle.ascii_grid.specs.declared.head_parts.Key.{Key}
use Rattle.ascii_grid.specs.declared.head_parts.Stage.{Stage}
use Rattle.ascii_grid.specs.declared.head_parts.Stage.TheVariants.{AtKey, AtValue, InBody}
use lib.Dec.{eqb}
use Rattle.ascii_grid.specs.Faults.{IsMemory}
use Rattle.ascii_grid.specs.Tokens.{Token, tokens}
use Rattle.ascii_grid.specs.Values.{is_body_start, value_in}
use Rattle.ascii_grid.specs.Keys.{key_of, with_value, shape_of}
use Rattle.ascii_grid.specs.Scan.{Scanned, Read, step, body_step, scan, start, fed, answer_of, Reads, IsFaultOf}
use Rattle.ascii_grid.specs.Scanning.{add_tokens, closed, finished, grid_after, Reaches}
use Rattle.ascii_grid.specs.Grid.{Head, Grid, head_with, head_of, body_of, rows_of, grid_in, grid_of, grid_head, nothing}
use Rattle.ascii_grid.proofs.Pieces.{stuck_tokens, stuck_bytes, fed_more, ends, ends_is}

abbrev Answer : Type 0
Answer = Result Head GridFault

-- the head of a grid, without its values
abbrev heads_from : List Token → Result Shape GridFault → Answer
heads_from body q = q >>= λ s. body_of (s.w * s.h) body >>= λ values. Ok (head_with s (rows_of s.w 0 body))

abbrev heads : Found × List Token → Answer
heads h = heads_from h.1 (shape_of h.0)

abbrev told : Result Grid GridFault → Answer
told q = q >>= λ g. Ok g.head

told_body : (s : Shape) (body : List Token) (q : Result (List ℤ) GridFault) → told (q >>= λ values. Ok (record { head = head_with s (rows_of s.w 0 body); values = values })) ≡ (q >>= λ values. Ok (head_with s (rows_of s.w 0 body)))
told_body s body (Ok vs) = refl
told_body s body (Err f) = refl

told_shape : (body : List Token) (q : Result Shape GridFault) → told (q >>= λ s. body_of (s.w * s.h) body >>= λ values. Ok (record { head = head_with s (rows_of s.w 0 body); values = values })) ≡ heads_from body q
told_shape body (Ok s) = told_body s body (body_of (s.w * s.h) body)
told_shape body (Err f) = refl

told_in : (q : Result (Found × List Token) GridFault) → told (q >>= grid_in) ≡ (q >>= heads)
unfolding grid_in
told_in (Ok h) = told_shape h.1 (shape_of h.0)
told_in (Err f) = refl

heads_is : (text : List ℕ) → grid_head text ≡ (head_of nothing (tokens text) >>= heads)
unfolding grid_of
heads_is text = told_in (head_of nothing (tokens text))

-- what the tokens make of a stage
abbrev from : Stage → List ℕ → List Token → Answer
from stage rows ts = add_tokens (Ok (record { stage = stage; rows = rows })) ts >>= finished

stuck : (f : GridFault) (ts : List Token) → (add_tokens (Err f) ts >>= finished) ≡ Err f
stuck f ts = ap (λ (x : Result Read GridFault). x >>= finished) (stuck_tokens f ts)

rows_then : (b : Bool) (at : ℕ) (rows rest : List ℕ) → cond b (rows ++ at ∷ []) rows ++ rest ≡ rows ++ cond b (at ∷ rest) rest
rows_then true at rows rest = append_assoc rows (at ∷ []) rest
rows_then false at rows rest = refl

abbrev body_then : Shape → List ℕ → Result (List ℤ) GridFault → Answer
body_then s rows values = values >>= λ vs. Ok (head_with s rows)

body_adds : (v : ℤ) (q : Result (List ℤ) GridFault) (s : Shape) (rows : List ℕ) → body_then s rows q ≡ body_then s rows (q >>= λ vs. Ok (v ∷ vs))
body_adds v (Ok vs) s rows = refl
body_adds v (Err f) s rows = refl

abbrev stepped : Stage → Bool → Result (Stage × Bool) GridFault
stepped next first = Ok (next, first)

-- a token of the body, and what follows
body_more : (q : Result ℤ GridFault) (t : Token) (ts : List Token) (s : Shape) (first : Bool) (next : Stage) (rows rest : List ℕ) (n : ℕ)
    → from next (cond first (rows ++ t.at ∷ []) rows) ts ≡ body_then s (cond first (rows ++ t.at ∷ []) rows ++ rest) (body_of n ts)
    → (add_tokens ((q >>= λ v. stepped next first) >>= λ z. Ok (record { stage = z.0; rows = cond z.1 (rows ++ t.at ∷ []) rows })) ts >>= finished) ≡ body_then s (rows ++ cond first (t.at ∷ rest) rest) (q >>= λ v. body_of n ts >>= λ vs. Ok (v ∷ vs))
body_more (Err f) t ts s first next rows rest n follows = stuck f ts
body_more (Ok v) t ts s first next rows rest n follows = follows ∙ ap (λ all. body_then s all (body_of n ts)) (rows_then first t.at rows rest) ∙ body_adds v (body_of n ts) s (rows ++ cond first (t.at ∷ rest) rest)

test_left : (left n m : ℕ) → n + left ≡ m → eqb n m ≡ eqb left 0
test_left left n m e = grind (arith, nat_tests)

body_is : (ts : List Token) (s : Shape) (n x left : ℕ) (rows : List ℕ) → n + left ≡ s.w * s.h → from (InBody s n x) rows ts ≡ body_then s (rows ++ rows_of s.w x ts) (body_of left ts)
unfolding finished closed step body_step body_of
body_is [] s n x left rows count =
    ⊎_elim
    (λ (e : left ≡ 0). rw (test_left left n (s.w * s.h) count, eq-eqb left 0 e, append-nil) refl)
    (λ (e : left ≢ 0). rw (test_left left n (s.w * s.h) count, ne_eqb left 0 e) refl)
    (cases_eq left 0)
body_is (t ∷ ts) s n x left rows count =
    ⊎_elim
    (λ (e : left ≡ 0). rw (test_left left n (s.w * s.h) count, eq-eqb left 0 e) (stuck (TooMany t.at) ts))
    (λ (e : left ≢ 0).
    ⊎_elim
    (λ (last : x + 1 ≡ s.w). rw (test_left left n (s.w * s.h) count, ne_eqb left 0 e, eq-eqb (x + 1) s.w last)
    (body_more (value_in t.at t.text) t ts s (eqb x 0) (InBody s (n + 1) 0) rows (rows_of s.w 0 ts) (left - 1)
    (body_is ts s (n + 1) 0 (left - 1) (cond (eqb x 0) (rows ++ t.at ∷ []) rows) (omega arith))))
    (λ (within : x + 1 ≢ s.w). rw (test_left left n (s.w * s.h) count, ne_eqb left 0 e, ne_eqb (x + 1) s.w within)
    (body_more (value_in t.at t.text) t ts s (eqb x 0) (InBody s (n + 1) (x + 1)) rows (rows_of s.w (x + 1) ts) (left - 1)
    (body_is ts s (n + 1) (x + 1) (left - 1) (cond (eqb x 0) (rows ++ t.at ∷ []) rows) (omega arith))))
    (cases_eq (x + 1) s.w))
    (cases_eq left 0)

-- where the body begins
body_starts : (q : Result Shape GridFault) (f : Found) (k : Token) (ts : List Token) → shape_of f ≡ q → is_body_start k.text ≡ true → from (AtKey f) [] (k ∷ ts) ≡ heads (f, k ∷ ts)
unfolding step
body_starts (Err fault) f k ts is start = rw (start, is) (stuck fault ts)
body_starts (Ok s) f k ts is start = rw (start, is) (body_is (k ∷ ts) s 0 0 (s.w * s.h) [] (omega arith))

-- where the text ends in the head
head_ends : (q : Result Shape GridFault) (f : Found) → shape_of f ≡ q → finished (record { stage = AtKey f; rows = [] }) ≡ heads (f, [])
unfolding finished closed
head_ends (Err fault) f is = rw is refl
head_ends (Ok s) f is = rw is (body_is [] s 0 0 (s.w * s.h) [] (omega arith))

-- a key that is the last token
last_key : (q : Option Key) (f : Found) (k : Token) → key_of k.text ≡ q → is_body_start k.text ≡ false → from (AtKey f) [] (k ∷ []) ≡ ((ok_or q (BadToken k.at) >>= λ key. Ok (f, [])) >>= heads)
unfolding step finished closed
last_key None f k is other = rw (other, is) refl
last_key (Some key) f k is other = rw (other, is) (head_ends (shape_of f) f refl)

-- a value, and what follows
value_then : (q : Result Found GridFault) (f : Found) (key : Key) (v : Token) (more : List Token) → with_value f key v ≡ q → ((g : Found) → with_value f key v ≡ Ok g → from (AtKey g) [] more ≡ (head_of g more >>= heads)) → from (AtValue f key) [] (v ∷ more) ≡ ((q >>= λ g. head_of g more) >>= heads)
unfolding step
value_then (Err fault) f key v more is follows = rw is (stuck fault more)
value_then (Ok g) f key v more is follows = rw is (follows g is)

-- a key and its value
pair : (q : Option Key) (f : Found) (k v : Token) (more : List Token) → key_of k.text ≡ q → is_body_start k.text ≡ false → ((g : Found) → from (AtKey g) [] more ≡ (head_of g more >>= heads)) → from (AtKey f) [] (k ∷ (v ∷ more)) ≡ ((ok_or q (BadToken k.at) >>= λ key. with_value f key v >>= λ g. head_of g more) >>= heads)
unfolding step
pair None f k v more is other follows = rw (other, is) (stuck (BadToken k.at) (v ∷ more))
pair (Some key) f k v more is other follows = rw (other, is) (value_then (with_value f key v) f key v more refl (λ g g_is. follows g))

head_is : (ts : List Token) (f : Found) → from (AtKey f) [] ts ≡ (head_of f ts >>= heads)
unfolding head_of
head_is [] f = head_ends (shape_of f) f refl
head_is (k ∷ []) f =
    ⊎_elim
    (λ (start : is_body_start k.text ≡ true). rw start (body_starts (shape_of f) f k [] refl start))
    (λ (other : is_body_start k.text ≡ false). rw other (last_key (key_of k.text) f k refl other))
    (cases_Bool (is_body_start k.text))
head_is (k ∷ (v ∷ more)) f =
    ⊎_elim
    (λ (start : is_body_start k.text ≡ true). rw start (body_starts (shape_of f) f k (v ∷ more) refl start))
    (λ (other : is_body_start k.text ≡ false). rw other (pair (key_of k.text) f k v more refl other (λ g. head_is more g)))
    (cases_Bool (is_body_start k.text))

-- what the machine answers over the tokens is what the definition says
pub tokens_is : (text : List ℕ) → from (AtKey nothing) [] (tokens text) ≡ grid_head text
tokens_is text = head_is (tokens text) nothing ∙ sym (heads_is text)

ends_grid : (s : Scanned) → grid_after s ≡ (ends s >>= finished)
ends_grid (Ok s) = refl
ends_grid (Err f) = refl

-- the scanner's answer behind all bytes
pub scan_is : (text : List ℕ) → grid_after (scan text) ≡ grid_head text
scan_is text = ends_grid (scan text) ∙ ap (λ (r : Result Read GridFault). r >>= finished) (ends_is text 0 0 [] start.read (omega arith)) ∙ tokens_is text

-- a piece more
pub reads_more : (text piece : List ℕ) (old new : Scanned) → Reads old text → Reaches new (fed old piece) → Reads new (text ++ piece)
reads_more text piece old new (inl gone) (inl memory) = inl memory
reads_more text piece old new (inl gone) (inr is) = inl (is ∙ ap (λ (x : Scanned). fed x piece) gone ∙ stuck_bytes Memory piece)
reads_more text piece old new (inr so_far) (inl memory) = inl memory
reads_more text piece old new (inr so_far) (inr is) = inr (is ∙ ap (λ (x : Scanned). fed x piece) so_far ∙ sym (fed_more (Ok start) text piece))

-- the end
pub reads_end : (text : List ℕ) (old : Scanned) (answer : Answer) → Reads old text → Reaches answer (grid_after old) → Reaches answer (grid_head text)
reads_end text old answer (inl gone) (inl memory) = inl memory
reads_end text old answer (inl gone) (inr is) = inl (is ∙ ap grid_after gone)
reads_end text old answer (inr so_far) (inl memory) = inl memory
reads_end text old answer (inr so_far) (inr is) = inr (is ∙ ap grid_after so_far ∙ scan_is text)

-- a fault is that of all bytes, however the text goes on
fault_for_good : (text more : List ℕ) (f : GridFault) → scan text ≡ Err f → grid_head (text ++ more) ≡ Err f
fault_for_good text more f is = sym (scan_is (text ++ more)) ∙ ap grid_after (fed_more (Ok start) text more ∙ ap (λ (x : Scanned). fed x more) is ∙ stuck_bytes f more)

pub reads_fault : (text : List ℕ) (s : Scanned) (f : GridFault) → Reads s text → s ≡ Err f → IsFaultOf f text
reads_fault text s f (inl gone) is = inl (let e : Err f ≡ Err Memory = sym is ∙ gone in cc)
reads_fault text s f (inr so_far) is = inr (λ more. fault_for_good text more f (sym so_far ∙ is))

answer_err : (s : Scanned) (f : GridFault) → answer_of s ≡ Err f → s ≡ Err f
answer_err (Ok s) f is = cc
answer_err (Err g) f is = cc

pub fault_after : (text piece : List ℕ) (old new : Scanned) (answer : Result (Unit {0}) GridFault) (f : GridFault) → Reads old text → Reaches new (fed old piece) → answer ≡ answer_of new → answer ≡ Err f → IsFaultOf f (text ++ piece)
fault_after text piece old new answer f reads reaches is fault = reads_fault (text ++ piece) new f (reads_more text piece old new reads reaches) (answer_err new f (sym is ∙ fault))

-- an answer that is the definition's, or want of memory
pub gives_from : (r d : Answer) → Reaches r d → Gives IsMemory (λ h. h) r d
gives_from (Ok h) d (inl memory) = cc
gives_from (Ok h) d (inr is) = sym is
gives_from (Err f) d (inl memory) = inl cc
gives_from (Err f) d (inr is) = inr (sym is)
