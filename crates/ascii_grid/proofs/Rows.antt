-- A row that is read in pieces has the values of the tokens of all its bytes.
use Rattle.std.proofs.Common.{◌≡◌, ℕ, ℤ, pos, Bool, true, false, List, [], ◌∷◌, ◌++◌, refl, sym, ap, ◌∙◌, ⊎_elim, take, length, ◌≤◌, ◌<◌, ◌+◌, ◌-◌, arith, cond, map, replicate, set, suc, add-one, min}
use Rattle.std.specs.Prelude.{◌==◌, nat_le}
use Rattle.std.proofs.lemmas.List.{length-set, length-replicate, take_all, take-replicate, append_assoc, append-nil}
use Rattle.std.proofs.Math.Seq.{take-suc-set}
use Rattle.std.specs.List.{fold, take_while}
use Rattle.std.proofs.lemmas.List.Sums.{take_while-cons, fold-append}
use Rattle.std.proofs.lemmas.Bool.{cases_Bool, cases_lt, lt-ltb, le-ltb}
use Rattle.std.proofs.lemmas.Bool.Decides.{nat_tests}
use Rattle.lists_and_answers.specs.Texts.{is_white}
use Rattle.ascii_grid.specs.Tokens.{Token, tokens_from, tokens, is_dark, token, next}
use Rattle.ascii_grid.specs.Scan.{is_open, opened, passed, push}
use Rattle.ascii_grid.specs.Row.{Row, Reading, put, row_ended, row_byte, row_fed, row_of, value_or_zero, RowNow, Fills, reading, fresh, ended_from, ended_in}
use Rattle.ascii_grid.specs.Scanning.{padded}
use Rattle.ascii_grid.proofs.Pieces.{rest_of, open_at, push_then, push_small, push_open, whole_token}

abbrev pub put_all : Row → List Token → Row
put_all r ts = fold (λ r t. put r t.text) r ts

byte_white : (s : Reading) (c : ℕ) → is_white c ≡ true → row_byte s c ≡ record { held = passed s.held; row = row_ended s }
unfolding row_byte
byte_white s c w = rw w refl

byte_dark : (s : Reading) (c : ℕ) → is_white c ≡ false → row_byte s c ≡ record { held = opened s.held c; row = s.row }
unfolding row_byte
byte_dark s c w = rw w refl

-- the tokens that are still to come, before and after a byte
white_rest : (c : ℕ) (cs : List ℕ) (at begun : ℕ) → is_white c ≡ true → rest_of (open_at (next at) begun []) cs ≡ rest_of (open_at at begun []) (c ∷ cs)
white_rest c cs at begun w = rw w refl

dark_rest : (c : ℕ) (cs : List ℕ) (at begun : ℕ) → is_white c ≡ false → rest_of (open_at (next at) at (c ∷ [])) cs ≡ rest_of (open_at at begun []) (c ∷ cs)
dark_rest c cs at begun w = rw (take_while-cons is_dark c cs, w) refl

white_rest_open : (c : ℕ) (cs : List ℕ) (at begun : ℕ) (x : ℕ) (xs : List ℕ) → length (x ∷ xs) ≤ 65 → is_white c ≡ true → record { at = begun; text = x ∷ xs } ∷ rest_of (open_at (next at) begun []) cs ≡ rest_of (open_at at begun (x ∷ xs)) (c ∷ cs)
white_rest_open c cs at begun x xs small w = rw (take_while-cons is_dark c cs, w) (ap (λ t. record { at = begun; text = t } ∷ tokens_from false (next at) cs) (whole_token (x ∷ xs) small))

dark_rest_open : (c : ℕ) (cs : List ℕ) (at begun : ℕ) (x : ℕ) (xs : List ℕ) → length (x ∷ xs) ≤ 65 → is_white c ≡ false → rest_of (open_at (next at) begun (push (x ∷ xs) c)) cs ≡ rest_of (open_at at begun (x ∷ xs)) (c ∷ cs)
dark_rest_open c cs at begun x xs small w = rw (take_while-cons is_dark c cs, w)
    (ap (λ b. cond b (token begun (push (x ∷ xs) c ++ take_while is_dark cs) ∷ tokens_from true (next at) cs) (tokens_from false (next at) cs)) (push_open x xs c)
    ∙ ap (λ t. record { at = begun; text = t } ∷ tokens_from true (next at) cs) (push_then (x ∷ xs) c (take_while is_dark cs) small))

abbrev after : ℕ → ℕ → List ℕ → Row → List ℕ → Row
after at begun text r bytes = row_ended (row_fed (record { held = open_at at begun text; row = r }) bytes)

pub row_tokens : (bytes : List ℕ) (at begun : ℕ) (text : List ℕ) (r : Row) → length text ≤ 65 → after at begun text r bytes ≡ put_all r (rest_of (open_at at begun text) bytes)
row_tokens [] at begun [] r small = refl
row_tokens [] at begun (x ∷ xs) r small = ap (put r) (whole_token (x ∷ xs) small)
row_tokens (c ∷ cs) at begun [] r small =
    ⊎_elim
    (λ (w : is_white c ≡ true). ap (λ s. row_ended (row_fed s cs)) (byte_white (record { held = open_at at begun []; row = r }) c w)
    ∙ row_tokens cs (next at) begun [] r small
    ∙ ap (put_all r) (white_rest c cs at begun w))
    (λ (w : is_white c ≡ false). ap (λ s. row_ended (row_fed s cs)) (byte_dark (record { held = open_at at begun []; row = r }) c w)
    ∙ row_tokens cs (next at) at (c ∷ []) r (omega arith)
    ∙ ap (put_all r) (dark_rest c cs at begun w))
    (cases_Bool (is_white c))
row_tokens (c ∷ cs) at begun (x ∷ xs) r small =
    ⊎_elim
    (λ (w : is_white c ≡ true). ap (λ s. row_ended (row_fed s cs)) (byte_white (record { held = open_at at begun (x ∷ xs); row = r }) c w)
    ∙ row_tokens cs (next at) begun [] (put r (x ∷ xs)) (omega arith)
    ∙ ap (put_all r) (white_rest_open c cs at begun x xs small w))
    (λ (w : is_white c ≡ false). ap (λ s. row_ended (row_fed s cs)) (byte_dark (record { held = open_at at begun (x ∷ xs); row = r }) c w)
    ∙ row_tokens cs (next at) begun (push (x ∷ xs) c) r (push_small (x ∷ xs) c small)
    ∙ ap (put_all r) (dark_rest_open c cs at begun x xs small w))
    (cases_Bool (is_white c))

abbrev values : List Token → List ℤ
values ts = map (λ t. value_or_zero t.text) ts

one_more : (out rest : List ℤ) (filled : ℕ) (v : ℤ) → filled < length out → take (filled + 1) (set out filled v) ++ take (length (set out filled v) - (filled + 1)) rest ≡ take filled out ++ take (length out - filled) (v ∷ rest)
one_more out rest filled v less =
    let front : take (filled + 1) (set out filled v) ≡ take filled out ++ v ∷ [] = rw add-one (take-suc-set out filled v less) in
    let count : length out - filled ≡ suc (length out - (filled + 1)) = omega arith in
    rw (front, length-set out filled v, count) (append_assoc (take filled out) (v ∷ []) (take (length out - (filled + 1)) rest))

no_room : (out rest more : List ℤ) (filled : ℕ) → length out ≤ filled → take filled out ++ take (length out - filled) rest ≡ take filled out ++ take (length out - filled) more
no_room out rest more filled past = let none : length out - filled ≡ 0 = omega arith in rw none refl

put_within : (filled : ℕ) (out : List ℤ) (text : List ℕ) → filled < length out → put (record { filled = filled; out = out }) text ≡ record { filled = filled + 1; out = set out filled (value_or_zero text) }
put_within filled out text less = rw (lt-ltb filled (length out) less) refl

-- a row that is full stays as it is
put_full : (filled : ℕ) (out : List ℤ) (text : List ℕ) → filled ≡ length out → put (record { filled = filled; out = out }) text ≡ record { filled = filled; out = out }
put_full filled out text full = rw (le-ltb filled (length out) (omega arith)) refl

put_padded : (ts : List Token) (filled m : ℕ) (out : List ℤ) → filled ≤ length out → length out ≤ filled + m → padded (put_all (record { filled = filled; out = out }) ts) ≡ take filled out ++ take (length out - filled) (values ts ++ replicate m (pos 0))
put_padded [] filled m out room enough = ap (λ (zs : List ℤ). take filled out ++ zs) (sym (take-replicate (length out - filled) m (pos 0) (omega arith)))
put_padded (t ∷ ts) filled m out room enough =
    ⊎_elim
    (λ (less : filled < length out). ap (λ r. padded (put_all r ts)) (put_within filled out t.text less) ∙
    (let long : length (set out filled (value_or_zero t.text)) ≡ length out = length-set out filled (value_or_zero t.text) in
    put_padded ts (filled + 1) m (set out filled (value_or_zero t.text)) (omega arith) (omega arith)
    ∙ one_more out (values ts ++ replicate m (pos 0)) filled (value_or_zero t.text) less))
    (λ (past : length out ≤ filled). ap (λ r. padded (put_all r ts)) (put_full filled out t.text (omega arith)) ∙ (put_padded ts filled m out room enough ∙ no_room out (values ts ++ replicate m (pos 0)) (values (t ∷ ts) ++ replicate m (pos 0)) filled past))
    (cases_lt filled (length out))

pub closed_row : (s : RowNow) (out : List ℤ) (text : List ℕ) → Fills s out text → padded (row_ended (reading s out)) ≡ row_of (length out) text
closed_row s out text f =
    let all : length f.before - 0 ≡ length f.before = omega arith in
    ap (λ x. padded (row_ended x)) f.read ∙ ap padded (row_tokens text 0 0 [] (record { filled = 0; out = f.before }) (omega arith))
    ∙ put_padded (tokens text) 0 (length f.before) f.before (omega arith) (omega arith)
    ∙ ap (λ n. take n (values (tokens text) ++ replicate (length f.before) (pos 0))) all
    ∙ ap (λ n. take n (values (tokens text) ++ replicate n (pos 0))) f.size

ended_full : (b : Bool) (filled : ℕ) (out : List ℤ) (text : List ℕ) → filled ≡ length out → cond b (put (record { filled = filled; out = out }) text) (record { filled = filled; out = out }) ≡ record { filled = filled; out = out }
ended_full true filled out text full = put_full filled out text full
ended_full false filled out text full = refl

padded_full : (filled : ℕ) (out : List ℤ) → filled ≡ length out → padded (record { filled = filled; out = out }) ≡ out
padded_full filled out full = let none : length out - filled ≡ 0 = omega arith in rw none (append-nil (take filled out) ∙ take_all filled out (omega arith))

full_row : (s : RowNow) (out : List ℤ) (text : List ℕ) → Fills s out text → s.filled ≡ length out → out ≡ row_of (length out) text
full_row s out text f full = sym (padded_full s.filled out full) ∙ sym (ap padded (ended_full (is_open s.held.text) s.filled out s.held.text full)) ∙ closed_row s out text f

pub fills_more : (s t : RowNow) (out new : List ℤ) (text piece : List ℕ) → Fills s out text → reading t new ≡ row_fed (reading s out) piece → t.over ≡ s.over → length new ≡ length out → Fills t new (text ++ piece)
fills_more s t out new text piece f is over size = record { before = f.before; size = f.size ∙ sym size; going = over ∙ f.going; read = is ∙ ap (λ x. row_fed x piece) f.read ∙ sym (fold-append row_byte (reading fresh f.before) text piece) }

pub full_more : (s t : RowNow) (out new : List ℤ) (text piece : List ℕ) → Fills s out text → reading t new ≡ row_fed (reading s out) piece → t.over ≡ s.over → length new ≡ length out → t.filled ≡ length new → new ≡ row_of (length new) (text ++ piece)
full_more s t out new text piece f is over size full = full_row t new (text ++ piece) (fills_more s t out new text piece f is over size) full

pub closed_more : (s : RowNow) (out new : List ℤ) (text piece : List ℕ) → Fills s out text → piece ≡ [] → new ≡ padded (row_ended (reading s out)) → length new ≡ length out → new ≡ row_of (length new) (text ++ piece)
closed_more s out new text piece f none is size = is ∙ closed_row s out text f ∙ ap (λ n. row_of n text) (sym size) ∙ ap (row_of (length new)) (sym (append-nil text) ∙ ap (λ (p : List ℕ). text ++ p) (sym none))

-- how many are filled

pub ended_white : (c : ℕ) (cs : List ℕ) (b : Bool) → is_white c ≡ true → ended_from b (c ∷ cs) ≡ cond b (1 + ended_from false cs) (ended_from false cs)
ended_white c cs b w = rw w refl

pub ended_dark : (c : ℕ) (cs : List ℕ) (b : Bool) → is_white c ≡ false → ended_from b (c ∷ cs) ≡ ended_from true cs
ended_dark c cs b w = rw w refl

filled_is : (bytes : List ℕ) (at begun : ℕ) (text : List ℕ) (filled : ℕ) (out : List ℤ) → filled ≤ length out → (row_fed (record { held = open_at at begun text; row = record { filled = filled; out = out } }) bytes).row.filled ≡ min (length out) (filled + ended_from (is_open text) bytes)
filled_is [] at begun text filled out room = omega arith
filled_is (c ∷ cs) at begun [] filled out room =
    ⊎_elim
    (λ (w : is_white c ≡ true). ap (λ s. (row_fed s cs).row.filled) (byte_white (record { held = open_at at begun []; row = record { filled = filled; out = out } }) c w) ∙ filled_is cs (next at) begun [] filled out room ∙ ap (λ k. min (length out) (filled + k)) (sym (ended_white c cs false w)))
    (λ (w : is_white c ≡ false). ap (λ s. (row_fed s cs).row.filled) (byte_dark (record { held = open_at at begun []; row = record { filled = filled; out = out } }) c w) ∙ filled_is cs (next at) at (c ∷ []) filled out room ∙ ap (λ k. min (length out) (filled + k)) (sym (ended_dark c cs false w)))
    (cases_Bool (is_white c))
filled_is (c ∷ cs) at begun (x ∷ xs) filled out room =
    ⊎_elim
    (λ (w : is_white c ≡ true). ap (λ s. (row_fed s cs).row.filled) (byte_white (record { held = open_at at begun (x ∷ xs); row = record { filled = filled; out = out } }) c w)
    ∙ ⊎_elim
    (λ (less : filled < length out).
    let long : length (set out filled (value_or_zero (x ∷ xs))) ≡ length out = length-set out filled (value_or_zero (x ∷ xs)) in
    ap (λ r. (row_fed (record { held = open_at (next at) begun []; row = r }) cs).row.filled) (put_within filled out (x ∷ xs) less) ∙ filled_is cs (next at) begun [] (filled + 1) (set out filled (value_or_zero (x ∷ xs))) (omega arith) ∙ omega arith)
    (λ (past : length out ≤ filled).
    ap (λ r. (row_fed (record { held = open_at (next at) begun []; row = r }) cs).row.filled) (put_full filled out (x ∷ xs) (omega arith)) ∙ filled_is cs (next at) begun [] filled out room ∙ omega arith)
    (cases_lt filled (length out))
    ∙ ap (λ k. min (length out) (filled + k)) (sym (ended_white c cs true w)))
    (λ (w : is_white c ≡ false). ap (λ s. (row_fed s cs).row.filled) (byte_dark (record { held = open_at at begun (x ∷ xs); row = record { filled = filled; out = out } }) c w) ∙ filled_is cs (next at) begun (push (x ∷ xs) c) filled out room ∙ ap (λ b. min (length out) (filled + ended_from b cs)) (push_open x xs c) ∙ ap (λ k. min (length out) (filled + k)) (sym (ended_dark c cs true w)))
    (cases_Bool (is_white c))

full_test : (n e : ℕ) → (min n e == n) ≡ nat_le n e
full_test n e = grind (arith, nat_tests)

pub ended_more : (s t : RowNow) (out new : List ℤ) (text piece : List ℕ) → Fills s out text → reading t new ≡ row_fed (reading s out) piece → t.over ≡ s.over → length new ≡ length out → (t.filled == length new) ≡ nat_le (length new) (ended_in (text ++ piece))
ended_more s t out new text piece f is over size =
    let g : Fills t new (text ++ piece) = fills_more s t out new text piece f is over size in
    let count : t.filled ≡ min (length g.before) (0 + ended_in (text ++ piece)) = ap (λ r. r.row.filled) g.read ∙ filled_is (text ++ piece) 0 0 [] 0 g.before (omega arith) in
    let same : t.filled ≡ min (length new) (ended_in (text ++ piece)) = omega (arith, count, g.size) in
    ap (λ k. k == length new) same ∙ full_test (length new) (ended_in (text ++ piece))

-- a row that is whole stays, however its text goes on

length_put : (filled : ℕ) (out : List ℤ) (text : List ℕ) → length (put (record { filled = filled; out = out }) text).out ≡ length out
length_put filled out text =
    ⊎_elim
    (λ (less : filled < length out). ap (λ r. length r.out) (put_within filled out text less) ∙ length-set out filled (value_or_zero text))
    (λ (past : length out ≤ filled). rw (le-ltb filled (length out) past) refl)
    (cases_lt filled (length out))

length_ended : (b : Bool) (filled : ℕ) (out : List ℤ) (text : List ℕ) → length (cond b (put (record { filled = filled; out = out }) text) (record { filled = filled; out = out })).out ≡ length out
length_ended true filled out text = length_put filled out text
length_ended false filled out text = refl

length_fed : (bytes : List ℕ) (s : Reading) → length (row_fed s bytes).row.out ≡ length s.row.out
length_fed [] s = refl
length_fed (c ∷ cs) s =
    ⊎_elim
    (λ (w : is_white c ≡ true). ap (λ t. length (row_fed t cs).row.out) (byte_white s c w) ∙ length_fed cs (record { held = passed s.held; row = row_ended s }) ∙ length_ended (is_open s.held.text) s.row.filled s.row.out s.held.text)
    (λ (w : is_white c ≡ false). ap (λ t. length (row_fed t cs).row.out) (byte_dark s c w) ∙ length_fed cs (record { held = opened s.held c; row = s.row }))
    (cases_Bool (is_white c))

full_stays : (bytes : List ℕ) (s : Reading) → s.row.filled ≡ length s.row.out → (row_fed s bytes).row ≡ s.row
full_stays [] s full = refl
full_stays (c ∷ cs) s full =
    ⊎_elim
    (λ (w : is_white c ≡ true).
    let same : row_ended s ≡ s.row = ended_full (is_open s.held.text) s.row.filled s.row.out s.held.text full in
    ap (λ t. (row_fed t cs).row) (byte_white s c w) ∙ ap (λ r. (row_fed (record { held = passed s.held; row = r }) cs).row) same ∙ full_stays cs (record { held = passed s.held; row = s.row }) full)
    (λ (w : is_white c ≡ false). ap (λ t. (row_fed t cs).row) (byte_dark s c w) ∙ full_stays cs (record { held = opened s.held c; row = s.row }) full)
    (cases_Bool (is_white c))

abbrev empty_row : ℕ → Reading
empty_row w = record { held = open_at 0 0 []; row = record { filled = 0; out = replicate w (pos 0) } }

-- what was read of a text, padded, is its row
read_row : (w : ℕ) (text : List ℕ) → padded (row_ended (row_fed (empty_row w) text)) ≡ row_of w text
read_row w text =
    let count : length (replicate w (pos 0)) ≡ w = length-replicate w (pos 0) in
    ap padded (row_tokens text 0 0 [] (record { filled = 0; out = replicate w (pos 0) }) (omega arith))
    ∙ put_padded (tokens text) 0 w (replicate w (pos 0)) (omega arith) (omega arith)
    ∙ (let all : length (replicate w (pos 0)) - 0 ≡ w = omega arith in ap (λ n. take n (values (tokens text) ++ replicate w (pos 0))) all)

full_out : (s : Reading) → s.row.filled ≡ length s.row.out → padded (row_ended s) ≡ s.row.out
full_out s full = ap padded (ended_full (is_open s.held.text) s.row.filled s.row.out s.held.text full) ∙ padded_full s.row.filled s.row.out full

pub whole_row : (w : ℕ) (text more : List ℕ) → w ≤ ended_in text → row_of w text ≡ row_of w (text ++ more)
whole_row w text more enough =
    let s : Reading = row_fed (empty_row w) text in
    let len : length s.row.out ≡ w = length_fed text (empty_row w) ∙ length-replicate w (pos 0) in
    let count : s.row.filled ≡ min (length (replicate w (pos 0))) (0 + ended_in text) = filled_is text 0 0 [] 0 (replicate w (pos 0)) (omega arith) in
    let full : s.row.filled ≡ length s.row.out = omega (arith, count, len, length-replicate w (pos 0)) in
    let t : Reading = row_fed s more in
    let same : t.row ≡ s.row = full_stays more s full in
    let full_t : t.row.filled ≡ length t.row.out = ap (λ r. r.filled) same ∙ full ∙ sym (ap (λ r. length r.out) same) in
    sym (read_row w text) ∙ full_out s full ∙ sym (ap (λ r. r.out) same) ∙ sym (full_out t full_t)
    ∙ sym (ap (λ x. padded (row_ended x)) (fold-append row_byte (empty_row w) text more)) ∙ read_row w (text ++ more)

pub fresh_fills : (out : List ℤ) → Fills fresh out []
fresh_fills out = record { before = out; size = refl; going = refl; read = refl }

-- how many samples are filled behind a piece
pub counted : (s t : RowNow) (out new : List ℤ) (piece : List ℕ) → s.filled ≤ length out → reading t new ≡ row_fed (reading s out) piece → t.filled ≡ min (length out) (s.filled + ended_from (is_open s.held.text) piece)
counted s t out new piece room is = ap (λ r. r.row.filled) is ∙ filled_is piece s.held.at s.held.begun s.held.text s.filled out room
