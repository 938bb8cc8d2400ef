-- What is written is scanned again.
use Rattle.std.proofs.Common.{◌≡◌, ◌≢◌, ℕ, ℤ, pos, negsuc, Bool, true, false, List, [], ◌∷◌, ◌++◌, refl, sym, ap, ◌∙◌, take, length, ◌≤◌, ◌<◌, ◌+◌, ◌-◌, ◌*◌, ◌^◌, arith, cond, suc, Option, Some, None, Result, Ok, Err, ok_or, length-append, append_assoc, unsigned_abs, IfSome}
use Rattle.std.specs.Prelude.{neg_ℤ, ◌*ℤ◌, ◌&&◌, ◌||◌, ◌%◌, ◌<ℤ◌, nat_le, nat_lt, codes, int_lt, ◌==◌}
use Rattle.std.specs.List.{take_while, flat_map, list_all, All}
use Rattle.std.specs.Char.{is_ascii_digit}
use Rattle.std.specs.Fmt.{decimal, signed_decimal}
use Rattle.std.proofs.lemmas.Bool.{ne_eqb}
use Rattle.std.proofs.lemmas.Bool.Decides.{nat_tests}
use Rattle.std.proofs.lemmas.Int.{ints}
use Rattle.std.proofs.lemmas.List.{append-nil, take_all}
use Rattle.std.proofs.lemmas.List.Sums.{take_while-cons}
use Rattle.std.proofs.lemmas.Fmt.{digits_decimal, digits_value-decimal, decimal_nonempty, length-decimal-le}
use Rattle.std.proofs.Math.Nat.{mul_comm, suc-mul}
use lib.Dec.{eqb}
use Rattle.lists_and_answers.specs.Answers.{◌>>=◌}
use Rattle.geotransform.specs.Decimal.{sign_at, digits_at, number, signed, is_decimal, number_of, whole_of, parts_of, Decimal}
use Rattle.geotransform.specs.Print.{unit, short_text}
use Rattle.geotransform.specs.Places.{half, sixteen_places, are_same}
use Rattle.geotransform.specs.Geo.{Transform, IsRaster, along}
use Rattle.geotransform.specs.Types.{when_in}
use Rattle.geotransform.specs.declared.types.PixelType.TheVariants.{Int32}
use Rattle.geotransform.specs.declared.types.Size.{Size}
use Rattle.geotransform.proofs.Numbers.{own}
use Rattle.geotransform.proofs.RoundTrip.{AreDigits, digits-cons, sign_none, digits_again, IsShortWord, HasNoBlanks, decimal_word, signed_word, short_word, whole_again, short_again}
use Rattle.ascii_grid.specs.declared.faults.GridFault.{GridFault}
use Rattle.ascii_grid.specs.declared.faults.GridFault.TheVariants.{MissingKey, BadToken, NotInteger, Limit}
use Rattle.ascii_grid.specs.declared.head_parts.Found.{Found}
use Rattle.ascii_grid.specs.declared.head_parts.Shape.{Shape}
use Rattle.ascii_grid.specs.declared.head_parts.LowerLeft.{LowerLeft}
use Rattle.ascii_grid.specs.declared.head_parts.LowerLeft.TheVariants.{Edge}
use Rattle.ascii_grid.specs.declared.head_parts.Key.{Key}
use Rattle.ascii_grid.specs.declared.head_parts.Key.TheVariants.{Ncols, Nrows, Xllcorner, Yllcorner, Cellsize, Dx, Dy, Nodata}
use Rattle.ascii_grid.specs.declared.placing.Placing.{Placing}
use Rattle.ascii_grid.specs.Tokens.{Token, tokens_from, tokens, token, is_dark, next}
use Rattle.lists_and_answers.specs.Texts.{same_letters, is_white}
use Rattle.lists_and_answers.specs.Lists.{flattened}
use Rattle.ascii_grid.specs.Values.{side_in, coordinate_in, step_in, nodata_in, is_body_start, value_in, is_value, is_whole_text, is_whole_end, whole_value}
use Rattle.ascii_grid.specs.Keys.{key_of, with_value, steps_of, placed, shape_of}
use Rattle.ascii_grid.specs.Grid.{head_of, body_of, rows_of, nothing, grid_in, grid_of}
use Rattle.ascii_grid.specs.Text.{more_text, row_text, line, placing_of, size_lines, edge_lines, step_lines, nodata_line, head_lines, head_text, AreRows, IsReadAgain, IsGridOf}
use Rattle.ascii_grid.proofs.Places.{tok_white, tok_inside, tok_begins}

-- words

abbrev passed_by : List ℕ → ℕ → ℕ
passed_by [] at = at
passed_by (c ∷ cs) at = passed_by cs (next at)

dark_of : (c : ℕ) → 32 < c → is_white c ≡ false
dark_of c h = grind (arith, nat_tests)

plain_first : (c : ℕ) (cs : List ℕ) → HasNoBlanks (c ∷ cs) → 32 < c
plain_first c cs p = p 0 0 (omega arith)

plain_more : (c : ℕ) (cs : List ℕ) → HasNoBlanks (c ∷ cs) → HasNoBlanks cs
plain_more c cs p = λ k d less. p (suc k) d (omega arith)

inside : (word tail : List ℕ) (at : ℕ) → HasNoBlanks word → tokens_from true at (word ++ tail) ≡ tokens_from true (passed_by word at) tail
inside [] tail at p = refl
inside (c ∷ cs) tail at p = tok_inside c (cs ++ tail) at (dark_of c (plain_first c cs p)) ∙ inside cs tail (next at) (plain_more c cs p)

taken : (word : List ℕ) (c : ℕ) (r : List ℕ) → HasNoBlanks word → is_white c ≡ true → take_while is_dark (word ++ c ∷ r) ≡ word
taken [] c r p w = rw (take_while-cons is_dark c r, w) refl
taken (x ∷ xs) c r p w =
    let dark : is_white x ≡ false = dark_of x (plain_first x xs p) in
    rw (take_while-cons is_dark x (xs ++ c ∷ r), dark) (ap (λ ys. x ∷ ys) (taken xs c r (plain_more x xs p) w))

-- a text that begins with white space
record White (text : List ℕ) : Type 0 where
  first : ℕ
  rest : List ℕ
  is : text ≡ first ∷ rest
  white : is_white first ≡ true

word_tokens : (word tail : List ℕ) (at : ℕ) → IsShortWord word → White tail → tokens_from false at (word ++ tail) ≡ record { at = at; text = word } ∷ tokens_from false (passed_by word at) tail
word_tokens [] tail at s t = let some = s.some in absurd (omega arith)
word_tokens (x ∷ xs) tail at s t =
    let dark : is_white x ≡ false = dark_of x (plain_first x xs s.plain) in
    let front : take_while is_dark (xs ++ tail) ≡ xs = ap (λ y. take_while is_dark (xs ++ y)) t.is ∙ taken xs t.first t.rest (plain_more x xs s.plain) t.white in
    let whole : take 65 (x ∷ xs) ≡ x ∷ xs = take_all 65 (x ∷ xs) (omega (arith, s.short)) in
    let behind : tokens_from true (passed_by xs (next at)) tail ≡ tokens_from false (passed_by xs (next at)) tail =
    ap (tokens_from true (passed_by xs (next at))) t.is ∙ tok_white t.first t.rest true (passed_by xs (next at)) t.white ∙ sym (ap (tokens_from false (passed_by xs (next at))) t.is ∙ tok_white t.first t.rest false (passed_by xs (next at)) t.white) in
    tok_begins x (xs ++ tail) at dark
    ∙ ap (λ y. token at (x ∷ y) ∷ tokens_from true (next at) (xs ++ tail)) front
    ∙ ap (λ y. record { at = at; text = y } ∷ tokens_from true (next at) (xs ++ tail)) whole
    ∙ ap (λ ts. record { at = at; text = x ∷ xs } ∷ ts) (inside xs tail (next at) (plain_more x xs s.plain) ∙ behind)

-- values

pub value_from : (at : ℕ) (text ds : List ℕ) (negative : Bool) → sign_at text ≡ (negative, ds) → AreDigits ds → 0 < length ds → length text ≤ 64 → is_value (signed negative (number ds)) ≡ true → value_in at text ≡ Ok (signed negative (number ds))
unfolding value_in
value_from at text ds negative sign digits some short int =
    let parts : digits_at (sign_at text).1 ≡ (ds, []) = ap (λ s. digits_at s.1) sign ∙ ap digits_at (sym (append-nil ds)) ∙ digits_again ds [] digits refl in
    let le : nat_le (length text) 64 ≡ true = grind (arith, nat_tests) in
    let lt : nat_lt 0 (length ds) ≡ true = grind (arith, nat_tests) in
    let whole : is_whole_text text ≡ true = ap (λ p. nat_le (length text) 64 && (nat_lt 0 (length p.0) && is_whole_end p.1)) parts ∙ ap (λ b. b && (nat_lt 0 (length ds) && true)) le ∙ ap (λ b. b && true) lt in
    let value : whole_value text ≡ signed negative (number ds) = ap (λ b. signed b (number (digits_at (sign_at text).1).0)) (ap (λ s. s.0) sign) ∙ ap (λ p. signed negative (number p.0)) parts in
    let pick : Bool → ℤ → Result ℤ GridFault = λ a v. cond a (cond (is_value v) (Ok v) (Err Limit)) (cond (is_decimal text) (Err (NotInteger at)) (Err (BadToken at))) in
    ap (λ a. pick a (whole_value text)) whole ∙ ap (pick true) value ∙ ap (λ b. cond b (Ok (signed negative (number ds))) (Err Limit)) int

small_pos : (n : ℕ) → is_value (pos n) ≡ true → n < 2 ^ 31
small_pos n int = grind (arith, nat_tests, ints)

small_neg : (n : ℕ) → is_value (negsuc n) ≡ true → n < 2 ^ 31
small_neg n int = grind (arith, nat_tests, ints)

pub value_again : (at : ℕ) (n : ℤ) → is_value n ≡ true → value_in at (signed_decimal n) ≡ Ok n
value_again at (pos n) int =
    let small : n < 2 ^ 31 = small_pos n int in
    let digits : AreDigits (decimal n) = digits_decimal own n (omega arith) in
    let some : 0 < length (decimal n) = decimal_nonempty n (omega arith) in
    let short : length (decimal n) ≤ 10 = length-decimal-le 10 n (omega arith) (omega arith) (omega arith) in
    let sign : sign_at (decimal n) ≡ (false, decimal n) = ap sign_at (sym (append-nil (decimal n))) ∙ sign_none (decimal n) [] digits some ∙ ap (λ (x : List ℕ). (false, x)) (append-nil (decimal n)) in
    let is : number (decimal n) ≡ n = digits_value-decimal own n (omega arith) in
    value_from at (decimal n) (decimal n) false sign digits some (omega arith) (ap (λ k. is_value (pos k)) is ∙ int) ∙ ap (λ k. Ok (pos k)) is
value_again at (negsuc n) int =
    let small : n < 2 ^ 31 = small_neg n int in
    let digits : AreDigits (decimal (suc n)) = digits_decimal own (suc n) (omega arith) in
    let some : 0 < length (decimal (suc n)) = decimal_nonempty (suc n) (omega arith) in
    let short : length (decimal (suc n)) ≤ 10 = length-decimal-le 10 (suc n) (omega arith) (omega arith) (omega arith) in
    let is : number (decimal (suc n)) ≡ suc n = digits_value-decimal own (suc n) (omega arith) in
    value_from at (45 ∷ decimal (suc n)) (decimal (suc n)) true refl digits some (omega arith) (ap (λ k. is_value (neg_ℤ (pos k))) is ∙ int) ∙ ap (λ k. Ok (neg_ℤ (pos k))) is

int_word : (n : ℤ) → is_value n ≡ true → IsShortWord (signed_decimal n)
int_word (pos n) int = let small = small_pos n int in signed_word (pos n) (omega arith)
int_word (negsuc n) int = let small = small_neg n int in signed_word (negsuc n) (omega arith)

-- rows

-- each value in the band
abbrev AreInt32 : List ℤ → Type 0
AreInt32 [] = Unit {0}
AreInt32 (x ∷ xs) = (is_value x ≡ true) × AreInt32 xs

abbrev AreAll : List (List ℤ) → Type 0
AreAll [] = Unit {0}
AreAll (r ∷ rs) = AreInt32 r × AreAll rs

ints_of : (xs : List ℤ) → All (λ n. is_value n ≡ true) xs → AreInt32 xs
ints_of [] all = tt
ints_of (x ∷ xs) all = (all 0 (pos 0) (omega arith), ints_of xs (λ k d less. all (suc k) d (omega arith)))

pub all_of : (rows : List (List ℤ)) → All (λ row. All (λ n. is_value n ≡ true) row) rows → AreAll rows
all_of [] all = tt
all_of (r ∷ rs) all = (ints_of r (all 0 [] (omega arith)), all_of rs (λ k d less. all (suc k) d (omega arith)))

-- so many rows of one length
count_of : (w : ℕ) (rows : List (List ℤ)) → All (λ row. length row ≡ w) rows → length (flattened rows) ≡ length rows * w
count_of w [] all = omega arith
count_of w (r ∷ rs) all = length-append r (flattened rs) ∙ omega (arith, all 0 [] (omega arith), count_of w rs (λ k d less. all (suc k) d (omega arith)), suc-mul (length rs) w)

abbrev tail_text : List ℤ → List ℕ
tail_text xs = flat_map more_text xs ++ 10 ∷ []

tail_white : (xs : List ℤ) (rest : List ℕ) → White (tail_text xs ++ rest)
tail_white [] rest = record { first = 10; rest = rest; is = refl; white = refl }
tail_white (x ∷ xs) rest = record { first = 32; rest = ((signed_decimal x ++ flat_map more_text xs) ++ 10 ∷ []) ++ rest; is = refl; white = refl }

body_put : (m : ℕ) (t : Token) (ts : List Token) (v : ℤ) (vs : List ℤ) → value_in t.at t.text ≡ Ok v → body_of m ts ≡ Ok vs → body_of (suc m) (t ∷ ts) ≡ Ok (v ∷ vs)
unfolding body_of
body_put m t ts v vs is more = let one : suc m - 1 ≡ m = omega arith in let some : suc m ≢ 0 = omega arith in rw (ne_eqb (suc m) 0 some, is, one, more) refl

word_put : (x : ℤ) (tail : List ℕ) (at m : ℕ) (vs : List ℤ) → is_value x ≡ true → White tail → ((place : ℕ) → body_of m (tokens_from false place tail) ≡ Ok vs) → body_of (suc m) (tokens_from false at (signed_decimal x ++ tail)) ≡ Ok (x ∷ vs)
word_put x tail at m vs int white more = ap (body_of (suc m)) (word_tokens (signed_decimal x) tail at (int_word x int) white) ∙ body_put m (record { at = at; text = signed_decimal x }) (tokens_from false (passed_by (signed_decimal x) at) tail) x vs (value_again at x int) (more (passed_by (signed_decimal x) at))

tail_again : (xs : List ℤ) (rest : List ℕ) (at n : ℕ) (vs : List ℤ) → AreInt32 xs → ((place : ℕ) → body_of n (tokens_from false place rest) ≡ Ok vs) → body_of (length xs + n) (tokens_from false at (tail_text xs ++ rest)) ≡ Ok (xs ++ vs)
tail_again [] rest at n vs int more = let same : 0 + n ≡ n = omega arith in ap (λ k. body_of k (tokens_from false (next at) rest)) same ∙ more (next at)
tail_again (x ∷ xs) rest at n vs int more =
    let text : ((signed_decimal x ++ flat_map more_text xs) ++ 10 ∷ []) ++ rest ≡ signed_decimal x ++ (tail_text xs ++ rest) = simp append_assoc in
    let count : suc (length xs) + n ≡ suc (length xs + n) = omega arith in
    ap (λ k. body_of k (tokens_from false (next at) (((signed_decimal x ++ flat_map more_text xs) ++ 10 ∷ []) ++ rest))) count
    ∙ ap (λ y. body_of (suc (length xs + n)) (tokens_from false (next at) y)) text
    ∙ word_put x (tail_text xs ++ rest) (next at) (length xs + n) (xs ++ vs) int.0 (tail_white xs rest) (λ place. tail_again xs rest place n vs int.1 more)

row_again : (xs : List ℤ) (rest : List ℕ) (at n : ℕ) (vs : List ℤ) → AreInt32 xs → ((place : ℕ) → body_of n (tokens_from false place rest) ≡ Ok vs) → body_of (length xs + n) (tokens_from false at (row_text xs ++ rest)) ≡ Ok (xs ++ vs)
row_again [] rest at n vs int more = tail_again [] rest at n vs int more
row_again (x ∷ xs) rest at n vs int more =
    let text : row_text (x ∷ xs) ++ rest ≡ signed_decimal x ++ (tail_text xs ++ rest) = append_assoc (signed_decimal x) (tail_text xs) rest in
    let count : suc (length xs) + n ≡ suc (length xs + n) = omega arith in
    ap (λ k. body_of k (tokens_from false at (row_text (x ∷ xs) ++ rest))) count
    ∙ ap (λ y. body_of (suc (length xs + n)) (tokens_from false at y)) text
    ∙ word_put x (tail_text xs ++ rest) at (length xs + n) (xs ++ vs) int.0 (tail_white xs rest) (λ place. tail_again xs rest place n vs int.1 more)

pub body_again : (rows : List (List ℤ)) (at : ℕ) → AreAll rows → body_of (length (flattened rows)) (tokens_from false at (flat_map row_text rows)) ≡ Ok (flattened rows)
unfolding body_of
body_again [] at int = refl
body_again (r ∷ rs) at int =
    ap (λ k. body_of k (tokens_from false at (row_text r ++ flat_map row_text rs))) (length-append r (flattened rs))
    ∙ row_again r (flat_map row_text rs) at (length (flattened rs)) (flattened rs) int.0 (λ place. body_again rs place int.1)

-- the head

number_again : (n : ℕ) → n < 10 ^ 9 → number_of (decimal n) ≡ Some n
number_again n small =
    let less : n < 2 ^ 64 = omega arith in
    let some : nat_lt 0 (length (decimal n)) ≡ true = grind (arith, nat_tests, decimal_nonempty n less) in
    let short : nat_le (length (decimal n)) 18 ≡ true = grind (arith, nat_tests, length-decimal-le 9 n (omega arith) small less) in
    let digits : list_all is_ascii_digit (decimal n) ≡ true = digits_decimal own n less in
    let all : (nat_lt 0 (length (decimal n)) && (nat_le (length (decimal n)) 18 && list_all is_ascii_digit (decimal n))) ≡ true = ap (λ b. b && (nat_le (length (decimal n)) 18 && list_all is_ascii_digit (decimal n))) some ∙ ap (λ b. b && list_all is_ascii_digit (decimal n)) short ∙ digits in
    ap (λ b. cond b (Some (number (decimal n))) None) all ∙ ap Some (digits_value-decimal own n less)

side_again : (at n : ℕ) → 0 < n → n ≤ 4194304 → side_in at (decimal n) ≡ Ok n
unfolding side_in
side_again at n some small =
    let short : nat_lt 9 (length (decimal n)) ≡ false = grind (arith, nat_tests, length-decimal-le 9 n (omega arith) (omega arith) (omega arith)) in
    let not_zero : eqb n 0 ≡ false = grind (arith, nat_tests) in
    let in_limit : nat_lt 4194304 n ≡ false = grind (arith, nat_tests) in
    let pick : Bool → Bool → Bool → Result ℕ GridFault = λ a b c. cond (a || b) (Err (BadToken at)) (cond c (Err Limit) (Ok n)) in
    ap (λ (q : Option ℕ). ok_or q (BadToken at) >>= λ m. cond (nat_lt 9 (length (decimal n)) || eqb m 0) (Err (BadToken at)) (cond (nat_lt 4194304 m) (Err Limit) (Ok m))) (number_again n (omega arith))
    ∙ ap (λ a. pick a (eqb n 0) (nat_lt 4194304 n)) short ∙ ap (λ b. pick false b (nat_lt 4194304 n)) not_zero ∙ ap (pick false false) in_limit

coordinate_again : (at : ℕ) (v : ℤ) → unsigned_abs v % 18 ≡ 0 → unsigned_abs v < 10 ^ 12 * unit → coordinate_in at (short_text v) ≡ Ok v
coordinate_again at v whole small = ap (λ (q : Option ℤ). ok_or q (BadToken at)) (short_again v whole small)

above : (v : ℤ) → pos 0 <ℤ v → int_lt (pos 0) v ≡ true
above (pos n) some = grind (arith, nat_tests, ints)
above (negsuc n) some = grind (arith, nat_tests, ints)

step_again : (at : ℕ) (v : ℤ) → unsigned_abs v % 18 ≡ 0 → unsigned_abs v < 10 ^ 12 * unit → pos 0 <ℤ v → step_in at (short_text v) ≡ Ok (unsigned_abs v)
unfolding step_in
step_again at v whole small some =
    ap (λ (q : Option ℤ). ok_or q (BadToken at) >>= λ x. cond (int_lt (pos 0) x) (Ok (unsigned_abs x)) (Err (BadToken at))) (short_again v whole small) ∙ ap (λ b. cond b (Ok (unsigned_abs v)) (Err (BadToken at))) (above v some)

decimal_of_whole : (q : Option Decimal) (text : List ℕ) (n : ℤ) → parts_of text ≡ q → whole_of text ≡ Some n → is_decimal text ≡ true
unfolding whole_of is_decimal
decimal_of_whole None text n is whole = let e = rw is at whole in cc
decimal_of_whole (Some d) text n is whole = rw is refl

nodata_again : (at : ℕ) (n : ℤ) → is_value n ≡ true → unsigned_abs n < 10 ^ 18 → nodata_in at (signed_decimal n) ≡ Ok (Some n)
unfolding nodata_in
nodata_again at n int small =
    let whole : whole_of (signed_decimal n) ≡ Some n = whole_again n (omega (arith, small)) in
    let dec : is_decimal (signed_decimal n) ≡ true = decimal_of_whole (parts_of (signed_decimal n)) (signed_decimal n) n refl whole in
    ap (λ b. cond (b || same_letters (signed_decimal n) (codes "nan")) (Ok (when_in Int32 (whole_of (signed_decimal n)))) (Err (BadToken at))) dec
    ∙ ap (λ (q : Option ℤ). Ok (when_in Int32 q)) whole ∙ ap (λ b. Ok (cond b (Some n) None)) int

head_put : (f g : Found) (k : Key) (key : List ℕ) (a b : ℕ) (v : List ℕ) (more : List Token) → is_body_start key ≡ false → key_of key ≡ Some k → with_value f k (record { at = b; text = v }) ≡ Ok g → head_of f (record { at = a; text = key } ∷ (record { at = b; text = v } ∷ more)) ≡ head_of g more
unfolding head_of
head_put f g k key a b v more start is value = rw (start, is, value) refl

head_end : (f : Found) (t : Token) (ts : List Token) → is_body_start t.text ≡ true → head_of f (t ∷ ts) ≡ Ok (f, t ∷ ts)
unfolding head_of
head_end f t [] start = rw start refl
head_end f t (u ∷ us) start = rw start refl

abbrev thirteen : ℕ → ℕ
thirteen at = next (next (next (next (next (next (next (next (next (next (next (next (next at))))))))))))

value_line : (v rest : List ℕ) (at : ℕ) → IsShortWord v → tokens_from false at ((v ++ 10 ∷ []) ++ rest) ≡ record { at = at; text = v } ∷ tokens_from false (next (passed_by v at)) rest
value_line v rest at word = ap (tokens_from false at) (append_assoc v (10 ∷ []) rest) ∙ word_tokens v (10 ∷ rest) at word (record { first = 10; rest = rest; is = refl; white = refl })

ncols_line : (v rest : List ℕ) (at : ℕ) → IsShortWord v → tokens_from false at (line (codes "ncols") v ++ rest) ≡ record { at = at; text = codes "ncols" } ∷ (record { at = thirteen at; text = v } ∷ tokens_from false (next (passed_by v (thirteen at))) rest)
ncols_line v rest at word = ap (λ ts. record { at = at; text = codes "ncols" } ∷ ts) (value_line v rest (thirteen at) word)

nrows_line : (v rest : List ℕ) (at : ℕ) → IsShortWord v → tokens_from false at (line (codes "nrows") v ++ rest) ≡ record { at = at; text = codes "nrows" } ∷ (record { at = thirteen at; text = v } ∷ tokens_from false (next (passed_by v (thirteen at))) rest)
nrows_line v rest at word = ap (λ ts. record { at = at; text = codes "nrows" } ∷ ts) (value_line v rest (thirteen at) word)

left_line : (v rest : List ℕ) (at : ℕ) → IsShortWord v → tokens_from false at (line (codes "xllcorner") v ++ rest) ≡ record { at = at; text = codes "xllcorner" } ∷ (record { at = thirteen at; text = v } ∷ tokens_from false (next (passed_by v (thirteen at))) rest)
left_line v rest at word = ap (λ ts. record { at = at; text = codes "xllcorner" } ∷ ts) (value_line v rest (thirteen at) word)

bottom_line : (v rest : List ℕ) (at : ℕ) → IsShortWord v → tokens_from false at (line (codes "yllcorner") v ++ rest) ≡ record { at = at; text = codes "yllcorner" } ∷ (record { at = thirteen at; text = v } ∷ tokens_from false (next (passed_by v (thirteen at))) rest)
bottom_line v rest at word = ap (λ ts. record { at = at; text = codes "yllcorner" } ∷ ts) (value_line v rest (thirteen at) word)

cell_line : (v rest : List ℕ) (at : ℕ) → IsShortWord v → tokens_from false at (line (codes "cellsize") v ++ rest) ≡ record { at = at; text = codes "cellsize" } ∷ (record { at = thirteen at; text = v } ∷ tokens_from false (next (passed_by v (thirteen at))) rest)
cell_line v rest at word = ap (λ ts. record { at = at; text = codes "cellsize" } ∷ ts) (value_line v rest (thirteen at) word)

dx_line : (v rest : List ℕ) (at : ℕ) → IsShortWord v → tokens_from false at (line (codes "dx") v ++ rest) ≡ record { at = at; text = codes "dx" } ∷ (record { at = thirteen at; text = v } ∷ tokens_from false (next (passed_by v (thirteen at))) rest)
dx_line v rest at word = ap (λ ts. record { at = at; text = codes "dx" } ∷ ts) (value_line v rest (thirteen at) word)

dy_line : (v rest : List ℕ) (at : ℕ) → IsShortWord v → tokens_from false at (line (codes "dy") v ++ rest) ≡ record { at = at; text = codes "dy" } ∷ (record { at = thirteen at; text = v } ∷ tokens_from false (next (passed_by v (thirteen at))) rest)
dy_line v rest at word = ap (λ ts. record { at = at; text = codes "dy" } ∷ ts) (value_line v rest (thirteen at) word)

nodata_key : (v rest : List ℕ) (at : ℕ) → IsShortWord v → tokens_from false at (line (codes "NODATA_value") v ++ rest) ≡ record { at = at; text = codes "NODATA_value" } ∷ (record { at = thirteen at; text = v } ∷ tokens_from false (next (passed_by v (thirteen at))) rest)
nodata_key v rest at word = ap (λ ts. record { at = at; text = codes "NODATA_value" } ∷ ts) (value_line v rest (thirteen at) word)

digit_starts : (ds : List ℕ) → AreDigits ds → 0 < length ds → is_body_start ds ≡ true
digit_starts [] digits some = absurd (omega arith)
digit_starts (c ∷ cs) digits some = ap (λ b. b || ((c == 43) || ((c == 45) || (c == 46)))) (digits-cons c cs digits).0

starts_body : (x : ℤ) → is_value x ≡ true → is_body_start (signed_decimal x) ≡ true
starts_body (pos n) int = let small = small_pos n int in digit_starts (decimal n) (digits_decimal own n (omega arith)) (decimal_nonempty n (omega arith))
starts_body (negsuc n) int = refl

abbrev found_of : Option ℕ → Option ℕ → Option LowerLeft → Option LowerLeft → Option ℕ → Option ℕ → Option ℕ → Option ℤ → Found
found_of w h x y cell dx dy nodata = record { ncols = w; nrows = h; x = x; y = y; cellsize = cell; dx = dx; dy = dy; nodata = nodata }

-- what the head says behind some lines
record Behind (q : Result (Found × List Token) GridFault) (f : Found) (rest : List ℕ) : Type 0 where
  place : ℕ
  is : q ≡ head_of f (tokens_from false place rest)

behind_then : (q : Result (Found × List Token) GridFault) (f g : Found) (rest more : List ℕ) → Behind q f rest → ((at : ℕ) → Behind (head_of f (tokens_from false at rest)) g more) → Behind q g more
behind_then q f g rest more b follows = let n = follows b.place in record { place = n.place; is = b.is ∙ n.is }

-- a line of the head, and what follows
line_then : (f g : Found) (k : Key) (key v rest : List ℕ) (at place behind : ℕ) (text : List ℕ) → is_body_start key ≡ false → key_of key ≡ Some k → tokens_from false at text ≡ record { at = at; text = key } ∷ (record { at = place; text = v } ∷ tokens_from false behind rest) → with_value f k (record { at = place; text = v }) ≡ Ok g → head_of f (tokens_from false at text) ≡ head_of g (tokens_from false behind rest)
line_then f g k key v rest at place behind text start is tokens_are value = ap (head_of f) tokens_are ∙ head_put f g k key at place v (tokens_from false behind rest) start is value

with_ncols : (f : Found) (at : ℕ) (n : ℕ) (text : List ℕ) → side_in at text ≡ Ok n → with_value f Ncols (record { at = at; text = text }) ≡ Ok (found_of (Some n) f.nrows f.x f.y f.cellsize f.dx f.dy f.nodata)
unfolding with_value
with_ncols f at n text is = rw is refl

with_nrows : (f : Found) (at : ℕ) (n : ℕ) (text : List ℕ) → side_in at text ≡ Ok n → with_value f Nrows (record { at = at; text = text }) ≡ Ok (found_of f.ncols (Some n) f.x f.y f.cellsize f.dx f.dy f.nodata)
unfolding with_value
with_nrows f at n text is = rw is refl

with_left : (f : Found) (at : ℕ) (n : ℤ) (text : List ℕ) → coordinate_in at text ≡ Ok n → with_value f Xllcorner (record { at = at; text = text }) ≡ Ok (found_of f.ncols f.nrows (Some (Edge n)) f.y f.cellsize f.dx f.dy f.nodata)
unfolding with_value
with_left f at n text is = rw is refl

with_bottom : (f : Found) (at : ℕ) (n : ℤ) (text : List ℕ) → coordinate_in at text ≡ Ok n → with_value f Yllcorner (record { at = at; text = text }) ≡ Ok (found_of f.ncols f.nrows f.x (Some (Edge n)) f.cellsize f.dx f.dy f.nodata)
unfolding with_value
with_bottom f at n text is = rw is refl

with_cell : (f : Found) (at : ℕ) (n : ℕ) (text : List ℕ) → step_in at text ≡ Ok n → with_value f Cellsize (record { at = at; text = text }) ≡ Ok (found_of f.ncols f.nrows f.x f.y (Some n) f.dx f.dy f.nodata)
unfolding with_value
with_cell f at n text is = rw is refl

with_dx : (f : Found) (at : ℕ) (n : ℕ) (text : List ℕ) → step_in at text ≡ Ok n → with_value f Dx (record { at = at; text = text }) ≡ Ok (found_of f.ncols f.nrows f.x f.y f.cellsize (Some n) f.dy f.nodata)
unfolding with_value
with_dx f at n text is = rw is refl

with_dy : (f : Found) (at : ℕ) (n : ℕ) (text : List ℕ) → step_in at text ≡ Ok n → with_value f Dy (record { at = at; text = text }) ≡ Ok (found_of f.ncols f.nrows f.x f.y f.cellsize f.dx (Some n) f.nodata)
unfolding with_value
with_dy f at n text is = rw is refl

with_nodata : (f : Found) (at : ℕ) (n : Option ℤ) (text : List ℕ) → nodata_in at text ≡ Ok n → with_value f Nodata (record { at = at; text = text }) ≡ Ok (found_of f.ncols f.nrows f.x f.y f.cellsize f.dx f.dy n)
unfolding with_value
with_nodata f at n text is = rw is refl

three_joined : (a b c d e : List ℕ) → (a ++ (b ++ (c ++ d))) ++ e ≡ a ++ (b ++ (c ++ (d ++ e)))
three_joined a b c d e = simp append_assoc

int_small : (n : ℤ) → is_value n ≡ true → unsigned_abs n < 10 ^ 18
int_small (pos n) int = let small = small_pos n int in omega arith
int_small (negsuc n) int = let small = small_neg n int in omega arith

one_line : (f g : Found) (k : Key) (key v rest : List ℕ) (at : ℕ) (text : List ℕ) → is_body_start key ≡ false → key_of key ≡ Some k → tokens_from false at text ≡ record { at = at; text = key } ∷ (record { at = thirteen at; text = v } ∷ tokens_from false (next (passed_by v (thirteen at))) rest) → with_value f k (record { at = thirteen at; text = v }) ≡ Ok g → Behind (head_of f (tokens_from false at text)) g rest
one_line f g k key v rest at text start is tokens_are value = record { place = next (passed_by v (thirteen at)); is = line_then f g k key v rest at (thirteen at) (next (passed_by v (thirteen at))) text start is tokens_are value }

-- what is read of a written number
record IsTicks (v : ℤ) : Type 0 where
  whole : unsigned_abs v % 18 ≡ 0
  near : unsigned_abs v < 10 ^ 12 * unit

ncols_behind : (n : ℕ) (rest : List ℕ) (f : Found) (at : ℕ) → 0 < n → n ≤ 4194304 → Behind (head_of f (tokens_from false at (line (codes "ncols") (decimal n) ++ rest))) (found_of (Some n) f.nrows f.x f.y f.cellsize f.dx f.dy f.nodata) rest
ncols_behind n rest f at some small = one_line f (found_of (Some n) f.nrows f.x f.y f.cellsize f.dx f.dy f.nodata) Ncols (codes "ncols") (decimal n) rest at (line (codes "ncols") (decimal n) ++ rest) refl refl (ncols_line (decimal n) rest at (decimal_word n (omega arith))) (with_ncols f (thirteen at) (n) (decimal n) (side_again (thirteen at) n some small))

nrows_behind : (n : ℕ) (rest : List ℕ) (f : Found) (at : ℕ) → 0 < n → n ≤ 4194304 → Behind (head_of f (tokens_from false at (line (codes "nrows") (decimal n) ++ rest))) (found_of f.ncols (Some n) f.x f.y f.cellsize f.dx f.dy f.nodata) rest
nrows_behind n rest f at some small = one_line f (found_of f.ncols (Some n) f.x f.y f.cellsize f.dx f.dy f.nodata) Nrows (codes "nrows") (decimal n) rest at (line (codes "nrows") (decimal n) ++ rest) refl refl (nrows_line (decimal n) rest at (decimal_word n (omega arith))) (with_nrows f (thirteen at) (n) (decimal n) (side_again (thirteen at) n some small))

left_behind : (v : ℤ) (rest : List ℕ) (f : Found) (at : ℕ) → IsTicks v → Behind (head_of f (tokens_from false at (line (codes "xllcorner") (short_text v) ++ rest))) (found_of f.ncols f.nrows (Some (Edge v)) f.y f.cellsize f.dx f.dy f.nodata) rest
left_behind v rest f at t = one_line f (found_of f.ncols f.nrows (Some (Edge v)) f.y f.cellsize f.dx f.dy f.nodata) Xllcorner (codes "xllcorner") (short_text v) rest at (line (codes "xllcorner") (short_text v) ++ rest) refl refl (left_line (short_text v) rest at (short_word v t.whole t.near)) (with_left f (thirteen at) (v) (short_text v) (coordinate_again (thirteen at) v t.whole t.near))

bottom_behind : (v : ℤ) (rest : List ℕ) (f : Found) (at : ℕ) → IsTicks v → Behind (head_of f (tokens_from false at (line (codes "yllcorner") (short_text v) ++ rest))) (found_of f.ncols f.nrows f.x (Some (Edge v)) f.cellsize f.dx f.dy f.nodata) rest
bottom_behind v rest f at t = one_line f (found_of f.ncols f.nrows f.x (Some (Edge v)) f.cellsize f.dx f.dy f.nodata) Yllcorner (codes "yllcorner") (short_text v) rest at (line (codes "yllcorner") (short_text v) ++ rest) refl refl (bottom_line (short_text v) rest at (short_word v t.whole t.near)) (with_bottom f (thirteen at) (v) (short_text v) (coordinate_again (thirteen at) v t.whole t.near))

cell_behind : (v : ℤ) (rest : List ℕ) (f : Found) (at : ℕ) → IsTicks v → pos 0 <ℤ v → Behind (head_of f (tokens_from false at (line (codes "cellsize") (short_text v) ++ rest))) (found_of f.ncols f.nrows f.x f.y (Some (unsigned_abs v)) f.dx f.dy f.nodata) rest
cell_behind v rest f at t some = one_line f (found_of f.ncols f.nrows f.x f.y (Some (unsigned_abs v)) f.dx f.dy f.nodata) Cellsize (codes "cellsize") (short_text v) rest at (line (codes "cellsize") (short_text v) ++ rest) refl refl (cell_line (short_text v) rest at (short_word v t.whole t.near)) (with_cell f (thirteen at) (unsigned_abs v) (short_text v) (step_again (thirteen at) v t.whole t.near some))

dx_behind : (v : ℤ) (rest : List ℕ) (f : Found) (at : ℕ) → IsTicks v → pos 0 <ℤ v → Behind (head_of f (tokens_from false at (line (codes "dx") (short_text v) ++ rest))) (found_of f.ncols f.nrows f.x f.y f.cellsize (Some (unsigned_abs v)) f.dy f.nodata) rest
dx_behind v rest f at t some = one_line f (found_of f.ncols f.nrows f.x f.y f.cellsize (Some (unsigned_abs v)) f.dy f.nodata) Dx (codes "dx") (short_text v) rest at (line (codes "dx") (short_text v) ++ rest) refl refl (dx_line (short_text v) rest at (short_word v t.whole t.near)) (with_dx f (thirteen at) (unsigned_abs v) (short_text v) (step_again (thirteen at) v t.whole t.near some))

dy_behind : (v : ℤ) (rest : List ℕ) (f : Found) (at : ℕ) → IsTicks v → pos 0 <ℤ v → Behind (head_of f (tokens_from false at (line (codes "dy") (short_text v) ++ rest))) (found_of f.ncols f.nrows f.x f.y f.cellsize f.dx (Some (unsigned_abs v)) f.nodata) rest
dy_behind v rest f at t some = one_line f (found_of f.ncols f.nrows f.x f.y f.cellsize f.dx (Some (unsigned_abs v)) f.nodata) Dy (codes "dy") (short_text v) rest at (line (codes "dy") (short_text v) ++ rest) refl refl (dy_line (short_text v) rest at (short_word v t.whole t.near)) (with_dy f (thirteen at) (unsigned_abs v) (short_text v) (step_again (thirteen at) v t.whole t.near some))

nodata_behind : (n : ℤ) (rest : List ℕ) (f : Found) (at : ℕ) → is_value n ≡ true → Behind (head_of f (tokens_from false at (line (codes "NODATA_value") (signed_decimal n) ++ rest))) (found_of f.ncols f.nrows f.x f.y f.cellsize f.dx f.dy (Some n)) rest
nodata_behind n rest f at int = one_line f (found_of f.ncols f.nrows f.x f.y f.cellsize f.dx f.dy (Some n)) Nodata (codes "NODATA_value") (signed_decimal n) rest at (line (codes "NODATA_value") (signed_decimal n) ++ rest) refl refl (nodata_key (signed_decimal n) rest at (int_word n int)) (with_nodata f (thirteen at) (Some n) (signed_decimal n) (nodata_again (thirteen at) n int (int_small n int)))

two_behind : (f g k : Found) (a b rest : List ℕ) (at : ℕ) → Behind (head_of f (tokens_from false at (a ++ (b ++ rest)))) g (b ++ rest) → ((place : ℕ) → Behind (head_of g (tokens_from false place (b ++ rest))) k rest) → Behind (head_of f (tokens_from false at ((a ++ b) ++ rest))) k rest
two_behind f g k a b rest at first second =
    let both = behind_then (head_of f (tokens_from false at (a ++ (b ++ rest)))) g k (b ++ rest) rest first second in
    record { place = both.place; is = ap (λ t. head_of f (tokens_from false at t)) (append_assoc a b rest) ∙ both.is }

sizes_behind : (size : Size) (rest : List ℕ) (at : ℕ) → IsRaster size → Behind (head_of nothing (tokens_from false at (size_lines size ++ rest))) (found_of (Some size.w) (Some size.h) None None None None None None) rest
sizes_behind size rest at r =
    let w_line : List ℕ = line (codes "ncols") (decimal size.w) in
    let h_line : List ℕ = line (codes "nrows") (decimal size.h) in
    let one : Found = found_of (Some size.w) None None None None None None None in
    two_behind nothing one (found_of (Some size.w) (Some size.h) None None None None None None) w_line h_line rest at
    (ncols_behind size.w (h_line ++ rest) nothing at r.some_columns r.columns)
    (λ place. nrows_behind size.h rest one place r.some_lines r.lines)

edges_behind : (w h : Option ℕ) (p : Placing) (rest : List ℕ) (at : ℕ) → IsTicks p.left → IsTicks p.bottom → Behind (head_of (found_of w h None None None None None None) (tokens_from false at (edge_lines p ++ rest))) (found_of w h (Some (Edge p.left)) (Some (Edge p.bottom)) None None None None) rest
edges_behind w h p rest at left bottom =
    let x_line : List ℕ = line (codes "xllcorner") (short_text p.left) in
    let y_line : List ℕ = line (codes "yllcorner") (short_text p.bottom) in
    let none : Found = found_of w h None None None None None None in
    let one : Found = found_of w h (Some (Edge p.left)) None None None None None in
    two_behind none one (found_of w h (Some (Edge p.left)) (Some (Edge p.bottom)) None None None None) x_line y_line rest at
    (left_behind p.left (y_line ++ rest) none at left)
    (λ place. bottom_behind p.bottom rest one place bottom)

-- the sizes of a pixel behind their lines
record SizesBehind (q : Result (Found × List Token) GridFault) (w h : Option ℕ) (x y : Option LowerLeft) (wide high : ℕ) (rest : List ℕ) : Type 0 where
  cell : Option ℕ
  dx : Option ℕ
  dy : Option ℕ
  behind : Behind q (found_of w h x y cell dx dy None) rest
  steps : steps_of cell dx dy ≡ Some (wide, high)

same_ints : (a b : ℤ) → are_same a b ≡ true → a ≡ b
same_ints (pos a) (pos b) h = ap pos (grind (arith, nat_tests, ints))
same_ints (pos a) (negsuc b) h = grind (arith, nat_tests, ints)
same_ints (negsuc a) (pos b) h = grind (arith, nat_tests, ints)
same_ints (negsuc a) (negsuc b) h = ap negsuc (grind (arith, nat_tests, ints))

abbrev step_text : Bool → Placing → List ℕ
step_text b p = cond b (line (codes "cellsize") (short_text p.width)) (line (codes "dx") (short_text p.width) ++ line (codes "dy") (short_text p.height))

steps_by : (b : Bool) (w h : Option ℕ) (x y : Option LowerLeft) (p : Placing) (rest : List ℕ) (at : ℕ) → are_same p.width p.height ≡ b → IsTicks p.width → IsTicks p.height → pos 0 <ℤ p.width → pos 0 <ℤ p.height → SizesBehind (head_of (found_of w h x y None None None None) (tokens_from false at (step_text b p ++ rest))) w h x y (unsigned_abs p.width) (unsigned_abs p.height) rest
steps_by true w h x y p rest at is width height wide high = record {
  cell = Some (unsigned_abs p.width);
  dx = None;
  dy = None;
  behind = cell_behind p.width rest (found_of w h x y None None None None) at width wide;
  steps = ap (λ v. Some (unsigned_abs p.width, unsigned_abs v)) (same_ints p.width p.height is);
}
steps_by false w h x y p rest at is width height wide high =
    let x_line : List ℕ = line (codes "dx") (short_text p.width) in
    let y_line : List ℕ = line (codes "dy") (short_text p.height) in
    let one : Found = found_of w h x y None (Some (unsigned_abs p.width)) None None in
    record {
      cell = None;
      dx = Some (unsigned_abs p.width);
      dy = Some (unsigned_abs p.height);
      behind = two_behind (found_of w h x y None None None None) one (found_of w h x y None (Some (unsigned_abs p.width)) (Some (unsigned_abs p.height)) None) x_line y_line rest at (dx_behind p.width (y_line ++ rest) (found_of w h x y None None None None) at width wide) (λ place. dy_behind p.height rest one place height high);
      steps = refl;
    }

last_behind : (w h : Option ℕ) (x y : Option LowerLeft) (cell dx dy : Option ℕ) (nodata : Option ℤ) (rest : List ℕ) (at : ℕ) → IfSome nodata (λ n. is_value n ≡ true) → Behind (head_of (found_of w h x y cell dx dy None) (tokens_from false at (nodata_line nodata ++ rest))) (found_of w h x y cell dx dy nodata) rest
last_behind w h x y cell dx dy None rest at int = record { place = at; is = refl }
last_behind w h x y cell dx dy (Some n) rest at int = nodata_behind n rest (found_of w h x y cell dx dy None) at int

-- the head behind all its lines
record HeadIs (text : List ℕ) (size : Size) (p : Placing) (nodata : Option ℤ) (rest : List ℕ) : Type 0 where
  cell : Option ℕ
  dx : Option ℕ
  dy : Option ℕ
  behind : Behind (head_of nothing (tokens text)) (found_of (Some size.w) (Some size.h) (Some (Edge p.left)) (Some (Edge p.bottom)) cell dx dy nodata) rest
  steps : steps_of cell dx dy ≡ Some (unsigned_abs p.width, unsigned_abs p.height)

-- numbers that are written and read again
record AreTicks (p : Placing) : Type 0 where
  left : IsTicks p.left
  bottom : IsTicks p.bottom
  width : IsTicks p.width
  height : IsTicks p.height

head_is : (size : Size) (p : Placing) (nodata : Option ℤ) (rest : List ℕ) → IsRaster size → AreTicks p → pos 0 <ℤ p.width → pos 0 <ℤ p.height → IfSome nodata (λ n. is_value n ≡ true) → HeadIs (head_lines size p nodata ++ rest) size p nodata rest
head_is size p nodata rest r t wide high int =
    let d : List ℕ = nodata_line nodata ++ rest in
    let c : List ℕ = step_lines p ++ d in
    let b : List ℕ = edge_lines p ++ c in
    let w : Option ℕ = Some size.w in
    let h : Option ℕ = Some size.h in
    let x : Option LowerLeft = Some (Edge p.left) in
    let y : Option LowerLeft = Some (Edge p.bottom) in
    let f1 : Found = found_of w h None None None None None None in
    let f2 : Found = found_of w h x y None None None None in
    let b1 : Behind (head_of nothing (tokens_from false 0 (size_lines size ++ b))) f1 b = sizes_behind size b 0 r in
    let b2 : Behind (head_of f1 (tokens_from false b1.place b)) f2 c = edges_behind w h p c b1.place t.left t.bottom in
    let b3 : SizesBehind (head_of f2 (tokens_from false b2.place c)) w h x y (unsigned_abs p.width) (unsigned_abs p.height) d = steps_by (are_same p.width p.height) w h x y p d b2.place refl t.width t.height wide high in
    let b4 : Behind (head_of (found_of w h x y b3.cell b3.dx b3.dy None) (tokens_from false b3.behind.place d)) (found_of w h x y b3.cell b3.dx b3.dy nodata) rest = last_behind w h x y b3.cell b3.dx b3.dy nodata rest b3.behind.place int in
    record {
      cell = b3.cell;
      dx = b3.dx;
      dy = b3.dy;
      behind = record { place = b4.place; is = ap (λ t. head_of nothing (tokens t)) (three_joined (size_lines size) (edge_lines p) (step_lines p) (nodata_line nodata) rest) ∙ b1.is ∙ b2.is ∙ b3.behind.is ∙ b4.is };
      steps = b3.steps;
    }

abbrev made : Size → Transform → Option ℤ → Result Shape GridFault
made size geo nodata = Ok (record { w = size.w; h = size.h; geo = geo; nodata = nodata })

shape_again : (size : Size) (left bottom : ℤ) (cell dx dy : Option ℕ) (nodata : Option ℤ) (steps : ℕ × ℕ) (geo : Transform) → steps_of cell dx dy ≡ Some steps → placed left bottom steps size.h ≡ Some geo → shape_of (found_of (Some size.w) (Some size.h) (Some (Edge left)) (Some (Edge bottom)) cell dx dy nodata) ≡ Ok (record { w = size.w; h = size.h; geo = geo; nodata = nodata })
unfolding shape_of
shape_again size left bottom cell dx dy nodata steps geo steps_are is =
    ap (λ (q : Option (ℕ × ℕ)). ok_or q MissingKey >>= λ s. ok_or (placed left bottom s size.h) Limit >>= λ geo. made size geo nodata) steps_are
    ∙ ap (λ (q : Option Transform). ok_or q Limit >>= λ geo. made size geo nodata) is

whole_product : (n : ℤ) → unsigned_abs (pos 18 *ℤ n) % 18 ≡ 0
whole_product (pos n) = grind (arith, ints)
whole_product (negsuc n) = grind (arith, ints)

sixteen_whole : (v : ℤ) → unsigned_abs (sixteen_places v) % 18 ≡ 0
sixteen_whole v = whole_product (half v 18)

placing_ticks : (size : Size) (geo : Option Transform) (read : Transform) → IsReadAgain size (placing_of size geo) read → AreTicks (placing_of size geo)
placing_ticks size None read again = record { left = record { whole = refl; near = again.left }; bottom = record { whole = refl; near = again.bottom }; width = record { whole = refl; near = again.width }; height = record { whole = refl; near = again.height } }
placing_ticks size (Some g) read again = record { left = record { whole = sixteen_whole g.ox; near = again.left }; bottom = record { whole = sixteen_whole (along g.oy g.dy (pos size.h)); near = again.bottom }; width = record { whole = sixteen_whole g.dx; near = again.width }; height = record { whole = sixteen_whole (neg_ℤ g.dy); near = again.height } }

grid_from : (size : Size) (geo : Transform) (nodata : Option ℤ) (f : Found) (body : List Token) (values : List ℤ) → shape_of f ≡ Ok (record { w = size.w; h = size.h; geo = geo; nodata = nodata }) → body_of (size.w * size.h) body ≡ Ok values → grid_in (f, body) ≡ Ok (record { head = record { size = size; geo = geo; nodata = nodata; rows = rows_of size.w 0 body }; values = values })
unfolding grid_in
grid_from size geo nodata f body values shape whole = rw (shape, whole) refl

-- a grid that is written is read again
rows_again : (size : Size) (p : Placing) (geo : Transform) (nodata : Option ℤ) (x : ℤ) (xs : List ℤ) (rows : List (List ℤ)) → IsRaster size → IsReadAgain size p geo → AreTicks p → IfSome nodata (λ n. is_value n ≡ true) → AreAll ((x ∷ xs) ∷ rows) → length (flattened ((x ∷ xs) ∷ rows)) ≡ size.w * size.h → IsGridOf (head_lines size p nodata ++ flat_map row_text ((x ∷ xs) ∷ rows)) size geo nodata (flattened ((x ∷ xs) ∷ rows))
unfolding grid_of
rows_again size p geo nodata x xs rows r again t nodata_in int count =
    let text : List ℕ = flat_map row_text ((x ∷ xs) ∷ rows) in
    let all : List ℕ = head_lines size p nodata ++ text in
    let head : HeadIs all size p nodata text = head_is size p nodata text r t again.wide again.high nodata_in in
    let at : ℕ = head.behind.place in
    let tail : List ℕ = tail_text xs ++ flat_map row_text rows in
    let more : List Token = tokens_from false (passed_by (signed_decimal x) at) tail in
    let first : tokens_from false at text ≡ record { at = at; text = signed_decimal x } ∷ more = ap (tokens_from false at) (append_assoc (signed_decimal x) (tail_text xs) (flat_map row_text rows)) ∙ word_tokens (signed_decimal x) tail at (int_word x int.0.0) (tail_white xs (flat_map row_text rows)) in
    let f : Found = found_of (Some size.w) (Some size.h) (Some (Edge p.left)) (Some (Edge p.bottom)) head.cell head.dx head.dy nodata in
    let found : head_of nothing (tokens all) ≡ Ok (f, tokens_from false at text) = head.behind.is ∙ ap (head_of f) first ∙ head_end f (record { at = at; text = signed_decimal x }) more (starts_body x int.0.0) ∙ sym (ap (λ ts. Ok (f, ts)) first) in
    let shape : shape_of f ≡ Ok (record { w = size.w; h = size.h; geo = geo; nodata = nodata }) = shape_again size p.left p.bottom head.cell head.dx head.dy nodata (unsigned_abs p.width, unsigned_abs p.height) geo head.steps again.placed in
    let whole : body_of (size.w * size.h) (tokens_from false at text) ≡ Ok (flattened ((x ∷ xs) ∷ rows)) = ap (λ n. body_of n (tokens_from false at text)) (sym count) ∙ body_again ((x ∷ xs) ∷ rows) at int in
    record {
      rows = rows_of size.w 0 (tokens_from false at text);
      grid = ap (λ (q : Result (Found × List Token) GridFault). q >>= grid_in) found ∙ grid_from size geo nodata f (tokens_from false at text) (flattened ((x ∷ xs) ∷ rows)) shape whole;
    }

pub grid_again : (size : Size) (geo : Option Transform) (nodata : Option ℤ) (read : Transform) (rows : List (List ℤ)) → IsRaster size → IfSome nodata (λ n. is_value n ≡ true) → IsReadAgain size (placing_of size geo) read → AreRows size.w rows → length rows ≡ size.h → IsGridOf (head_text size geo nodata ++ flat_map row_text rows) size read nodata (flattened rows)
unfolding head_text
grid_again size geo nodata read [] r int again rows_are count = absurd (omega (arith, r.some_lines, count))
grid_again size geo nodata read ([] ∷ rows) r int again rows_are count = absurd (omega (arith, r.some_columns, rows_are.long 0 [] (omega arith)))
grid_again size geo nodata read ((x ∷ xs) ∷ rows) r int again rows_are count =
    rows_again size (placing_of size geo) read nodata x xs rows r again (placing_ticks size geo read again) int (all_of ((x ∷ xs) ∷ rows) rows_are.values) (count_of size.w ((x ∷ xs) ∷ rows) rows_are.long ∙ ap (λ k. k * size.w) count ∙ mul_comm size.h size.w)
