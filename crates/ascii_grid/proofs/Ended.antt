-- The tokens that have ended where a token begins, and between the places of two tokens.
use Rattle.std.proofs.Common.{◌≡◌, ℕ, Bool, true, false, List, [], ◌∷◌, ◌++◌, refl, sym, ap, ◌∙◌, ⊎_elim, take, drop, length, ◌≤◌, ◌<◌, ◌+◌, ◌^◌, arith, cond, suc, zero, Some}
use Rattle.std.specs.List.{take_while, slice_get}
use Rattle.std.proofs.lemmas.Bool.{cases_Bool}
use Rattle.std.proofs.lemmas.List.{take-append-drop, append-nil}
use Rattle.lists_and_answers.specs.Texts.{is_white}
use Rattle.ascii_grid.specs.Tokens.{Token, tokens_from, tokens, is_dark, token, next}
use Rattle.ascii_grid.specs.Row.{ended_from, ended_in}
use Rattle.ascii_grid.proofs.Places.{tok_white, tok_inside, tok_begins}
use Rattle.ascii_grid.proofs.Rows.{ended_white, ended_dark}

-- the token that a text begins inside of
abbrev begun : Bool → ℕ
begun true = 1
begun false = 0

-- where a token begins, the tokens before it have ended: how far behind the beginning that is, and how many they are
record Begins (text : List ℕ) (b : Bool) (at k : ℕ) (t : Token) : Type 0 where
  far : ℕ
  place : at + far ≡ t.at
  ended : (more : List ℕ) → ended_from b (take far text ++ more) ≡ begun b + (k + ended_from false more)

one_ended : (b : Bool) (e n : ℕ) → e ≡ begun false + n → cond b (1 + e) e ≡ begun b + n
one_ended true e n is = omega (arith, is)
one_ended false e n is = omega (arith, is)

-- a white byte in front
white_more : (c : ℕ) (cs : List ℕ) (b : Bool) (at k : ℕ) (t : Token) → at + suc (length cs) < 2 ^ 64 → is_white c ≡ true → Begins cs false (next at) k t → Begins (c ∷ cs) b at k t
white_more c cs b at k t room w s = record {
  far = suc s.far;
  place = omega (arith, s.place);
  ended = λ more. ended_white c (take s.far cs ++ more) b w ∙ one_ended b (ended_from false (take s.far cs ++ more)) (k + ended_from false more) (s.ended more);
}

-- a byte of the token that the text begins inside of
inside_more : (c : ℕ) (cs : List ℕ) (at k : ℕ) (t : Token) → at + suc (length cs) < 2 ^ 64 → is_white c ≡ false → Begins cs true (next at) k t → Begins (c ∷ cs) true at k t
inside_more c cs at k t room w s = record {
  far = suc s.far;
  place = omega (arith, s.place);
  ended = λ more. ended_dark c (take s.far cs ++ more) true w ∙ s.ended more;
}

-- the first byte of a token in front
token_more : (c : ℕ) (cs : List ℕ) (at k : ℕ) (t : Token) → at + suc (length cs) < 2 ^ 64 → is_white c ≡ false → Begins cs true (next at) k t → Begins (c ∷ cs) false at (suc k) t
token_more c cs at k t room w s = record {
  far = suc s.far;
  place = omega (arith, s.place);
  ended = λ more. ended_dark c (take s.far cs ++ more) false w ∙ s.ended more ∙ omega arith;
}

-- the token that begins here
begins_here : (c : ℕ) (cs : List ℕ) (at : ℕ) (t : Token) → Some (token at (c ∷ take_while is_dark cs)) ≡ Some t → Begins (c ∷ cs) false at zero t
begins_here c cs at t is =
    let same : token at (c ∷ take_while is_dark cs) ≡ t = cc in
    record { far = 0; place = omega (arith, ap (λ t. t.at) same); ended = λ more. omega arith }

begins : (text : List ℕ) (b : Bool) (at k : ℕ) (t : Token) → at + length text < 2 ^ 64 → slice_get (tokens_from b at text) k ≡ Some t → Begins text b at k t
begins [] b at k t room is = cc
begins (c ∷ cs) true at k t room is =
    ⊎_elim
    (λ (w : is_white c ≡ true). white_more c cs true at k t room w (begins cs false (next at) k t (omega arith) (ap (λ ts. slice_get ts k) (sym (tok_white c cs true at w)) ∙ is)))
    (λ (w : is_white c ≡ false). inside_more c cs at k t room w (begins cs true (next at) k t (omega arith) (ap (λ ts. slice_get ts k) (sym (tok_inside c cs at w)) ∙ is)))
    (cases_Bool (is_white c))
begins (c ∷ cs) false at zero t room is =
    ⊎_elim
    (λ (w : is_white c ≡ true). white_more c cs false at zero t room w (begins cs false (next at) zero t (omega arith) (ap (λ ts. slice_get ts zero) (sym (tok_white c cs false at w)) ∙ is)))
    (λ (w : is_white c ≡ false). begins_here c cs at t (ap (λ ts. slice_get ts zero) (sym (tok_begins c cs at w)) ∙ is))
    (cases_Bool (is_white c))
begins (c ∷ cs) false at (suc k) t room is =
    ⊎_elim
    (λ (w : is_white c ≡ true). white_more c cs false at (suc k) t room w (begins cs false (next at) (suc k) t (omega arith) (ap (λ ts. slice_get ts (suc k)) (sym (tok_white c cs false at w)) ∙ is)))
    (λ (w : is_white c ≡ false). token_more c cs at k t room w (begins cs true (next at) k t (omega arith) (ap (λ ts. slice_get ts (suc k)) (sym (tok_begins c cs at w)) ∙ is)))
    (cases_Bool (is_white c))

-- the front of a text up to one place, and on to another
front_then : (p q : ℕ) (text : List ℕ) → p ≤ q → take p text ++ drop p (take q text) ≡ take q text
front_then p q text forward = ap (λ (f : List ℕ). f ++ drop p (take q text)) (sym (take_taken p q text forward)) ∙ take-append-drop p (take q text)
  where
    take_taken : (p q : ℕ) (text : List ℕ) → p ≤ q → take p (take q text) ≡ take p text
    take_taken zero q text forward = refl
    take_taken (suc p) zero text forward = absurd (omega arith)
    take_taken (suc p) (suc q) [] forward = refl
    take_taken (suc p) (suc q) (c ∷ cs) forward = ap (λ (f : List ℕ). c ∷ f) (take_taken p q cs (omega arith))

-- from the place of a token up to that of one n tokens behind it n tokens end
pub ended_between : (text : List ℕ) (k n : ℕ) (s t : Token) → length text < 2 ^ 64 → slice_get (tokens text) k ≡ Some s → slice_get (tokens text) (k + n) ≡ Some t → s.at ≤ t.at → ended_in (drop s.at (take t.at text)) ≡ n
ended_between text k n s t short s_is t_is forward =
    let a : Begins text false 0 k s = begins text false 0 k s (omega arith) s_is in
    let b : Begins text false 0 (k + n) t = begins text false 0 (k + n) t (omega arith) t_is in
    let a_far : a.far ≡ s.at = omega (arith, a.place) in
    let b_far : b.far ≡ t.at = omega (arith, b.place) in
    let rest : List ℕ = drop s.at (take t.at text) in
    let one : ended_from false (take s.at text ++ rest) ≡ begun false + (k + ended_from false rest) = ap (λ m. ended_from false (take m text ++ rest)) (sym a_far) ∙ a.ended rest in
    let two : ended_from false (take t.at text ++ []) ≡ begun false + ((k + n) + ended_from false []) = ap (λ m. ended_from false (take m text ++ [])) (sym b_far) ∙ b.ended [] in
    let same : ended_from false (take s.at text ++ rest) ≡ ended_from false (take t.at text ++ []) = ap (ended_from false) (front_then s.at t.at text forward ∙ sym (append-nil (take t.at text))) in
    omega (arith, one, two, same)

-- the bytes from one place up to another, and those from there on
pub then_rest : (p q : ℕ) (text : List ℕ) → p ≤ q → drop p (take q text) ++ drop q text ≡ drop p text
then_rest zero q text forward = take-append-drop q text
then_rest (suc p) zero text forward = absurd (omega arith)
then_rest (suc p) (suc q) [] forward = refl
then_rest (suc p) (suc q) (c ∷ cs) forward = then_rest p q cs (omega arith)
