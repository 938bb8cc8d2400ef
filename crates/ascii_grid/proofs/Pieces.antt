-- The scanner's state behind pieces is the one behind all bytes, and its answer is that over the tokens of all bytes.
use Rattle.std.proofs.Common.{◌≡◌, ℕ, true, false, List, [], ◌∷◌, ◌++◌, refl, sym, ap, ◌∙◌, length-append, Ok, Err, Result, ⊎_elim, inl, inr, take, length, ◌≤◌, ◌<◌, ◌+◌, arith, cond, get_or, subst}
use Rattle.std.specs.List.{take_while}
use Rattle.std.proofs.lemmas.List.Sums.{fold-append, fold_more, take_while-cons}
use Rattle.std.proofs.lemmas.List.Folds.{fold_stays}
use Rattle.std.proofs.lemmas.Bool.{cases_Bool, cases_lt, lt-ltb, le-ltb}
use Rattle.std.proofs.lemmas.Bool.Decides.{nat_tests}
use Rattle.lists_and_answers.specs.Answers.{◌>>=◌}
use Rattle.lists_and_answers.specs.Texts.{is_white}
use Rattle.std.proofs.lemmas.List.{append-nil, take_all, append_assoc}
use Rattle.std.proofs.Math.Seq.{take-append_seam}
use Rattle.ascii_grid.specs.declared.faults.GridFault.{GridFault}
use Rattle.ascii_grid.specs.Tokens.{Token, tokens_from, is_dark, token, next}
use Rattle.ascii_grid.specs.Scan.{Scanned, Open, Read, then_byte, fed, add_byte, add_token, ended, is_open, push}
use Rattle.ascii_grid.specs.Scanning.{Reaches, add_tokens}

-- a step after a piece
pub reaches_step : (start s t : Scanned) (bytes : List ℕ) (i : ℕ) (d c : ℕ) → i < length bytes → c ≡ get_or bytes i d → Reaches s (fed start (take i bytes)) → Reaches t (then_byte s c) → Reaches t (fed start (take (i + 1) bytes))
reaches_step start s t bytes i d c less is (inl memory) (inl gone) = inl gone
reaches_step start s t bytes i d c less is (inl memory) (inr now) = inl (now ∙ ap (λ (x : Scanned). then_byte x c) memory)
reaches_step start s t bytes i d c less is (inr so_far) (inl gone) = inl gone
reaches_step start s t bytes i d c less is (inr so_far) (inr now) = inr (now ∙ ap (λ (x : Scanned). then_byte x c) so_far ∙ ap (then_byte (fed start (take i bytes))) is ∙ sym (fold_more then_byte start bytes i d less))

-- two pieces are as one
pub fed_more : (s : Scanned) (a b : List ℕ) → fed s (a ++ b) ≡ fed (fed s a) b
fed_more s a b = fold-append then_byte s a b

-- what was read where the text ends behind these bytes
abbrev pub ends : Scanned → Result Read GridFault
ends (Ok s) = ended s
ends (Err f) = Err f

-- the tokens that are still to come: the first goes on with an open one's text
abbrev pub rest_of : Open → List ℕ → List Token
rest_of o bytes = cond (is_open o.text) (token o.begun (o.text ++ take_while is_dark bytes) ∷ tokens_from true o.at bytes) (tokens_from false o.at bytes)

pub stuck_bytes : (f : GridFault) (bytes : List ℕ) → fed (Err f) bytes ≡ Err f
stuck_bytes f bytes = fold_stays then_byte (Err f) (λ c. refl) bytes

pub stuck_tokens : (f : GridFault) (ts : List Token) → add_tokens (Err f) ts ≡ Err f
stuck_tokens f ts = fold_stays _ (Err f) (λ t. refl) ts

full : (n : ℕ) (text more : List ℕ) → length text ≡ n → take n (text ++ more) ≡ text
full n text more e = subst (λ (k : ℕ). take k (text ++ more) ≡ text) e (take-append_seam text more)

-- a byte more of a token, of which 65 bytes are kept
pub push_then : (text : List ℕ) (c : ℕ) (more : List ℕ) → length text ≤ 65 → take 65 (push text c ++ more) ≡ take 65 (text ++ c ∷ more)
push_then text c more small =
    ⊎_elim
    (λ (less : length text < 65). rw (lt-ltb (length text) 65 less) (ap (take 65) (append_assoc text (c ∷ []) more)))
    (λ (past : 65 ≤ length text). rw (le-ltb (length text) 65 past) (full 65 text more (omega arith) ∙ sym (full 65 text (c ∷ more) (omega arith))))
    (cases_lt (length text) 65)

pub push_small : (text : List ℕ) (c : ℕ) → length text ≤ 65 → length (push text c) ≤ 65
push_small text c small = grind (arith, nat_tests, length-append)

pub push_open : (x : ℕ) (xs : List ℕ) (c : ℕ) → is_open (push (x ∷ xs) c) ≡ true
push_open x xs c = grind (arith, nat_tests)

pub whole_token : (text : List ℕ) → length text ≤ 65 → text ≡ take 65 (text ++ [])
whole_token text small = sym (ap (take 65) (append-nil text) ∙ take_all 65 text small)

-- a token that ends, and what follows
ended_then : (q : Result Read GridFault) (o : Open) (cs : List ℕ) (ts : List Token) → ((r : Read) → ends (fed (Ok (record { held = o; read = r })) cs) ≡ add_tokens (Ok r) ts) → ends (fed (q >>= λ r. Ok (record { held = o; read = r })) cs) ≡ add_tokens q ts
ended_then (Ok r) o cs ts follows = follows r
ended_then (Err f) o cs ts follows = ap ends (stuck_bytes f cs) ∙ sym (stuck_tokens f ts)

abbrev pub open_at : ℕ → ℕ → List ℕ → Open
open_at at begun text = record { at = at; begun = begun; text = text }

pub ends_is : (bytes : List ℕ) (at begun : ℕ) (text : List ℕ) (r : Read) → length text ≤ 65 → ends (fed (Ok (record { held = open_at at begun text; read = r })) bytes) ≡ add_tokens (Ok r) (rest_of (open_at at begun text) bytes)
unfolding add_byte
ends_is [] at begun [] r small = refl
ends_is [] at begun (x ∷ xs) r small = ap (λ t. add_token r (record { at = begun; text = t })) (whole_token (x ∷ xs) small)
ends_is (c ∷ cs) at begun [] r small =
    ⊎_elim
    (λ (w : is_white c ≡ true). rw w (ends_is cs (next at) begun [] r small))
    (λ (w : is_white c ≡ false). rw (take_while-cons is_dark c cs, w) (ends_is cs (next at) at (c ∷ []) r (omega arith)))
    (cases_Bool (is_white c))
ends_is (c ∷ cs) at begun (x ∷ xs) r small =
    ⊎_elim
    (λ (w : is_white c ≡ true). rw (take_while-cons is_dark c cs, w) (rw (← whole_token (x ∷ xs) small) (ended_then (add_token r (record { at = begun; text = x ∷ xs })) (open_at (next at) begun []) cs (tokens_from false (next at) cs) (λ r'. ends_is cs (next at) begun [] r' (omega arith)))))
    (λ (w : is_white c ≡ false). rw (take_while-cons is_dark c cs, w)
    (let more : ends (fed (Ok (record { held = open_at (next at) begun (push (x ∷ xs) c); read = r })) cs) ≡ add_tokens (Ok r) (rest_of (open_at (next at) begun (push (x ∷ xs) c)) cs) = ends_is cs (next at) begun (push (x ∷ xs) c) r (push_small (x ∷ xs) c small) in
    more
    ∙ ap (λ b. add_tokens (Ok r) (cond b (token begun (push (x ∷ xs) c ++ take_while is_dark cs) ∷ tokens_from true (next at) cs) (tokens_from false (next at) cs))) (push_open x xs c)
    ∙ ap (λ t. add_tokens (Ok r) (record { at = begun; text = t } ∷ tokens_from true (next at) cs)) (push_then (x ∷ xs) c (take_while is_dark cs) small)))
    (cases_Bool (is_white c))
