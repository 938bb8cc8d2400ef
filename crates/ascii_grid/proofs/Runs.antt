-- Whole tokens that are taken at once.
use Rattle.std.proofs.Common.{◌≡◌, ℕ, zero, suc, true, false, List, [], ◌∷◌, ◌++◌, refl, sym, ap, subst, ◌∙◌, Ok, Err, Result, inl, inr, take, drop, length, ◌≤◌, ◌<◌, ◌+◌, ◌-◌, min, arith, get_or, append_assoc, Option, Some, None}
use Rattle.std.proofs.lemmas.Bool.{lt-ltb}
use Rattle.std.proofs.lemmas.List.{append-nil, take_more, take_all, take_rest}
use Rattle.lists_and_answers.specs.Answers.{◌>>=◌}
use Rattle.lists_and_answers.specs.Texts.{is_white}
use Rattle.std.specs.Prelude.{is_some}
use Rattle.ascii_grid.specs.declared.faults.GridFault.{GridFault}
use Rattle.ascii_grid.specs.declared.faults.GridFault.TheVariants.{Memory}
use Rattle.ascii_grid.specs.declared.head_parts.Stage.{Stage}
use Rattle.ascii_grid.specs.Tokens.{next}
use Rattle.ascii_grid.specs.Scan.{Scanned, State, Open, Read, fed, add_byte, add_token, is_open, passed_over, scanned}
use Rattle.ascii_grid.specs.Scanning.{Reaches, with_read}
use Rattle.ascii_grid.specs.Row.{Row, Reading, row_byte, row_fed, put}
use Rattle.std.proofs.lemmas.List.Sums.{fold-append}
use Rattle.ascii_grid.proofs.Pieces.{fed_more, open_at, stuck_bytes}

-- the place behind these bytes
abbrev pub behind : List ℕ → ℕ → ℕ
behind [] at = at
behind (c ∷ cs) at = behind cs (next at)

next_behind : (cs : List ℕ) (at : ℕ) → next (behind cs at) ≡ min (at + length cs + 1) 18446744073709551615
next_behind [] at = omega arith
next_behind (c ∷ cs) at = let rest = next_behind cs (next at) in omega arith

length_more : (xs : List ℕ) (c : ℕ) → length (xs ++ c ∷ []) ≡ length xs + 1
length_more [] c = refl
length_more (x ∷ xs) c = let n = length_more xs c in omega arith

-- bytes of a token that is open
inside : (cs : List ℕ) (at begun x : ℕ) (xs : List ℕ) (r : Read) → ((k : ℕ) → k < length cs → is_white (get_or cs k 0) ≡ false) → length xs + length cs ≤ 64
    → fed (Ok (record { held = open_at at begun (x ∷ xs); read = r })) cs ≡ Ok (record { held = open_at (behind cs at) begun (x ∷ (xs ++ cs)); read = r })
unfolding add_byte
inside [] at begun x xs r dark few = ap (λ (l : List ℕ). Ok (record { held = open_at at begun (x ∷ l); read = r })) (sym (append-nil xs))
inside (c ∷ cs) at begun x xs r dark few =
    let first : is_white c ≡ false = dark 0 (omega arith) in
    let less : length (x ∷ xs) < 65 = omega arith in
    let count : length (xs ++ c ∷ []) + length cs ≤ 64 = (let n = length_more xs c in omega arith) in
    rw (first, lt-ltb (length (x ∷ xs)) 65 less)
    (inside cs (next at) begun x (xs ++ c ∷ []) r (λ k more. dark (suc k) (omega arith)) count
    ∙ ap (λ (l : List ℕ). Ok (record { held = open_at (behind cs (next at)) begun (x ∷ l); read = r })) (append_assoc xs (c ∷ []) cs))

-- a whole token, and white space behind it
pub token_fed : (run : List ℕ) (w at begun : ℕ) (r : Read) → 0 < length run → length run ≤ 64 → ((k : ℕ) → k < length run → is_white (get_or run k 0) ≡ false) → is_white w ≡ true
    → fed (Ok (record { held = open_at at begun []; read = r })) (run ++ w ∷ []) ≡ (add_token r (record { at = at; text = run }) >>= λ q. Ok (record { held = passed_over at (length run); read = q }))
unfolding add_byte
token_fed [] w at begun r some few dark white = absurd (omega arith)
token_fed (c ∷ cs) w at begun r some few dark white =
    let first : is_white c ≡ false = dark 0 (omega arith) in
    let place : next (behind cs (next at)) ≡ min (at + length (c ∷ cs) + 1) 18446744073709551615 = (let rest = next_behind cs (next at) in omega arith) in
    let last : fed (Ok (record { held = open_at (behind cs (next at)) at (c ∷ cs); read = r })) (w ∷ []) ≡ (add_token r (record { at = at; text = c ∷ cs }) >>= λ q. Ok (record { held = passed_over at (length (c ∷ cs)); read = q })) =
    rw white (ap (λ p. add_token r (record { at = at; text = c ∷ cs }) >>= λ q. Ok (record { held = open_at p at []; read = q })) place) in
    let opens : fed (Ok (record { held = open_at at begun []; read = r })) (c ∷ cs) ≡ Ok (record { held = open_at (behind cs (next at)) at (c ∷ cs); read = r }) =
    rw first (inside cs (next at) at c [] r (λ k more. dark (suc k) (omega arith)) (omega arith)) in
    fed_more (Ok (record { held = open_at at begun []; read = r })) (c ∷ cs) (w ∷ []) ∙ ap (λ (s : Scanned). fed s (w ∷ [])) opens ∙ last

closed_text : (text : List ℕ) → is_open text ≡ false → text ≡ []
closed_text [] closed = refl
closed_text (c ∷ cs) closed = absurd (cc)

-- no token is open where the scanner's fields say so
pub closed_of : (fault : Option GridFault) (held : Open) (stage : Stage) (rows : List ℕ) (s : State) → is_open held.text ≡ false → scanned fault held stage rows ≡ Ok s → s.held.text ≡ []
closed_of None held stage rows s closed is = closed_text s.held.text (let same : record { held = held; read = record { stage = stage; rows = rows } } ≡ s = cc in ap (λ (x : State). is_open x.held.text) (sym same) ∙ closed)
closed_of (Some f) held stage rows s closed is = absurd (cc)

-- a token that was added
pub whole_added : (token : List ℕ) (held : Open) (r new : Read) (t : Unit {0}) (c : ℕ) → held.text ≡ [] → 0 < length token → length token ≤ 64 → ((k : ℕ) → k < length token → is_white (get_or token k 0) ≡ false) → is_white c ≡ true
    → Reaches (with_read (Ok t) new) (add_token r (record { at = held.at; text = token }))
    → Reaches (Ok (record { held = passed_over held.at (length token); read = new })) (fed (Ok (record { held = held; read = r })) (token ++ c ∷ []))
whole_added token held r new t c closed some few dark white (inl gone) = absurd (cc)
whole_added token held r new t c closed some few dark white (inr is) =
    inr (ap (λ (q : Result Read GridFault). q >>= λ q. Ok (record { held = passed_over held.at (length token); read = q })) is
    ∙ sym (token_fed token c held.at held.begun r some few dark white)
    ∙ ap (λ (l : List ℕ). fed (Ok (record { held = open_at held.at held.begun l; read = r })) (token ++ c ∷ [])) (sym closed))

-- a token that was refused
pub whole_refused : (token : List ℕ) (held : Open) (r new : Read) (f : GridFault) (c : ℕ) → held.text ≡ [] → 0 < length token → length token ≤ 64 → ((k : ℕ) → k < length token → is_white (get_or token k 0) ≡ false) → is_white c ≡ true
    → Reaches (with_read (Err f) new) (add_token r (record { at = held.at; text = token }))
    → Reaches (Err f) (fed (Ok (record { held = held; read = r })) (token ++ c ∷ []))
whole_refused token held r new f c closed some few dark white (inl gone) = inl (let same : f ≡ Memory = cc in ap (λ (g : GridFault). Err g) same)
whole_refused token held r new f c closed some few dark white (inr is) =
    inr (ap (λ (q : Result Read GridFault). q >>= λ q. Ok (record { held = passed_over held.at (length token); read = q })) is
    ∙ sym (token_fed token c held.at held.begun r some few dark white)
    ∙ ap (λ (l : List ℕ). fed (Ok (record { held = open_at held.at held.begun l; read = r })) (token ++ c ∷ [])) (sym closed))

pub taken_more : (xs : List ℕ) (a n : ℕ) → take (a + n) xs ≡ take a xs ++ take n (drop a xs)
taken_more xs zero n = (let e : 0 + n ≡ n = omega arith in ap (λ k. take k xs) e)
taken_more [] (suc a) n = let none : List ℕ = [] in take_all (suc a + n) none (omega arith) ∙ sym (take_all n none (omega arith))
taken_more (x ∷ xs) (suc a) n = (let e : suc a + n ≡ suc (a + n) = omega arith in ap (λ k. take k (x ∷ xs)) e ∙ ap (λ (l : List ℕ). x ∷ l) (taken_more xs a n))

-- a further part
pub part_reaches : (start s t : Scanned) (bytes : List ℕ) (at n : ℕ) → Reaches s (fed start (take at bytes)) → Reaches t (fed s (take n (drop at bytes))) → Reaches t (fed start (take (at + n) bytes))
part_reaches start s t bytes at n (inl memory) (inl gone) = inl gone
part_reaches start s t bytes at n (inl memory) (inr now) = inl (now ∙ ap (λ (x : Scanned). fed x (take n (drop at bytes))) memory ∙ stuck_bytes Memory (take n (drop at bytes)))
part_reaches start s t bytes at n (inr so_far) (inl gone) = inl gone
part_reaches start s t bytes at n (inr so_far) (inr now) = inr (now ∙ ap (λ (x : Scanned). fed x (take n (drop at bytes))) so_far ∙ sym (fed_more start (take at bytes) (take n (drop at bytes))) ∙ ap (fed start) (sym (taken_more bytes at n)))

-- a whole token among the bytes
pub whole_part : (s t : Scanned) (bytes : List ℕ) (n : ℕ) → n < length bytes → is_white (get_or bytes n 0) ≡ true → ((c : ℕ) → is_white c ≡ true → Reaches t (fed s (take n bytes ++ c ∷ []))) → Reaches t (fed s (take (n + 1) bytes))
whole_part s t bytes n less white is = subst (λ (l : List ℕ). Reaches t (fed s l)) (sym (take_more bytes n 0 less)) (is (get_or bytes n 0) white)

-- the rest of the bytes
pub rest_reaches : (start s t : Scanned) (bytes : List ℕ) (at n : ℕ) → Reaches s (fed start (take at bytes)) → Reaches t (fed s (take n (take (length bytes - at) (drop at bytes)))) → Reaches t (fed start (take (at + n) bytes))
rest_reaches start s t bytes at n so_far now = part_reaches start s t bytes at n so_far (subst (λ (l : List ℕ). Reaches t (fed s (take n l))) (take_rest bytes at) now)

-- so where no memory is wanted
pub fed_part : (start s t : Scanned) (bytes : List ℕ) (at n : ℕ) → s ≡ fed start (take at bytes) → t ≡ fed s (take n (take (length bytes - at) (drop at bytes))) → t ≡ fed start (take (at + n) bytes)
fed_part start s t bytes at n so_far now =
    now ∙ ap (λ (l : List ℕ). fed s (take n l)) (take_rest bytes at) ∙ ap (λ (x : Scanned). fed x (take n (drop at bytes))) so_far
    ∙ sym (fed_more start (take at bytes) (take n (drop at bytes))) ∙ ap (fed start) (sym (taken_more bytes at n))

-- a scanner with a fault stays as it is
pub fault_fed : (fault : Option GridFault) (held : Open) (stage : Stage) (rows : List ℕ) (self : Scanned) (bytes : List ℕ) → is_some fault ≡ true → scanned fault held stage rows ≡ self → Reaches self (fed self bytes)
fault_fed None held stage rows self bytes some is = absurd (cc)
fault_fed (Some f) held stage rows self bytes some is = inr (sym is ∙ sym (stuck_bytes f bytes) ∙ ap (λ (s : Scanned). fed s bytes) is)

module _ (token : List ℕ) (c : ℕ) (some : 0 < length token) (few : length token ≤ 64) (dark : (k : ℕ) → k < length token → is_white (get_or token k 0) ≡ false) (white : is_white c ≡ true) where
  pub whole_ok : (fault : Option GridFault) (held next_held : Open) (stage next_stage : Stage) (rows next_rows : List ℕ) (self : Scanned) (t : Unit {0}) (at : ℕ) → is_some fault ≡ false → scanned fault held stage rows ≡ self → ((s : State) → self ≡ Ok s → s.held.text ≡ [])
      → at ≡ held.at → next_held ≡ passed_over held.at (length token)
      → Reaches (with_read (Ok t) (record { stage = next_stage; rows = next_rows })) (add_token (record { stage = stage; rows = rows }) (record { at = at; text = token }))
      → Reaches (scanned fault next_held next_stage next_rows) (fed self (token ++ c ∷ []))
  whole_ok (Some f) held next_held stage next_stage rows next_rows self t at none is closed at_is held_is read = absurd (cc)
  whole_ok None held next_held stage next_stage rows next_rows self t at none is closed at_is held_is read =
      let old : Read = record { stage = stage; rows = rows } in
      let new : Read = record { stage = next_stage; rows = next_rows } in
      let here : Reaches (with_read (Ok t) new) (add_token old (record { at = held.at; text = token })) = subst (λ (p : ℕ). Reaches (with_read (Ok t) new) (add_token old (record { at = p; text = token }))) at_is read in
      subst (λ (s : Scanned). Reaches (Ok (record { held = next_held; read = new })) (fed s (token ++ c ∷ []))) is
      (subst (λ (o : Open). Reaches (Ok (record { held = o; read = new })) (fed (Ok (record { held = held; read = old })) (token ++ c ∷ []))) (sym held_is)
      (whole_added token held old new t c (closed (record { held = held; read = old }) (sym is)) some few dark white here))

  pub whole_err : (fault : Option GridFault) (held : Open) (stage next_stage : Stage) (rows next_rows : List ℕ) (self : Scanned) (f : GridFault) (at : ℕ) → is_some fault ≡ false → scanned fault held stage rows ≡ self → ((s : State) → self ≡ Ok s → s.held.text ≡ [])
      → at ≡ held.at
      → Reaches (with_read (Err f) (record { stage = next_stage; rows = next_rows })) (add_token (record { stage = stage; rows = rows }) (record { at = at; text = token }))
      → Reaches (Err f) (fed self (token ++ c ∷ []))
  whole_err (Some g) held stage next_stage rows next_rows self f at none is closed at_is read = absurd (cc)
  whole_err None held stage next_stage rows next_rows self f at none is closed at_is read =
      let old : Read = record { stage = stage; rows = rows } in
      let new : Read = record { stage = next_stage; rows = next_rows } in
      let here : Reaches (with_read (Err f) new) (add_token old (record { at = held.at; text = token })) = subst (λ (p : ℕ). Reaches (with_read (Err f) new) (add_token old (record { at = p; text = token }))) at_is read in
      subst (λ (s : Scanned). Reaches (Err f) (fed s (token ++ c ∷ []))) is
      (whole_refused token held old new f c (closed (record { held = held; read = old }) (sym is)) some few dark white here)

-- so with the values of a row
row_inside : (cs : List ℕ) (at begun x : ℕ) (xs : List ℕ) (row : Row) → ((k : ℕ) → k < length cs → is_white (get_or cs k 0) ≡ false) → length xs + length cs ≤ 64
    → row_fed (record { held = open_at at begun (x ∷ xs); row = row }) cs ≡ record { held = open_at (behind cs at) begun (x ∷ (xs ++ cs)); row = row }
unfolding row_byte
row_inside [] at begun x xs row dark few = (let f : List ℕ → Reading = λ l. record { held = open_at at begun (x ∷ l); row = row } in ap f (sym (append-nil xs)))
row_inside (c ∷ cs) at begun x xs row dark few =
    let first : is_white c ≡ false = dark 0 (omega arith) in
    let less : length (x ∷ xs) < 65 = omega arith in
    let count : length (xs ++ c ∷ []) + length cs ≤ 64 = (let n = length_more xs c in omega arith) in
    let f : List ℕ → Reading = λ l. record { held = open_at (behind cs (next at)) begun (x ∷ l); row = row } in
    rw (first, lt-ltb (length (x ∷ xs)) 65 less)
    (row_inside cs (next at) begun x (xs ++ c ∷ []) row (λ k more. dark (suc k) (omega arith)) count ∙ ap f (append_assoc xs (c ∷ []) cs))

row_token : (run : List ℕ) (w at begun : ℕ) (row : Row) → 0 < length run → length run ≤ 64 → ((k : ℕ) → k < length run → is_white (get_or run k 0) ≡ false) → is_white w ≡ true
    → row_fed (record { held = open_at at begun []; row = row }) (run ++ w ∷ []) ≡ record { held = passed_over at (length run); row = put row run }
unfolding row_byte
row_token [] w at begun row some few dark white = absurd (omega arith)
row_token (c ∷ cs) w at begun row some few dark white =
    let first : is_white c ≡ false = dark 0 (omega arith) in
    let place : next (behind cs (next at)) ≡ min (at + length (c ∷ cs) + 1) 18446744073709551615 = (let rest = next_behind cs (next at) in omega arith) in
    let f : ℕ → Reading = λ p. record { held = open_at p at []; row = put row (c ∷ cs) } in
    let last : row_fed (record { held = open_at (behind cs (next at)) at (c ∷ cs); row = row }) (w ∷ []) ≡ record { held = passed_over at (length (c ∷ cs)); row = put row (c ∷ cs) } = rw white (ap f place) in
    let opens : row_fed (record { held = open_at at begun []; row = row }) (c ∷ cs) ≡ record { held = open_at (behind cs (next at)) at (c ∷ cs); row = row } =
    rw first (row_inside cs (next at) at c [] row (λ k more. dark (suc k) (omega arith)) (omega arith)) in
    fold-append row_byte (record { held = open_at at begun []; row = row }) (c ∷ cs) (w ∷ []) ∙ ap (λ (s : Reading). row_fed s (w ∷ [])) opens ∙ last

-- a whole token whose value was put
pub row_whole : (token : List ℕ) (c : ℕ) (held next_held : Open) (row new : Row) → held.text ≡ [] → 0 < length token → length token ≤ 64 → ((k : ℕ) → k < length token → is_white (get_or token k 0) ≡ false) → is_white c ≡ true
    → next_held ≡ passed_over held.at (length token) → new ≡ put row token
    → record { held = next_held; row = new } ≡ row_fed (record { held = held; row = row }) (token ++ c ∷ [])
row_whole token c held next_held row new closed some few dark white held_is row_is =
    let f : Open → Row → Reading = λ o r. record { held = o; row = r } in
    ap (λ (o : Open). f o new) held_is ∙ ap (f (passed_over held.at (length token))) row_is
    ∙ sym (row_token token c held.at held.begun row some few dark white)
    ∙ ap (λ (l : List ℕ). row_fed (record { held = open_at held.at held.begun l; row = row }) (token ++ c ∷ [])) (sym closed)

-- a further part of a row's bytes
pub row_part : (start s t : Reading) (bytes : List ℕ) (at n : ℕ) → s ≡ row_fed start (take at bytes) → t ≡ row_fed s (take n (take (length bytes - at) (drop at bytes))) → t ≡ row_fed start (take (at + n) bytes)
row_part start s t bytes at n so_far now =
    now ∙ ap (λ (l : List ℕ). row_fed s (take n l)) (take_rest bytes at) ∙ ap (λ (x : Reading). row_fed x (take n (drop at bytes))) so_far
    ∙ sym (fold-append row_byte start (take at bytes) (take n (drop at bytes))) ∙ ap (row_fed start) (sym (taken_more bytes at n))
