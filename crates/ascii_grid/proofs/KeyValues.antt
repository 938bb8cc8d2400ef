-- A key and its value that are taken at once.
use Rattle.std.proofs.Common.{◌≡◌, ℕ, Bool, true, false, List, [], ◌∷◌, ◌++◌, refl, sym, ap, ◌∙◌, Ok, Err, Result, Some, None, Option, take, drop, length, ◌≤◌, ◌<◌, ◌+◌, ◌-◌, min, arith, cond, get_or}
use Rattle.std.proofs.lemmas.List.{get_or-drop, get_or-take, length-drop, length-take-le, take_more}
use Rattle.std.specs.Prelude.{is_some}
use Rattle.lists_and_answers.specs.Answers.{◌>>=◌}
use Rattle.lists_and_answers.specs.Texts.{is_white}
use Rattle.ascii_grid.specs.declared.faults.GridFault.{GridFault}
use Rattle.ascii_grid.specs.declared.head_parts.Found.{Found}
use Rattle.ascii_grid.specs.declared.head_parts.Key.{Key}
use Rattle.ascii_grid.specs.declared.head_parts.Stage.{Stage}
use Rattle.ascii_grid.specs.declared.head_parts.Stage.TheVariants.{AtKey, AtValue}
use Rattle.ascii_grid.specs.Tokens.{Token, next}
use Rattle.ascii_grid.specs.Values.{is_body_start}
use Rattle.ascii_grid.specs.Keys.{key_of, with_value}
use Rattle.ascii_grid.specs.Scan.{Scanned, State, Open, Read, fed, add_token, passed_over, scanned, step}
use Rattle.ascii_grid.proofs.Pieces.{open_at, fed_more}
use Rattle.ascii_grid.proofs.Runs.{behind, taken_more, token_fed}
use Rattle.ascii_grid.proofs.Whites.{AreWhite, white_fed}

-- so many bytes from a place on
abbrev part : List ℕ → ℕ → ℕ → List ℕ
part bytes a m = take m (drop a bytes)

part_long : (bytes : List ℕ) (a m : ℕ) → a + m ≤ length bytes → length (part bytes a m) ≡ m
part_long bytes a m within = length-take-le m (drop a bytes) (omega (arith, length-drop a bytes))

part_at : (bytes : List ℕ) (a m k : ℕ) → k < m → get_or (part bytes a m) k 0 ≡ get_or bytes (a + k) 0
part_at bytes a m k less = get_or-take m (drop a bytes) k 0 less ∙ get_or-drop a bytes k 0

-- a token from a place on, and the white byte behind it
pub token_at : (bytes : List ℕ) (a m at begun : ℕ) (r : Read) → 0 < m → m ≤ 64 → a + m < length bytes → ((k : ℕ) → a ≤ k → k < a + m → is_white (get_or bytes k 0) ≡ false) → is_white (get_or bytes (a + m) 0) ≡ true
    → fed (Ok (record { held = open_at at begun []; read = r })) (part bytes a (m + 1)) ≡ (add_token r (record { at = at; text = part bytes a m }) >>= λ q. Ok (record { held = passed_over at m; read = q }))
token_at bytes a m at begun r some few within dark white =
    let run : List ℕ = part bytes a m in
    let count : length run ≡ m = part_long bytes a m (omega arith) in
    let w : ℕ = get_or (drop a bytes) m 0 in
    let last : is_white w ≡ true = ap is_white (get_or-drop a bytes m 0) ∙ white in
    let one_more : part bytes a (m + 1) ≡ run ++ w ∷ [] = take_more (drop a bytes) m 0 (omega (arith, length-drop a bytes)) in
    ap (fed (Ok (record { held = open_at at begun []; read = r }))) one_more
    ∙ token_fed run w at begun r (omega arith) (omega arith) (λ k less. ap is_white (part_at bytes a m k (omega arith)) ∙ dark (a + k) (omega arith) (omega arith)) last
    ∙ ap (λ (n : ℕ). add_token r (record { at = at; text = run }) >>= λ q. Ok (record { held = passed_over at n; read = q })) count

key_added : (f : Found) (k : Key) (rows : List ℕ) (t : Token) → is_body_start t.text ≡ false → key_of t.text ≡ Some k → add_token (record { stage = AtKey f; rows = rows }) t ≡ Ok (record { stage = AtValue f k; rows = rows })
unfolding step
key_added f k rows t head key = rw (head, key) refl

-- what a value gives
abbrev kept : ℕ → ℕ → List ℕ → Found → Scanned
kept at n rows g = Ok (record { held = passed_over at n; read = record { stage = AtKey g; rows = rows } })

abbrev key_next : Found → Result (Stage × Bool) GridFault
key_next g = Ok (AtKey g, false)

abbrev noted : ℕ → List ℕ → Stage × Bool → Result Read GridFault
noted at rows next = Ok (record { stage = next.0; rows = cond next.1 (rows ++ at ∷ []) rows })

abbrev held_then : ℕ → ℕ → Read → Scanned
held_then at n q = Ok (record { held = passed_over at n; read = q })

value_then : (w : Result Found GridFault) (at n : ℕ) (rows : List ℕ) → (((w >>= key_next) >>= noted at rows) >>= held_then at n) ≡ (w >>= kept at n rows)
value_then (Ok g) at n rows = refl
value_then (Err e) at n rows = refl

value_added : (f : Found) (k : Key) (rows : List ℕ) (at n : ℕ) (text : List ℕ) → (add_token (record { stage = AtValue f k; rows = rows }) (record { at = at; text = text }) >>= λ q. Ok (record { held = passed_over at n; read = q })) ≡ (with_value f k (record { at = at; text = text }) >>= kept at n rows)
unfolding step
value_added f k rows at n text = value_then (with_value f k (record { at = at; text = text })) at n rows

behind_from : (ws : List ℕ) (at : ℕ) → at ≤ 18446744073709551615 → behind ws at ≡ min (at + length ws) 18446744073709551615
behind_from [] at small = omega arith
behind_from (c ∷ cs) at small = let rest = behind_from cs (next at) (omega arith) in omega arith

module _ (bytes : List ℕ) (n from end : ℕ) (some : 0 < n) (few : n ≤ 64) (behind_key : n < from) (value : from < end) (short : end - from ≤ 64) (within : end < length bytes)
    (dark : (k : ℕ) → k < n → is_white (get_or bytes k 0) ≡ false) (white : (k : ℕ) → n ≤ k → k < from → is_white (get_or bytes k 0) ≡ true)
    (dark_value : (k : ℕ) → from ≤ k → k < end → is_white (get_or bytes k 0) ≡ false) (last : is_white (get_or bytes end 0) ≡ true) where
  abbrev place : ℕ → ℕ
  place at = min (at + from) 18446744073709551615

  -- the key and the white space behind it
  key_fed : (f : Found) (k : Key) (rows : List ℕ) (at begun : ℕ) → is_body_start (take n bytes) ≡ false → key_of (take n bytes) ≡ Some k
      → fed (Ok (record { held = open_at at begun []; read = record { stage = AtKey f; rows = rows } })) (take from bytes) ≡ Ok (record { held = open_at (place at) at []; read = record { stage = AtValue f k; rows = rows } })
  key_fed f k rows at begun head key =
      let start : Scanned = Ok (record { held = open_at at begun []; read = record { stage = AtKey f; rows = rows } }) in
      let ws : List ℕ = part bytes (n + 1) (from - (n + 1)) in
      let count : length ws ≡ from - (n + 1) = part_long bytes (n + 1) (from - (n + 1)) (omega arith) in
      let sum : (n + 1) + (from - (n + 1)) ≡ from = omega arith in
      let cut : take from bytes ≡ take (n + 1) bytes ++ ws = ap (λ m. take m bytes) (sym sum) ∙ taken_more bytes (n + 1) (from - (n + 1)) in
      let are_white : AreWhite ws = λ j less. ap is_white (part_at bytes (n + 1) (from - (n + 1)) j (omega arith)) ∙ white (n + 1 + j) (omega arith) (omega arith) in
      let up : 0 + n ≡ n = omega arith in
      let first : fed start (take (n + 1) bytes) ≡ Ok (record { held = passed_over at n; read = record { stage = AtValue f k; rows = rows } }) =
      token_at bytes 0 n at begun (record { stage = AtKey f; rows = rows }) some few (omega arith) (λ j least less. dark j (omega arith)) (ap (λ j. is_white (get_or bytes j 0)) up ∙ white n (omega arith) behind_key)
      ∙ ap (λ (q : Result Read GridFault). q >>= λ q. Ok (record { held = passed_over at n; read = q })) (key_added f k rows (record { at = at; text = take n bytes }) head key) in
      let place_is : behind ws (min (at + n + 1) 18446744073709551615) ≡ place at = (let b = behind_from ws (min (at + n + 1) 18446744073709551615) (omega arith) in omega arith) in
      ap (fed start) cut ∙ fed_more start (take (n + 1) bytes) ws ∙ ap (λ (s : Scanned). fed s ws) first
      ∙ white_fed ws (min (at + n + 1) 18446744073709551615) at (record { stage = AtValue f k; rows = rows }) are_white
      ∙ ap (λ (p : ℕ). Ok (record { held = open_at p at []; read = record { stage = AtValue f k; rows = rows } })) place_is

  -- and the value
  pair_fed : (f : Found) (k : Key) (rows : List ℕ) (at begun : ℕ) → is_body_start (take n bytes) ≡ false → key_of (take n bytes) ≡ Some k
      → fed (Ok (record { held = open_at at begun []; read = record { stage = AtKey f; rows = rows } })) (take (end + 1) bytes) ≡ (with_value f k (record { at = place at; text = part bytes from (end - from) }) >>= kept (place at) (end - from) rows)
  pair_fed f k rows at begun head key =
      let start : Scanned = Ok (record { held = open_at at begun []; read = record { stage = AtKey f; rows = rows } }) in
      let m : ℕ = end - from in
      let sum : from + (m + 1) ≡ end + 1 = omega arith in
      let up : from + m ≡ end = omega arith in
      let cut : take (end + 1) bytes ≡ take from bytes ++ part bytes from (m + 1) = ap (λ j. take j bytes) (sym sum) ∙ taken_more bytes from (m + 1) in
      ap (fed start) cut ∙ fed_more start (take from bytes) (part bytes from (m + 1))
      ∙ ap (λ (s : Scanned). fed s (part bytes from (m + 1))) (key_fed f k rows at begun head key)
      ∙ token_at bytes from m (place at) at (record { stage = AtValue f k; rows = rows }) (omega arith) short (omega arith) (λ j least less. dark_value j least (omega arith)) (ap (λ j. is_white (get_or bytes j 0)) up ∙ last)
      ∙ value_added f k rows (place at) m (part bytes from m)

  -- a pair whose value was kept
  pub pair_kept : (fault : Option GridFault) (held next_held : Open) (stage : Stage) (f g : Found) (k : Key) (rows : List ℕ) (self : Scanned) (at : ℕ) (text : List ℕ) → is_some fault ≡ false → scanned fault held stage rows ≡ self → stage ≡ AtKey f → ((s : State) → self ≡ Ok s → s.held.text ≡ [])
      → is_body_start (take n bytes) ≡ false → key_of (take n bytes) ≡ Some k → at ≡ place held.at → text ≡ part bytes from (end - from) → with_value f k (record { at = at; text = text }) ≡ Ok g → next_held ≡ passed_over (place held.at) (end - from)
      → scanned fault next_held (AtKey g) rows ≡ fed self (take (end + 1) bytes)
  pair_kept (Some e) held next_held stage f g k rows self at text none is stage_is closed head key at_is text_is gives held_is = absurd (cc)
  pair_kept None held next_held stage f g k rows self at text none is stage_is closed head key at_is text_is gives held_is =
      let here : with_value f k (record { at = place held.at; text = part bytes from (end - from) }) ≡ Ok g = ap (λ p. with_value f k (record { at = p; text = part bytes from (end - from) })) (sym at_is) ∙ ap (λ (l : List ℕ). with_value f k (record { at = at; text = l })) (sym text_is) ∙ gives in
      ap (λ (o : Open). Ok (record { held = o; read = record { stage = AtKey g; rows = rows } })) held_is
      ∙ ap (λ (w : Result Found GridFault). w >>= kept (place held.at) (end - from) rows) (sym here)
      ∙ sym (pair_fed f k rows held.at held.begun head key)
      ∙ ap (λ (l : List ℕ). fed (Ok (record { held = open_at held.at held.begun l; read = record { stage = AtKey f; rows = rows } })) (take (end + 1) bytes)) (sym (closed (record { held = held; read = record { stage = stage; rows = rows } }) (sym is)))
      ∙ ap (λ (g : Stage). fed (Ok (record { held = held; read = record { stage = g; rows = rows } })) (take (end + 1) bytes)) (sym stage_is)
      ∙ ap (λ (s : Scanned). fed s (take (end + 1) bytes)) is

  -- a pair whose value was refused
  pub pair_refused : (fault : Option GridFault) (held : Open) (stage : Stage) (f : Found) (k : Key) (rows : List ℕ) (self : Scanned) (at : ℕ) (text : List ℕ) (e : GridFault) → is_some fault ≡ false → scanned fault held stage rows ≡ self → stage ≡ AtKey f → ((s : State) → self ≡ Ok s → s.held.text ≡ [])
      → is_body_start (take n bytes) ≡ false → key_of (take n bytes) ≡ Some k → at ≡ place held.at → text ≡ part bytes from (end - from) → with_value f k (record { at = at; text = text }) ≡ Err e
      → Err e ≡ fed self (take (end + 1) bytes)
  pair_refused (Some d) held stage f k rows self at text e none is stage_is closed head key at_is text_is gives = absurd (cc)
  pair_refused None held stage f k rows self at text e none is stage_is closed head key at_is text_is gives =
      let here : with_value f k (record { at = place held.at; text = part bytes from (end - from) }) ≡ Err e = ap (λ p. with_value f k (record { at = p; text = part bytes from (end - from) })) (sym at_is) ∙ ap (λ (l : List ℕ). with_value f k (record { at = at; text = l })) (sym text_is) ∙ gives in
      ap (λ (w : Result Found GridFault). w >>= kept (place held.at) (end - from) rows) (sym here)
      ∙ sym (pair_fed f k rows held.at held.begun head key)
      ∙ ap (λ (l : List ℕ). fed (Ok (record { held = open_at held.at held.begun l; read = record { stage = AtKey f; rows = rows } })) (take (end + 1) bytes)) (sym (closed (record { held = held; read = record { stage = stage; rows = rows } }) (sym is)))
      ∙ ap (λ (g : Stage). fed (Ok (record { held = held; read = record { stage = g; rows = rows } })) (take (end + 1) bytes)) (sym stage_is)
      ∙ ap (λ (s : Scanned). fed s (take (end + 1) bytes)) is
