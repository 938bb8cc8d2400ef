-- White space that is passed at once.
use Rattle.std.proofs.Common.{◌≡◌, ℕ, suc, true, List, [], ◌∷◌, refl, sym, ap, ◌∙◌, Ok, length, ◌<◌, ◌+◌, min, arith, get_or, Option, Some, None}
use Rattle.lists_and_answers.specs.Texts.{is_white}
use Rattle.ascii_grid.specs.declared.faults.GridFault.{GridFault}
use Rattle.ascii_grid.specs.declared.head_parts.Stage.{Stage}
use Rattle.ascii_grid.specs.Tokens.{next}
use Rattle.ascii_grid.specs.Scan.{Scanned, State, Open, Read, fed, add_byte, scanned}
use Rattle.ascii_grid.specs.Row.{Row, Reading, row_byte, row_fed}
use Rattle.ascii_grid.proofs.Pieces.{open_at, stuck_bytes}
use Rattle.ascii_grid.proofs.Runs.{behind}

-- where no token is open, behind so many bytes
abbrev pub white_passed : Open → ℕ → Open
white_passed o n = record { at = min (o.at + n) 18446744073709551615; begun = o.begun; text = [] }

abbrev pub AreWhite : List ℕ → Type 0
AreWhite ws = (k : ℕ) → k < length ws → is_white (get_or ws k 0) ≡ true

behind_is : (c : ℕ) (cs : List ℕ) (at : ℕ) → behind (c ∷ cs) at ≡ min (at + length (c ∷ cs)) 18446744073709551615
behind_is c [] at = omega arith
behind_is c (d ∷ ds) at = let rest = behind_is d ds (next at) in omega arith

pub white_fed : (ws : List ℕ) (at begun : ℕ) (r : Read) → AreWhite ws → fed (Ok (record { held = open_at at begun []; read = r })) ws ≡ Ok (record { held = open_at (behind ws at) begun []; read = r })
unfolding add_byte
white_fed [] at begun r white = refl
white_fed (c ∷ cs) at begun r white =
    let first : is_white c ≡ true = white 0 (omega arith) in
    rw first (white_fed cs (next at) begun r (λ k more. white (suc k) (omega arith)))

-- the scanner behind white space
pub white_added : (ws : List ℕ) (fault : Option GridFault) (held next_held : Open) (stage : Stage) (rows : List ℕ) (self : Scanned) → 0 < length ws → AreWhite ws → scanned fault held stage rows ≡ self → ((s : State) → self ≡ Ok s → s.held.text ≡ []) → next_held ≡ white_passed held (length ws) → scanned fault next_held stage rows ≡ fed self ws
white_added ws (Some f) held next_held stage rows self some white is closed held_is = sym (stuck_bytes f ws) ∙ ap (λ (s : Scanned). fed s ws) is
white_added [] None held next_held stage rows self some white is closed held_is = absurd (omega arith)
white_added (c ∷ cs) None held next_held stage rows self some white is closed held_is =
    let r : Read = record { stage = stage; rows = rows } in
    ap (λ (o : Open). Ok (record { held = o; read = r })) held_is
    ∙ ap (λ (p : ℕ). Ok (record { held = open_at p held.begun []; read = r })) (sym (behind_is c cs held.at))
    ∙ sym (white_fed (c ∷ cs) held.at held.begun r white)
    ∙ ap (λ (l : List ℕ). fed (Ok (record { held = open_at held.at held.begun l; read = r })) (c ∷ cs)) (sym (closed (record { held = held; read = r }) (sym is)))
    ∙ ap (λ (s : Scanned). fed s (c ∷ cs)) is

row_white : (ws : List ℕ) (at begun : ℕ) (row : Row) → AreWhite ws → row_fed (record { held = open_at at begun []; row = row }) ws ≡ record { held = open_at (behind ws at) begun []; row = row }
unfolding row_byte
row_white [] at begun row white = refl
row_white (c ∷ cs) at begun row white =
    let first : is_white c ≡ true = white 0 (omega arith) in
    rw first (row_white cs (next at) begun row (λ k more. white (suc k) (omega arith)))

-- so with the values of a row
pub row_white_added : (ws : List ℕ) (held next_held : Open) (row : Row) → held.text ≡ [] → 0 < length ws → AreWhite ws → next_held ≡ white_passed held (length ws) → record { held = next_held; row = row } ≡ row_fed (record { held = held; row = row }) ws
row_white_added [] held next_held row closed some white held_is = absurd (omega arith)
row_white_added (c ∷ cs) held next_held row closed some white held_is =
    let f : Open → Reading = λ o. record { held = o; row = row } in
    ap f held_is ∙ ap (λ (p : ℕ). f (open_at p held.begun [])) (sym (behind_is c cs held.at))
    ∙ sym (row_white (c ∷ cs) held.at held.begun row white)
    ∙ ap (λ (l : List ℕ). row_fed (f (open_at held.at held.begun l)) (c ∷ cs)) (sym closed)
