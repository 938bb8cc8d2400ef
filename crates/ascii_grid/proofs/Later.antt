-- A value that isn't the first of its row.
use Rattle.std.proofs.Common.{◌≡◌, ℕ, true, false, List, [], sym, ap, ◌∙◌, Ok, Result, Some, None, Option, take, length, ◌≤◌, ◌<◌, ◌+◌, arith, get_or}
use Rattle.std.specs.Prelude.{is_some}
use Rattle.lists_and_answers.specs.Answers.{◌>>=◌}
use Rattle.lists_and_answers.specs.Texts.{is_white}
use Rattle.ascii_grid.specs.declared.faults.GridFault.{GridFault}
use Rattle.ascii_grid.specs.declared.head_parts.Stage.{Stage}
use Rattle.ascii_grid.specs.Scan.{Scanned, State, Open, Read, fed, add_token, passed_over, scanned}
use Rattle.ascii_grid.proofs.Pieces.{open_at}
use Rattle.ascii_grid.proofs.KeyValues.{token_at}

-- a value that was counted
pub later_kept : (bytes : List ℕ) (n : ℕ) → 0 < n → n ≤ 64 → n < length bytes → ((k : ℕ) → k < n → is_white (get_or bytes k 0) ≡ false) → is_white (get_or bytes n 0) ≡ true
    → (fault : Option GridFault) (held next_held : Open) (stage here next_stage : Stage) (rows : List ℕ) (self : Scanned) → is_some fault ≡ false → scanned fault held stage rows ≡ self → stage ≡ here → ((s : State) → self ≡ Ok s → s.held.text ≡ [])
    → add_token (record { stage = here; rows = rows }) (record { at = held.at; text = take n bytes }) ≡ Ok (record { stage = next_stage; rows = rows }) → next_held ≡ passed_over held.at n
    → scanned fault next_held next_stage rows ≡ fed self (take (n + 1) bytes)
later_kept bytes n some few within dark white (Some f) held next_held stage here next_stage rows self none is stage_is closed read held_is = absurd (cc)
later_kept bytes n some few within dark white None held next_held stage here next_stage rows self none is stage_is closed read held_is =
    let old : Read = record { stage = here; rows = rows } in
    let new : Read = record { stage = next_stage; rows = rows } in
    let up : 0 + n ≡ n = omega arith in
    ap (λ (o : Open). Ok (record { held = o; read = new })) held_is
    ∙ ap (λ (q : Result Read GridFault). q >>= λ q. Ok (record { held = passed_over held.at n; read = q })) (sym read)
    ∙ sym (token_at bytes 0 n held.at held.begun old some few (omega arith) (λ k least less. dark k (omega arith)) (ap (λ j. is_white (get_or bytes j 0)) up ∙ white))
    ∙ ap (λ (l : List ℕ). fed (Ok (record { held = open_at held.at held.begun l; read = old })) (take (n + 1) bytes)) (sym (closed (record { held = held; read = record { stage = stage; rows = rows } }) (sym is)))
    ∙ ap (λ (g : Stage). fed (Ok (record { held = held; read = record { stage = g; rows = rows } })) (take (n + 1) bytes)) (sym stage_is)
    ∙ ap (λ (s : Scanned). fed s (take (n + 1) bytes)) is
