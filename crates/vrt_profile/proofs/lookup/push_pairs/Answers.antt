use Rattle.std.proofs.Common.{sym, ap, ◌∙◌, Ok, Err, ◌≡◌, ◌++◌, [], ◌∷◌, List, ℕ, Option, length}
use Rattle.std.specs.Option.{option_map}
use denote.Bor.{Bor}
use Rattle.vrt_profile.specs.Fronts.{first_piece}
use Rattle.vrt_profile.specs.Numbers.{next_pair}
use Rattle.vrt_profile.proofs.Tables.{table_more, table_last, table_err, left_after}
use Rattle.vrt_profile.proofs.lookup.push_pairs.Goals as goal

pub returns-in-Err : goal.returns-in-Err
returns-in-Err c =
    let behind : ◌≡◌ {A = List ℕ × Option (List ℕ)} ((first_piece c.pieces.rest.now).0, option_map (λ r. r.now) c.pair_at-found.result.1) (first_piece c.pieces.rest.now) = ap (λ o. ((first_piece c.pieces.rest.now).0, o)) c.pair_at-found.ensures.behind in
    let found : Err c.in-Err.fault ≡ next_pair (length c.pieces.pairs) c.pieces.last (first_piece c.pieces.rest.now).0 = sym c.in-Err.is ∙ c.next_pair.ensures.pair (first_piece c.pieces.rest.now).0 c.pair_at-found.ensures.pair ∙ ap (λ n. next_pair n c.pieces.last (first_piece c.pieces.rest.now).0) c.len.ensures.count in
    record { pairs = sym (table_err c.pieces.pairs c.pieces.last c.pieces.rest.now (first_piece c.pieces.rest.now).0 _ c.in-Err.fault behind found) ∙ c.pieces.invariant }

pub returns-in-None : goal.returns-in-None
returns-in-None c =
    let behind : ◌≡◌ {A = List ℕ × Option (List ℕ)} ((first_piece c.pieces.rest.now).0, option_map (λ r. r.now) c.pair_at-found.result.1) (first_piece c.pieces.rest.now) = ap (λ o. ((first_piece c.pieces.rest.now).0, o)) c.pair_at-found.ensures.behind in
    let found : Ok c.in-Ok.pair ≡ next_pair (length c.pieces.pairs) c.pieces.last (first_piece c.pieces.rest.now).0 = sym c.in-Ok.is ∙ c.next_pair.ensures.pair (first_piece c.pieces.rest.now).0 c.pair_at-found.ensures.pair ∙ ap (λ n. next_pair n c.pieces.last (first_piece c.pieces.rest.now).0) c.len.ensures.count in
    let longer : c.push.new.self ≡ c.pieces.pairs ++ c.in-Ok.pair ∷ [] = c.in-Ok-push.ensures.ok in
    let last = ap (λ (o : Option (Bor (List ℕ))). ((first_piece c.pieces.rest.now).0, option_map (λ r. r.now) o)) (sym c.in-None.is) ∙ behind in
    record { pairs = ap Ok longer ∙ sym (table_last c.pieces.pairs c.pieces.last c.pieces.rest.now (first_piece c.pieces.rest.now).0 c.in-Ok.pair last found) ∙ c.pieces.invariant }

pub pieces-preserved : goal.pieces-preserved
pieces-preserved c =
    let behind : ◌≡◌ {A = List ℕ × Option (List ℕ)} ((first_piece c.pieces.rest.now).0, option_map (λ r. r.now) c.pair_at-found.result.1) (first_piece c.pieces.rest.now) = ap (λ o. ((first_piece c.pieces.rest.now).0, o)) c.pair_at-found.ensures.behind in
    let found : Ok c.in-Ok.pair ≡ next_pair (length c.pieces.pairs) c.pieces.last (first_piece c.pieces.rest.now).0 = sym c.in-Ok.is ∙ c.next_pair.ensures.pair (first_piece c.pieces.rest.now).0 c.pair_at-found.ensures.pair ∙ ap (λ n. next_pair n c.pieces.last (first_piece c.pieces.rest.now).0) c.len.ensures.count in
    let longer : c.push.new.self ≡ c.pieces.pairs ++ c.in-Ok.pair ∷ [] = c.in-Ok-push.ensures.ok in
    let more = ap (λ (o : Option (Bor (List ℕ))). ((first_piece c.pieces.rest.now).0, option_map (λ r. r.now) o)) (sym c.in-Some.is) ∙ behind in
    ap (λ xs. left_after xs c.in-Ok.pair c.in-Some.behind.now) longer
    ∙ sym (table_more c.pieces.pairs c.pieces.last c.pieces.rest.now (first_piece c.pieces.rest.now).0 c.in-Some.behind.now c.in-Ok.pair more found) ∙ c.pieces.invariant
