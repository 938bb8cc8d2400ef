use Rattle.std.proofs.Common.{sym, ap, ◌∙◌, Ok, ◌≡◌, ◌++◌, [], ◌∷◌, Option, Some, List, ℕ, length}
use Rattle.vrt_profile.specs.Fronts.{first_piece}
use Rattle.vrt_profile.specs.Numbers.{next_pair}
use Rattle.vrt_profile.proofs.Tables.{table_more, left_after}
use Rattle.vrt_profile.proofs.lookup.push_whole_pairs.Goals as goal

pub loop-found-preserved : goal.loop-found-preserved
loop-found-preserved c =
    let l = c.loop-found in
    let piece = (first_piece l.rest.now).0 in
    let next : Ok c.in-Ok.pair ≡ next_pair (length l.pairs) l.last piece = sym c.in-Ok.is ∙ c.next_pair.ensures.pair piece (sym c.in-Some.ensures.pair) ∙ ap (λ n. next_pair n l.last piece) c.len.ensures.count in
    let longer : c.push.new.self ≡ l.pairs ++ c.in-Ok.pair ∷ [] = c.in_ok-push.ensures.ok in
    let more : ◌≡◌ {A = List ℕ × Option (List ℕ)} (piece, Some c.in-Some.behind.now) (first_piece l.rest.now) = ap (λ (o : Option (List ℕ)). (piece, o)) c.in-Some.ensures.behind in
    ap (λ xs. left_after xs c.in-Ok.pair c.in-Some.behind.now) longer
    ∙ sym (table_more l.pairs l.last l.rest.now piece c.in-Some.behind.now c.in-Ok.pair more next) ∙ l.invariant
