use Rattle.std.proofs.Common.{List, ℕ}
use denote.Bor.{Bor}
use Rattle.std.specs.Option.{option_map}
use Rattle.vrt_profile.proofs.ShortNumbers.{piece_pair, pair_behind}
use Rattle.vrt_profile.proofs.fronts.short_pair.Goals as goal

pub returns-clause-pair : goal.returns-clause-pair
returns-clause-pair c =
    let p = c.in_ok-pair in
    let b = c.in_ok-behind in
    piece_pair c.args.text.now p.rest.now p.pair (option_map (λ (r : Bor (List ℕ)). r.now) b.behind) p.ensures.pair b.ensures.behind

pub returns-clause-behind : goal.returns-clause-behind
returns-clause-behind c =
    let p = c.in_ok-pair in
    let b = c.in_ok-behind in
    pair_behind c.args.text.now p.rest.now p.pair (option_map (λ (r : Bor (List ℕ)). r.now) b.behind) p.ensures.pair b.ensures.behind
