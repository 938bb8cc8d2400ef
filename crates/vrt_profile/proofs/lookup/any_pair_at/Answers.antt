use Rattle.std.proofs.Common.{◌≡◌, ◌∙◌, ◌∷◌, ◌++◌, [], ap, sym, refl, List, ℕ, drop, Some, None}
use Rattle.std.specs.List.{list_all}
use Rattle.vrt_profile.specs.Fields.{pair_of}
use Rattle.vrt_profile.specs.Fronts.{first_piece, is_of_key}
use Rattle.vrt_profile.proofs.ShortNumbers.{key_taken, long_pair, long_behind, lone_pair, lone_behind, comma_behind}
use Rattle.vrt_profile.proofs.lookup.any_pair_at.Goals as goal

pub keyed_pair-requires : goal.keyed_pair-requires
keyed_pair-requires c = record { key = ap (list_all is_of_key) c.split_at.ensures.front ∙ key_taken c.args.text.now c.key_length.result c.key_length.ensures.count }

pub returns-then-mark-eq58-clause-pair : goal.returns-then-mark-eq58-clause-pair
returns-then-mark-eq58-clause-pair c =
    let text = c.args.text.now in
    let n = c.key_length.result in
    let second : List ℕ = c.in-Some.behind.now in
    let colon : drop n text ≡ 58 ∷ second = sym c.split_at.ensures.back ∙ c.in-Some.ensures.first ∙ ap (λ m. m ∷ second) c.if-mark-eq58.true in
    c.keyed_pair.ensures.pair
    ∙ ap (λ (k : List ℕ). pair_of (k ++ 58 ∷ (first_piece second).0)) c.split_at.ensures.front
    ∙ long_pair text second n c.key_length.ensures.count colon

pub returns-then-mark-eq58-clause-behind : goal.returns-then-mark-eq58-clause-behind
returns-then-mark-eq58-clause-behind c =
    let text = c.args.text.now in
    let n = c.key_length.result in
    let second : List ℕ = c.in-Some.behind.now in
    let colon : drop n text ≡ 58 ∷ second = sym c.split_at.ensures.back ∙ c.in-Some.ensures.first ∙ ap (λ m. m ∷ second) c.if-mark-eq58.true in
    c.keyed_pair.ensures.behind ∙ long_behind text second n c.key_length.ensures.count colon

pub returns-else-mark-eq58-clause-pair : goal.returns-else-mark-eq58-clause-pair
returns-else-mark-eq58-clause-pair c =
    let text = c.args.text.now in
    let n = c.key_length.result in
    let behind : List ℕ = c.in-Some.behind.now in
    let mark : drop n text ≡ c.in-Some.mark ∷ behind = sym c.split_at.ensures.back ∙ c.in-Some.ensures.first in
    lone_pair text (c.in-Some.mark ∷ behind) n (Some behind) c.key_length.ensures.count mark (comma_behind text behind n c.in-Some.mark c.key_length.ensures.count mark c.if-mark-eq58.false)

pub returns-else-mark-eq58-clause-behind : goal.returns-else-mark-eq58-clause-behind
returns-else-mark-eq58-clause-behind c =
    let text = c.args.text.now in
    let n = c.key_length.result in
    let behind : List ℕ = c.in-Some.behind.now in
    let mark : drop n text ≡ c.in-Some.mark ∷ behind = sym c.split_at.ensures.back ∙ c.in-Some.ensures.first in
    lone_behind text (c.in-Some.mark ∷ behind) n (Some behind) c.key_length.ensures.count mark (comma_behind text behind n c.in-Some.mark c.key_length.ensures.count mark c.if-mark-eq58.false)

pub returns-in-None-clause-pair : goal.returns-in-None-clause-pair
returns-in-None-clause-pair c =
    let end = sym c.split_at.ensures.back ∙ c.first_byte.ensures.none c.in-None.is in
    lone_pair c.args.text.now [] c.key_length.result None c.key_length.ensures.count end refl

pub returns-in-None-clause-behind : goal.returns-in-None-clause-behind
returns-in-None-clause-behind c =
    let end = sym c.split_at.ensures.back ∙ c.first_byte.ensures.none c.in-None.is in
    lone_behind c.args.text.now [] c.key_length.result None c.key_length.ensures.count end refl
