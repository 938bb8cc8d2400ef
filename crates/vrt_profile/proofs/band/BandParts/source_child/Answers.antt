use Rattle.std.proofs.Common.{◌≡◌, ◌+◌, ap, ◌∙◌, sym, subst, cond, Bool, true, false, nat_le, length, [], ◌∷◌, ◌++◌, Ok, Err}
use Rattle.lists_and_answers.specs.Answers.{◌>>=◌}
use Rattle.vrt_markup.specs.Forest.{inner, read_as}
use Rattle.vrt_markup.specs.Kept.{Gives, kept_of}
use Rattle.vrt_markup.specs.Views.{tag_view}
use Rattle.vrt_markup.specs.declared.fault.VrtFault.TheVariants.{Limit}
use Rattle.vrt_markup.proofs.Reading.{gives_then}
use Rattle.vrt_profile.specs.Means.{BandParts, with_source, source_of}
use Rattle.vrt_profile.specs.Seen.{one_more}
use Rattle.vrt_profile.proofs.Once.{past_gives}
use Rattle.vrt_profile.proofs.Counts.{grown}
use Rattle.vrt_profile.proofs.band.BandParts.source_child.Goals as goal

pub invariant_of-self : goal.invariant_of-self
invariant_of-self c = record { sources = c.source_element.ensures.rules c.self.invariant.sources }

pub returns-then-is_full-clause-child : goal.returns-then-is_full-clause-child
returns-then-is_full-clause-child c =
    let tag = tag_view c.args.tag in
    let s = c.args.self.now in
    let inside = inner c.args.level.total c.args.level.depth tag c.args.bytes.now in
    let full : nat_le 262144 (s.taken + length s.sources) ≡ true = sym c.is_full.ensures.full ∙ c.if-is_full.true in
    subst (λ (b : Bool). Gives (λ x. (kept_of s x.0, x.1.now)) c.past_child.result (read_as (λ f. cond b (Err Limit) (source_of c.args.complex tag f >>= λ x. Ok (record s { sources = s.sources ++ x ∷ [] }))) inside)) (sym full)
    (past_gives (λ y. y.now) s (Err Limit) c.past_child.result inside c.past_child.ensures.child)

pub returns-clause-child : goal.returns-clause-child
returns-clause-child c =
    let tag = tag_view c.args.tag in
    let s : BandParts = record { taken = c.self.inside.taken; nodata = c.self.inside.nodata; sources = c.self.inside.sources } in
    let all : BandParts = record { taken = c.self.inside.taken; nodata = c.self.inside.nodata; sources = c.source_element.new.sources } in
    let inside = inner c.args.level.total c.args.level.depth tag c.args.bytes.now in
    let room : nat_le 262144 (s.taken + length s.sources) ≡ false = ap (λ (p : BandParts). nat_le 262144 (p.taken + length p.sources)) c.self.view_is ∙ sym c.is_full.ensures.full ∙ c.if-is_full.false in
    subst (λ (p : BandParts). Gives (λ x. (kept_of all x.0, x.1.now)) c.source_element.result (read_as (λ f. with_source p (source_of c.args.complex tag f)) inside)) c.self.view_is
    (subst (λ (b : Bool). Gives (λ x. (kept_of all x.0, x.1.now)) c.source_element.result (read_as (λ f. cond b (Err Limit) (source_of c.args.complex tag f >>= λ x. Ok (record s { sources = s.sources ++ x ∷ [] }))) inside)) (sym room)
    (gives_then (λ y. y.now) (kept_of c.source_element.new.sources) (kept_of all) (λ f. one_more s.sources (source_of c.args.complex tag f)) (λ f. source_of c.args.complex tag f >>= λ x. Ok (record s { sources = s.sources ++ x ∷ [] })) c.source_element.result inside (λ k f e. grown s c.source_element.new.sources (source_of c.args.complex tag f) k e) c.source_element.ensures.source))
