use Rattle.std.proofs.Common.{subst}
use Rattle.std.specs.Prelude.{IfSome}
use Rattle.mosaic_sources.specs.Rows.{IsIndexOf}
use Rattle.nearest_window.proofs.Needed.{listed_wanted, lists_rise}
use Rattle.nearest_window.proofs.wanted.wanted_of.Goals as goal

pub listed_in-requires-clause-rising : goal.listed_in-requires-clause-rising
listed_in-requires-clause-rising c =
    let index = subst (λ o. IfSome o (IsIndexOf c.args.sources.now c.args.size)) c.in-Some.is c.requires.index in
    lists_rise c.args.sources.now c.args.size c.in-Some.index index

pub returns-in_default : goal.returns-in_default
returns-in_default c = record { wanted = c.all_of.ensures.all c.args.size c.args.rect }

pub returns-then-not-are_at_most : goal.returns-then-not-are_at_most
returns-then-not-are_at_most c = record { wanted = c.all_of-then-not-are_at_most.ensures.all c.args.size c.args.rect }

pub returns : goal.returns
returns c =
    let index = subst (λ o. IfSome o (IsIndexOf c.args.sources.now c.args.size)) c.in-Some.is c.requires.index in
    let made = c.in_ok-listed_in.ensures in
    record { wanted = listed_wanted c.args.sources.now c.args.size c.args.rect c.in-Some.index c.in_ok-listed_in.field-0.items index c.requires.within made.rising made.all made.from }
