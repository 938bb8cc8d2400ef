use Rattle.std.proofs.Common.{◌∙◌, rules, Some, None}
use Rattle.outside.specs.Plain.{dereferenced}
use Rattle.outside.proofs.PieceCuts.{pieces_split, one_taken, last_taken}
use Rattle.outside.proofs.path.normal_parts.Goals as goal

pub loop-part-preserved : goal.loop-part-preserved
loop-part-preserved c =
    let cut = pieces_split c.loop-part.rest.now (Some (c.in-Some.part, c.in-Some.more)) c.in-Some.ensures.cases in
    (search rules, one_taken c.args.absolute (dereferenced c.loop-part.parts.items) _ c.loop-part.rest.now _ c.in-Some.more.now c.behind_dropped-rest-in-Some.result.now cut c.in_ok-take_part-in-Some.ensures.ok c.behind_dropped-rest-in-Some.ensures.parts ∙ c.loop-part.invariant.1)

pub returns-in-None : goal.returns-in-None
returns-in-None c =
    let cut = pieces_split c.loop-part.rest.now None c.in-None.ensures.cases in
    last_taken c.args.absolute (dereferenced c.loop-part.parts.items) _ c.loop-part.rest.now cut c.in_ok-take_part-in-None.ensures.ok ∙ c.loop-part.invariant.1
