use Rattle.std.proofs.Common.{◌∙◌, sym}
use Rattle.catalog.proofs.Listings.{named_next, unnamed_next}
use Rattle.catalog.proofs.Repeated.{there_next}
use Rattle.catalog.proofs.mosaic_head.add_source.Goals as goal
use Rattle.catalog.proofs.mosaic_head.add_source.Goals.{in-Some+in_ok-add, in_default}

pub returns-then-is_again-clause-gathered : goal.returns-then-is_again-clause-gathered
returns-then-is_again-clause-gathered c = λ own names listed.
    there_next own c.args.base.now names c.args.sources.now c.args.at c.index-sources-at.result c.args.gathered.now c.requires.within c.index-sources-at.is (c.is_again.ensures.again c.if-is_again.true c.args.base.now) listed

pub returns-clause-gathered : goal.returns-clause-gathered
returns-clause-gathered c = λ own names listed.
    elim c.match-branch-2.branch [
      | in-Some+in_ok-add w ↦
          rw w.gathered-is (rw (← named_next c.args.base.now names c.args.sources.now c.args.at c.index-sources-at.result w.in-Some.name c.requires.within c.index-sources-at.is (sym c.in_ok-name.ensures.ok ∙ w.in-Some.is)) (w.in_ok-add.ensures.gathered own _ listed))
      | in_default w ↦
          rw w.gathered-is (rw (← unnamed_next c.args.base.now names c.args.sources.now c.args.at c.index-sources-at.result c.requires.within c.index-sources-at.is (sym c.in_ok-name.ensures.ok ∙ w.in_default.is)) listed)
    ]
