use Rattle.std.proofs.Common.{ap, get_or, subst, [], ℕ, ◌≡◌}
use Rattle.mosaic_sources.specs.Rows.{Rows, list_at}
use Rattle.mosaic_sources.proofs.rows.RowIndex.stretch_end.Goals as goal

pub returns-clause-same : goal.returns-clause-same
returns-clause-same c = λ z from below.
    let same = rw (c.as_slice.ensures.value) at (c.stretch_end.ensures.same z from below) in
    subst (λ (r : Rows). list_at r z ≡ list_at r c.args.y) c.self.view_is (ap (λ (k : ℕ). get_or c.self.inside.lists.items k []) same)
