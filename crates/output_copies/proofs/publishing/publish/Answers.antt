use Rattle.std.proofs.Common.{◌≡◌, subst, length, take, ℕ, List, Some}
use Rattle.write_back.specs.Files.{with_files}
use Rattle.output_copies.specs.Steps.{files_by, raster_of}
use Rattle.write_back.specs.Plans.{output_of}
use Rattle.output_copies.proofs.Copied.{filled_whole}
use Rattle.output_copies.proofs.Ends.{outside_target}
use Rattle.output_copies.proofs.Goes.{publishes_goes, publishes_stops}
use Rattle.output_copies.proofs.publishing.publish.Goals as goal

pub returns-in-Ok-clause-goes : goal.returns-in-Ok-clause-goes
returns-in-Ok-clause-goes g c = λ m d told at text.
    let p = c.args.translation.now.plan in
    let whole = filled_whole (g.F.Folder.names c.args.folder.now) c.args.translation.now.cat c.args.translation.now.id p c.rules.ensures.kept c.args.target m d told at c.requires.filled in
    let names : List (List ℕ × List ℕ) → Type 0 = λ (files : List (List ℕ × List ℕ)). g.F.Folder.names c.close.new.folder ≡ Some (with_files (take (length files) files) m) in
    publishes_goes (files_by (output_of p) c.args.target.name (raster_of m d p)) m (g.F.Folder.names c.close.new.folder) text
    (subst names whole.1 (c.in-Ok.ensures.files m told (λ calm. whole.0)))

pub returns-in-Err-clause-goes : goal.returns-in-Err-clause-goes
returns-in-Err-clause-goes g c = λ m d told at text.
    let p = c.args.translation.now.plan in
    let n = c.in-Err.fault.published in
    let whole = filled_whole (g.F.Folder.names c.args.folder.now) c.args.translation.now.cat c.args.translation.now.id p c.rules.ensures.kept c.args.target m d told at c.requires.filled in
    let names : List (List ℕ × List ℕ) → Type 0 = λ (files : List (List ℕ × List ℕ)). g.F.Folder.names c.close.new.folder ≡ Some (with_files (take n files) m) in
    publishes_stops (files_by (output_of p) c.args.target.name (raster_of m d p)) m n c.from.result (g.F.Folder.names c.close.new.folder) text
    (subst names whole.1 (c.in-Err.ensures.files m told (λ calm. whole.0)))
    (outside_target c.in-Err.fault.cause c.from.result c.from.ensures)

pub returns-in-Err-clause-outside : goal.returns-in-Err-clause-outside
returns-in-Err-clause-outside g c = outside_target c.in-Err.fault.cause c.from.result c.from.ensures
