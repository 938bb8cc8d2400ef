use Rattle.std.proofs.Common.{subst, ℕ}
use Rattle.std.specs.List.{All}
use Rattle.nearest_window.specs.Windows.{IsInBand}
use Rattle.synth_runs.proofs.Tallying.{samples_near}
use Rattle.synth_runs.proofs.strips.read_strip.Goals as goal

pub returns-in-Ok-clause-near : goal.returns-in-Ok-clause-near
returns-in-Ok-clause-near g c =
    let cat = c.args.copied.now.cat in
    let window = c.window_of-window in
    let samples = c.read_window.new.out in
    samples_near cat c.args.copied.now.id c.args.copied.now.size samples c.requires.copied
    (subst (λ (i : ℕ). All (IsInBand cat i 0) samples) window.ensures.dataset
    (subst (λ (b : ℕ). All (IsInBand cat window.result.dataset b) samples) window.ensures.band c.in-Ok.ensures.typed))
