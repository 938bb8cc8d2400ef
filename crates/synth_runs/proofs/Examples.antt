-- Runs that are followed by others.
use Rattle.std.proofs.Common.{◌≡◌, refl, [], ◌∷◌, Some, None}
use Rattle.std.specs.Prelude.{codes}
use Rattle.std.specs.FinMap.{empty}
use Rattle.error_lines.specs.declared.faults.Fault.TheVariants.{Absent}
use Rattle.error_lines.specs.Steps.{Publishes, all_done, refused, publishes}
use Rattle.synth_runs.specs.Runs.{followed, then_run}

-- a run that is refused is followed by nothing
none_behind : then_run empty (refused (Absent (codes "a.bil"))) (λ m. all_done (publishes ((codes "b.bil", codes "2") ∷ []))) ≡ refused (Absent (codes "a.bil"))
unfolding then_run
none_behind = refl

-- two runs that publish one name each
one_behind_another : then_run empty (all_done (publishes ((codes "a.bil", codes "1") ∷ []))) (λ m. all_done (publishes ((codes "b.bil", codes "2") ∷ []))) ≡ all_done (Publishes (codes "a.bil") (codes "1") ∷ Publishes (codes "b.bil") (codes "2") ∷ [])
unfolding then_run
one_behind_another = refl

-- what stands before a refusal is done
done_before : followed (Publishes (codes "a.bil") (codes "1") ∷ []) None (refused (Absent (codes "b.bil"))) ≡ record { steps = Publishes (codes "a.bil") (codes "1") ∷ []; fault = Some (Absent (codes "b.bil")) }
done_before = refl
