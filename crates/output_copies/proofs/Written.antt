-- What the drivers write of a plan.
use Rattle.std.proofs.Common.{◌≡◌, ap, refl, sym, ℕ, Bool, List, [], ◌∷◌, ◌++◌}
use Rattle.std.specs.Prelude.{◌≢◌}
use Rattle.outside.specs.Outside.{Files}
use Rattle.vrt_writing.specs.Spelled.{spelled}
use Rattle.catalog.specs.Drivers.{Dataset}
use Rattle.translate_plan.specs.Documents.{document_by}
use Rattle.translate_plan.specs.Plan.{Planned}
use Rattle.translate_plan.specs.declared.options.Driver.{Driver}
use Rattle.translate_plan.specs.declared.options.Driver.TheVariants.{AaiGrid, Dted, EHdr, SrtmHgt, Vrt}
use Rattle.write_back.specs.Plans.{output_of}
use Rattle.error_lines.specs.Progress.{progress}
use Rattle.error_lines.specs.Steps.{Step, Publishes, publishes}
use Rattle.output_copies.specs.Steps.{files_by, raster_of, unless_quiet, written_files, written_by}

-- the steps of an output of samples between the first text and the last
abbrev pub samples_steps : Bool → Files → Dataset → Planned → List ℕ → List Step
samples_steps quiet m d p name = unless_quiet quiet progress ++ publishes (files_by (output_of p) name (raster_of m d p))

-- the same of the document of a mosaic
abbrev pub document_steps : Bool → Dataset → Planned → List ℕ → List Step
document_steps quiet d p name = unless_quiet quiet progress ++ Publishes name (spelled (document_by p name d.head)) ∷ []

module _ (m : Files) (d : Dataset) (p : Planned) (name : List ℕ) where
  by_driver : (v : Driver) → v ≢ Vrt → files_by (output_of p) name (raster_of m d p) ≡ written_by v m d p name
  by_driver EHdr other = refl
  by_driver (Dted level) other = refl
  by_driver SrtmHgt other = refl
  by_driver AaiGrid other = refl
  by_driver Vrt other = absurd (other refl)

  -- files of samples, of every driver but that of mosaics
  pub samples_middle : (quiet : Bool) → p.driver ≢ Vrt → samples_steps quiet m d p name ≡ unless_quiet quiet progress ++ publishes (written_files m d p name)
  samples_middle quiet other = ap (λ (files : List (List ℕ × List ℕ)). unless_quiet quiet progress ++ publishes files) (by_driver p.driver other)

  -- the document of a mosaic
  pub document_middle : (quiet : Bool) → p.driver ≡ Vrt → document_steps quiet d p name ≡ unless_quiet quiet progress ++ publishes (written_files m d p name)
  document_middle quiet mosaic = ap (λ (v : Driver). unless_quiet quiet progress ++ publishes (written_by v m d p name)) (sym mosaic)
