-- The names that a translation publishes, none of which it reads.
use Rattle.std.specs.Prelude.{ℕ, ◌≡◌, List, [], ◌∷◌, Some, option_map}
use Rattle.outside.specs.Names.{extension_of, header_of}
use Rattle.translate_plan.specs.Options.{Options, driver_for}
use Rattle.translate_plan.specs.declared.options.Driver.{Driver}
use Rattle.translate_plan.specs.declared.options.Driver.TheVariants.{EHdr, Dted, SrtmHgt, AaiGrid, Vrt}

-- the header that a driver writes beside the data
abbrev pub header_written : Driver → List ℕ → List (List ℕ)
header_written EHdr name = header_of name ∷ []
header_written (Dted level) name = []
header_written SrtmHgt name = []
header_written AaiGrid name = []
header_written Vrt name = []

-- the names that a translation publishes, in order
abbrev pub names_written : Options → List (List ℕ)
names_written o = o.out ∷ header_written o.driver o.out

-- the extension of the output's name is one of its driver
abbrev pub IsNamed : Options → Type 0
IsNamed o = option_map driver_for (extension_of o.out) ≡ Some o.driver
