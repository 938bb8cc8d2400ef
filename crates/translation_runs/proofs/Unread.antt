-- The names that a translation publishes.
use Rattle.std.proofs.Common.{◌≡◌, ◌∙◌, ap, refl, true, Option, Some, None, option_map}
use Rattle.outside.specs.Names.{extension_of, is_raw}
use Rattle.outside.specs.declared.name.Ext.{Ext}
use Rattle.outside.specs.declared.name.Ext.TheVariants as ext
use Rattle.translate_plan.specs.Options.{Options, driver_for}
use Rattle.translate_plan.specs.declared.options.Driver.{Driver}
use Rattle.translate_plan.specs.declared.options.Driver.TheVariants as driver
use Rattle.translation_runs.specs.Published.{IsNamed}

-- what raw data are written under is a name of raw data
raw_ext : (e : Option Ext) → option_map driver_for e ≡ Some driver.EHdr → is_raw e ≡ true
raw_ext None is = let no : ⊥ = cc in absurd no
raw_ext (Some ext.Bil) is = refl
raw_ext (Some ext.Bip) is = refl
raw_ext (Some ext.Bsq) is = refl
raw_ext (Some ext.Dt0) is = let no : ⊥ = cc in absurd no
raw_ext (Some ext.Dt1) is = let no : ⊥ = cc in absurd no
raw_ext (Some ext.Dt2) is = let no : ⊥ = cc in absurd no
raw_ext (Some ext.Hgt) is = let no : ⊥ = cc in absurd no
raw_ext (Some ext.Asc) is = let no : ⊥ = cc in absurd no
raw_ext (Some ext.Grd) is = let no : ⊥ = cc in absurd no
raw_ext (Some ext.Vrt) is = let no : ⊥ = cc in absurd no

pub raw_named : (o : Options) → IsNamed o → o.driver ≡ driver.EHdr → is_raw (extension_of o.out) ≡ true
raw_named o named is = raw_ext (extension_of o.out) (named ∙ ap (λ (d : Driver). Some d) is)
