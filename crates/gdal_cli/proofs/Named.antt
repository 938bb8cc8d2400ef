-- The extension of an output's name is one of its driver, as the words have it.
use Rattle.std.proofs.Common.{◌≡◌, subst, refl, true, false, ℕ, Bool, List, [], ◌∷◌, length, Ok, Option, Some, None, option_map, option_and_then, cond}
use Rattle.std.specs.Prelude.{ok_or}
use Rattle.outside.specs.Names.{extension_of}
use Rattle.outside.specs.declared.name.Ext.{Ext}
use Rattle.translate_plan.specs.declared.options.Driver.{Driver}
use Rattle.translate_plan.specs.Options.{driver_for}
use Rattle.command_words.specs.declared.command.Command.{Command}
use Rattle.command_words.specs.declared.command.Job.{Job}
use Rattle.command_words.specs.declared.command.Job.TheVariants as job
use Rattle.command_words.specs.declared.options.Tool.{Tool}
use Rattle.command_words.specs.declared.options.Tool.TheVariants.{Info, Locate, Translate, Build, Synth}
use Rattle.command_words.specs.declared.jobs.Asked.{Asked}
use Rattle.command_words.specs.declared.jobs.Written.{Written}
use Rattle.command_words.specs.declared.spoken.OutFormat.{OutFormat}
use Rattle.command_words.specs.declared.spoken.Spoken.{Spoken}
use Rattle.command_words.specs.declared.spoken.Wanted.{Wanted}
use Rattle.command_words.specs.declared.spoken.WordFault.{WordFault}
use Rattle.command_words.specs.declared.spoken.WordFault.TheVariants.{Usage}
use Rattle.command_words.specs.Jobs.{asked_point, form_of, is_same_format, of_format, written_as, written_of, view_of, layout_in, asked_of, options_of, info_job, locate_job, translate_job, inputs_of, asked_mosaic, mosaic_options, build_job, synth_job, job_of}
use Rattle.command_words.specs.Options.{tool_of}
use Rattle.command_words.specs.Uses.{spoken_in}
use Rattle.command_words.specs.Words.{command_of, words_of}
use Rattle.translation_runs.specs.Published.{IsNamed}
use Rattle.gdal_cli.specs.Published.{IsNamedJob}
use Rattle.translation_runs.proofs.Bound.{bind_is, ok_same, some_of}

-- what is written is written so in every format that is asked for
kept_if : (same : Bool) (v w : Written) → cond same (Some v) None ≡ Some w → v ≡ w
kept_if true v w is = cc
kept_if false v w is = let no : ⊥ = cc in absurd no

kept : (format : Option OutFormat) (v w : Written) → of_format format v ≡ Some w → v ≡ w
kept None v w is = cc
kept (Some format) v w is = kept_if (is_same_format format v.format) v w is

-- the driver of what is written of an extension
abbrev Fits : Option Ext → Driver → Type 0
Fits e d = option_map driver_for e ≡ Some d

fits_as : (e : Ext) (v : Written) (w : Written) → Fits (Some e) v.driver → v ≡ w → Fits (Some e) w.driver
fits_as e v w fits same = subst (λ (x : Written). Fits (Some e) x.driver) same fits

fits_ext : (format : Option OutFormat) (e : Ext) (w : Written) → of_format format (written_as e) ≡ Some w → Fits (Some e) w.driver
fits_ext format e w is = fits_as e (written_as e) w refl (kept format (written_as e) w is)

fits_of : (format : Option OutFormat) (e : Option Ext) (w : Written) → option_and_then (λ v. of_format format v) (option_map written_as e) ≡ Some w → Fits e w.driver
fits_of format None w is = let no : ⊥ = cc in absurd no
fits_of format (Some e) w is = fits_ext format e w is

fits_written : (format : Option OutFormat) (name : List ℕ) (w : Written) → written_of format name ≡ Some w → Fits (extension_of name) w.driver
unfolding written_of
fits_written format name w is = fits_of format (extension_of name) w is

fits_asked : (wanted : Wanted) (at : ℕ) (name : List ℕ) (a : Asked) → asked_of wanted at name ≡ Ok a → Fits (extension_of name) a.written.driver
unfolding asked_of
fits_asked wanted at name a is =
    let written = bind_is (ok_or (written_of wanted.format name) (Usage at)) _ a is in
    let view = bind_is (view_of wanted.window wanted.places) _ a written.rest in
    let layout = bind_is (layout_in wanted.interleave written.value) _ a view.rest in
    let fits = fits_written wanted.format name written.value (some_of (written_of wanted.format name) (Usage at) written.value written.found) in
    subst (λ (x : Asked). Fits (extension_of name) x.written.driver) (ok_same {E = WordFault} _ a _ refl layout.rest) fits

named_options : (wanted : Wanted) (name bands : List ℕ) (a : Asked) → Fits (extension_of name) a.written.driver → IsNamed (options_of wanted name bands a)
named_options wanted name bands a fits = fits

named_translate : (count : ℕ) (s : Spoken) (j : Job) → translate_job count s ≡ Ok j → IsNamedJob j
unfolding translate_job
named_translate count s j is =
    let name = bind_is (ok_or s.source (Usage count)) _ j is in
    let output = bind_is (ok_or s.output (Usage count)) _ j name.rest in
    let asked = bind_is (asked_of s.wanted output.value.0 output.value.1) _ j output.rest in
    subst IsNamedJob (ok_same {E = WordFault} _ j _ refl asked.rest)
    (named_options s.wanted output.value.1 s.bands asked.value (fits_asked s.wanted output.value.0 output.value.1 asked.value asked.found))

named_info : (count : ℕ) (s : Spoken) (j : Job) → info_job count s ≡ Ok j → IsNamedJob j
unfolding info_job
named_info count s j is =
    let name = bind_is (ok_or s.source (Usage count)) _ j is in
    subst IsNamedJob (ok_same {E = WordFault} (job.Info name.value) j _ refl name.rest) tt

named_locate : (count : ℕ) (s : Spoken) (j : Job) → locate_job count s ≡ Ok j → IsNamedJob j
unfolding locate_job
named_locate count s j is =
    let name = bind_is (ok_or s.source (Usage count)) _ j is in
    let point = bind_is (ok_or (asked_point s.x s.y) (Usage count)) _ j name.rest in
    let form = bind_is (form_of s.values_only s.files_only) _ j point.rest in
    subst IsNamedJob (ok_same {E = WordFault} (job.Locate name.value point.value s.bands form.value s.geoloc) j _ refl form.rest) tt

named_build : (count : ℕ) (s : Spoken) (j : Job) → build_job count s ≡ Ok j → IsNamedJob j
unfolding build_job
named_build count s j is =
    let output = bind_is (ok_or s.output (Usage count)) _ j is in
    let inputs = bind_is (inputs_of count s.inputs s.list) _ j output.rest in
    let asked = bind_is (asked_mosaic count s.mosaic s.band_at output.value.0 output.value.1) _ j inputs.rest in
    subst IsNamedJob (ok_same {E = WordFault} (job.Build inputs.value s.list (mosaic_options s.mosaic output.value.1 s.bands asked.value) s.quiet) j _ refl asked.rest) tt

named_synth : (count : ℕ) (s : Spoken) (j : Job) → synth_job count s ≡ Ok j → IsNamedJob j
unfolding synth_job
named_synth count s j is =
    let side = bind_is (ok_or s.tile (Usage count)) _ j is in
    subst IsNamedJob (ok_same {E = WordFault} (job.Synth side.value) j _ refl side.rest) tt

named_job : (tool : Tool) (count : ℕ) (s : Spoken) (j : Job) → job_of tool count s ≡ Ok j → IsNamedJob j
named_job Info count s j is = named_info count s j is
named_job Locate count s j is = named_locate count s j is
named_job Translate count s j is = named_translate count s j is
named_job Build count s j is = named_build count s j is
named_job Synth count s j is = named_synth count s j is

named_command : (tool : Tool) (count : ℕ) (s : Spoken) (c : Command) → command_of tool count s ≡ Ok c → IsNamedJob c.job
unfolding command_of
named_command tool count s c is =
    let j = bind_is (job_of tool count s) _ c is in
    subst (λ (x : Command). IsNamedJob x.job) (ok_same {E = WordFault} _ c _ refl j.rest) (named_job tool count s j.value j.found)

-- the words' job
pub named_words : (words : List (List ℕ)) (c : Command) → words_of words ≡ Ok c → IsNamedJob c.job
unfolding words_of
named_words [] c is = let no : ⊥ = cc in absurd no
named_words (word ∷ words) c is =
    let tool = bind_is (ok_or (tool_of word) (Usage 0)) _ c is in
    let spoken = bind_is (spoken_in tool.value (length (word ∷ words)) words) _ c tool.rest in
    named_command tool.value (length (word ∷ words)) spoken.value c spoken.rest
