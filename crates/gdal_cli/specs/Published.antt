-- The output of a job has the name that its driver writes under.
use Rattle.command_words.specs.declared.command.Job.{Job}
use Rattle.command_words.specs.declared.command.Job.TheVariants.{Info, Locate, Translate, Build, Synth}
use Rattle.translation_runs.specs.Published.{IsNamed}

-- the extension of an output's name is one of its driver
abbrev pub IsNamedJob : Job → Type 0
IsNamedJob (Info name) = Unit {0}
IsNamedJob (Locate name point bands form geoloc) = Unit {0}
IsNamedJob (Translate src options quiet) = IsNamed options
IsNamedJob (Build inputs list options quiet) = Unit {0}
IsNamedJob (Synth side) = Unit {0}
