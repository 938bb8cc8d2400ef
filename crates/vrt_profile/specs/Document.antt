-- A whole document.
use Rattle.std.specs.Prelude.{ℕ, List, Result}
use Rattle.lists_and_answers.specs.Answers.{◌>>=◌}
use Rattle.vrt_markup.specs.Tree.{Tree, tree_of}
use Rattle.vrt_markup.specs.declared.fault.VrtFault.{VrtFault}
use Rattle.vrt_profile.specs.Means.{root_of}
use Rattle.vrt_profile.specs.Values.{DocumentValue}

abbrev pub means : Tree → Result DocumentValue VrtFault
means t = root_of t.place t.tag t.inside

-- What the bytes mean: the first fault of the first pass, else of the second.
abbrev pub document_of : List ℕ → Result DocumentValue VrtFault
document_of bytes = tree_of bytes >>= means
