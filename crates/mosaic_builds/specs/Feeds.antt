-- Texts without the line feeds that end empty lines.
use Rattle.std.specs.Prelude.{ℕ, List, [], ◌∷◌, Bool, true, ◌==◌, ◌&&◌, if◌then◌else◌}
use Rattle.lists_and_answers.specs.Bytes.{line_feed}

-- The bytes without each line feed at the beginning of a line. Where `begins` holds, a line begins before the first.
abbrev pub without_empty : Bool → List ℕ → List ℕ
without_empty begins [] = []
without_empty begins (byte ∷ bytes) = if byte == line_feed && begins then without_empty true bytes
    else byte ∷ without_empty (byte == line_feed) bytes
