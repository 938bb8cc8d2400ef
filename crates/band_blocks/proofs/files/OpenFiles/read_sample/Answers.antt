use Rattle.std.proofs.Common.{sym, ap, subst, ◌≡◌, ◌∙◌, Some, is_some, ◌∷◌}
use Rattle.std.specs.Prelude.{nat_eq}
use Rattle.std.specs.Map.{lookup, keys_of, set_value}
use Rattle.lru.specs.LruCache.{promoted}
use Rattle.band_blocks.specs.Open.{without}
use Rattle.band_blocks.specs.Loaded.{SameFiles}
use Rattle.band_blocks.proofs.Opened.{same_read, keys_used}
use Rattle.band_blocks.proofs.files.OpenFiles.read_sample.Goals as goal

pub returns-clause-files : goal.returns-clause-files
returns-clause-files g c =
    let es = c.self.inside.cache.entries in
    subst (λ old. SameFiles g.F.Folder.file_bytes g.F.Folder.file_len old (set_value (nat_eq c.args.pixel.dataset) (promoted (nat_eq c.args.pixel.dataset) es) c.read_sample.new.file)) c.self.view_is
    (same_read g.F.Folder.file_bytes g.F.Folder.file_len es c.args.pixel.dataset c.in-Some.file.now c.read_sample.new.file (sym c.in-Some.ensures.value) c.read_sample.ensures.bytes c.read_sample.ensures.len)

pub returns-clause-order : goal.returns-clause-order
returns-clause-order g c =
    let es = c.self.inside.cache.entries in
    let found : lookup (nat_eq c.args.pixel.dataset) es ≡ Some c.in-Some.file.now = sym c.in-Some.ensures.value in
    keys_used c.args.pixel.dataset es c.read_sample.new.file (ap is_some found) ∙ ap (λ old. c.args.pixel.dataset ∷ without c.args.pixel.dataset (keys_of old)) c.self.view_is

pub returns-in_err-read_sample-clause-files : goal.returns-in_err-read_sample-clause-files
returns-in_err-read_sample-clause-files g c =
    let es = c.self.inside.cache.entries in
    subst (λ old. SameFiles g.F.Folder.file_bytes g.F.Folder.file_len old (set_value (nat_eq c.args.pixel.dataset) (promoted (nat_eq c.args.pixel.dataset) es) c.read_sample.new.file)) c.self.view_is
    (same_read g.F.Folder.file_bytes g.F.Folder.file_len es c.args.pixel.dataset c.in-Some.file.now c.read_sample.new.file (sym c.in-Some.ensures.value) c.read_sample.ensures.bytes c.read_sample.ensures.len)

pub returns-in_err-read_sample-clause-order : goal.returns-in_err-read_sample-clause-order
returns-in_err-read_sample-clause-order g c =
    let es = c.self.inside.cache.entries in
    let found : lookup (nat_eq c.args.pixel.dataset) es ≡ Some c.in-Some.file.now = sym c.in-Some.ensures.value in
    keys_used c.args.pixel.dataset es c.read_sample.new.file (ap is_some found) ∙ ap (λ old. c.args.pixel.dataset ∷ without c.args.pixel.dataset (keys_of old)) c.self.view_is
