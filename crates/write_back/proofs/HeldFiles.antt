-- The files of an output stand in a map that they are put over.
use Rattle.std.proofs.Common.{◌≡◌, ℕ, ℤ, Bool, cond, List, refl, ap, sym, ◌∙◌, subst, Option, Some}
use Rattle.std.specs.Cmp.Lexicographic.{nat_list_cmp_total}
use Rattle.std.specs.FinMap.{get, insert, get-insert}
use Rattle.outside.specs.Names.{header_of}
use Rattle.outside.specs.Outside.{Files}
use Rattle.outside.proofs.Puts.{same_name, other_name}
use Rattle.esri_hdr.specs.Text.{hdr_text}
use Rattle.dted_records.specs.Text.{head_text}
use Rattle.translate_plan.specs.declared.options.Driver.{Driver}
use Rattle.translate_plan.specs.declared.options.Driver.TheVariants.{EHdr, Dted, SrtmHgt, AaiGrid, Vrt}
use Rattle.translate_plan.specs.Fits.{cell_in}
use Rattle.translate_plan.specs.Plan.{Planned, raw_head}
use Rattle.write_back.specs.declared.forms.Writer.TheVariants as writers
use Rattle.write_back.specs.Columns.{cell_with_front}
use Rattle.write_back.specs.Files.{files_of, raw_bytes, tile_bytes, cell_bytes, grid_text, with_files}
use Rattle.write_back.specs.Plans.{grid_form, output_by, output_of, IsNamedFor}
use Rattle.write_back.specs.Reading.{HasFiles}
use Rattle.write_back.specs.View.{Output, Blocks, Rows}
use Rattle.write_back.proofs.Accepted.{named_raw}
use Rattle.write_back.proofs.HeaderNames.{header_differs}
use Rattle.write_back.proofs.Outputs.{cell_found, is_same}

put_there : (m : Files) (name b : List ℕ) → get (insert m name b) name ≡ Some b
put_there m name b = get-insert nat_list_cmp_total m name b name ∙ ap (λ (r : Bool). cond r (Some b) (get m name)) (same_name name name refl)

stays_there : (m : Files) (name other b c : List ℕ) → (name ≡ other → ⊥) → get m name ≡ Some b → get (insert m other c) name ≡ Some b
stays_there m name other b c ne there = get-insert nat_list_cmp_total m other c name ∙ ap (λ (r : Bool). cond r (Some c) (get m name)) (other_name name other ne) ∙ there

-- a map with an output's files over it has them
record Keeps (m : Files) (name : List ℕ) (samples : ℕ → ℕ → ℕ → ℤ) (o : Output) : Type 0 where
  pub has : HasFiles (with_files (files_of o name samples) m) (files_of o name samples)

kept_by : (d : Driver) (m : Files) (name : List ℕ) (p : Planned) (o : Output) (samples : ℕ → ℕ → ℕ → ℤ) → p.driver ≡ d → output_by d p ≡ Some o → IsNamedFor p name → Keeps m name samples o
kept_by EHdr m name p o samples driver e is =
    let b : List ℕ = raw_bytes (raw_head p) samples in
    let text : List ℕ = hdr_text (raw_head p) in
    let ne : name ≡ header_of name → ⊥ = λ same. header_differs name (named_raw p name is driver) (sym same) in
    subst (Keeps m name samples) (is_same _ o e) (record { has = (stays_there (insert m name b) name (header_of name) b text ne (put_there m name b), (put_there (insert m name b) (header_of name) text, tt)) })
kept_by (Dted level) m name p o samples driver e is =
    let c = cell_found (cell_in level p.size p.geo) o e in
    subst (Keeps m name samples) (sym c.output) (record { has = (put_there m name (cell_bytes (cell_with_front c.head (head_text c.head)) samples), tt) })
kept_by SrtmHgt m name p o samples driver e is = subst (Keeps m name samples) (is_same _ o e) (record { has = (put_there m name (tile_bytes p.size.w samples), tt) })
kept_by AaiGrid m name p o samples driver e is = subst (Keeps m name samples) (is_same _ o e) (record { has = (put_there m name (grid_text (grid_form p) samples), tt) })
kept_by Vrt m name p o samples driver e is = absurd cc

pub files_held : (m : Files) (name : List ℕ) (p : Planned) (o : Output) (samples : ℕ → ℕ → ℕ → ℤ) → output_of p ≡ Some o → IsNamedFor p name → HasFiles (with_files (files_of o name samples) m) (files_of o name samples)
files_held m name p o samples e is = (kept_by p.driver m name p o samples refl e is).has
