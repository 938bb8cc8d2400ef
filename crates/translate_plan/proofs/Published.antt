-- The file of a document that shows the output of a plan.
use Rattle.std.proofs.Common.{◌≡◌, ◌∙◌, sym, ap, ℕ, ◌^◌, ◌≤◌, Bool, false, cond, List, length, arith, Option, Some, None, Result, Ok, Err}
use Rattle.std.specs.Prelude.{option_and_then, slice_get, nat_lt, ok_or}
use Rattle.std.specs.FinMap.{get}
use Rattle.std.proofs.lemmas.Bool.Decides.{nat_tests}
use Rattle.lists_and_answers.specs.Answers.{◌>>=◌}
use Rattle.outside.specs.Outside.{Files}
use Rattle.outside.specs.Names.{extension_of}
use Rattle.outside.specs.declared.name.Ext.{Ext}
use Rattle.outside.specs.declared.name.Ext.TheVariants as ext
use Rattle.vrt_profile.specs.Values.{DocumentValue, IsDocument}
use Rattle.vrt_writing.specs.Spelled.{spelled}
use Rattle.vrt_profile.specs.Document as vrt
use Rattle.vrt_markup.specs.declared.fault.VrtFault.TheVariants as faults
use Rattle.catalog.specs.Dataset.{DatasetHead}
use Rattle.catalog.specs.Drivers.{Dataset, document_of, dataset_of}
use Rattle.catalog.specs.declared.driver.Content.TheVariants.{Mosaic}
use Rattle.catalog.specs.declared.faults.Bad.TheVariants as bad
use Rattle.catalog.specs.declared.faults.WalkFault.{WalkFault}
use Rattle.catalog.specs.declared.faults.WalkFault.TheVariants.{Absent, NotRecognized, Malformed}
use Rattle.catalog.specs.Heads.{kind_of, named, document_in, vrt_in, dataset_by, dataset_in}
use Rattle.catalog.specs.Walk.{IsWalked}
use Rattle.catalog.proofs.Walked.{dataset_walked}
use Rattle.translate_plan.specs.Plan.{Planned}
use Rattle.translate_plan.specs.Documents.{document_by, IsPublished}

-- what is told is one dataset
pub one_told : (d e : Dataset) (r : Result Dataset WalkFault) → r ≡ Ok d → r ≡ Ok e → d ≡ e
one_told d e r a b = cc

-- how a document's text is read
abbrev pub Reads : Type 0
Reads = (d : DocumentValue) → IsDocument d → vrt.document_of (spelled d) ≡ Ok d

short_is : (text : List ℕ) → length text ≤ 2 ^ 26 → nat_lt (2 ^ 26) (length text) ≡ false
short_is text h = grind (arith, nat_tests)

document_is : (reads : Reads) (base : List ℕ) (v : DocumentValue) → IsDocument v → length (spelled v) ≤ 2 ^ 26 → document_in (spelled v) base ≡ Ok v
document_is reads base v rules short =
    ap (λ (long : Bool). cond long (Err (Malformed base (bad.Vrt faults.Limit))) (named (λ f. Malformed base (bad.Vrt f)) (vrt.document_of (spelled v)))) (short_is (spelled v) short)
    ∙ ap (named (λ f. Malformed base (bad.Vrt f))) (reads v rules)

dataset_is : (reads : Reads) (m : Files) (base : List ℕ) (v : DocumentValue) → IsDocument v → extension_of base ≡ Some ext.Vrt → get m base ≡ Some (spelled v) → length (spelled v) ≤ 2 ^ 26
    → dataset_in m false base ≡ Ok (dataset_of base (record { content = Mosaic v; length = length (spelled v) }))
unfolding dataset_in dataset_by vrt_in
dataset_is reads m base v rules is there short =
    ap (λ (o : Option Ext). ok_or (option_and_then kind_of o) (NotRecognized base) >>= λ kind. dataset_by kind m false base) is
    ∙ (ap (λ (o : Option (List ℕ)). (ok_or o (Absent base) >>= λ bytes. (document_in bytes base >>= λ document. Ok (record { content = Mosaic document; length = length bytes }))) >>= λ found. Ok (dataset_of base found)) there
    ∙ ap (λ (r : Result DocumentValue WalkFault). (r >>= λ document. Ok (record { content = Mosaic document; length = length (spelled v) })) >>= λ found. Ok (dataset_of base found)) (document_is reads base v rules short))

pub published_is : (reads : Reads) (m : Files) (cat : List Dataset) (id : ℕ) (d : Dataset) (p : Planned) (h : DatasetHead) → IsWalked m cat → slice_get cat id ≡ Some d → IsPublished m d.head.name p h → document_of d.content ≡ Some (document_by p d.head.name h)
published_is reads m cat id d p h walked there shows =
    let v = document_by p d.head.name h in
    let same : dataset_of d.head.name (record { content = Mosaic v; length = length (spelled v) }) ≡ d = one_told _ d (dataset_in m false d.head.name) (dataset_is reads m d.head.name v shows.rules shows.extension shows.bytes shows.short) (dataset_walked m cat id d walked there) in
    ap (λ (x : Dataset). document_of x.content) (sym same)
