-- What the files of a dataset give a catalog.
use Rattle.std.proofs.Common.{◌≡◌, ◌∙◌, ap, sym, subst, refl, ℕ, List, true, Option, Some, None, is_some, Ok, true≢false}
use Rattle.outside.specs.Names.{last_part}
use Rattle.hgt_tiles.specs.Names.{corner_of}
use Rattle.hgt_tiles.specs.Places.{IsSide, side_of_length}
use Rattle.catalog.specs.declared.kind.Kind.{Kind}
use Rattle.catalog.specs.declared.driver.DriverHead.{DriverHead}
use Rattle.catalog.specs.declared.driver.DriverHead.TheVariants.{Raw, Dted, Hgt, Ascii}
use Rattle.catalog.specs.declared.driver.Content.{Content}
use Rattle.catalog.specs.declared.driver.Content.TheVariants.{File, Mosaic}
use Rattle.catalog.specs.Dataset.{DatasetHead, IsDatasetHead}
use Rattle.catalog.specs.Drivers.{head_told, content_head, Fits}
use Rattle.catalog.specs.OwnFiles.{driver_kind, content_kind}
use Rattle.catalog.specs.Heads.{kind_in}
use Rattle.catalog.specs.Walk.{IsDataset}

there : {T : Type 0} (o : Option T) → is_some o ≡ true → (x : T) × (o ≡ Some x)
there None some = absurd (true≢false (sym some))
there (Some x) some = (x, refl)

-- the name and the length of a tile are of the form
pub tile_fits : (name : List ℕ) (side len : ℕ) → is_some (corner_of (last_part name)) ≡ true → IsSide side → Some side ≡ side_of_length len → Fits name (File (Hgt side)) len
tile_fits name side len some is f = record { kind = (there (corner_of (last_part name)) some, is); long = sym f }

told_name : (name : List ℕ) (driver : DriverHead) → (head_told name driver).name ≡ name
told_name name (Raw h) = refl
told_name name (Dted h) = refl
told_name name (Hgt side) = refl
told_name name (Ascii h) = refl

told_kind : (name : List ℕ) (driver : DriverHead) → (head_told name driver).kind ≡ driver_kind driver
told_kind name (Raw h) = refl
told_kind name (Dted h) = refl
told_kind name (Hgt side) = refl
told_kind name (Ascii h) = refl

pub content_name : (name : List ℕ) (content : Content) → (content_head name content).name ≡ name
content_name name (File h) = told_name name h
content_name name (Mosaic d) = refl

content_kind_told : (name : List ℕ) (content : Content) → (content_head name content).kind ≡ content_kind content
content_kind_told name (File h) = told_kind name h
content_kind_told name (Mosaic d) = refl

-- a dataset by what was found of its files
pub is_dataset : (name : List ℕ) (kind : Kind) (head : DatasetHead) (content : Content) (len : ℕ) → kind_in name ≡ Ok kind → content_kind content ≡ kind → head ≡ content_head name content → IsDatasetHead head → Fits name content len
    → IsDataset (record { head = head; content = content; length = len })
is_dataset name kind head content len e k is valid fits =
    let named : head.name ≡ name = ap (λ h. h.name) is ∙ content_name name content in
    record {
      kind = ap kind_in named ∙ e ∙ ap Ok (sym (ap (λ h. h.kind) is ∙ content_kind_told name content ∙ k));
      head = is ∙ ap (λ n. content_head n content) (sym named);
      valid = valid;
      fits = subst (λ n. Fits n content len) (sym named) fits;
    }
