-- The files of datasets that were walked: they are there, and have the length and the head that the walk found.
use Rattle.std.proofs.Common.{◌≡◌, ◌∙◌, ap, sym, subst, refl, ℕ, List, length, Option, Some, None, Result, Ok, Err, false}
use Rattle.std.specs.Prelude.{slice_get, ok_or}
use Rattle.std.specs.FinMap.{get}
use Rattle.lists_and_answers.specs.Answers.{◌>>=◌}
use Rattle.outside.specs.Outside.{Files}
use Rattle.catalog.specs.Drivers.{Dataset, dataset_of, driver_of}
use Rattle.catalog.specs.Pixels.{IsHeadOf}
use Rattle.catalog.specs.declared.driver.Content.{Content}
use Rattle.catalog.specs.declared.driver.Content.TheVariants.{File, Mosaic}
use Rattle.catalog.specs.declared.driver.Found.{Found}
use Rattle.catalog.specs.declared.kind.Kind.{Kind}
use Rattle.catalog.specs.declared.kind.Kind.TheVariants as kinds
use Rattle.catalog.specs.declared.faults.WalkFault.{WalkFault}
use Rattle.catalog.specs.declared.faults.WalkFault.TheVariants.{Absent, Malformed}
use Rattle.catalog.specs.declared.faults.Bad.TheVariants as bad
use Rattle.catalog.specs.declared.driver.DriverHead.{DriverHead}
use Rattle.catalog.specs.declared.driver.DriverHead.TheVariants as drivers
use Rattle.ascii_grid.specs.declared.faults.GridFault.{GridFault}
use Rattle.ascii_grid.specs.Grid.{Head, grid_head}
use Rattle.outside.specs.Names.{header_of, last_part}
use Rattle.interleaved_raw.specs.Raw as raw
use Rattle.hgt_tiles.specs.Names.{corner_of}
use Rattle.hgt_tiles.specs.Places.{side_of_length}
use Rattle.hgt_tiles.specs.declared.corner.HgtFault.TheVariants.{BadName, BadLength}
use Rattle.catalog.specs.Heads.{named, kind_in, found_in, file_in, header_in, long_enough, cell_in, raw_in, dted_in, hgt_in, grid_in, ascii_in, document_in, vrt_in, dataset_by, dataset_in}
use Rattle.catalog.specs.Walk.{IsWalked}
use Rattle.catalog.proofs.Walked.{dataset_walked}
use Rattle.catalog.proofs.PixelLaws.{is_file}

err≢ok : {T : Type 0} {e : WalkFault} {x : T} → Err e ≡ Ok x → ⊥
err≢ok is = cc

ok_same : {T : Type 0} (x y : T) → ◌≡◌ {A = Result T WalkFault} (Ok x) (Ok y) → x ≡ y
ok_same x y is = cc

some_bytes : (a b : List ℕ) → Some a ≡ Some b → a ≡ b
some_bytes a b is = cc

-- the two steps of an answer
steps : {A B : Type 0} (x : Result A WalkFault) (k : A → Result B WalkFault) (y : B) → (x >>= k) ≡ Ok y → (a : A) × (x ≡ Ok a) × (k a ≡ Ok y)
steps (Ok a) k y is = (a, refl, is)
steps (Err e) k y is = absurd (err≢ok is)

-- the head of the data, where it is a file, is that of the bytes
abbrev pub IsContentOf : Content → List ℕ → Type 0
IsContentOf (File h) bytes = IsHeadOf h bytes
IsContentOf (Mosaic d) bytes = Unit {0}

-- the file of a name is there, has this length, and its data this head
pub record Has (m : Files) (name : List ℕ) (n : ℕ) (content : Content) : Type 0 where
  pub bytes : List ℕ
  pub there : get m name ≡ Some bytes
  pub long : n ≡ length bytes
  pub head : IsContentOf content bytes

got : (o : Option (List ℕ)) (fault : WalkFault) (b : List ℕ) → ok_or o fault ≡ Ok b → o ≡ Some b
got None fault b is = absurd (err≢ok is)
got (Some c) fault b is = ap (λ (x : List ℕ). Some x) (ok_same c b is)

has_of : (m : Files) (name : List ℕ) (b : List ℕ) (f g : Found) → file_in m name ≡ Ok b → f ≡ g → length b ≡ f.length → IsContentOf f.content b → Has m name g.length g.content
has_of m name b f g is same long head = subst (λ (x : Found). Has m name x.length x.content) same (record { bytes = b; there = got (get m name) (Absent name) b is; long = sym long; head = head })

raw_has : (m : Files) (name : List ℕ) (f : Found) → raw_in m name ≡ Ok f → Has m name f.length f.content
unfolding raw_in
raw_has m name f is =
    let a = steps (file_in m name) _ f is in
    let b = steps (header_in m (header_of name)) _ f a.2 in
    let c = steps (long_enough (raw.needed_of b.0) a.0 name) _ f b.2 in
    has_of m name a.0 (record { content = File (drivers.Raw b.0); length = length a.0 }) f a.1 (ok_same (record { content = File (drivers.Raw b.0); length = length a.0 }) f c.2) refl tt

dted_has : (m : Files) (name : List ℕ) (f : Found) → dted_in m false name ≡ Ok f → Has m name f.length f.content
unfolding dted_in
dted_has m name f is =
    let a = steps (file_in m name) _ f is in
    let b = steps (cell_in a.0 name) _ f a.2 in
    has_of m name a.0 (record { content = File (drivers.Dted b.0); length = length a.0 }) f a.1 (ok_same (record { content = File (drivers.Dted b.0); length = length a.0 }) f b.2) refl tt

hgt_has : (m : Files) (name : List ℕ) (f : Found) → hgt_in m name ≡ Ok f → Has m name f.length f.content
unfolding hgt_in
hgt_has m name f is =
    let a = steps (ok_or (corner_of (last_part name)) (Malformed name (bad.Hgt BadName))) _ f is in
    let b = steps (file_in m name) _ f a.2 in
    let c = steps (ok_or (side_of_length (length b.0)) (Malformed name (bad.Hgt BadLength))) _ f b.2 in
    has_of m name b.0 (record { content = File (drivers.Hgt c.0); length = length b.0 }) f b.1 (ok_same (record { content = File (drivers.Hgt c.0); length = length b.0 }) f c.2) refl tt

grid_told : (b name : List ℕ) (h : Head) (r : Result Head GridFault) → named (λ f. Malformed name (bad.Grid f)) r ≡ Ok h → r ≡ Ok h
grid_told b name h (Ok g) is = ap (λ (x : Head). Ok x) (ok_same g h is)
grid_told b name h (Err f) is = absurd (err≢ok is)

ascii_has : (m : Files) (name : List ℕ) (f : Found) → ascii_in m name ≡ Ok f → Has m name f.length f.content
unfolding ascii_in
ascii_has m name f is =
    let a = steps (file_in m name) _ f is in
    let b = steps (grid_in a.0 name) _ f a.2 in
    has_of m name a.0 (record { content = File (drivers.Ascii b.0); length = length a.0 }) f a.1 (ok_same (record { content = File (drivers.Ascii b.0); length = length a.0 }) f b.2) refl (grid_told a.0 name b.0 (grid_head a.0) b.1)

vrt_has : (m : Files) (name : List ℕ) (f : Found) → vrt_in m name ≡ Ok f → Has m name f.length f.content
unfolding vrt_in
vrt_has m name f is =
    let a = steps (file_in m name) _ f is in
    let b = steps (document_in a.0 name) _ f a.2 in
    has_of m name a.0 (record { content = Mosaic b.0; length = length a.0 }) f a.1 (ok_same (record { content = Mosaic b.0; length = length a.0 }) f b.2) refl tt

found_has : (kind : Kind) (m : Files) (name : List ℕ) (f : Found) → found_in kind m false name ≡ Ok f → Has m name f.length f.content
found_has kinds.Raw m name f is = raw_has m name f is
found_has kinds.Dted m name f is = dted_has m name f is
found_has kinds.Hgt m name f is = hgt_has m name f is
found_has kinds.Ascii m name f is = ascii_has m name f is
found_has kinds.Vrt m name f is = vrt_has m name f is

by_has : (kind : Kind) (m : Files) (name : List ℕ) (d : Dataset) → dataset_by kind m false name ≡ Ok d → Has m name d.length d.content
unfolding dataset_by
by_has kind m name d is =
    let a = steps (found_in kind m false name) _ d is in
    let has = found_has kind m name a.0 a.1 in
    subst (λ (x : Dataset). Has m name x.length x.content) (ok_same (dataset_of name a.0) d a.2) has

dataset_has : (m : Files) (name : List ℕ) (d : Dataset) → dataset_in m false name ≡ Ok d → Has m name d.length d.content
unfolding dataset_in
dataset_has m name d is =
    let a = steps (kind_in name) _ d is in
    by_has a.0 m name d a.2

-- the file of a dataset that was walked is there, and has the length that the walk found
pub walked_has : (m : Files) (cat : List Dataset) (id : ℕ) (d : Dataset) → IsWalked m cat → slice_get cat id ≡ Some d → Has m d.head.name d.length d.content
walked_has m cat id d walked at = dataset_has m d.head.name d (dataset_walked m cat id d walked at)

-- the head of the data of a dataset that was walked is that of the bytes under its name
pub head_walked : (m : Files) (cat : List Dataset) (id : ℕ) (d : Dataset) (h : DriverHead) (b : List ℕ) → IsWalked m cat → slice_get cat id ≡ Some d → driver_of d.content ≡ Some h → get m d.head.name ≡ Some b → IsHeadOf h b
head_walked m cat id d h b walked at driver there =
    let has = walked_has m cat id d walked at in
    subst (λ (c : Content). IsContentOf c b) (is_file d.content h driver) (subst (IsContentOf d.content) (some_bytes has.bytes b (sym has.there ∙ there)) has.head)
