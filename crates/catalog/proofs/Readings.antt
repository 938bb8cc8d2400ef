-- In how many reads datasets are read.
use Rattle.std.proofs.Common.{◌≡◌, ◌∙◌, ℕ, ◌+◌, ◌*◌, ◌/◌, ◌<◌, ◌≤◌, ap, sym, refl, List, [], ◌∷◌, ◌++◌, Bool, Result, Ok, arith, lt_of_mul-lt-mul_right}
use Rattle.std.specs.Int.{div_ceil}
use Rattle.std.proofs.Math.Nat.{div-mul-le_self, add-div_right}
use Rattle.std.proofs.lemmas.Grind.{div_ceil_times}
use Rattle.std.proofs.lemmas.List.Sums.{sum_by-append, sum_by_push}
use Rattle.lists_and_answers.specs.Answers.{◌>>=◌}
use Rattle.outside.specs.Outside.{Files}
use Rattle.catalog.specs.declared.kind.Kind.{Kind}
use Rattle.catalog.specs.declared.kind.Kind.TheVariants as kinds
use Rattle.catalog.specs.declared.driver.DriverHead.TheVariants.{Raw, Dted, Hgt, Ascii}
use Rattle.catalog.specs.declared.driver.Content.{Content}
use Rattle.catalog.specs.declared.driver.Content.TheVariants.{File, Mosaic}
use Rattle.catalog.specs.declared.faults.WalkFault.{WalkFault}
use Rattle.catalog.specs.Drivers.{Dataset}
use Rattle.catalog.specs.OwnFiles.{content_kind}
use Rattle.catalog.specs.Heads.{kind_in, dataset_by, dataset_in}
use Rattle.catalog.specs.Readings.{calls_to_find, calls_to_open, calls_to_open_all}

-- pieces of a file

-- a piece that begins before the end is one more than the whole ones before it
pub piece_counted : (at len step : ℕ) → 0 < step → at < len → at / step + 1 ≤ div_ceil len step
piece_counted at len step some less =
    let enough : len ≤ div_ceil len step * step = (div_ceil_times len step some).0 in
    let below : at / step * step < div_ceil len step * step = omega (arith, div-mul-le_self at step, enough) in
    let few : at / step < div_ceil len step = lt_of_mul-lt-mul_right step below in
    omega arith

-- a whole piece more
pub piece_whole : (at step : ℕ) → 0 < step → (at + step) / step ≡ at / step + 1
piece_whole at step some = add-div_right at some

-- what each kind of dataset takes

pub raw_calls : (verify : Bool) (c : Content) (len : ℕ) → content_kind c ≡ kinds.Raw → calls_to_find verify c len ≡ 1
raw_calls verify (File (Raw h)) len is = refl
raw_calls verify (File (Dted h)) len is = absurd (cc)
raw_calls verify (File (Hgt side)) len is = absurd (cc)
raw_calls verify (File (Ascii h)) len is = absurd (cc)
raw_calls verify (Mosaic d) len is = absurd (cc)

pub grid_calls : (verify : Bool) (c : Content) (len : ℕ) → content_kind c ≡ kinds.Ascii → calls_to_find verify c len ≡ div_ceil len 65536
grid_calls verify (File (Raw h)) len is = absurd (cc)
grid_calls verify (File (Dted h)) len is = absurd (cc)
grid_calls verify (File (Hgt side)) len is = absurd (cc)
grid_calls verify (File (Ascii h)) len is = refl
grid_calls verify (Mosaic d) len is = absurd (cc)

pub mosaic_calls : (verify : Bool) (c : Content) (len : ℕ) → content_kind c ≡ kinds.Vrt → calls_to_find verify c len ≡ 1
mosaic_calls verify (File (Raw h)) len is = absurd (cc)
mosaic_calls verify (File (Dted h)) len is = absurd (cc)
mosaic_calls verify (File (Hgt side)) len is = absurd (cc)
mosaic_calls verify (File (Ascii h)) len is = absurd (cc)
mosaic_calls verify (Mosaic d) len is = refl

-- what was read is the dataset that the files tell

abbrev known : Dataset → Result Dataset WalkFault
known d = Ok d

known_is : (d e : Dataset) → known d ≡ known e → d ≡ e
known_is d e is = cc

pub known_dataset : (m : Files) (verify : Bool) (name : List ℕ) (kind : Kind) (d e : Dataset) → kind_in name ≡ Ok kind → dataset_by kind m verify name ≡ Ok d → dataset_in m verify name ≡ Ok e → d ≡ e
unfolding dataset_in
known_dataset m verify name kind d e is read told = known_is d e (sym read ∙ sym (ap (λ (r : Result Kind WalkFault). r >>= λ k. dataset_by k m verify name) is) ∙ told)

-- the reads of several datasets

-- one dataset more
pub one_more_read : (verify : Bool) (before after : ℕ) (ds : List Dataset) (d : Dataset) → after ≤ before + calls_to_open verify d → after + calls_to_open_all verify ds ≤ before + calls_to_open_all verify (ds ++ d ∷ [])
one_more_read verify before after ds d read = omega (arith, sum_by_push (λ (d : Dataset). calls_to_open verify d) ds d)

-- several more
pub more_read : (verify : Bool) (before after : ℕ) (old new more : List Dataset) → after + calls_to_open_all verify old ≤ before + calls_to_open_all verify new → new ≡ old ++ more → after ≤ before + calls_to_open_all verify more
more_read verify before after old new more read is = omega (arith, ap (calls_to_open_all verify) is ∙ sum_by-append (λ (d : Dataset). calls_to_open verify d) old more)

-- one walk behind the other
pub read_then : (verify : Bool) (a b c : ℕ) (old mid new : List Dataset) → b + calls_to_open_all verify old ≤ a + calls_to_open_all verify mid → c + calls_to_open_all verify mid ≤ b + calls_to_open_all verify new → c + calls_to_open_all verify old ≤ a + calls_to_open_all verify new
read_then verify a b c old mid new before next = omega arith
