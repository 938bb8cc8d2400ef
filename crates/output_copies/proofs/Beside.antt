-- Lines that are read while those before them are written.
use Rattle.std.proofs.Common.{◌≡◌, ap, sym, subst, ◌+◌, ◌-◌, ◌*◌, ◌<◌, ◌≤◌, arith, ℕ, ℤ, List, length, inl, inr, Option, Result, Err}
use Rattle.std.proofs.lemmas.Bool.{cases_lt}
use Rattle.outside.specs.Causes.{Rose}
use Rattle.outside.specs.Outside.{Files}
use Rattle.outside.specs.declared.folder.Folder.{Ghosts}
use Rattle.catalog.specs.Drivers.{Dataset}
use Rattle.nearest_window.specs.Lanes.{LaneView}
use Rattle.translate_plan.specs.Plan.{Planned, IsPlan}
use Rattle.write_back.specs.View.{TargetView}
use Rattle.strip_copies.specs.declared.columns.Columns.{Columns}
use Rattle.strip_copies.specs.declared.reading.Lines.{Lines}
use Rattle.error_lines.specs.declared.faults.Fault.{Fault}
use Rattle.output_copies.specs.Ahead.{MayBeRead}
use Rattle.output_copies.specs.Copying.{MayEnd}
use Rattle.output_copies.specs.Filled.{IsFilled}
use Rattle.output_copies.specs.Parts.{AreBehind, ArePart}
use Rattle.output_copies.proofs.Copied.{filled_next}

module _ {F File Draft : Type 0} (calls : Ghosts F File Draft) (cat : List Dataset) (id : ℕ) (p : Planned) (lines : Lines) where
  -- what may be read, by what the view, the reader and the room are
  pub may_read_at : (told : Option Files) (scene : List Dataset) (view view' : F) (lanes lanes' : List (LaneView File)) (columns columns' : Columns) (strip strip' room room' : List ℤ)
      → MayBeRead calls cat id p lines told scene view lanes columns strip room → view ≡ view' → lanes ≡ lanes' → columns ≡ columns' → strip ≡ strip' → room ≡ room' → MayBeRead calls cat id p lines told scene view' lanes' columns' strip' room'
  may_read_at told scene view view' lanes lanes' columns columns' strip strip' room room' may d e f g h =
      subst (λ (x : F). MayBeRead calls cat id p lines told scene x lanes' columns' strip' room') d
      (subst (λ (x : List (LaneView File)). MayBeRead calls cat id p lines told scene view x columns' strip' room') e
      (subst (λ (x : Columns). MayBeRead calls cat id p lines told scene view lanes x strip' room') f
      (subst (λ (x : List ℤ). MayBeRead calls cat id p lines told scene view lanes columns x room') g
      (subst (λ (x : List ℤ). MayBeRead calls cat id p lines told scene view lanes columns strip x) h may))))

-- a fault that comes while the output is put to
pub ends_beside_put : {T U : Type 0} (told : Option Files) (f g o q : ℕ) (x : Fault) → o ≤ q → MayEnd {T = T} told f g 0 0 (Err x) → MayEnd {T = U} told f g o q (Err x)
ends_beside_put {T = T} {U = U} told f g o q x later ends = record {
  cause = record {
    folder_later = ends.cause.folder_later;
    out_later = later;
    folder_failed = λ is. ends.cause.folder_failed (ap (λ (y : Fault). Err y) (fault_is is));
    out_failed = λ is. let rose : Rose 0 0 = ends.cause.out_failed (ap (λ (y : Fault). Err y) (fault_is is)) in absurd (omega (arith, rose));
  };
  reading = ends.reading;
  differs = λ name was now is same. ends.differs name was now (ap (λ (y : Fault). Err y) (fault_is is)) same;
  never = ends.never;
}
  where
    as_result : Fault → Result U Fault
    as_result y = Err y

    fault_is : {y : Fault} → as_result x ≡ as_result y → x ≡ y
    fault_is is = cc

-- how many parts are left, with those of bands that are past
abbrev pub parts_left : Planned → Lines → ℕ
parts_left p lines = (p.size.h - lines.first) * length p.bands + (length p.bands - lines.band)

fewer_lines : (h b first next : ℕ) → first < next → next ≤ h → (h - next) * b + b ≤ (h - first) * b
fewer_lines h b first next less low =
    let e = next - first - 1 in
    let x = h - next in
    let whole : h - first ≡ x + 1 + e = omega arith in
    let parts : (x + 1 + e) * b ≡ x * b + b + e * b = grind arith in
    subst (λ (n : ℕ). x * b + b ≤ n * b) (sym whole) (omega (arith, parts))

-- behind each part fewer are left
pub fewer_left : (p : Planned) (last next : Lines) → ArePart p last → ArePart p next → AreBehind p last next → parts_left p next < parts_left p last
fewer_left p last next a b behind =
    let band = a.band in
    elim (cases_lt 0 next.band) [
      | inl more ↦ let s = behind.beside more in let other = b.band in
          subst (λ (f : ℕ). (p.size.h - f) * length p.bands + (length p.bands - next.band) < parts_left p last) (sym s.1)
          (let one : next.band ≡ last.band + 1 = s.0 in let low : next.band < length p.bands = other in omega (arith, one, low, band))
      | inr none ↦
          let zero : next.band ≡ 0 = omega arith in
          let s = behind.below zero in
          let order : last.first < next.first = (let o = a.order in let f : next.first ≡ last.end = s.1 in omega (arith, o, f)) in
          let inside : next.first ≤ p.size.h = (let o = b.order in let e = b.end in omega (arith, o, e)) in
          let lines = fewer_lines p.size.h (length p.bands) last.first next.first order inside in
          omega (arith, lines, band, zero)
    ]

-- the lines behind those that were written may be written next
pub filled_on : (told : Option Files) (cat : List Dataset) (id : ℕ) (p : Planned) (plan : IsPlan p) (t : TargetView) (last next : Lines) → ArePart p last → AreBehind p last next → IsFilled told cat id p t last.first last.end (last.band + 1) → IsFilled told cat id p t next.first next.end next.band
filled_on told cat id p plan t last next part behind filled = elim (cases_lt 0 next.band) [
  | inl more ↦
      let s = behind.beside more in
      subst (λ (n : ℕ). IsFilled told cat id p t n next.end next.band) (sym s.1)
      (subst (λ (n : ℕ). IsFilled told cat id p t last.first n next.band) (sym s.2)
      (subst (λ (n : ℕ). IsFilled told cat id p t last.first last.end n) (sym s.0) filled))
  | inr none ↦
      let zero : next.band ≡ 0 = omega arith in
      let s = behind.below zero in
      subst (λ (n : ℕ). IsFilled told cat id p t n next.end next.band) (sym s.1)
      (subst (λ (n : ℕ). IsFilled told cat id p t last.end next.end n) (sym zero)
      (filled_next told cat id p plan t last.first last.end next.end part.order
      (subst (λ (n : ℕ). IsFilled told cat id p t last.first last.end n) s.0 filled)))
]
