-- Outputs of columns, which are written one after the other.
use Rattle.std.proofs.Common.{◌≡◌, ◌∙◌, ap, sym, subst, ℕ, ℤ, pos, ◌+◌, ◌*◌, ◌<◌, arith, get_or, inl, inr, Bool, true, false, List, Option, Some, None}
use Rattle.std.specs.Prelude.{is_some, slice_get, IsSome}
use Rattle.std.proofs.lemmas.Bool.{cases_lt}
use Rattle.geotransform.specs.declared.types.Rect.{Rect}
use Rattle.outside.specs.Outside.{Files}
use Rattle.catalog.specs.Drivers.{Dataset}
use Rattle.translate_plan.specs.Plan.{Planned, IsPlan}
use Rattle.write_back.specs.declared.forms.Writer.{Writer}
use Rattle.write_back.specs.Files.{IsTarget}
use Rattle.write_back.specs.Forms.{cut_of, line_total}
use Rattle.write_back.specs.Packed.{in_bytes, packed_in, packed_rect, IsApart}
use Rattle.write_back.specs.Plans.{output_of}
use Rattle.write_back.specs.View.{Output, Blocks, TargetView, columns_of, line_count_of, sheet_in, shown, IsIn, IsMetOn, Meets, MeetsAll, Shows}
use Rattle.write_back.specs.Overlay.{IsOverlaid}
use Rattle.write_back.proofs.Outputs.{has_size, is_same}
use Rattle.write_back.proofs.Past.{column_rect}
use Rattle.output_copies.specs.Filled.{IsAtLine, IsFilled}
use Rattle.output_copies.specs.Packed.{AreBlocksWritten, AreColumnsWritten, HoldsFront, IsPackedAt}
use Rattle.output_copies.specs.Steps.{raster_of}
use Rattle.output_copies.proofs.Packs.{column_band, column_blocks, column_spots, is_lined, line_blocks}

known : (told : Option Files) (m : Files) → told ≡ Some m → IsSome told
known told m is = ap (λ (o : Option Files). is_some o) is

-- the next line of blocks may be any
at_any : (w : Writer) (o : Output) (lines y : ℕ) → o ≡ Blocks w → IsAtLine o lines y
at_any w o lines y is = subst (λ (x : Output). IsAtLine x lines y) (sym is) tt

module _ (told : Option Files) (cat : List Dataset) (id : ℕ) (p : Planned) (w : Writer) (plan : IsPlan p) (output : output_of p ≡ Some (Blocks w)) where
  -- where nothing is written yet, no block is
  pub blocks_begin : (b : Bool) (t : TargetView) → IsFilled told cat id p t 0 0 0 → AreBlocksWritten told cat id p w b t 0
  blocks_begin false t filled = filled
  blocks_begin true t filled = record {
    target = filled.target;
    output = filled.output;
    fault = filled.fault;
    copied = λ m d e f b i j place less. absurd (omega arith);
    met = λ m e i column less. absurd (omega arith);
  }

  -- where all blocks were written, the output is whole
  pub blocks_end : IsApart w → (b : Bool) → (cut_of w).by_columns ≡ b → (t : TargetView) → AreBlocksWritten told cat id p w b t (cut_of w).blocks → IsFilled told cat id p t p.size.h p.size.h 0
  blocks_end apart false rows t written = subst (λ n. IsFilled told cat id p t n n 0) (line_blocks p w plan output (is_lined w apart rows)) written
  blocks_end apart true columns t written =
      let out : t.output ≡ Blocks w = is_same t.output (Blocks w) (sym written.output ∙ output) in
      let size = has_size p t.output plan written.output in
      let wide = column_blocks p w plan output columns in
      let across = size.columns_are in
      record {
        target = written.target;
        output = written.output;
        fault = written.fault;
        at = λ none. at_any w t.output t.lines p.size.h out;
        behind = λ more. absurd (omega arith);
        copied = λ m d e f. record {
          above = λ b x y place less. written.copied m d e f b x y place (let column = place.column in omega (arith, column, across, wide));
          beside = λ b x y place less line. absurd (omega arith);
          met = λ some. λ x column. written.met m e x column (omega (arith, column, across, wide));
          met_beside = λ some. absurd (omega arith);
        };
      }

  -- one column more was written
  module _ (columns : (cut_of w).by_columns ≡ true) (new : Option Files) (t u : TargetView) (x : ℕ) (bytes : List ℕ) (new_is : new ≡ told) (written : AreColumnsWritten told cat id p w t x) (target : IsTarget new u) (same : u.output ≡ t.output) (fault : u.fault ≡ None)
      (shows : Shows told 0 (packed_rect t.output x) (packed_in t.output bytes) t u) (meets : MeetsAll told (packed_rect t.output x) t u) (packed : IsPackedAt told cat id p w 0 x bytes) where
    out : t.output ≡ Blocks w
    out = is_same t.output (Blocks w) (sym written.output ∙ output)

    rect : packed_rect t.output x ≡ record { x = x; y = 0; w = 1; h = line_total w }
    rect = ap (λ o. packed_rect o x) out ∙ column_rect w x columns

    over : (m : Files) → told ≡ Some m → IsOverlaid (IsIn t.output) 0 (record { x = x; y = 0; w = 1; h = line_total w }) (in_bytes w bytes) (shown t) (shown u)
    over m e = subst (λ (l : List ℤ). IsOverlaid (IsIn t.output) 0 (record { x = x; y = 0; w = 1; h = line_total w }) l (shown t) (shown u)) (ap (λ o. packed_in o bytes) out)
        (subst (λ (r : Rect). IsOverlaid (IsIn t.output) 0 r (packed_in t.output bytes) (shown t) (shown u)) rect (shows (known told m e)))

    met_by : (m : Files) → told ≡ Some m → Meets t.output (record { x = x; y = 0; w = 1; h = line_total w }) (sheet_in t) (sheet_in u)
    met_by m e = subst (λ (r : Rect). Meets t.output r (sheet_in t) (sheet_in u)) rect (meets (known told m e))

    front : HoldsFront told cat id p true 0 x (cut_of w).spots (in_bytes w bytes)
    front = subst (λ c. HoldsFront told cat id p c 0 x (cut_of w).spots (in_bytes w bytes)) columns packed.front

    tall : (cut_of w).spots ≡ p.size.h
    tall = column_spots p w plan output columns

    -- the samples of the column
    here : (m : Files) (d : Dataset) → told ≡ Some m → slice_get cat id ≡ Some d → (j : ℕ) → j < line_count_of t.output → shown u 0 x j ≡ raster_of m d p 0 x j
    here m d e f j less =
        let size = has_size p t.output plan written.output in
        let high = size.lines_are in
        let lines : line_total w ≡ p.size.h = ap line_count_of (sym out) ∙ size.lines_are in
        let beside : x + 0 ≡ x = omega arith in
        let below : 0 + j ≡ j = omega arith in
        let place : j * 1 + 0 ≡ j = omega arith in
        ap (λ n. shown u 0 n j) (sym beside) ∙ ap (λ n. shown u 0 (x + 0) n) (sym below)
        ∙ (over m e).inside 0 j (omega arith) (omega (arith, less, high, lines))
        ∙ ap (λ n. get_or (in_bytes w bytes) n (pos 0)) place
        ∙ (front).pixels m d e f j (omega (arith, less, high, tall))

    pub column_more : AreColumnsWritten new cat id p w u (x + 1)
    column_more = subst (λ (o : Option Files). AreColumnsWritten o cat id p w u (x + 1)) (sym new_is) (record {
      target = subst (λ (o : Option Files). IsTarget o u) new_is target;
      output = written.output ∙ ap (λ (o : Output). Some o) (sym same);
      fault = fault;
      copied = λ m d e f b i j place less.
          let there : IsIn t.output b i j = subst (λ (o : Output). IsIn o b i j) same place in
          let size = has_size p t.output plan written.output in
          let bands = size.bands_are in
          let one = column_band p w plan output columns in
          let first : 0 ≡ b = (let inside = there.band in omega (arith, inside, bands, one)) in
          elim (cases_lt i x) [
            | inl low ↦ (over m e).outside b i j there (λ inside. let left = inside.left in let no : ⊥ = omega (arith, left, low) in no) ∙ written.copied m d e f b i j there low
            | inr high ↦ (
                let last : x ≡ i = omega arith in
                subst (λ n. shown u n i j ≡ raster_of m d p n i j) first (subst (λ n. shown u 0 n j ≡ raster_of m d p 0 n j) last (here m d e f j there.line))
                )
          ];
      met = λ m e i column less.
          let inside : i < columns_of t.output = subst (λ (o : Output). i < columns_of o) same column in
          let size = has_size p t.output plan written.output in
          let some : 0 < line_total w = (let lines : line_total w ≡ p.size.h = ap line_count_of (sym out) ∙ size.lines_are in let high = plan.size.some_lines in omega (arith, lines, high)) in
          subst (λ (o : Output). IsMetOn o (sheet_in u) i) (sym same) (elim (cases_lt i x) [
            | inl low ↦ (met_by m e).stays i inside (written.met m e i inside low)
            | inr high ↦ (met_by m e).here some i high (omega arith)
          ]);
    })
