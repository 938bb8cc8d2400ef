-- Lines of an output that are copied one after another.
use Rattle.std.proofs.Common.{◌≡◌, ◌∙◌, ap, sym, subst, refl, ℕ, ℤ, pos, ◌+◌, ◌-◌, ◌*◌, ◌/◌, ◌%◌, ◌<◌, ◌≤◌, arith, length, get_or, inl, inr, List, Option, Some, None}
use Rattle.std.specs.Prelude.{is_some, slice_get, IsSome}
use Rattle.std.specs.List.{All}
use Rattle.std.proofs.lemmas.Option.{slice_get-get_or}
use Rattle.std.proofs.lemmas.Bool.{cases_lt}
use Rattle.std.proofs.lemmas.Nat.{div-mul-add, mod-mul-add, mul-add-lt}
use Rattle.geotransform.specs.declared.types.Rect.{Rect}
use Rattle.geotransform.specs.declared.types.Size.{Size}
use Rattle.outside.specs.Outside.{Files}
use Rattle.catalog.specs.Drivers.{Dataset}
use Rattle.catalog.specs.Places.{row_by_row}
use Rattle.band_blocks.proofs.Corners.{get_or-row_by_row}
use Rattle.translate_plan.specs.Bands.{no_out_band}
use Rattle.translate_plan.specs.Plan.{Planned, IsPlan}
use Rattle.write_back.specs.declared.forms.Writer.TheVariants.{Raw, Hgt, Dted}
use Rattle.write_back.specs.Files.{target_files, IsTarget, IsWhole, IsWholeOn}
use Rattle.write_back.specs.Overlay.{IsOverlaid}
use Rattle.write_back.specs.Plans.{output_of}
use Rattle.write_back.specs.View.{Output, Blocks, Rows, SheetView, TargetView, bands_of, columns_of, lines_after, line_count_of, sheet_in, shown, AreWritable, IsIn, IsMetOn, IsNext, Meets, MeetsAll, Shows}
use Rattle.write_back.proofs.Outputs.{has_size, sample_held}
use Rattle.strip_copies.specs.Copies.{lines_rect, IsHeldIn}
use Rattle.output_copies.specs.Filled.{AreColumnsMet, IsAtLine, IsCopied, IsFilled}
use Rattle.output_copies.specs.Steps.{files_by, raster_of}
use Rattle.output_copies.proofs.Alike.{files_same}

known : (told : Option Files) (m : Files) → told ≡ Some m → IsSome told
known told m is = ap (λ (o : Option Files). is_some o) is

-- a band's lines that a window was put over
module _ (Place : ℕ → ℕ → ℕ → Type 0) (k : ℕ) (rect : Rect) (samples : List ℤ) (want old new : ℕ → ℕ → ℕ → ℤ) (left : rect.x ≡ 0) (over : IsOverlaid Place k rect samples old new) (at : (x y : ℕ) → x < rect.w → y < rect.h → get_or samples (y * rect.w + x) (pos 0) ≡ want k x (rect.y + y)) where
  lines_here : (b x y : ℕ) → b ≡ k → x < rect.w → rect.y ≤ y → y < rect.y + rect.h → new b x y ≡ want b x y
  lines_here b x y same column top bottom =
      let p : rect.x + x ≡ x = omega arith in
      let q : rect.y + (y - rect.y) ≡ y = omega arith in
      let less : y - rect.y < rect.h = omega arith in
      ap (λ n. new n x y) same ∙ ap (λ n. new k n y) (sym p) ∙ ap (λ n. new k (rect.x + x) n) (sym q) ∙ over.inside x (y - rect.y) column less ∙ at x (y - rect.y) column less ∙ ap (λ n. want k x n) q ∙ ap (λ n. want n x y) (sym same)

  lines_kept : (b x y : ℕ) → Place b x y → (b ≡ k → y < rect.y) → old b x y ≡ want b x y → new b x y ≡ want b x y
  lines_kept b x y place before is = over.outside b x y place (λ inside. let less = before inside.band_is in let top = inside.top in let no : ⊥ = omega arith in no) ∙ is

-- the samples of lines by their column and line
pub lines_at : (f : ℕ → ℕ → ℤ) (size : Size) (first end : ℕ) (samples : List ℤ) → samples ≡ row_by_row f (lines_rect size first end) → (x y : ℕ) → x < size.w → y < end - first → get_or samples (y * size.w + x) (pos 0) ≡ f x (first + y)
lines_at f size first end samples is x y column line =
    let within : y * size.w + x < size.w * (end - first) = let less = mul-add-lt y size.w x (end - first) line column in let turned : (end - first) * size.w ≡ size.w * (end - first) = grind arith in omega (arith, less, turned) in
    let none : 0 + (y * size.w + x) % size.w ≡ (y * size.w + x) % size.w = omega arith in
    ap (λ l. get_or l (y * size.w + x) (pos 0)) is
    ∙ get_or-row_by_row f (lines_rect size first end) (y * size.w + x) (pos 0) within
    ∙ ap (λ n. f n (first + (y * size.w + x) / size.w)) (none ∙ mod-mul-add y size.w x column)
    ∙ ap (λ n. f x (first + n)) (div-mul-add y size.w x column)

-- lines of one band more, over the same output
copied_more : (want : ℕ → ℕ → ℕ → ℤ) (size : Size) (t u : TargetView) (first end k : ℕ) (samples : List ℤ) → first < end → t.output ≡ u.output → columns_of u.output ≡ size.w
    → IsOverlaid (IsIn u.output) k (lines_rect size first end) samples (shown t) (shown u) → Meets u.output (lines_rect size first end) (sheet_in t) (sheet_in u) → samples ≡ row_by_row (want k) (lines_rect size first end)
    → IsCopied want t first end k → IsCopied want u first end (k + 1)
copied_more want size t u first end k samples some same wide over meets is copied =
    let at = lines_at (want k) size first end samples is in
    let place = λ (b x y : ℕ) (p : IsIn u.output b x y). subst (λ (o : Output). IsIn o b x y) (sym same) p in
    let met : AreColumnsMet u = λ x column. meets.here (omega arith) x (omega arith) (omega arith) in
    record {
      above = λ b x y p less. lines_kept (IsIn u.output) k (lines_rect size first end) samples want (shown t) (shown u) refl over at b x y p (λ e. less) (copied.above b x y (place b x y p) less);
      beside = λ b x y p less line. elim (cases_lt b k) [
        | inl a ↦ lines_kept (IsIn u.output) k (lines_rect size first end) samples want (shown t) (shown u) refl over at b x y p (λ e. absurd (omega arith)) (copied.beside b x y (place b x y p) a line)
        | inr c ↦ elim (cases_lt y first) [
          | inl a ↦ lines_kept (IsIn u.output) k (lines_rect size first end) samples want (shown t) (shown u) refl over at b x y p (λ e. a) (copied.above b x y (place b x y p) a)
          | inr d ↦ let column = p.column in lines_here (IsIn u.output) k (lines_rect size first end) samples want (shown t) (shown u) refl over at b x y (omega arith) (omega arith) d (omega arith)
        ]
      ];
      met = λ before. met;
      met_beside = λ before. met;
    }

-- the line of a grid behind a window
next_line : (o : Output) (lines : ℕ) (size : Size) (first end : ℕ) → first ≤ end → IsAtLine o lines first → IsAtLine o (lines_after o lines (lines_rect size first end)) end
next_line (Blocks w) lines size first end order at = tt
next_line (Rows g) lines size first end order at = omega arith

-- a window of lines may come next
lines_next : (o : Output) (lines : ℕ) (size : Size) (first end k : ℕ) → k < bands_of o → columns_of o ≡ size.w → (k ≡ 0 → IsAtLine o lines first) → IsNext o lines (lines_rect size first end)
lines_next (Blocks w) lines size first end k band wide at = tt
lines_next (Rows g) lines size first end k band wide at = let none : k ≡ 0 = omega arith in (refl, sym wide, sym (at none))

only_band : (o : Output) (lines : ℕ) (first k : ℕ) → k < bands_of o → (k ≡ 0 → IsAtLine o lines first) → IsAtLine o lines first
only_band (Blocks w) lines first k band at = tt
only_band (Rows g) lines first k band at = let none : k ≡ 0 = omega arith in at none

module _ (told : Option Files) (cat : List Dataset) (id : ℕ) (p : Planned) (plan : IsPlan p) where
  -- what a window of lines of a band needs
  pub record MayCome (t : TargetView) (first end k : ℕ) : Type 0 where
    pub band : k < bands_of t.output
    pub across : 0 + p.size.w ≤ columns_of t.output
    pub down : first + (end - first) ≤ line_count_of t.output
    pub next : IsNext t.output t.lines (lines_rect p.size first end)

  pub may_come : (t : TargetView) (first end k : ℕ) → first < end → end ≤ p.size.h → k < length p.bands → IsFilled told cat id p t first end k → MayCome t first end k
  may_come t first end k some low band filled =
      let size = has_size p t.output plan filled.output in
      let bands : bands_of t.output ≡ length p.bands = size.bands_are in
      let wide : columns_of t.output ≡ p.size.w = size.columns_are in
      let tall : line_count_of t.output ≡ p.size.h = size.lines_are in
      record {
        band = omega arith;
        across = omega arith;
        down = omega arith;
        next = lines_next t.output t.lines p.size first end k (omega arith) wide filled.at;
      }

  -- lines of one band more were copied
  pub filled_more : (t u : TargetView) (first end k : ℕ) (samples : List ℤ) → first < end → end ≤ p.size.h → k < length p.bands → IsFilled told cat id p t first end k
      → IsTarget told u → u.output ≡ t.output → u.fault ≡ None → u.lines ≡ lines_after t.output t.lines (lines_rect p.size first end)
      → Shows told k (lines_rect p.size first end) samples t u → MeetsAll told (lines_rect p.size first end) t u
      → ((m : Files) (d : Dataset) → told ≡ Some m → slice_get cat id ≡ Some d → samples ≡ row_by_row (raster_of m d p k) (lines_rect p.size first end))
      → IsFilled told cat id p u first end (k + 1)
  filled_more t u first end k samples some low band filled target same fault lines shows meets is =
      let size = has_size p t.output plan filled.output in
      let bands : bands_of t.output ≡ length p.bands = size.bands_are in
      let wide : columns_of u.output ≡ p.size.w = ap columns_of same ∙ size.columns_are in
      record {
        target = target;
        output = filled.output ∙ ap (λ (o : Output). Some o) (sym same);
        fault = fault;
        at = λ none. absurd (omega arith);
        behind = λ more.
            subst (λ (o : Output). IsAtLine o u.lines end) (sym same)
            (subst (λ (n : ℕ). IsAtLine t.output n end) (sym lines)
            (next_line t.output t.lines p.size first end (omega arith) (only_band t.output t.lines first k (omega arith) filled.at)));
        copied = λ m d e f.
            copied_more (raster_of m d p) p.size t u first end k samples some (sym same) wide
            (subst (λ (o : Output). IsOverlaid (IsIn o) k (lines_rect p.size first end) samples (shown t) (shown u)) (sym same) (shows (known told m e)))
            (subst (λ (o : Output). Meets o (lines_rect p.size first end) (sheet_in t) (sheet_in u)) (sym same) (meets (known told m e)))
            (is m d e f) (filled.copied m d e f);
      }

  -- the same by the facts of the calls
  pub filled_behind : (mid new : Option Files) (size : Size) (t u : TargetView) (first end k : ℕ) (samples : List ℤ) → mid ≡ told → new ≡ mid → size ≡ p.size → first < end → end ≤ p.size.h → k < length p.bands → IsFilled told cat id p t first end k
      → IsTarget new u → u.output ≡ t.output → u.fault ≡ None → u.lines ≡ lines_after t.output t.lines (lines_rect size first end)
      → Shows mid k (lines_rect size first end) samples t u → MeetsAll mid (lines_rect size first end) t u
      → ((m : Files) → told ≡ Some m → (d : Dataset) → slice_get cat id ≡ Some d → samples ≡ row_by_row (raster_of m d p k) (lines_rect p.size first end))
      → IsFilled new cat id p u first end (k + 1)
  filled_behind mid new size t u first end k samples mid_is new_is size_is some low band filled target same fault lines shows meets is =
      let here : new ≡ told = new_is ∙ mid_is in
      subst (λ (o : Option Files). IsFilled o cat id p u first end (k + 1)) (sym here)
      (filled_more t u first end k samples some low band filled (subst (λ (o : Option Files). IsTarget o u) here target) same fault
      (lines ∙ ap (λ (s : Size). lines_after t.output t.lines (lines_rect s first end)) size_is)
      (subst (λ (s : Size). Shows told k (lines_rect s first end) samples t u) size_is (subst (λ (o : Option Files). Shows o k (lines_rect size first end) samples t u) mid_is shows))
      (subst (λ (s : Size). MeetsAll told (lines_rect s first end) t u) size_is (subst (λ (o : Option Files). MeetsAll o (lines_rect size first end) t u) mid_is meets))
      (λ m d e f. is m e d f))

  -- each sample that was read can be written
  pub are_writable : (o : Output) (k : ℕ) (samples : List ℤ) → output_of p ≡ Some o → k < length p.bands → All (IsHeldIn p k) samples → AreWritable o samples
  are_writable o k samples e band held at d less =
      let h = held at d less in
      let b = get_or p.bands k no_out_band in
      let found : slice_get p.bands k ≡ Some b = slice_get-get_or p.bands k no_out_band band in
      sample_held p o b k (get_or samples at d) plan e found (h.kind b found) h.elevation

  -- all bands were copied up to a line
  pub filled_next : (t : TargetView) (first end next : ℕ) → first < end → IsFilled told cat id p t first end (length p.bands) → IsFilled told cat id p t end next 0
  filled_next t first end next some filled =
      let size = has_size p t.output plan filled.output in
      let bands : bands_of t.output ≡ length p.bands = size.bands_are in
      let any : 0 < length p.bands = plan.some_band in
      record {
        target = filled.target;
        output = filled.output;
        fault = filled.fault;
        at = λ none. filled.behind any;
        behind = λ more. absurd (omega arith);
        copied = λ m d e f.
            let copied = filled.copied m d e f in
            record {
              above = λ b x y place less. let band = place.band in copied.beside b x y place (omega arith) less;
              beside = λ b x y place less line. absurd (omega arith);
              met = λ before. copied.met_beside any;
              met_beside = λ before. absurd (omega arith);
            };
      }

  -- the next lines may be any
  pub filled_to : (t : TargetView) (first end next : ℕ) → IsFilled told cat id p t first end 0 → IsFilled told cat id p t first next 0
  filled_to t first end next filled = record {
    target = filled.target;
    output = filled.output;
    fault = filled.fault;
    at = filled.at;
    behind = λ more. absurd (omega arith);
    copied = λ m d e f.
        let copied = filled.copied m d e f in
        record {
          above = copied.above;
          beside = λ b x y place less line. absurd (omega arith);
          met = copied.met;
          met_beside = λ before. absurd (omega arith);
        };
  }

  -- nothing is copied yet
  pub filled_none : (t : TargetView) → IsTarget told t → output_of p ≡ Some t.output → t.fault ≡ None → t.lines ≡ 0 → IsFilled told cat id p t 0 0 0
  filled_none t target output fault lines = record {
    target = target;
    output = output;
    fault = fault;
    at = λ none. first_line t.output t.lines lines;
    behind = λ more. absurd (omega arith);
    copied = λ m d e f. record {
      above = λ b x y place less. absurd (omega arith);
      beside = λ b x y place less line. absurd (omega arith);
      met = λ before. absurd (omega arith);
      met_beside = λ before. absurd (omega arith);
    };
  }
    where
      first_line : (o : Output) (lines : ℕ) → lines ≡ 0 → IsAtLine o lines 0
      first_line (Blocks w) lines is = tt
      first_line (Rows g) lines is = is

  whole_on : (o : Output) (s : SheetView) → line_count_of o ≡ p.size.h → IsAtLine o s.lines p.size.h → ((x : ℕ) → x < columns_of o → IsMetOn o s x) → IsWholeOn o s
  whole_on (Blocks (Raw h)) s tall at met = tt
  whole_on (Blocks (Hgt side)) s tall at met = tt
  whole_on (Blocks (Dted c)) s tall at met = met
  whole_on (Rows g) s tall at met = at ∙ sym tall

  -- an output is whole, and its files are those of the raster
  pub filled_whole : (t : TargetView) (m : Files) (d : Dataset) → told ≡ Some m → slice_get cat id ≡ Some d → IsFilled told cat id p t p.size.h p.size.h 0 → IsWhole t × (target_files t ≡ files_by (output_of p) t.name (raster_of m d p))
  filled_whole t m d e f filled =
      let size = has_size p t.output plan filled.output in
      let tall : line_count_of t.output ≡ p.size.h = size.lines_are in
      let some : 0 < p.size.h = plan.size.some_lines in
      let copied = filled.copied m d e f in (
        whole_on t.output (sheet_in t) tall (filled.at refl) (copied.met some),
        files_same (shown t) (raster_of m d p) t.output t.name filled.target.form (λ k x y place. let line = place.line in copied.above k x y place (omega arith))
            ∙ ap (λ (o : Option Output). files_by o t.name (raster_of m d p)) (sym filled.output),
      )
