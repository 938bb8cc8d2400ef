-- What the data of an output shows, by what its store or its lines say.
use Rattle.std.proofs.Common.{◌≡◌, ℕ, zero, suc, ℤ, pos, ◌+◌, ◌-◌, ◌*◌, ◌<◌, ◌≤◌, Bool, true, false, cond, List, [], ◌++◌, length, Option, Some, None, IsSome, refl, inl, inr, sym, ap, ◌∙◌, subst, arith}
use Rattle.std.specs.Prelude.{Result, Ok, Err, OnOk, min}
use Rattle.std.specs.List.{list_all}
use Rattle.std.proofs.lemmas.List.Sums.{AllPass-from_list_all}
use Rattle.geotransform.specs.declared.types.Rect.{Rect}
use Rattle.outside.specs.Outside.{Files}
use Rattle.block_cache.specs.Entries.{PoolView, pool_view}
use Rattle.write_back.specs.declared.forms.Writer.{Writer}
use Rattle.write_back.specs.declared.forms.Writer.TheVariants.{Raw, Hgt, Dted}
use Rattle.write_back.specs.Forms.{band_total, cut_of, pixel_sample, most_calls}
use Rattle.write_back.specs.Spots.{HasPixel, cut_rows}
use Rattle.write_back.specs.Overlay.{overlay, IsOverlaid, WasMet}
use Rattle.write_back.specs.Stores.{AreSame, IsWindow, Stays, StoreState, AreMet, Changes, Serves}
use Rattle.write_back.specs.State.{HasDraft, IsRight, IsSound, lines_met}
use Rattle.write_back.specs.View.{Output, Blocks, Rows, SheetView, all_blocks, calls_of, columns_of, is_writable, shown_on, pixel_sample_in, AreWritable, IsIn, IsMetOn, IsNext, Meets}
use Rattle.write_back.specs.Served.{Finishes, Keeps, PutsWindow}
use Rattle.write_back.specs.Files.{block_bytes, grid_text, IsBlockForm, IsWholeOn}
use Rattle.write_back.specs.Drafts.{HasBytes, HasSamples}
use Rattle.write_back.proofs.Data.{data_is}
use Rattle.write_back.proofs.Exact.{tile_is, cell_is}
use Rattle.write_back.proofs.GridRows.{grid_is, rows_overlaid}
use Rattle.write_back.specs.Grids.{HasRows, grid_in}
use Rattle.write_back.specs.declared.rows.GridForm.{GridForm}
use Rattle.write_back.proofs.Published.{flushed_samples}
use Rattle.write_back.proofs.Counting.{few_held}
use Rattle.write_back.proofs.States.{calls_apart}

-- a folder that tells its names
pub told_by : {T : Type 0} (o : Option T) → IsSome o → (m : T) × (o ≡ Some m)
told_by None some = absurd (let clash : false ≡ true = some in cc)
told_by (Some m) some = (m, refl)

-- a pixel of an output
pub pixel_of : (w : Writer) (k x y : ℕ) → IsIn (Blocks w) k x y → HasPixel w k x y
pixel_of w k x y is = record { band = is.band; column = is.column; line = is.line }

pub window_in : (w : Writer) (band : ℕ) (rect : Rect) (samples : List ℤ) (old new : ℕ → ℕ → ℕ → ℤ) → IsOverlaid (HasPixel w) band rect samples old new → IsOverlaid (IsIn (Blocks w)) band rect samples old new
window_in w band rect samples old new set = record { inside = set.inside; outside = λ k x y place apart_from. set.outside k x y (pixel_of w k x y place) apart_from }

module _ (w : Writer) where
  -- after a change a store is right still
  pub right_after : (P : (ℕ → ℕ → ℕ → ℤ) → (ℕ → ℕ → ℕ → ℤ) → Type 0) (s t : StoreState) → IsRight w s.told s.len s.draft s.pool → t.told ≡ s.told → Changes w P s t → IsRight w t.told t.len t.draft t.pool
  right_after P s t right told changed = record {
    long = changed.long ∙ right.long;
    holds = λ m e. (let has = right.holds m (sym told ∙ e) in let now = changed.told has.0 has.1 in (now.0, now.1));
  }

  -- what a window shows
  pub window_shown : (band : ℕ) (rect : Rect) (samples : List ℤ) (s t : StoreState) → IsRight w s.told s.len s.draft s.pool → Changes w (IsWindow w band rect samples) s t → IsSome s.told
      → IsOverlaid (IsIn (Blocks w)) band rect samples (shown_on (Blocks w) s.pool s.draft) (shown_on (Blocks w) t.pool t.draft)
  window_shown band rect samples s t right changed some =
      let m = told_by s.told some in
      let has = right.holds m.0 m.1 in
      let now = changed.told has.0 has.1 in
      subst (λ d. IsOverlaid (IsIn (Blocks w)) band rect samples (pixel_sample_in w s.pool d) (pixel_sample_in w t.pool t.draft)) (sym has.1.is)
      (subst (λ d. IsOverlaid (IsIn (Blocks w)) band rect samples (pixel_sample_in w s.pool (Some has.0)) (pixel_sample_in w t.pool d)) (sym now.1.is)
      (window_in w band rect samples (pixel_sample w (overlay w s.pool.entries has.0)) (pixel_sample w (overlay w t.pool.entries now.0)) now.2))

  -- the columns that are met after a window
  column_stays : (P : (ℕ → ℕ → ℕ → ℤ) → (ℕ → ℕ → ℕ → ℤ) → Type 0) (s t : StoreState) → IsRight w s.told s.len s.draft s.pool → Changes w P s t → IsSome s.told → 0 < (cut_of w).bands
      → (x : ℕ) → x < (cut_of w).blocks → ((b : List ℕ) → s.draft ≡ Some b → WasMet w s.pool.entries b 0 x) → (c : List ℕ) → t.draft ≡ Some c → WasMet w t.pool.entries c 0 x
  column_stays P s t right changed some band x less met c is =
      let m = told_by s.told some in
      let has = right.holds m.0 m.1 in
      let now = changed.told has.0 has.1 in
      let both : Some now.0 ≡ Some c = sym now.1.is ∙ is in
      let same : now.0 ≡ c = cc in
      subst (λ d. WasMet w t.pool.entries d 0 x) same (now.3 0 x band less (met has.0 has.1.is))

  column_here : (band : ℕ) (rect : Rect) (s t : StoreState) → IsRight w s.told s.len s.draft s.pool → IsSome s.told → AreMet w band rect.x rect.w s t → band ≡ 0
      → (x : ℕ) → rect.x ≤ x → x < rect.x + rect.w → (c : List ℕ) → t.draft ≡ Some c → WasMet w t.pool.entries c 0 x
  column_here band rect s t right some met none x left inside c is =
      let m = told_by s.told some in
      let has = right.holds m.0 m.1 in
      let e : rect.x + (x - rect.x) ≡ x = omega arith in
      subst (λ k. WasMet w t.pool.entries c k x) none (subst (λ v. WasMet w t.pool.entries c band v) e (met.each has.0 c has.1 is (x - rect.x) (omega arith)))

-- what a window meets, by the parts of a sheet that it needs
pub meets_of : (w : Writer) (P : (ℕ → ℕ → ℕ → ℤ) → (ℕ → ℕ → ℕ → ℤ) → Type 0) (band : ℕ) (rect : Rect) (s t : StoreState) (old new : SheetView) → IsRight w s.told s.len s.draft s.pool → Changes w P s t → IsSome s.told → band < band_total w
    → ((cut_of w).by_columns ≡ true → AreMet w band rect.x rect.w s t) → old.pool ≡ s.pool → old.draft ≡ s.draft → new.pool ≡ t.pool → new.draft ≡ t.draft → Meets (Blocks w) rect old new
meets_of (Raw h) P band rect s t old new right changed some less met a b c d = record { stays = λ x column was e is. inl tt; here = λ high x left inside e is. inl tt }
meets_of (Hgt side) P band rect s t old new right changed some less met a b c d = record { stays = λ x column was e is. inl tt; here = λ high x left inside e is. inl tt }
meets_of (Dted cell) P band rect s t old new right changed some less met a b c d = record {
  stays = λ x column was e is. (
      subst (λ (p : PoolView). WasMet (Dted cell) p.entries e 0 x) (sym c)
      (column_stays (Dted cell) P s t right changed some (omega arith) x column
      (λ f from. subst (λ (p : PoolView). WasMet (Dted cell) p.entries f 0 x) a (was f (b ∙ from)))
      e (sym d ∙ is))
      );
  here = λ high x left inside e is. subst (λ (p : PoolView). WasMet (Dted cell) p.entries e 0 x) (sym c) (column_here (Dted cell) band rect s t right some (met refl) (omega arith) x left inside e (sym d ∙ is));
}

-- the bytes of the samples, where each column of a cell was met
bytes_by : (w : Writer) (samples : ℕ → ℕ → ℕ → ℤ) (met : ℕ → ℕ → Type 0) (b : List ℕ) → IsBlockForm w → HasSamples w samples met b → ((x : ℕ) → x < (cut_of w).blocks → met 0 x) → b ≡ block_bytes w samples
bytes_by (Raw h) samples met b form has all = data_is h samples met b form.0 form.1 has
bytes_by (Hgt side) samples met b form has all = tile_is side samples met b has
bytes_by (Dted c) samples met b form has all = cell_is c samples met b has all

-- each column was met, where the output is whole
all_met : (w : Writer) (s : SheetView) (b : List ℕ) → s.draft ≡ Some b → IsWholeOn (Blocks w) s → (x : ℕ) → x < (cut_of w).blocks → WasMet w s.pool.entries b 0 x
all_met (Raw h) s b is whole x less = inl tt
all_met (Hgt side) s b is whole x less = inl tt
all_met (Dted c) s b is whole x less = whole x less b is

-- what stands in the draft once no block is held
pub flushed_bytes : (w : Writer) (s t : StoreState) (old : SheetView) → IsRight w s.told s.len s.draft s.pool → Changes w (AreSame w) s t → t.pool.entries ≡ [] → IsSome s.told → IsBlockForm w → IsWholeOn (Blocks w) old → old.pool ≡ s.pool → old.draft ≡ s.draft
    → t.draft ≡ Some (block_bytes w (shown_on (Blocks w) s.pool s.draft))
flushed_bytes w s t old right changed none some form whole a d =
    let m = told_by s.told some in
    let has = right.holds m.0 m.1 in
    let now = changed.told has.0 has.1 in
    let samples = flushed_samples w s.pool t.pool s.draft t.draft has.0 now.0 has.1.is now.1 none now.2 now.3 in
    now.1.is
    ∙ ap (λ (l : List ℕ). Some l) (bytes_by w (shown_on (Blocks w) s.pool s.draft) (λ k v. WasMet w s.pool.entries has.0 k v) now.0 form samples
    (λ x less. subst (λ (p : PoolView). WasMet w p.entries has.0 0 x) a (all_met w old has.0 (d ∙ has.1.is) whole x less)))

-- what a store's call says of the data that it is
module _ (w : Writer) where
  abbrev pub blocks_at : StoreState → SheetView
  blocks_at s = record { output = Blocks w; pool = s.pool; draft = s.draft; len = s.len; name = s.name; lines = 0 }

  pub blocks_kept : (rect : Rect) (s t : StoreState) → Serves w (lines_met w rect) 0 s t → Keeps rect (blocks_at s) (blocks_at t) s.told t.told s.reads t.reads s.calls t.calls s.writes t.writes
  blocks_kept rect s t a = record {
    sound = a.sound;
    output = refl;
    name = a.name;
    capacity = a.capacity;
    names = a.told;
    reads = a.reads;
    counted = a.writes;
    few = a.few;
    none = λ pooled room. (let b = a.bound room in let c = a.writes in omega arith);
    calls = calls_apart (most_calls w) s.calls t.calls s.writes t.writes a.writes a.calls;
  }

  pub blocks_put : (band : ℕ) (rect : Rect) (samples : List ℤ) (s t : StoreState) → IsRight w s.told s.len s.draft s.pool → band < band_total w → t.told ≡ s.told → Changes w (IsWindow w band rect samples) s t → ((cut_of w).by_columns ≡ true → AreMet w band rect.x rect.w s t)
      → PutsWindow band rect samples s.told t.told (blocks_at s) (blocks_at t)
  blocks_put band rect samples s t right less told changed met = record {
    right = right_after w (IsWindow w band rect samples) s t right told changed;
    overlay = λ some. window_shown w band rect samples s t right changed some;
    met = λ some. meets_of w (IsWindow w band rect samples) band rect s t (blocks_at s) (blocks_at t) right changed some less met refl refl refl refl;
    lines = refl;
  }

  pub blocks_finished : (s t : StoreState) → IsSound w s.pool → Serves w (length s.pool.entries) (length s.pool.entries) s t → Finishes (blocks_at s) (blocks_at t) s.told t.told s.reads t.reads s.calls t.calls s.writes t.writes
  blocks_finished s t sound a = record {
    name = a.name;
    names = a.told;
    reads = a.reads;
    counted = a.writes;
    few = (let f = a.few in let g = few_held w s.pool sound.valid sound.lines in let k = sound.valid.within in omega arith);
    calls = calls_apart (most_calls w) s.calls t.calls s.writes t.writes a.writes a.calls;
  }

-- the same for what a contract sees of the data
pub kept_of : (w w' : Writer) (rect : Rect) (s t : StoreState) (old new : SheetView) → blocks_at w s ≡ old → blocks_at w' t ≡ new → w' ≡ w → Serves w (lines_met w rect) 0 s t → Keeps rect old new s.told t.told s.reads t.reads s.calls t.calls s.writes t.writes
kept_of w w' rect s t old new is now same a =
    subst (λ v. Keeps rect v new s.told t.told s.reads t.reads s.calls t.calls s.writes t.writes) is
    (subst (λ v. Keeps rect (blocks_at w s) v s.told t.told s.reads t.reads s.calls t.calls s.writes t.writes) (ap (λ u. blocks_at u t) (sym same) ∙ now) (blocks_kept w rect s t a))

pub put_of : (w w' : Writer) (band : ℕ) (rect : Rect) (samples : List ℤ) (s t : StoreState) (old new : SheetView) → blocks_at w s ≡ old → blocks_at w' t ≡ new → w' ≡ w → IsRight w s.told s.len s.draft s.pool → band < band_total w → t.told ≡ s.told
    → Changes w (IsWindow w band rect samples) s t → ((cut_of w).by_columns ≡ true → AreMet w band rect.x rect.w s t) → PutsWindow band rect samples s.told t.told old new
put_of w w' band rect samples s t old new is now same right less told changed met =
    subst (λ v. PutsWindow band rect samples s.told t.told v new) is
    (subst (λ v. PutsWindow band rect samples s.told t.told (blocks_at w s) v) (ap (λ u. blocks_at u t) (sym same) ∙ now) (blocks_put w band rect samples s t right less told changed met))

pub finished_of : (w w' : Writer) (s t : StoreState) (old new : SheetView) → blocks_at w s ≡ old → blocks_at w' t ≡ new → w' ≡ w → IsSound w s.pool → Serves w (length s.pool.entries) (length s.pool.entries) s t → Finishes old new s.told t.told s.reads t.reads s.calls t.calls s.writes t.writes
finished_of w w' s t old new is now same sound a =
    subst (λ v. Finishes v new s.told t.told s.reads t.reads s.calls t.calls s.writes t.writes) is
    (subst (λ v. Finishes (blocks_at w s) v s.told t.told s.reads t.reads s.calls t.calls s.writes t.writes) (ap (λ u. blocks_at u t) (sym same) ∙ now) (blocks_finished w s t sound a))

pub bytes_by_blocks : (w : Writer) (s t : StoreState) (old : SheetView) → blocks_at w s ≡ old → IsRight w s.told s.len s.draft s.pool → Changes w (AreSame w) s t → t.pool.entries ≡ [] → HasBytes s.told old t.draft
bytes_by_blocks w s t old is right changed none = subst (λ v. HasBytes s.told v t.draft) is (record { all = λ some form whole. flushed_bytes w s t (blocks_at w s) right changed none some form whole refl refl })

-- what the call that writes lines says of the data that they are
module _ (g : GridForm) where
  abbrev pub rows_at : Option (List ℕ) → ℕ → List ℕ → ℕ → SheetView
  rows_at draft len name lines = record { output = Rows g; pool = pool_view [] 0; draft = draft; len = len; name = name; lines = lines }

  pub rows_kept : (rect : Rect) (told told' : Option Files) (d d' : Option (List ℕ)) (l l' : ℕ) (name name' : List ℕ) (n n' r r' c c' w w' : ℕ) → n' ≤ n + rect.h → rect.y ≡ n → rect.y + rect.h ≤ g.size.h → name' ≡ name → told' ≡ told → r' ≡ r → c' ≡ c → w ≤ w' → w' ≤ w + rect.h
      → Keeps rect (rows_at d l name n) (rows_at d' l' name' n') told told' r r' c c' w w'
  rows_kept rect told told' d d' l l' name name' n n' r r' c c' w w' most top down named names reads calls counted few = record {
    sound = omega arith;
    output = refl;
    name = named;
    capacity = refl;
    names = names;
    reads = reads;
    counted = counted;
    few = few;
    none = λ pooled room. absurd pooled;
    calls = omega arith;
  }

  pub rows_put : (band : ℕ) (rect : Rect) (samples : List ℤ) (told told' : Option Files) (d d' : Option (List ℕ)) (l l' : ℕ) (name name' : List ℕ) (n n' : ℕ) → band < 1 → IsNext (Rows g) n rect → rect.y + rect.h ≤ g.size.h → length samples ≡ rect.w * rect.h → told' ≡ told → n' ≡ n + rect.h
      → ((m : Files) → told ≡ Some m → (rows : List (List ℤ)) × HasRows g n d rows) → ((rows : List (List ℤ)) → HasRows g n d rows → HasRows g n' d' (rows ++ cut_rows rect.w rect.h samples))
      → PutsWindow band rect samples told told' (rows_at d l name n) (rows_at d' l' name' n')
  rows_put band rect samples told told' d d' l l' name name' n n' one next down size names lines right more = record {
    right = λ m e. (let has = right m (sym names ∙ e) in (has.0 ++ cut_rows rect.w rect.h samples, more has.0 has.1));
    overlay = λ some. (
        let m = told_by told some in
        let has = right m.0 m.1 in
        let none : 0 ≡ band = omega arith in
        subst (λ k. IsOverlaid (IsIn (Rows g)) k rect samples (λ k x y. grid_in g d x y) (λ k x y. grid_in g d' x y)) none
        (rows_overlaid g rect n n' d d' has.0 samples next.0 next.1 next.2 down size has.1 (more has.0 has.1))
        );
    met = λ some. record { stays = λ x column was. tt; here = λ high x left inside. tt };
    lines = lines;
  }

  pub rows_bytes : (told : Option Files) (d : Option (List ℕ)) (n : ℕ) → ((m : Files) → told ≡ Some m → (rows : List (List ℤ)) × HasRows g n d rows) → IsSome told → n ≡ g.size.h → d ≡ Some (grid_text g (λ k x y. grid_in g d x y))
  rows_bytes told d n right some all =
      let m = told_by told some in
      let has = right m.0 m.1 in
      grid_is g d has.0 (subst (λ k. HasRows g k d has.0) all has.1)

-- nothing was done
pub unchanged : (old new : SheetView) (told : Option Files) (r c w : ℕ) → new ≡ old → Finishes old new told told r r c c w w
unchanged old new told r c w same = subst (λ v. Finishes old v told told r r c c w w) (sym same) (record { name = refl; names = refl; reads = refl; counted = omega arith; few = more w (min old.pool.capacity (all_blocks old.output)); calls = more c (calls_of old.output * (w - w)) })
  where
    more : (n k : ℕ) → n ≤ n + k
    more n k = omega arith

pub bytes_by_rows : (g : GridForm) (told : Option Files) (d : Option (List ℕ)) (l : ℕ) (name : List ℕ) (n : ℕ) (old : SheetView) → rows_at g d l name n ≡ old → ((m : Files) → told ≡ Some m → (rows : List (List ℤ)) × HasRows g n d rows) → HasBytes told old d
bytes_by_rows g told d l name n old is right = subst (λ v. HasBytes told v d) is (record { all = λ some form whole. rows_bytes g told d n right some whole })

pub rows_kept_of : (g g' : GridForm) (rect : Rect) (told told' : Option Files) (d d' : Option (List ℕ)) (l l' : ℕ) (name name' : List ℕ) (n n' r r' c c' w w' : ℕ) (old new : SheetView) → rows_at g d l name n ≡ old → rows_at g' d' l' name' n' ≡ new → g' ≡ g
    → n' ≤ n + rect.h → rect.y ≡ n → rect.y + rect.h ≤ g.size.h → name' ≡ name → told' ≡ told → r' ≡ r → c' ≡ c → w ≤ w' → w' ≤ w + rect.h → Keeps rect old new told told' r r' c c' w w'
rows_kept_of g g' rect told told' d d' l l' name name' n n' r r' c c' w w' old new is now same most top down named names reads calls counted few =
    subst (λ v. Keeps rect v new told told' r r' c c' w w') is
    (subst (λ v. Keeps rect (rows_at g d l name n) v told told' r r' c c' w w') (ap (λ u. rows_at u d' l' name' n') (sym same) ∙ now)
    (rows_kept g rect told told' d d' l l' name name' n n' r r' c c' w w' most top down named names reads calls counted few))

pub rows_put_of : (g g' : GridForm) (band : ℕ) (rect : Rect) (samples : List ℤ) (told told' : Option Files) (d d' : Option (List ℕ)) (l l' : ℕ) (name name' : List ℕ) (n n' : ℕ) (old new : SheetView) → rows_at g d l name n ≡ old → rows_at g' d' l' name' n' ≡ new → g' ≡ g
    → band < 1 → IsNext (Rows g) n rect → rect.y + rect.h ≤ g.size.h → length samples ≡ rect.w * rect.h → told' ≡ told → n' ≡ n + rect.h
    → ((m : Files) → told ≡ Some m → (rows : List (List ℤ)) × HasRows g n d rows) → ((rows : List (List ℤ)) → HasRows g n d rows → HasRows g n' d' (rows ++ cut_rows rect.w rect.h samples)) → PutsWindow band rect samples told told' old new
rows_put_of g g' band rect samples told told' d d' l l' name name' n n' old new is now same one next down size names lines right more =
    subst (λ v. PutsWindow band rect samples told told' v new) is
    (subst (λ v. PutsWindow band rect samples told told' (rows_at g d l name n) v) (ap (λ u. rows_at u d' l' name' n') (sym same) ∙ now)
    (rows_put g band rect samples told told' d d' l l' name name' n n' one next down size names lines right more))

-- samples that each can be written
pub all_writable : (o : Output) (xs : List ℤ) → list_all (is_writable o) xs ≡ true → AreWritable o xs
all_writable o xs h = AllPass-from_list_all (is_writable o) xs h

-- an answer that is Ok, by two facts
pub on_two : {T E : Type 0} (r : Result T E) (P Q R : Type 0) → (P → Q → R) → OnOk r P → OnOk r Q → OnOk r R
on_two (Ok v) P Q R f p q = f p q
on_two (Err e) P Q R f p q = p
