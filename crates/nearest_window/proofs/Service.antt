-- How the service of a lane goes on from call to call.
use Rattle.std.proofs.Common.{◌≡◌, inl, inr, ℕ, ℤ, ◌+◌, ◌-◌, ◌*◌, ◌≤◌, List, Option, None, length, refl, sym, ap, ◌∙◌, subst, arith, Result, Ok, Err, OnOk, OnErr, IfErr, IfOk, IsErr, IsErrAnd, Some}
use Rattle.std.specs.Prelude.{slice_get}
use Rattle.std.specs.List.{All}
use Rattle.outside.specs.Causes.{HasCause, Rose}
use Rattle.outside.specs.Outside.{Files}
use Rattle.outside.specs.Reading.{OnlyRead}
use Rattle.catalog.specs.Drivers.{Dataset}
use Rattle.catalog.specs.Blocks.{all_blocks}
use Rattle.band_blocks.specs.declared.key.BlockKey.{BlockKey}
use Rattle.band_blocks.specs.declared.key.PixelKey.{PixelKey}
use Rattle.band_blocks.specs.Contents.{IsBlock, most_calls}
use Rattle.band_blocks.specs.Keys.{IsKeyOf}
use Rattle.band_blocks.specs.Open.{AreGood, IsUnchanged, TellsChangeOf}
use Rattle.band_blocks.specs.declared.fault.LoadFault.{LoadFault}
use Rattle.band_blocks.specs.declared.fault.LoadFault.TheVariants.{FolderFault, Changed, Memory}
use Rattle.block_cache.specs.declared.pool.Entry.{Entry}
use Rattle.block_cache.specs.Entries.{PoolView, moved_to_front, admitted, held_at, IsPool, pool_view}
use Rattle.nearest_window.specs.declared.indexes.Kept.{Kept}
use Rattle.nearest_window.specs.Right.{AreBlocks, AreRecalled, IsIndexIn, IsReady, IsRight, slack_of, TellsChangeIn}
use Rattle.nearest_window.specs.Serving.{IsAnswered, IsFit, LaneState, lane_state, Serves, state_of}
use Rattle.nearest_window.specs.Lanes.{LaneView, lane_view}
use Rattle.nearest_window.specs.HeldBlocks.{IsKept, IsUsed}
use Rattle.outside.specs.declared.folder.Folder.{Ghosts}
use Rattle.nearest_window.proofs.Keys.{length_moved, are_blocks_moved, are_blocks_admitted, length_admitted, length_admitted_new}
use Rattle.nearest_window.proofs.Counting.{room_for_one}

module _ {File : Type 0} (bytes : File → Option (List ℕ)) (len : File → ℕ) (cat : List Dataset) where
  pub serves_refl : (s : LaneState File) → IsRight bytes len s.told cat s.pool s.files s.made s.indexes s.recalled → Serves bytes len cat 0 s s
  serves_refl s r = record { right = r; told = refl; writes = refl; capacity = refl; faults = omega arith; loads = omega arith; reads = omega arith; held = omega arith; bound = λ _. omega arith }

  pub serves_trans : (k : ℕ) (s t u : LaneState File) → Serves bytes len cat 0 s t → Serves bytes len cat k t u → Serves bytes len cat k s u
  serves_trans k s t u a b = record {
    right = b.right;
    told = b.told ∙ a.told;
    writes = b.writes ∙ a.writes;
    capacity = b.capacity ∙ a.capacity;
    faults = omega arith;
    loads = omega arith;
    reads = omega arith;
    held = omega arith;
    bound = λ h. let p = a.bound h in let q = b.bound (subst (λ n. all_blocks cat ≤ n) (sym a.capacity) h) in omega arith;
  }

  pub serves_slack : (s t : LaneState File) → Serves bytes len cat 0 s t → Serves bytes len cat 1 s t
  serves_slack s t a = record {
    right = a.right;
    told = a.told;
    writes = a.writes;
    capacity = a.capacity;
    faults = a.faults;
    loads = a.loads;
    reads = a.reads;
    held = a.held;
    bound = λ h. let p = a.bound h in omega arith;
  }

  pub serves_moved : (told : Option Files) (p : PoolView) (fs : List (ℕ × File)) (b : PoolView) (i : List Kept) (x : List (PixelKey × ℤ)) (f r w l : ℕ) (k : BlockKey) → IsRight bytes len told cat p fs b i x → IsPool (pool_view (moved_to_front k p.entries) p.capacity)
      → Serves bytes len cat 0 (lane_state told p fs b i x f r w l) (lane_state told (pool_view (moved_to_front k p.entries) p.capacity) fs b i x f r w l)
  serves_moved told p fs b i x f r w l k right valid = let e = length_moved k p.entries in record {
    right = record { valid = valid; blocks = are_blocks_moved told cat k p.entries right.blocks; good = right.good; made_valid = right.made_valid; remembered = right.remembered; listed = right.listed; pixels = right.pixels };
    told = refl;
    writes = refl;
    capacity = refl;
    faults = omega arith;
    loads = omega arith;
    reads = omega arith;
    held = omega arith;
    bound = λ _. omega arith;
  }

  serves_admitted : (told : Option Files) (p : PoolView) (fs : List (ℕ × File)) (b : PoolView) (i : List Kept) (x : List (PixelKey × ℤ)) (f r w l : ℕ) (k : BlockKey) (e : Entry) → IsRight bytes len told cat p fs b i x → IsBlock told cat k e.block → IsPool (pool_view (admitted p.capacity k e p.entries) p.capacity)
      → Serves bytes len cat 0 (lane_state told p fs b i x f r w l) (lane_state told (pool_view (admitted p.capacity k e p.entries) p.capacity) fs b i x f r w l)
  serves_admitted told p fs b i x f r w l k e right new valid = let more = length_admitted p.capacity k e p.entries right.valid.within right.valid.some in record {
    right = record { valid = valid; blocks = are_blocks_admitted told cat p.capacity k e p.entries new right.blocks; good = right.good; made_valid = right.made_valid; remembered = right.remembered; listed = right.listed; pixels = right.pixels };
    told = refl;
    writes = refl;
    capacity = refl;
    faults = omega arith;
    loads = omega arith;
    reads = omega arith;
    held = more;
    bound = λ _. omega arith;
  }

  -- what is remembered changes, and the pool doesn't
  serves_beside : (told : Option Files) (p : PoolView) (fs : List (ℕ × File)) (b b' : PoolView) (i : List Kept) (x : List (PixelKey × ℤ)) (f r w l : ℕ) → IsRight bytes len told cat p fs b i x → IsPool b' → AreBlocks told cat b'.entries
      → Serves bytes len cat 0 (lane_state told p fs b i x f r w l) (lane_state told p fs b' i x f r w l)
  serves_beside told p fs b b' i x f r w l right valid blocks = record {
    right = record { valid = right.valid; blocks = right.blocks; good = right.good; made_valid = valid; remembered = blocks; listed = right.listed; pixels = right.pixels };
    told = refl;
    writes = refl;
    capacity = refl;
    faults = omega arith;
    loads = omega arith;
    reads = omega arith;
    held = omega arith;
    bound = λ _. omega arith;
  }

  -- the indexes change, and nothing else does
  pub serves_indexed : (told : Option Files) (p q : LaneView File) (f n w l : ℕ) → IsRight bytes len told cat p.pool p.files p.made p.indexes p.recalled → q ≡ lane_view p.pool p.files p.made q.indexes p.recalled → All (IsIndexIn cat) q.indexes
      → Serves bytes len cat 0 (lane_state told p.pool p.files p.made p.indexes p.recalled f n w l) (lane_state told q.pool q.files q.made q.indexes q.recalled f n w l)
  serves_indexed told p q f n w l right same listed =
      subst (λ (z : LaneView File). Serves bytes len cat 0 (lane_state told p.pool p.files p.made p.indexes p.recalled f n w l) (lane_state told z.pool z.files z.made z.indexes z.recalled f n w l)) (sym same) (record {
        right = record { valid = right.valid; blocks = right.blocks; good = right.good; made_valid = right.made_valid; remembered = right.remembered; listed = listed; pixels = right.pixels };
        told = refl;
        writes = refl;
        capacity = refl;
        faults = omega arith;
        loads = omega arith;
        reads = omega arith;
        held = omega arith;
        bound = λ _. omega arith;
      })

  -- samples of pixels are remembered, and all else stays
  pub serves_noted : (told : Option Files) (p q : LaneView File) (f r w l : ℕ) → IsRight bytes len told cat p.pool p.files p.made p.indexes p.recalled → q ≡ lane_view p.pool p.files p.made p.indexes q.recalled → AreRecalled told cat q.recalled
      → Serves bytes len cat 0 (lane_state told p.pool p.files p.made p.indexes p.recalled f r w l) (lane_state told q.pool q.files q.made q.indexes q.recalled f r w l)
  serves_noted told p q f r w l right is pixels =
      subst (λ (z : LaneView File). Serves bytes len cat 0 (lane_state told p.pool p.files p.made p.indexes p.recalled f r w l) (lane_state told z.pool z.files z.made z.indexes z.recalled f r w l)) (sym is) (record {
        right = record { valid = right.valid; blocks = right.blocks; good = right.good; made_valid = right.made_valid; remembered = right.remembered; listed = right.listed; pixels = pixels };
        told = refl;
        writes = refl;
        capacity = refl;
        faults = omega arith;
        loads = omega arith;
        reads = omega arith;
        held = omega arith;
        bound = λ _. omega arith;
      })

  -- a block is used, in the pool or beside it
  pub serves_used : (told : Option Files) (p q : LaneView File) (f n w l : ℕ) (k : BlockKey) (P : Entry → Type 0) → IsRight bytes len told cat p.pool p.files p.made p.indexes p.recalled → IsUsed k P p q → IsPool q.pool → IsPool q.made
      → Serves bytes len cat 0 (lane_state told p.pool p.files p.made p.indexes p.recalled f n w l) (lane_state told q.pool q.files q.made q.indexes q.recalled f n w l)
  serves_used told p q f n w l k P right used valid made_valid = elim used [
    | inl u ↦
        subst (λ (q : LaneView File). Serves bytes len cat 0 (lane_state told p.pool p.files p.made p.indexes p.recalled f n w l) (lane_state told q.pool q.files q.made q.indexes q.recalled f n w l)) (sym u.1)
        (serves_moved told p.pool p.files p.made p.indexes p.recalled f n w l k right (subst (λ (q : LaneView File). IsPool q.pool) u.1 valid))
    | inr u ↦
        subst (λ (q : LaneView File). Serves bytes len cat 0 (lane_state told p.pool p.files p.made p.indexes p.recalled f n w l) (lane_state told q.pool q.files q.made q.indexes q.recalled f n w l)) (sym u.1)
        (serves_beside told p.pool p.files p.made (pool_view (moved_to_front k p.made.entries) p.made.capacity) p.indexes p.recalled f n w l right (subst (λ (q : LaneView File). IsPool q.made) u.1 made_valid) (are_blocks_moved told cat k p.made.entries right.remembered))
  ]

  pub serves_kept : (told : Option Files) (p q : LaneView File) (f n w l : ℕ) (k : BlockKey) (e : Entry) → IsRight bytes len told cat p.pool p.files p.made p.indexes p.recalled → IsBlock told cat k e.block → IsKept k e p q → IsPool q.pool → IsPool q.made
      → Serves bytes len cat 0 (lane_state told p.pool p.files p.made p.indexes p.recalled f n w l) (lane_state told q.pool q.files q.made q.indexes q.recalled f n w l)
  serves_kept told p q f n w l k e right new kept valid made_valid = elim kept [
    | inl u ↦
        subst (λ (q : LaneView File). Serves bytes len cat 0 (lane_state told p.pool p.files p.made p.indexes p.recalled f n w l) (lane_state told q.pool q.files q.made q.indexes q.recalled f n w l)) (sym u)
        (serves_admitted told p.pool p.files p.made p.indexes p.recalled f n w l k e right new (subst (λ (q : LaneView File). IsPool q.pool) u valid))
    | inr u ↦
        subst (λ (q : LaneView File). Serves bytes len cat 0 (lane_state told p.pool p.files p.made p.indexes p.recalled f n w l) (lane_state told q.pool q.files q.made q.indexes q.recalled f n w l)) (sym u)
        (serves_beside told p.pool p.files p.made (pool_view (admitted p.made.capacity k e p.made.entries) p.made.capacity) p.indexes p.recalled f n w l right (subst (λ (q : LaneView File). IsPool q.made) u made_valid) (are_blocks_admitted told cat p.made.capacity k e p.made.entries new right.remembered))
  ]

  -- a block of a mosaic is kept, or memory was refused
  pub serves_keep : {T E : Type 0} (r : Result T E) (told : Option Files) (p q : LaneView File) (f n w l : ℕ) (k : BlockKey) (e : Entry) → IsRight bytes len told cat p.pool p.files p.made p.indexes p.recalled → IsBlock told cat k e.block
      → OnOk r (IsKept k e p q) → OnErr r (q ≡ p) → IsPool q.pool → IsPool q.made
      → Serves bytes len cat (slack_of r) (lane_state told p.pool p.files p.made p.indexes p.recalled f n w l) (lane_state told q.pool q.files q.made q.indexes q.recalled f n w l)
  serves_keep (Ok v) told p q f n w l k e right new kept refused valid made_valid = serves_kept told p q f n w l k e right new kept valid made_valid
  serves_keep (Err d) told p q f n w l k e right new kept refused valid made_valid =
      subst (λ (q : LaneView File). Serves bytes len cat 1 (lane_state told p.pool p.files p.made p.indexes p.recalled f n w l) (lane_state told q.pool q.files q.made q.indexes q.recalled f n w l)) (sym refused)
      (serves_slack (lane_state told p.pool p.files p.made p.indexes p.recalled f n w l) (lane_state told p.pool p.files p.made p.indexes p.recalled f n w l) (serves_refl (lane_state told p.pool p.files p.made p.indexes p.recalled f n w l) right))

  -- a lane that stays as it was
  pub serves_same : (told : Option Files) (p q : LaneView File) (f n w l : ℕ) → IsRight bytes len told cat p.pool p.files p.made p.indexes p.recalled → q ≡ p
      → Serves bytes len cat 0 (lane_state told p.pool p.files p.made p.indexes p.recalled f n w l) (lane_state told q.pool q.files q.made q.indexes q.recalled f n w l)
  serves_same told p q f n w l right same =
      subst (λ (q : LaneView File). Serves bytes len cat 0 (lane_state told p.pool p.files p.made p.indexes p.recalled f n w l) (lane_state told q.pool q.files q.made q.indexes q.recalled f n w l)) (sym same)
      (serves_refl (lane_state told p.pool p.files p.made p.indexes p.recalled f n w l) right)

  are_blocks_told : (told told' : Option Files) (es : List (BlockKey × Entry)) → told' ≡ told → AreBlocks told cat es → AreBlocks told' cat es
  are_blocks_told told told' es e h = subst (λ t. AreBlocks t cat es) (sym e) h

  are_recalled_told : (told told' : Option Files) (x : List (PixelKey × ℤ)) → told' ≡ told → AreRecalled told cat x → AreRecalled told' cat x
  are_recalled_told told told' x e h = subst (λ t. AreRecalled t cat x) (sym e) h

  one_load : (n n' l : ℕ) → n' ≤ n + most_calls cat → n' + most_calls cat * l ≤ n + most_calls cat * (l + 1)
  one_load n n' l h = let e : most_calls cat * (l + 1) ≡ most_calls cat * l + most_calls cat = grind arith in omega arith

  -- a load was refused
  pub serves_refused : (told told' : Option Files) (p : PoolView) (fs fs' : List (ℕ × File)) (b : PoolView) (i : List Kept) (x : List (PixelKey × ℤ)) (f f' n n' w w' l : ℕ) → IsRight bytes len told cat p fs b i x → told' ≡ told → w' ≡ w → AreGood bytes len told' cat fs' → f ≤ f' → n' ≤ n + most_calls cat
      → Serves bytes len cat 1 (lane_state told p fs b i x f n w l) (lane_state told' p fs' b i x f' n' w' (l + 1))
  serves_refused told told' p fs fs' b i x f f' n n' w w' l right same unwritten good faults reads = record {
    right = record { valid = right.valid; blocks = are_blocks_told told told' p.entries same right.blocks; good = good; made_valid = right.made_valid; remembered = are_blocks_told told told' b.entries same right.remembered; listed = right.listed; pixels = are_recalled_told told told' x same right.pixels };
    told = same;
    writes = unwritten;
    capacity = refl;
    faults = faults;
    loads = omega arith;
    reads = one_load n n' l reads;
    held = omega arith;
    bound = λ h. omega arith;
  }

  -- a pixel was read by itself, while the pool was full
  pub serves_alone : (k : ℕ) (told told' : Option Files) (p : PoolView) (fs fs' : List (ℕ × File)) (b : PoolView) (i : List Kept) (x : List (PixelKey × ℤ)) (f f' n n' w w' l : ℕ) (key : BlockKey) (d : Dataset) → IsRight bytes len told cat p fs b i x → IsKeyOf cat key d → held_at key p.entries ≡ None → p.capacity ≤ length p.entries
      → told' ≡ told → w' ≡ w → AreGood bytes len told' cat fs' → f ≤ f' → n' ≤ n + most_calls cat
      → Serves bytes len cat k (lane_state told p fs b i x f n w l) (lane_state told' p fs' b i x f' n' w' (l + 1))
  serves_alone k told told' p fs fs' b i x f f' n n' w w' l key d right key_of absent full same unwritten good faults reads = record {
    right = record { valid = right.valid; blocks = are_blocks_told told told' p.entries same right.blocks; good = good; made_valid = right.made_valid; remembered = are_blocks_told told told' b.entries same right.remembered; listed = right.listed; pixels = are_recalled_told told told' x same right.pixels };
    told = same;
    writes = unwritten;
    capacity = refl;
    faults = faults;
    loads = omega arith;
    reads = one_load n n' l reads;
    held = omega arith;
    bound = λ h. let room = room_for_one told cat key d p right.valid right.blocks key_of absent in omega arith;
  }

  -- a file's block was loaded, and then kept, or memory was refused
  pub serves_load : {T E : Type 0} (r : Result T E) (told told' : Option Files) (p : PoolView) (fs fs' : List (ℕ × File)) (b : PoolView) (i : List Kept) (x : List (PixelKey × ℤ)) (q : LaneView File) (f f' n n' w w' l : ℕ) (k : BlockKey) (d : Dataset) (e : Entry)
      → IsRight bytes len told cat p fs b i x → IsKeyOf cat k d → held_at k p.entries ≡ None
      → told' ≡ told → w' ≡ w → AreGood bytes len told' cat fs' → f ≤ f' → n' ≤ n + most_calls cat → IsBlock told' cat k e.block
      → OnOk r (q ≡ lane_view (pool_view (admitted p.capacity k e p.entries) p.capacity) fs' b i x) → OnErr r (q ≡ lane_view p fs' b i x) → IsPool q.pool
      → Serves bytes len cat (slack_of r) (lane_state told p fs b i x f n w l) (lane_state told' q.pool q.files q.made q.indexes q.recalled f' n' w' (l + 1))
  serves_load (Ok v) told told' p fs fs' b i x q f f' n n' w w' l k d e right key absent same unwritten good faults reads new kept refused valid =
      subst (λ (q : LaneView File). Serves bytes len cat 0 (lane_state told p fs b i x f n w l) (lane_state told' q.pool q.files q.made q.indexes q.recalled f' n' w' (l + 1))) (sym kept) (record {
        right = record { valid = subst (λ (q : LaneView File). IsPool q.pool) kept valid; blocks = are_blocks_admitted told' cat p.capacity k e p.entries new (are_blocks_told told told' p.entries same right.blocks); good = good; made_valid = right.made_valid; remembered = are_blocks_told told told' b.entries same right.remembered; listed = right.listed; pixels = are_recalled_told told told' x same right.pixels };
        told = same;
        writes = unwritten;
        capacity = refl;
        faults = faults;
        loads = omega arith;
        reads = one_load n n' l reads;
        held = length_admitted p.capacity k e p.entries right.valid.within right.valid.some;
        bound = λ h. let room = room_for_one told cat k d p right.valid right.blocks key absent in let m = length_admitted_new p.capacity k e p.entries absent (omega arith) in omega arith;
      })
  serves_load (Err d') told told' p fs fs' b i x q f f' n n' w w' l k d e right key absent same unwritten good faults reads new kept refused valid =
      subst (λ (q : LaneView File). Serves bytes len cat 1 (lane_state told p fs b i x f n w l) (lane_state told' q.pool q.files q.made q.indexes q.recalled f' n' w' (l + 1))) (sym refused) (serves_refused told told' p fs fs' b i x f f' n n' w w' l right same unwritten good faults reads)

-- a lane that was ready is ready after what served
pub ready_then : {F File Draft : Type 0} (calls : Ghosts F File Draft) (cat : List Dataset) (slack : ℕ) (folder folder' : F) (lane lane' : LaneView File) (loads loads' : ℕ) → IsReady calls folder cat lane
    → Serves calls.file_bytes calls.file_len cat slack (state_of calls folder lane loads) (state_of calls folder' lane' loads') → IsReady calls folder' cat lane'
ready_then calls cat slack folder folder' lane lane' loads loads' ready served = record { right = served.right; walked = λ m e. ready.walked m (sym served.told ∙ e) }

-- a call that is refused gives nothing
pub none_given : {T E : Type 0} (r : Result T E) (P : Type 0) (e : E) → IsErr r × IsErrAnd r (λ x. x ≡ e) → OnOk r P
none_given (Ok x) P e h = absurd h.1
none_given (Err y) P e h = tt

pub no_value : {T E : Type 0} (r : Result T E) (P : T → Type 0) (e : E) → IsErr r × IsErrAnd r (λ x. x ≡ e) → IfOk r P
no_value (Ok x) P e h = absurd h.1
no_value (Err y) P e h = tt

-- what a fault tells of a dataset it tells of the catalog
pub tells_in : (cat : List Dataset) (id : ℕ) (d : Dataset) → slice_get cat id ≡ Some d → (f : LoadFault) → TellsChangeOf d f → TellsChangeIn cat f
tells_in cat id d at FolderFault h = tt
tells_in cat id d at (Changed name was now) h = (id, d, at, h)
tells_in cat id d at Memory h = tt

-- the reads of so many loads
pub reads_between : (m r r' l l' : ℕ) → l ≤ l' → r' + m * l ≤ r + m * l' → r' ≤ r + m * (l' - l)
reads_between m r r' l l' more most =
    let sum : l' ≡ l + (l' - l) = omega arith in
    let apart : m * (l + (l' - l)) ≡ m * l + m * (l' - l) = grind arith in
    let all : m * l' ≡ m * (l + (l' - l)) = ap (λ n. m * n) sum in
    omega arith

rose_later : (a b c : ℕ) → a ≤ b → Rose b c → Rose a c
rose_later a b c later rose = omega arith

module _ {F File Draft : Type 0} (calls : Ghosts F File Draft) (cat : List Dataset) where
  -- a lane that was fit is fit after what served
  pub fit_then : {shown : Option Files} {known : List Dataset} {slack : ℕ} {folder folder' : F} {lane lane' : LaneView File} {loads loads' : ℕ} → IsFit calls shown known folder cat lane
      → Serves calls.file_bytes calls.file_len cat slack (state_of calls folder lane loads) (state_of calls folder' lane' loads') → IsFit calls shown known folder' cat lane'
  fit_then fit served = record {
    ready = record { right = served.right; walked = λ m e. fit.ready.walked m (sym served.told ∙ e) };
    told = fit.told ∙ sym served.told;
    scene = fit.scene;
  }

  -- a lane that stays as it was is fit
  pub fit_same : {shown : Option Files} {known : List Dataset} {folder : F} {lane lane' : LaneView File} → IsFit calls shown known folder cat lane → lane' ≡ lane → IsFit calls shown known folder cat lane'
  fit_same {shown} {known} {folder} fit same = subst (λ (l : LaneView File). IsFit calls shown known folder cat l) (sym same) fit

  -- a ready lane stays as it is
  pub serves_still : (folder : F) (lane : LaneView File) (loads : ℕ) → IsReady calls folder cat lane → Serves calls.file_bytes calls.file_len cat 0 (state_of calls folder lane loads) (state_of calls folder lane loads)
  serves_still folder lane loads ready = serves_refl calls.file_bytes calls.file_len cat (state_of calls folder lane loads) ready.right

  -- a call that isn't refused
  pub answered_ok : {T : Type 0} (x : T) {folder folder' : F} {lane lane' : LaneView File} {loads loads' : ℕ} → Serves calls.file_bytes calls.file_len cat 0 (state_of calls folder lane loads) (state_of calls folder' lane' loads')
      → IsAnswered calls cat (Ok x) folder lane loads folder' lane' loads'
  answered_ok x s = record { serves = s; cause = record { later = s.faults; failed = λ e. cc }; changed = tt; never = λ m e. tt }

  -- a call that is refused for memory alone
  pub answered_memory : {T : Type 0} (r : Result T LoadFault) {folder folder' : F} {lane lane' : LaneView File} {loads loads' : ℕ} → IfErr r (λ e. e ≡ Memory)
      → Serves calls.file_bytes calls.file_len cat (slack_of r) (state_of calls folder lane loads) (state_of calls folder' lane' loads') → IsAnswered calls cat r folder lane loads folder' lane' loads'
  answered_memory (Ok x) h s = answered_ok x s
  answered_memory (Err f) h s = record {
    serves = s;
    cause = record { later = s.faults; failed = λ e. cc };
    changed = subst (TellsChangeIn cat) (sym h) tt;
    never = λ m e. subst IsUnchanged (sym h) tt;
  }

  -- memory is refused after what served
  pub refused_memory : {T : Type 0} (r : Result T LoadFault) {folder folder' : F} {lane lane' : LaneView File} {loads loads' : ℕ} → IsErr r × IsErrAnd r (λ e. e ≡ Memory)
      → Serves calls.file_bytes calls.file_len cat 0 (state_of calls folder lane loads) (state_of calls folder' lane' loads') → IsAnswered calls cat r folder lane loads folder' lane' loads'
  refused_memory (Ok x) h s = absurd h.1
  refused_memory (Err f) h s = answered_memory (Err f) h.1 (serves_slack calls.file_bytes calls.file_len cat _ _ s)

  -- a call answers after what served
  pub answered_then : {T : Type 0} (r : Result T LoadFault) {folder between folder' : F} {lane midway lane' : LaneView File} {loads counted loads' : ℕ} → Serves calls.file_bytes calls.file_len cat 0 (state_of calls folder lane loads) (state_of calls between midway counted)
      → IsAnswered calls cat r between midway counted folder' lane' loads' → IsAnswered calls cat r folder lane loads folder' lane' loads'
  answered_then r s a = record {
    serves = serves_trans calls.file_bytes calls.file_len cat (slack_of r) _ _ _ s a.serves;
    cause = record { later = omega (arith, s.faults, a.serves.faults); failed = λ e. rose_later _ _ _ s.faults (a.cause.failed e) };
    changed = a.changed;
    never = λ m e. a.never m (s.told ∙ e);
  }

  -- a call answers, from a lane that stayed as it was
  pub answered_same : {T : Type 0} (r : Result T LoadFault) {folder folder' : F} {lane midway lane' : LaneView File} {loads loads' : ℕ} → midway ≡ lane → IsAnswered calls cat r folder midway loads folder' lane' loads' → IsAnswered calls cat r folder lane loads folder' lane' loads'
  answered_same r {folder} {folder'} {lane} {midway} {lane'} {loads} {loads'} same a = subst (λ (l : LaneView File). IsAnswered calls cat r folder l loads folder' lane' loads') same a

  -- a fault is handed on
  pub refused : {T U : Type 0} (r : Result U LoadFault) (f : LoadFault) {folder folder' : F} {lane lane' : LaneView File} {loads loads' : ℕ} → IsErr r × IsErrAnd r (λ e. e ≡ f) → IsAnswered {T = T} calls cat (Err f) folder lane loads folder' lane' loads'
      → IsAnswered calls cat r folder lane loads folder' lane' loads'
  refused (Ok x) f h a = absurd h.1
  refused (Err d) f h a = record {
    serves = a.serves;
    cause = record { later = a.cause.later; failed = λ e. a.cause.failed (let same : f ≡ FolderFault = cc in ap Err same) };
    changed = subst (TellsChangeIn cat) (sym h.1) a.changed;
    never = λ m e. subst IsUnchanged (sym h.1) (a.never m e);
  }

  -- a fault is handed on after what served
  pub refused_then : {T U : Type 0} (r : Result U LoadFault) (f : LoadFault) {folder between folder' : F} {lane midway lane' : LaneView File} {loads counted loads' : ℕ} → IsErr r × IsErrAnd r (λ e. e ≡ f)
      → Serves calls.file_bytes calls.file_len cat 0 (state_of calls folder lane loads) (state_of calls between midway counted) → IsAnswered {T = T} calls cat (Err f) between midway counted folder' lane' loads' → IsAnswered calls cat r folder lane loads folder' lane' loads'
  refused_then {T} r f h s a = answered_then r s (refused {T = T} r f h a)

  -- a fault of a call of its own
  pub refused_for : {T U : Type 0} (r : Result U LoadFault) (f : LoadFault) {folder folder' : F} {lane lane' : LaneView File} {loads loads' : ℕ} → IsErr r × IsErrAnd r (λ e. e ≡ f) → Serves calls.file_bytes calls.file_len cat 1 (state_of calls folder lane loads) (state_of calls folder' lane' loads')
      → HasCause {T = T} FolderFault (calls.faults folder) (calls.faults folder') (Err f) → TellsChangeIn cat f → ((m : Files) → calls.names folder ≡ Some m → IsUnchanged f) → IsAnswered calls cat r folder lane loads folder' lane' loads'
  refused_for {T} r f h s cause changed never = refused {T = T} r f h (record { serves = s; cause = cause; changed = changed; never = never })

  -- a pixel was read by itself, while the pool was full
  pub serves_read : (slack : ℕ) (inside : LaneView File) (files : List (ℕ × File)) (key : BlockKey) (d : Dataset) {folder folder' : F} {lane : LaneView File} {loads loads' : ℕ} → inside ≡ lane → IsReady calls folder cat lane → IsKeyOf cat key d
      → held_at key lane.pool.entries ≡ None → lane.pool.capacity ≤ length lane.pool.entries → OnlyRead calls folder folder' → AreGood calls.file_bytes calls.file_len (calls.names folder') cat files → calls.read_calls folder' ≤ calls.read_calls folder + most_calls cat → loads' ≡ loads + 1
      → Serves calls.file_bytes calls.file_len cat slack (state_of calls folder lane loads) (state_of calls folder' (lane_view inside.pool files inside.made inside.indexes inside.recalled) loads')
  serves_read slack inside files key d {folder} {folder'} {lane} {loads} {loads'} same ready key_of absent full only_read good most count =
      subst (λ (l : LaneView File). IsReady calls folder cat l → held_at key l.pool.entries ≡ None → l.pool.capacity ≤ length l.pool.entries → Serves calls.file_bytes calls.file_len cat slack (state_of calls folder l loads) (state_of calls folder' (lane_view inside.pool files inside.made inside.indexes inside.recalled) loads')) same
      (λ r a f. rw count (serves_alone calls.file_bytes calls.file_len cat slack (calls.names folder) (calls.names folder') inside.pool inside.files files inside.made inside.indexes inside.recalled (calls.faults folder) (calls.faults folder') (calls.read_calls folder) (calls.read_calls folder') (calls.write_calls folder) (calls.write_calls folder') loads key d
      r.right key_of a f only_read.names only_read.writes good only_read.faults most))
      ready absent full
