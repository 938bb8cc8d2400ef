-- What a scanner was fed of an open file, piece by piece.
use Rattle.std.proofs.Common.{◌≡◌, ◌∙◌, ◌⊎◌, inl, inr, ◌+◌, ◌<◌, ◌^◌, ap, ap₂, sym, subst, refl, ℕ, List, [], ◌++◌, length, take, drop, length-append, Option, Some, Ok, Err, arith}
use Rattle.std.proofs.lemmas.List.{take-append-drop, take_all}
use Rattle.std.proofs.Math.Seq.{take-append-add}
use Rattle.ascii_grid.specs.declared.faults.GridFault.{GridFault}
use Rattle.ascii_grid.specs.declared.faults.GridFault.TheVariants.{Memory}
use Rattle.ascii_grid.specs.Grid.{Head, grid_head, AreRising}
use Rattle.ascii_grid.specs.Scan.{Scanned, Reads, IsFaultOf}
use Rattle.ascii_grid.proofs.RowReads.{rows_are_rising}
use Rattle.catalog.specs.declared.grid.ScanFault.TheVariants.{Refused}
use Rattle.catalog.specs.Scanned.{HasFed, IsScanFault}

-- the piece behind what was read
fed_text : (b text piece : List ℕ) (at n : ℕ) → text ≡ take at b → length text ≡ at → piece ≡ take n (drop at b) → text ++ piece ≡ take (at + n) b
fed_text b text piece at n e long f =
    ap (λ (p : List ℕ). text ++ p) f
    ∙ sym (take-append-add text (drop at b) n)
    ∙ ap₂ (λ (k : ℕ) (c : List ℕ). take k c) (ap (λ l. l + n) long) (ap (λ (t : List ℕ). t ++ drop at b) e ∙ take-append-drop at b)

-- one piece more
pub fed_more : (old new : Scanned) (bytes : Option (List ℕ)) (at n : ℕ) (piece : List ℕ) → length piece ≡ n → ((b : List ℕ) → bytes ≡ Some b → piece ≡ take n (drop at b)) → ((text : List ℕ) → Reads old text → Reads new (text ++ piece))
    → HasFed old bytes at → HasFed new bytes (at + n)
fed_more old new bytes at n piece long read reads fed = record {
  text = fed.text ++ piece;
  long = length-append fed.text piece ∙ omega (arith, long, fed.long);
  reads = reads fed.text fed.reads;
  told = λ b told. fed_text b fed.text piece at n (fed.told b told) fed.long (read b told);
}

fault_of : (b text : List ℕ) (k : ℕ) (f : GridFault) → text ≡ take k b → IsFaultOf f text → IsScanFault b (Refused f)
fault_of b text k f is (inl memory) = inl memory
fault_of b text k f is (inr fault) = inr (ap grid_head (sym (ap (λ (t : List ℕ). t ++ drop k b) is ∙ take-append-drop k b)) ∙ fault (drop k b))

-- a piece that the scanner refuses
pub fed_fault : (old : Scanned) (bytes : Option (List ℕ)) (at n : ℕ) (piece b : List ℕ) (f : GridFault) → bytes ≡ Some b → piece ≡ take n (drop at b) → ((text : List ℕ) → Reads old text → IsFaultOf f (text ++ piece))
    → HasFed old bytes at → IsScanFault b (Refused f)
fed_fault old bytes at n piece b f told read refuses fed = fault_of b (fed.text ++ piece) (at + n) f (fed_text b fed.text piece at n (fed.told b told) fed.long read) (refuses fed.text fed.reads)

-- a scanner that was fed nothing
pub fed_nothing : (s : Scanned) (bytes : Option (List ℕ)) → Reads s [] → HasFed s bytes 0
fed_nothing s bytes reads = record { text = []; long = refl; reads = reads; told = λ b told. refl }

whole_text : (s : Scanned) (bytes : Option (List ℕ)) (len : ℕ) (b : List ℕ) (fed : HasFed s bytes len) → bytes ≡ Some b → len ≡ length b → fed.text ≡ b
whole_text s bytes len b fed told long = fed.told b told ∙ take_all len b (omega (arith, long))

-- the head of all bytes
pub fed_head : (s : Scanned) (h : Head) → ((text : List ℕ) → Reads s text → grid_head text ≡ Ok h) → (bytes : Option (List ℕ)) (len : ℕ) (b : List ℕ) → HasFed s bytes len → bytes ≡ Some b → len ≡ length b → grid_head b ≡ Ok h
fed_head s h grid bytes len b fed told long = ap grid_head (sym (whole_text s bytes len b fed told long)) ∙ grid fed.text fed.reads

-- the fault of all bytes
pub fed_refused : (s : Scanned) (f : GridFault) → ((text : List ℕ) → Reads s text → (f ≡ Memory) ⊎ (grid_head text ≡ Err f)) → (bytes : Option (List ℕ)) (len : ℕ) (b : List ℕ) → HasFed s bytes len → bytes ≡ Some b → len ≡ length b
    → IsScanFault b (Refused f)
fed_refused s f grid bytes len b fed told long = subst (λ (t : List ℕ). (f ≡ Memory) ⊎ (grid_head t ≡ Err f)) (whole_text s bytes len b fed told long) (grid fed.text fed.reads)

-- the rows of all bytes
pub fed_rows : (s : Scanned) (h : Head) → ((text : List ℕ) → Reads s text → grid_head text ≡ Ok h) → (bytes : Option (List ℕ)) (len : ℕ) → HasFed s bytes len → len < 2 ^ 64 → AreRising 0 len h.rows
fed_rows s h grid bytes len fed small = subst (λ (n : ℕ). AreRising 0 n h.rows) fed.long (rows_are_rising fed.text h (grid fed.text fed.reads) (omega (arith, fed.long)))
