-- What is known of a draft whose unwritten blocks are zeros.
use Rattle.std.proofs.Common.{◌≡◌, ℕ, zero, suc, ℤ, pos, negsuc, ◌+◌, ◌<◌, ◌⊎◌, inl, inr, ⊎_elim, Bool, true, false, cond, List, get_or, length, map, Option, Some, None, refl, sym, ap, ◌∙◌, subst, arith, zero-add}
use Rattle.std.specs.Prelude.{◌||◌}
use Rattle.std.specs.List.{list_all, range_with_len}
use Rattle.std.proofs.lemmas.List.Sums.{AllPass-from_list_all, list_all-from_AllPass}
use Rattle.std.proofs.lemmas.List.FromFn.{length-range_with_len, get_or-range_with_len, length-map-range_with_len, get_or-map-range_with_len}
use Rattle.band_blocks.specs.declared.key.BlockKey.{BlockKey}
use Rattle.write_back.specs.declared.forms.Writer.{Writer}
use Rattle.write_back.specs.Forms.{cut_of, under}
use Rattle.write_back.specs.Spots.{IsSpot}
use Rattle.write_back.specs.Overlay.{line_key, held_in}
use Rattle.write_back.specs.Stores.{IsBlockWritten}
use Rattle.write_back.specs.Unwritten.{Marks, is_written, is_zero, is_blank_block, are_blank, known, IsBlank, AreBlank}

zero_is : (n : ℤ) → is_zero n ≡ true → n ≡ pos 0
zero_is (pos zero) h = refl
zero_is (pos (suc n)) h = absurd (let clash : false ≡ true = h in cc)
zero_is (negsuc n) h = absurd (let clash : false ≡ true = h in cc)

-- a test of each number below n
each_of : (f : ℕ → Bool) (n i : ℕ) → list_all f (range_with_len 0 n) ≡ true → i < n → f i ≡ true
each_of f n i all less =
    let len = length-range_with_len 0 n in
    ap f (sym (get_or-range_with_len 0 n i 0 less ∙ zero-add i)) ∙ AllPass-from_list_all f (range_with_len 0 n) all i 0 (omega arith)

all_of : (f : ℕ → Bool) (n : ℕ) → ((i : ℕ) → i < n → f i ≡ true) → list_all f (range_with_len 0 n) ≡ true
all_of f n each = list_all-from_AllPass f (range_with_len 0 n) (λ i d below.
    let len = length-range_with_len 0 n in
    let less : i < n = omega arith in
    ap f (get_or-range_with_len 0 n i d less ∙ zero-add i) ∙ each i less)

blank_of : (w : Writer) (b : List ℕ) (k v : ℕ) → is_blank_block w b k v ≡ true → IsBlank w b k v
blank_of w b k v all u less =
    let len = length-map-range_with_len (λ i. under w b k i v) 0 (cut_of w).spots in
    sym (get_or-map-range_with_len (λ i. under w b k i v) 0 (cut_of w).spots u u (pos 0) less (zero-add u))
    ∙ zero_is (get_or (held_in w b k v) u (pos 0)) (AllPass-from_list_all is_zero (held_in w b k v) all u (pos 0) (omega arith))

blank_is : (w : Writer) (b : List ℕ) (k v : ℕ) → IsBlank w b k v → is_blank_block w b k v ≡ true
blank_is w b k v each = list_all-from_AllPass is_zero (held_in w b k v) (λ u d below.
    let len = length-map-range_with_len (λ i. under w b k i v) 0 (cut_of w).spots in
    let less : u < (cut_of w).spots = omega arith in
    ap is_zero (get_or-map-range_with_len (λ i. under w b k i v) 0 (cut_of w).spots u u d less (zero-add u) ∙ each u less))

or_else : (a b : Bool) → (a || b) ≡ true → a ≡ false → b ≡ true
or_else true b h none = absurd (let clash : true ≡ false = none in cc)
or_else false b h none = h

or_when : (a b : Bool) → (a ≡ false → b ≡ true) → (a || b) ≡ true
or_when true b f = refl
or_when false b f = f refl

fresh_of : (w : Writer) (m : Marks) (b : List ℕ) → are_blank w m b ≡ true → AreBlank w m b
fresh_of w m b all k v band block none =
    blank_of w b k v (or_else (is_written m k v) (is_blank_block w b k v)
    (each_of (λ v. is_written m k v || is_blank_block w b k v) (cut_of w).blocks v
    (each_of (λ k. list_all (λ v. is_written m k v || is_blank_block w b k v) (range_with_len 0 (cut_of w).blocks)) (cut_of w).bands k all band) block) none)

fresh_is : (w : Writer) (m : Marks) (b : List ℕ) → AreBlank w m b → are_blank w m b ≡ true
fresh_is w m b each =
    all_of (λ k. list_all (λ v. is_written m k v || is_blank_block w b k v) (range_with_len 0 (cut_of w).blocks)) (cut_of w).bands
    (λ k band. all_of (λ v. is_written m k v || is_blank_block w b k v) (cut_of w).blocks
    (λ v block. or_when (is_written m k v) (is_blank_block w b k v) (λ none. blank_is w b k v (each k v band block none))))

-- what is known is told, and its unwritten blocks are zeros
pub known_of : (w : Writer) (m : Marks) (d : Option (List ℕ)) (b : List ℕ) → known w m d ≡ Some b → (d ≡ Some b) × AreBlank w m b
unfolding known
known_of w m None b is = absurd (let clash : None ≡ Some b = is in cc)
known_of w m (Some c) b is = (elim (are_blank w m c) as (λ t. are_blank w m c ≡ t → cond t (Some c) None ≡ Some b → (Some c ≡ Some b) × AreBlank w m b) [
  | true ↦ λ all same. (let e : c ≡ b = cc in (same, subst (λ l. AreBlank w m l) e (fresh_of w m c all)))
  | false ↦ λ none same. absurd (let clash : None ≡ Some b = same in cc)
]) refl is

pub known_told : (w : Writer) (m : Marks) (d : Option (List ℕ)) (b : List ℕ) → known w m d ≡ Some b → d ≡ Some b
known_told w m d b is = (known_of w m d b is).0

known_some : (w : Writer) (m : Marks) (b : List ℕ) → AreBlank w m b → known w m (Some b) ≡ Some b
unfolding known
known_some w m b blank = ap (λ t. cond t (Some b) None) (fresh_is w m b blank)

pub known_is : (w : Writer) (m : Marks) (d : Option (List ℕ)) (b : List ℕ) → d ≡ Some b → AreBlank w m b → known w m d ≡ Some b
known_is w m d b is blank = ap (known w m) is ∙ known_some w m b blank

-- a block that was written has a mark, and all others are as they were
pub known_written : (w : Writer) (m n : Marks) (key : BlockKey) (samples : List ℤ) (d : Option (List ℕ)) (b c : List ℕ) → AreBlank w m b → is_written n key.band key.block ≡ true → ((k v : ℕ) → is_written n k v ≡ false → is_written m k v ≡ false)
    → IsBlockWritten w key samples b c → d ≡ Some c → known w n d ≡ Some c
known_written w m n key samples d b c blank here others put is = known_is w n d c is (λ k v band block none u spot.
    put.others k u v (record { band = band; spot = spot; block = block })
    (λ same.
    let t : is_written n k v ≡ true = ap (λ (j : BlockKey). is_written n j.band j.block) same ∙ here in
    let clash : true ≡ false = sym t ∙ none in cc)
    ∙ blank k v band block (others k v none) u spot)

-- a new draft is zeros
pub known_new : (w v : Writer) (m : Marks) (d : Option (List ℕ)) (bytes : List ℕ) → v ≡ w → d ≡ Some bytes → ((k u x : ℕ) → IsSpot w k u x → under w bytes k u x ≡ pos 0) → known v m d ≡ Some bytes
known_new w v m d bytes same is zeros = ap (λ n. known n m d) same ∙ known_is w m d bytes is (λ k x band block none u spot. zeros k u x (record { band = band; spot = spot; block = block }))
