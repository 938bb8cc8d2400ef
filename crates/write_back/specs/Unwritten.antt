-- Blocks that were never written to a draft: they are zeros in it.
use Rattle.std.specs.Prelude.{◌≡◌, ℕ, zero, suc, ℤ, pos, negsuc, ◌+◌, ◌*◌, ◌<◌, Bool, true, false, ◌||◌, List, get_or}
use Rattle.std.specs.Prelude.{Option, Some, None, if◌then◌else◌}
use Rattle.std.specs.List.{list_all, range_with_len}
use Rattle.write_back.specs.declared.forms.Writer.{Writer}
use Rattle.write_back.specs.Forms.{cut_of, under}
use Rattle.write_back.specs.Overlay.{held_in}

-- marks of the blocks of each band that were written, band by band
pub record Marks : Type 0 where
  pub blocks : ℕ
  pub list : List Bool

-- whether a block of a band was written; a block that has no mark counts as written
abbrev pub is_written : Marks → ℕ → ℕ → Bool
is_written m band block = get_or m.list (band * m.blocks + block) true

-- the samples of a block are 0 in a draft's bytes
abbrev pub IsBlank : Writer → List ℕ → ℕ → ℕ → Type 0
IsBlank w bytes band block = (u : ℕ) → u < (cut_of w).spots → under w bytes band u block ≡ pos 0

abbrev pub is_zero : ℤ → Bool
is_zero (pos zero) = true
is_zero (pos (suc n)) = false
is_zero (negsuc n) = false

-- whether the samples of a block are 0 in a draft's bytes
abbrev pub is_blank_block : Writer → List ℕ → ℕ → ℕ → Bool
is_blank_block w bytes band block = list_all is_zero (held_in w bytes band block)

-- each block that wasn't written is blank
abbrev pub AreBlank : Writer → Marks → List ℕ → Type 0
AreBlank w m bytes = (k v : ℕ) → k < (cut_of w).bands → v < (cut_of w).blocks → is_written m k v ≡ false →
    IsBlank w bytes k v

-- whether each block that wasn't written is blank
abbrev pub are_blank : Writer → Marks → List ℕ → Bool
are_blank w m bytes = list_all (λ k. list_all (λ v. is_written m k v || is_blank_block w bytes k v)
    (range_with_len 0 (cut_of w).blocks)) (range_with_len 0 (cut_of w).bands)

-- the bytes of a draft, where they are told and each block that wasn't written is blank in them
unfoldable pub known : Writer → Marks → Option (List ℕ) → Option (List ℕ)
known w m None = None
known w m (Some bytes) = if are_blank w m bytes then Some bytes else None
