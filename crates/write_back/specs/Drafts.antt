-- New targets, and the drafts of their files until they are published.
use Rattle.std.specs.Prelude.{◌≡◌, ℕ, List, [], Option, None, IsSome, replicate, Some, zero, suc, Result, Ok, Err, ◌<◌}
use Rattle.std.specs.Prelude.{ℤ, length}
use Rattle.std.specs.FinMap.{insert}
use Rattle.outside.specs.Outside.{Files}
use Rattle.outside.specs.Names.{header_of}
use Rattle.esri_hdr.specs.Head.{Head}
use Rattle.esri_hdr.specs.Text.{hdr_text}
use Rattle.interleaved_raw.specs.Raw as raw
use Rattle.block_cache.specs.Entries.{pool_view}
use Rattle.write_back.specs.View.{TargetView, IsZero, SheetView, shown_on}
use Rattle.write_back.specs.Files.{IsTarget, bytes_of, IsForm, IsWholeOn}
use Rattle.write_back.specs.Plans.{room_of}
use Rattle.write_back.specs.declared.fault.CloseFault.{CloseFault}
use Rattle.write_back.specs.declared.forms.Writer.{Writer}
use Rattle.write_back.specs.Forms.{cut_of, needed_of, pixel_sample, under, IsFormed, TellsMet}
use Rattle.write_back.specs.Spots.{HasPixel}

-- a new target of a name: no block is held, no line is written, and where the folder tells its names all samples are 0
pub record IsNew (told told' : Option Files) (named : List ℕ) (capacity : ℕ) (t : TargetView) : Type 0 where
  pub name : t.name ≡ named
  pub pool : t.pool ≡ pool_view [] (room_of t.output capacity)
  pub lines : t.lines ≡ 0
  pub fault : t.fault ≡ None
  pub target : IsTarget told' t
  pub zeros : IsSome told → IsZero t

-- the drafts of new raw data and of its header, by what they tell, the length of the data and their names
pub record AreRawDrafts (told : Option Files) (h : Head) (named : List ℕ) (bytes : Option (List ℕ)) (length_is : ℕ)
    (data_name : List ℕ) (header : Option (List ℕ)) (header_name : List ℕ) : Type 0 where
  pub zeros : (m : Files) → told ≡ Some m → bytes ≡ Some (replicate (raw.needed_of h) 0)
  pub len : length_is ≡ raw.needed_of h
  pub name : data_name ≡ named
  pub text : (m : Files) → told ≡ Some m → header ≡ Some (hdr_text h)
  pub beside : header_name ≡ header_of named

-- a header was put over a map, where there is one and n isn't 0
abbrev pub IsHeaderPut : Option (Option (List ℕ) × List ℕ) → ℕ → Files → Option Files → Type 0
IsHeaderPut None n m new = new ≡ Some m
IsHeaderPut (Some x) zero m new = new ≡ Some m
IsHeaderPut (Some x) (suc n) m new = (t : List ℕ) → x.0 ≡ Some t → new ≡ Some (insert m x.1 t)

-- the first n files were put over a map: bytes under a name, then a header
abbrev pub ArePut : Option (Option (List ℕ) × List ℕ) → List ℕ → List ℕ → ℕ → Files → Option Files → Type 0
ArePut header name bytes zero m new = new ≡ Some m
ArePut header name bytes (suc n) m new = IsHeaderPut header n (insert m name bytes) new

-- how many files there are: the data, and a header where there is one
abbrev pub files_with : {T : Type 0} → Option T → ℕ
files_with None = 1
files_with (Some x) = 2

-- how many files an answer says are published, of the data and a header where there is one
abbrev pub published_by : {T : Type 0} → Option T → Result (Unit {0}) CloseFault → ℕ
published_by header (Ok x) = files_with header
published_by header (Err e) = e.published

-- the bytes of an output that is whole
pub record HasBytes (told : Option Files) (old : SheetView) (draft : Option (List ℕ)) : Type 0 where
  pub all : IsSome told → IsForm old.output → IsWholeOn old.output old →
      draft ≡ Some (bytes_of old.output (shown_on old.output old.pool old.draft))

-- the bytes have the length that an output must have, hold these samples, and tell of each block that was met
pub record HasSamples (w : Writer) (samples : ℕ → ℕ → ℕ → ℤ) (met : ℕ → ℕ → Type 0) (bytes : List ℕ) : Type 0 where
  pub len : length bytes ≡ needed_of w
  pub formed : IsFormed w bytes
  pub each : (k x y : ℕ) → HasPixel w k x y → pixel_sample w (under w bytes) k x y ≡ samples k x y
  pub begun : (k v : ℕ) → k < (cut_of w).bands → v < (cut_of w).blocks → met k v → TellsMet w bytes v
