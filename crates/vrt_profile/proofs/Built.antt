-- Documents that are built.
use Rattle.std.proofs.Common.{◌≡◌, ℕ, ◌*◌, ◌<◌, pos, refl, sym, subst, List, [], ◌∷◌, ◌++◌, length, arith, Option, Some, None, Result, Ok, Err}
use Rattle.std.specs.Prelude.{OnOk, OnErr}
use Rattle.std.specs.List.{All}
use Rattle.std.proofs.lemmas.List.Elements.{All-push}
use Rattle.lists_and_answers.specs.Options.{◌>>=◌}
use Rattle.outside.specs.Names.{folder_part}
use Rattle.geotransform.specs.declared.types.Size.{Size}
use Rattle.vrt_markup.specs.Items.{strip, byte_at}
use Rattle.vrt_profile.specs.Resolve.{some_text, related_by, related_in, related}
use Rattle.vrt_profile.specs.Cover.{whole}
use Rattle.vrt_profile.specs.Built.{pixel_rectangle}

-- a list whose items keep a rule, after one more was pushed or refused
pub pushed : {A E : Type 0} (P : A → Type 0) (r : Result (Unit {0}) E) (old new : List A) (x : A) → OnOk r (new ≡ old ++ x ∷ []) → OnErr r (new ≡ old) → All P old → P x → All P new
pushed P (Ok u) old new x ok err all one = subst (All P) (sym ok) (All-push P old x all one)
pushed P (Err e) old new x ok err all one = subst (All P) (sym err) all

-- the whole of a raster, pixel by pixel
pub whole_pixels : (s : Size) → pixel_rectangle (pos 0) (pos 0) (pos s.w) (pos s.h) ≡ whole s
whole_pixels s =
    let w : 1000000 * s.w ≡ s.w * 1000000 = omega arith in
    let h : 1000000 * s.h ≡ s.h * 1000000 = omega arith in
    rw (w, h) refl

-- the text that names a file isn't empty
text_some : (name : List ℕ) (r : Option (List ℕ)) → 0 < length name → 0 < length (related_by name (r >>= some_text)).1
text_some name None s = s
text_some name (Some []) s = s
text_some name (Some (c ∷ cs)) s = omega arith

folder_some : (name : List ℕ) (f : Option (List ℕ)) → 0 < length name → 0 < length (related_in f name).1
folder_some name None s = s
folder_some name (Some folder) s = text_some name (strip folder name >>= byte_at 47) s

pub related_some : (base name : List ℕ) → 0 < length name → 0 < length (related base name).1
related_some base name s = folder_some name (folder_part base) s
