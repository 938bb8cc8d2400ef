-- The files of an output under their names.
use Rattle.std.proofs.Common.{◌≡◌, ℕ, zero, suc, ℤ, List, [], ◌∷◌, Option, Some, None, refl, inl, inr, ap, sym, subst, ◌∙◌, length, take, ◌<◌, arith}
use Rattle.std.specs.Prelude.{IfErr, Result, Ok, Err}
use Rattle.std.specs.FinMap.{insert}
use Rattle.outside.specs.Outside.{Files}
use Rattle.outside.specs.Names.{header_of}
use Rattle.block_cache.specs.Entries.{PoolView}
use Rattle.write_back.specs.declared.fault.CloseFault.{CloseFault}
use Rattle.write_back.specs.declared.forms.Writer.{Writer}
use Rattle.write_back.specs.Forms.{band_total, block_of, cut_of, plane_of, pixel_sample, spot_of, TellsMet}
use Rattle.write_back.proofs.Woven.{spot_is}
use Rattle.write_back.specs.View.{Blocks, pixel_sample_in, shown_on}
use Rattle.write_back.specs.Files.{HasHeader, header_file, header_state, published_of, with_files}
use Rattle.write_back.specs.Drafts.{HasSamples, ArePut, IsHeaderPut, files_with, published_by}
use Rattle.write_back.specs.Overlay.{overlay, WasMet}
use Rattle.write_back.specs.Stores.{AreSame, Stays}
use Rattle.write_back.specs.State.{HasDraft}

-- the first files under their names
pub files_put : (text : Option (List ℕ)) (told : Option Files) (name data_name bytes put : List ℕ) (header : Option (Option (List ℕ) × List ℕ)) (n : ℕ) (m k : Files) (new : Option Files) → told ≡ Some k → data_name ≡ name → put ≡ bytes → HasHeader text told name header → ArePut header data_name put n m new
    → new ≡ Some (with_files (take n ((name, bytes) ∷ header_file text name)) m)
files_put text told name data_name bytes put header zero m k new is named same has done = done
files_put None told name data_name bytes put None (suc n) m k new is named same has done = done ∙ ap (λ a. Some (insert m a put)) named ∙ ap (λ b. Some (insert m name b)) same ∙ ap (λ fs. Some (with_files fs (insert m name bytes))) (none n)
  where
    none : (n : ℕ) → [] ≡ take {A = List ℕ × List ℕ} n []
    none zero = refl
    none (suc n) = refl
files_put None told name data_name bytes put (Some x) (suc n) m k new is named same has done = absurd (let clash : Some x ≡ None = has in cc)
files_put (Some text) told name data_name bytes put None (suc n) m k new is named same has done = absurd (let clash : None ≡ Some has.0 = has.1 in cc)
files_put (Some text) told name data_name bytes put (Some x) (suc zero) m k new is named same has done = done ∙ ap (λ a. Some (insert m a put)) named ∙ ap (λ b. Some (insert m name b)) same
files_put (Some text) told name data_name bytes put (Some x) (suc (suc n)) m k new is named same has done =
    let here : x ≡ has.0 = (let e : Some x ≡ Some has.0 = has.1 in cc) in
    done text (ap (λ (y : Option (List ℕ) × List ℕ). y.0) here ∙ has.3 k is)
    ∙ ap (λ a. Some (insert (insert m data_name put) a text)) (ap (λ (y : Option (List ℕ) × List ℕ). y.1) here ∙ has.2)
    ∙ ap (λ a. Some (insert (insert m a put) (header_of name) text)) named
    ∙ ap (λ b. Some (insert (insert m name b) (header_of name) text)) same
    ∙ ap (λ fs. Some (with_files fs (insert (insert m name bytes) (header_of name) text))) (none n)
  where
    none : (n : ℕ) → [] ≡ take {A = List ℕ × List ℕ} n []
    none zero = refl
    none (suc n) = refl

-- what a refusal says
pub if_refused : (r : Result (Unit {0}) CloseFault) (P Q : CloseFault → Type 0) → ((e : CloseFault) → P e → Q e) → IfErr r P → IfErr r Q
if_refused (Ok x) P Q f p = p
if_refused (Err e) P Q f p = f e p

-- there is a file at least
pub some_file : {T : Type 0} (o : Option T) → 0 < files_with o
some_file None = omega arith
some_file (Some x) = omega arith

-- an answer tells as many files by a header's draft as by its text
pub same_count : {D : Type 0} (bytes : D → Option (List ℕ)) (name : D → List ℕ) (header : Option D) (text : Option (List ℕ)) (told : Option Files) (a b : List ℕ) (r : Result (Unit {0}) CloseFault) → HasHeader text told a (header_state bytes name header) → published_by header r ≡ published_of (length ((a, b) ∷ header_file text a)) r
same_count bytes name None None told a b (Ok x) has = refl
same_count bytes name (Some d) (Some text) told a b (Ok x) has = refl
same_count bytes name None (Some text) told a b (Ok x) has = absurd (let clash : None ≡ Some has.0 = has.1 in cc)
same_count bytes name (Some d) None told a b (Ok x) has = absurd (let clash : Some (bytes d, name d) ≡ None = has in cc)
same_count bytes name header text told a b (Err e) has = refl

empty_met : (w : Writer) (c : List ℕ) (k v : ℕ) → WasMet w [] c k v → TellsMet w c v
empty_met w c k v (inl met) = met
empty_met w c k v (inr held) = absurd (let clash : None ≡ Some held.0 = held.1 in cc)

-- what stands in the draft once no block is held
pub flushed_samples : (w : Writer) (p q : PoolView) (draft now : Option (List ℕ)) (b c : List ℕ) → draft ≡ Some b → HasDraft w q now c → q.entries ≡ [] → AreSame w (overlay w p.entries b) (overlay w q.entries c) → Stays w p.entries b q.entries c → HasSamples w (shown_on (Blocks w) p draft) (λ k v. WasMet w p.entries b k v) c
flushed_samples w p q draft now b c told has none same stays = record {
  len = has.long;
  formed = has.formed;
  each = λ k x y place.
      sym (ap (λ es. pixel_sample w (overlay w es c) k x y) none)
      ∙ same (plane_of (cut_of w).woven k) (spot_of (cut_of w).by_columns (cut_of w).woven (band_total w) k x y) (block_of (cut_of w).by_columns x y) (spot_is w k x y place)
      ∙ ap (λ d. pixel_sample_in w p d k x y) (sym told);
  begun = λ k v band block met. empty_met w c k v (subst (λ es. WasMet w es c k v) none (stays k v band block met));
}
