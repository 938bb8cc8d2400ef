-- Lines that are written one after the other.
use Rattle.std.proofs.Common.{◌≡◌, ℕ, ◌-◌, List, [], ◌∷◌, ◌++◌, length, refl, ap, ◌∙◌, sym, subst, replicate, append_assoc, Result, Ok, Err}
use Rattle.std.specs.Prelude.{OnErr}
use Rattle.lists_and_answers.specs.Growth.{KeepsFront}
use Rattle.geotransform.proofs.Written.{keeps_append, keeps_then}
use Rattle.esri_hdr.specs.Text.{name_of, content_of, lines_text_of}
use Rattle.esri_hdr.specs.Steps.{AppendsLines}

text-append : (fs gs : List (ℕ × List ℕ)) → lines_text_of (fs ++ gs) ≡ lines_text_of fs ++ lines_text_of gs
text-append [] gs = refl
text-append (f ∷ fs) gs = ap (λ (x : List ℕ). content_of f.0 f.1 ++ 10 ∷ x) (text-append fs gs) ∙ sym (append_assoc (content_of f.0 f.1) (10 ∷ lines_text_of fs) (lines_text_of gs))

pub lines_then : (a b c : List ℕ) (fs gs : List (ℕ × List ℕ)) → AppendsLines a b fs → AppendsLines b c gs → AppendsLines a c (fs ++ gs)
lines_then a b c fs gs p q = record { lines = q.lines ∙ ap (λ (x : List ℕ). x ++ lines_text_of gs) p.lines ∙ append_assoc a (lines_text_of fs) (lines_text_of gs) ∙ ap (λ (x : List ℕ). a ++ x) (sym (text-append fs gs)) }

pub keeps_lines : (a b : List ℕ) (fs : List (ℕ × List ℕ)) → AppendsLines a b fs → KeepsFront a b
keeps_lines a b fs p = keeps_append a b (lines_text_of fs) p.lines

pub keeps_after : (a b c : List ℕ) (fs : List (ℕ × List ℕ)) → AppendsLines a b fs → KeepsFront b c → KeepsFront a c
keeps_after a b c fs p h = keeps_then a b c (lines_text_of fs) p.lines h

-- a name with its spaces, a value and a line feed are a line
pub line_made : (key : ℕ) (a b c d value : List ℕ) → b ≡ a ++ (name_of key ++ replicate (15 - length (name_of key)) 32) → c ≡ b ++ value → d ≡ c ++ 10 ∷ [] → AppendsLines a d ((key, value) ∷ [])
line_made key a b c d value p q r = record { lines = r ∙ ap (λ (x : List ℕ). x ++ 10 ∷ []) (q ∙ ap (λ (x : List ℕ). x ++ value) p) ∙ simp append_assoc }

pub keeps_pushes : (a b c e : List ℕ) → b ≡ a ++ e → c ≡ b → KeepsFront a c
keeps_pushes a b c e p q = keeps_append a c e (q ∙ p)

pub four_lines : (a b c d e : List ℕ) (f g h i : ℕ × List ℕ) → AppendsLines a b (f ∷ []) → AppendsLines b c (g ∷ []) → AppendsLines c d (h ∷ []) → AppendsLines d e (i ∷ []) → AppendsLines a e (f ∷ g ∷ h ∷ i ∷ [])
four_lines a b c d e f g h i p q r s = lines_then a d e (f ∷ g ∷ h ∷ []) (i ∷ []) (lines_then a c d (f ∷ g ∷ []) (h ∷ []) (lines_then a b c (f ∷ []) (g ∷ []) p q) r) s

pub line_is : (a b v w : List ℕ) (k : ℕ) → AppendsLines a b ((k, v) ∷ []) → v ≡ w → AppendsLines a b ((k, w) ∷ [])
line_is a b v w k h e = subst (λ (x : List ℕ). AppendsLines a b ((k, x) ∷ [])) e h

pub keeps_push_then : (a b c e : List ℕ) → b ≡ a ++ e → KeepsFront b c → KeepsFront a c
keeps_push_then a b c e p h = keeps_then a b c e p h

pub keeps_third : (a b c d e f : List ℕ) → b ≡ a ++ e → c ≡ b ++ f → d ≡ c → KeepsFront a d
keeps_third a b c d e f p q r = keeps_append a d (e ++ f) (r ∙ q ∙ ap (λ (x : List ℕ). x ++ f) p ∙ append_assoc a e f)

pub on_err_any : {T E P : Type 0} (r : Result T E) → P → OnErr r P
on_err_any (Ok x) p = tt
on_err_any (Err e) p = p

pub three_lines : (a b c d : List ℕ) (f g h : ℕ × List ℕ) → AppendsLines a b (f ∷ []) → AppendsLines b c (g ∷ []) → AppendsLines c d (h ∷ []) → AppendsLines a d (f ∷ g ∷ h ∷ [])
three_lines a b c d f g h p q r = lines_then a c d (f ∷ g ∷ []) (h ∷ []) (lines_then a b c (f ∷ []) (g ∷ []) p q) r

pub all_lines : (a b c d e f : List ℕ) (s t u v w : List (ℕ × List ℕ)) → AppendsLines a b s → AppendsLines b c t → AppendsLines c d u → AppendsLines d e v → AppendsLines e f w → AppendsLines a f (s ++ (t ++ (u ++ (v ++ w))))
all_lines a b c d e f s t u v w p q r x y = lines_then a b f s (t ++ (u ++ (v ++ w))) p (lines_then b c f t (u ++ (v ++ w)) q (lines_then c d f u (v ++ w) r (lines_then d e f v w x y)))
