-- Pieces that are appended one after another.
use Rattle.std.proofs.Common.{◌≡◌, ◌∙◌, ap, sym, ℕ, ◌+◌, ◌<◌, List, [], ◌++◌, length, drop, get_or, append_assoc}
use Rattle.std.proofs.lemmas.List.{append-nil, drop_more}
use Rattle.std.proofs.Common.{Option, Some}
use Rattle.outside.specs.Streams.{GetsPart}
use Rattle.catalog.specs.declared.kind.BandHead.{BandHead}
use Rattle.info_report.specs.Report.{band_text, bands_text}

-- two pieces
pub two : (o x y a b : List ℕ) → x ≡ o ++ a → y ≡ x ++ b → y ≡ o ++ (a ++ (b ++ []))
two o x y a b p q = q ∙ ap (λ (t : List ℕ). t ++ b) p ∙ simp (append_assoc, append-nil)

-- three pieces
pub three : (o x y z a b c : List ℕ) → x ≡ o ++ a → y ≡ x ++ b → z ≡ y ++ c → z ≡ o ++ (a ++ (b ++ (c ++ [])))
three o x y z a b c p q r = r ∙ ap (λ (t : List ℕ). t ++ c) (q ∙ ap (λ (t : List ℕ). t ++ b) p) ∙ simp (append_assoc, append-nil)

-- four, five and six pieces
pub four : (o x y z w a b c d : List ℕ) → x ≡ o ++ a → y ≡ x ++ b → z ≡ y ++ c → w ≡ z ++ d → w ≡ o ++ (a ++ (b ++ (c ++ (d ++ []))))
four o x y z w a b c d p q r s = s ∙ ap (λ (t : List ℕ). t ++ d) (three o x y z a b c p q r) ∙ simp (append_assoc, append-nil)

pub five : (o x y z w v a b c d e : List ℕ) → x ≡ o ++ a → y ≡ x ++ b → z ≡ y ++ c → w ≡ z ++ d → v ≡ w ++ e → v ≡ o ++ (a ++ (b ++ (c ++ (d ++ (e ++ [])))))
five o x y z w v a b c d e p q r s t = t ∙ ap (λ (t : List ℕ). t ++ e) (four o x y z w a b c d p q r s) ∙ simp (append_assoc, append-nil)

pub six : (o x y z w v u a b c d e f : List ℕ) → x ≡ o ++ a → y ≡ x ++ b → z ≡ y ++ c → w ≡ z ++ d → v ≡ w ++ e → u ≡ v ++ f → u ≡ o ++ (a ++ (b ++ (c ++ (d ++ (e ++ (f ++ []))))))
six o x y z w v u a b c d e f p q r s t h = h ∙ ap (λ (t : List ℕ). t ++ f) (five o x y z w v a b c d e p q r s t) ∙ simp (append_assoc, append-nil)

-- no piece
pub none : (o : List ℕ) → o ≡ o ++ []
none o = sym (append-nil o)

-- a text of ten pieces in two
pub band : (o x y a b c d e f g h i j : List ℕ) → x ≡ o ++ (a ++ (b ++ (c ++ (d ++ (e ++ (f ++ (g ++ (h ++ (i ++ []))))))))) → y ≡ x ++ j → y ≡ o ++ (a ++ (b ++ (c ++ (d ++ (e ++ (f ++ (g ++ (h ++ (i ++ (j ++ []))))))))))
band o x y a b c d e f g h i j p q = q ∙ ap (λ (t : List ℕ). t ++ j) p ∙ simp (append_assoc, append-nil)

-- a sink that was given nothing
pub nothing_put : (text : List ℕ) (old : Option (List ℕ)) → GetsPart text old old
nothing_put text old = λ g is. (0, is ∙ ap Some (none g))

-- the lines of one band more
pub one_band_more : (bands : List BandHead) (i : ℕ) (d : BandHead) (o x y : List ℕ) → i < length bands → x ++ bands_text (i + 1) (drop i bands) ≡ o ++ bands_text 1 bands → y ≡ x ++ band_text (i + 1) (get_or bands i d) → y ++ bands_text (i + 1 + 1) (drop (i + 1) bands) ≡ o ++ bands_text 1 bands
one_band_more bands i d o x y less so_far one =
    ap (λ (t : List ℕ). t ++ bands_text (i + 1 + 1) (drop (i + 1) bands)) one
    ∙ append_assoc x (band_text (i + 1) (get_or bands i d)) (bands_text (i + 1 + 1) (drop (i + 1) bands))
    ∙ ap (λ (t : List BandHead). x ++ bands_text (i + 1) t) (sym (drop_more bands i d less))
    ∙ so_far
