-- Empty lines are passed over: without them a text has the same lines that aren't empty, and is UTF-8 where it was.
use Rattle.std.proofs.Common.{◌≡◌, ◌↔◌, ap, sym, refl, ◌∙◌, subst, ℕ, suc, ◌+◌, ◌<◌, ◌≤◌, arith, Bool, true, false, cond, List, [], ◌∷◌, ◌++◌, length, take, drop, get_or, set, IsUtf8}
use Rattle.std.specs.Prelude.{◌==◌, ◌&&◌}
use Rattle.std.specs.List.{slice_split, onto_first}
use Rattle.std.specs.Str.Lines.{lines, lines_of_parts, strip_carriage_return}
use Rattle.std.proofs.lemmas.Bool.{eqb-true, and_parts}
use Rattle.std.proofs.lemmas.List.{append_assoc, length-append, take_at, drop_at, get_or_at, take_more_set, take-take, take-append-le}
use Rattle.std.proofs.lemmas.List.Splits.{slice_split-cons_yes, slice_split-cons_no, length-slice_split}
use Rattle.std.proofs.lemmas.Str.{IsUtf8-append, IsUtf8-take, IsUtf8-drop, IsCharBoundary-after_ascii}
use lib.Utf8.{encode}
use Rattle.mosaic_builds.specs.Inputs.{is_filled, filled}
use Rattle.mosaic_builds.specs.Feeds.{without_empty}

-- the parts between line feeds
abbrev parts : List ℕ → List (List ℕ)
parts bytes = slice_split (λ b. b == 10) bytes

-- the lines that aren't empty, of these parts
abbrev kept_of : List (List ℕ) → List (List ℕ)
kept_of texts = filled (lines_of_parts texts)

-- a byte that stays, and a line feed that doesn't
stays : (begins : Bool) (byte : ℕ) (bytes : List ℕ) → (byte == 10) ≡ false → without_empty begins (byte ∷ bytes) ≡ byte ∷ without_empty false bytes
stays begins byte bytes other = rw other refl

ends_line : (byte : ℕ) (bytes : List ℕ) → (byte == 10) ≡ true → without_empty false (byte ∷ bytes) ≡ byte ∷ without_empty true bytes
ends_line byte bytes feed = rw feed refl

goes : (byte : ℕ) (bytes : List ℕ) → (byte == 10) ≡ true → without_empty true (byte ∷ bytes) ≡ without_empty true bytes
goes byte bytes feed = rw feed refl

some_part : (bytes : List ℕ) → 0 < length (parts bytes)
some_part bytes = rw (length-slice_split (λ b. b == 10) bytes) (omega arith)

-- a part before others gives a line, where it isn't empty
first_line : (x : List ℕ) (texts : List (List ℕ)) → 0 < length texts → lines_of_parts (x ∷ texts) ≡ strip_carriage_return x ∷ lines_of_parts texts
first_line x [] some = absurd (omega (arith, some))
first_line x (y ∷ more) some = refl

one_line : (x : List ℕ) (texts others : List (List ℕ)) → 0 < length texts → 0 < length others → kept_of texts ≡ kept_of others → kept_of (x ∷ texts) ≡ kept_of (x ∷ others)
one_line x texts others some more same =
    ap filled (first_line x texts some)
    ∙ ap (λ (r : List (List ℕ)). cond (is_filled (strip_carriage_return x)) (strip_carriage_return x ∷ r) r) same
    ∙ ap filled (sym (first_line x others more))

empty_line : (texts : List (List ℕ)) → 0 < length texts → kept_of ([] ∷ texts) ≡ kept_of texts
empty_line texts some = ap filled (first_line [] texts some)

-- the parts of a text with x before it, which has no line feed
abbrev onto : List ℕ → List (List ℕ) → List (List ℕ)
onto x [] = x ∷ []
onto x (part ∷ texts) = (x ++ part) ∷ texts

onto_none : (texts : List (List ℕ)) → 0 < length texts → onto [] texts ≡ texts
onto_none [] some = absurd (omega (arith, some))
onto_none (part ∷ texts) some = refl

onto_more : (x : List ℕ) (byte : ℕ) (texts : List (List ℕ)) → onto x (onto_first byte texts) ≡ onto (x ++ byte ∷ []) texts
onto_more x byte [] = refl
onto_more x byte (part ∷ texts) = ap (λ (y : List ℕ). y ∷ texts) (sym (append_assoc x (byte ∷ []) part))

false_not_true : false ≡ true → ⊥
false_not_true e = cc

from_start : (bytes : List ℕ) → kept_of (onto [] (parts (without_empty true bytes))) ≡ kept_of (onto [] (parts bytes)) → kept_of (parts (without_empty true bytes)) ≡ kept_of (parts bytes)
from_start bytes same =
    ap kept_of (sym (onto_none (parts (without_empty true bytes)) (some_part (without_empty true bytes))))
    ∙ same
    ∙ ap kept_of (onto_none (parts bytes) (some_part bytes))

same_lines_by : (feed begins : Bool) (x : List ℕ) (byte : ℕ) (bytes : List ℕ) → (byte == 10) ≡ feed → (begins ≡ true → x ≡ []) → ((start : Bool) (y : List ℕ) → (start ≡ true → y ≡ []) → kept_of (onto y (parts (without_empty start bytes))) ≡ kept_of (onto y (parts bytes))) → kept_of (onto x (parts (without_empty begins (byte ∷ bytes)))) ≡ kept_of (onto x (parts (byte ∷ bytes)))
same_lines_by false begins x byte bytes other start rest =
    ap (λ (l : List ℕ). kept_of (onto x (parts l))) (stays begins byte bytes other)
    ∙ ap (λ (l : List (List ℕ)). kept_of (onto x l)) (slice_split-cons_no (λ b. b == 10) byte (without_empty false bytes) other)
    ∙ ap kept_of (onto_more x byte (parts (without_empty false bytes)))
    ∙ rest false (x ++ byte ∷ []) (λ e. absurd (false_not_true e))
    ∙ ap kept_of (sym (onto_more x byte (parts bytes)))
    ∙ ap (λ (l : List (List ℕ)). kept_of (onto x l)) (sym (slice_split-cons_no (λ b. b == 10) byte bytes other))
same_lines_by true false x byte bytes feed start rest =
    ap (λ (l : List ℕ). kept_of (onto x (parts l))) (ends_line byte bytes feed)
    ∙ ap (λ (l : List (List ℕ)). kept_of (onto x l)) (slice_split-cons_yes (λ b. b == 10) byte (without_empty true bytes) feed)
    ∙ one_line (x ++ []) (parts (without_empty true bytes)) (parts bytes) (some_part (without_empty true bytes)) (some_part bytes) (from_start bytes (rest true [] (λ e. refl)))
    ∙ ap (λ (l : List (List ℕ)). kept_of (onto x l)) (sym (slice_split-cons_yes (λ b. b == 10) byte bytes feed))
same_lines_by true true x byte bytes feed start rest =
    ap (λ (y : List ℕ). kept_of (onto y (parts (without_empty true (byte ∷ bytes))))) (start refl)
    ∙ ap (λ (l : List ℕ). kept_of (onto [] (parts l))) (goes byte bytes feed)
    ∙ ap kept_of (onto_none (parts (without_empty true bytes)) (some_part (without_empty true bytes)))
    ∙ from_start bytes (rest true [] (λ e. refl))
    ∙ sym (empty_line (parts bytes) (some_part bytes))
    ∙ ap (λ (l : List (List ℕ)). kept_of (onto [] l)) (sym (slice_split-cons_yes (λ b. b == 10) byte bytes feed))
    ∙ ap (λ (y : List ℕ). kept_of (onto y (parts (byte ∷ bytes)))) (sym (start refl))

same_behind : (bytes : List ℕ) (begins : Bool) (x : List ℕ) → (begins ≡ true → x ≡ []) → kept_of (onto x (parts (without_empty begins bytes))) ≡ kept_of (onto x (parts bytes))
same_behind [] begins x start = refl
same_behind (byte ∷ bytes) begins x start = same_lines_by (byte == 10) begins x byte bytes refl start (same_behind bytes)

-- the lines that aren't empty stay
pub same_lines : (bytes : List ℕ) → filled (lines (without_empty true bytes)) ≡ filled (lines bytes)
same_lines bytes = from_start bytes (same_behind bytes true [] (λ e. refl))

-- a line feed is a place where a text may be cut
cut : (x : List ℕ) (byte : ℕ) (rest : List ℕ) → byte < 128 → IsUtf8 (x ++ byte ∷ rest) → IsUtf8 (x ++ byte ∷ []) × IsUtf8 rest
cut x byte rest low text =
    let all : x ++ byte ∷ rest ≡ (x ++ byte ∷ []) ++ rest = sym (append_assoc x (byte ∷ []) rest) in
    let at : get_or (x ++ byte ∷ rest) (length x) 0 ≡ byte = get_or_at x byte rest 0 (length x) refl in
    let long : length (x ++ byte ∷ rest) ≡ length x + suc (length rest) = length-append x (byte ∷ rest) in
    let front : length (x ++ byte ∷ []) ≡ length x + 1 = length-append x (byte ∷ []) in
    let border = IsCharBoundary-after_ascii (x ++ byte ∷ rest) (length x) text (omega (arith, long)) (rw at low) in (
      subst IsUtf8 (ap (take (length x + 1)) all ∙ take_at (x ++ byte ∷ []) rest (length x + 1) front) (IsUtf8-take (x ++ byte ∷ rest) (length x + 1) text border),
      subst IsUtf8 (ap (drop (length x + 1)) all ∙ drop_at (x ++ byte ∷ []) rest (length x + 1) front) (IsUtf8-drop (x ++ byte ∷ rest) (length x + 1) text border),
    )

joined : (x : List ℕ) (byte : ℕ) (rest : List ℕ) → IsUtf8 (x ++ byte ∷ []) → IsUtf8 rest → IsUtf8 (x ++ byte ∷ rest)
joined x byte rest front text = subst IsUtf8 (append_assoc x (byte ∷ []) rest) (IsUtf8-append (x ++ byte ∷ []) rest front text)

-- texts that are equal are both UTF-8 or both not
both_texts : (a b c d : List ℕ) → a ≡ b → d ≡ c → (IsUtf8 b ↔ IsUtf8 c) → IsUtf8 a ↔ IsUtf8 d
both_texts a b c d first second both = subst (λ l. IsUtf8 l ↔ IsUtf8 d) (sym first) (subst (λ l. IsUtf8 b ↔ IsUtf8 l) (sym second) both)

line_feed : (byte : ℕ) → byte ≡ 10 → IsUtf8 (byte ∷ [])
unfolding encode
line_feed byte feed = subst (λ b. IsUtf8 (b ∷ [])) (sym feed) (10 ∷ [], (refl, refl))

ascii : (byte : ℕ) → byte ≡ 10 → byte < 128
ascii byte feed = omega (arith, feed)

text_by : (feed begins : Bool) (x : List ℕ) (byte : ℕ) (bytes : List ℕ) → (byte == 10) ≡ feed → (begins ≡ true → x ≡ []) → ((start : Bool) (y : List ℕ) → (start ≡ true → y ≡ []) → IsUtf8 (y ++ without_empty start bytes) ↔ IsUtf8 (y ++ bytes)) → IsUtf8 (x ++ without_empty begins (byte ∷ bytes)) ↔ IsUtf8 (x ++ byte ∷ bytes)
text_by false begins x byte bytes other start rest =
    both_texts (x ++ without_empty begins (byte ∷ bytes)) ((x ++ byte ∷ []) ++ without_empty false bytes) ((x ++ byte ∷ []) ++ bytes) (x ++ byte ∷ bytes)
    (ap (λ (l : List ℕ). x ++ l) (stays begins byte bytes other) ∙ sym (append_assoc x (byte ∷ []) (without_empty false bytes)))
    (sym (append_assoc x (byte ∷ []) bytes))
    (rest false (x ++ byte ∷ []) (λ e. absurd (false_not_true e)))
text_by true false x byte bytes feed start rest =
    let low : byte < 128 = ascii byte (eqb-true byte 10 feed) in
    let both = rest true [] (λ e. refl) in
    both_texts (x ++ without_empty false (byte ∷ bytes)) (x ++ byte ∷ without_empty true bytes) (x ++ byte ∷ bytes) (x ++ byte ∷ bytes)
    (ap (λ (l : List ℕ). x ++ l) (ends_line byte bytes feed)) refl (
      (λ text. let h = cut x byte (without_empty true bytes) low text in joined x byte bytes h.0 (both.0 h.1)),
      (λ text. let h = cut x byte bytes low text in joined x byte (without_empty true bytes) h.0 (both.1 h.1)),
    )
text_by true true x byte bytes feed start rest =
    let ten : byte ≡ 10 = eqb-true byte 10 feed in
    let both = rest true [] (λ e. refl) in
    both_texts (x ++ without_empty true (byte ∷ bytes)) (without_empty true bytes) (byte ∷ bytes) (x ++ byte ∷ bytes)
    (ap (λ (l : List ℕ). l ++ without_empty true (byte ∷ bytes)) (start refl) ∙ goes byte bytes feed)
    (ap (λ (l : List ℕ). l ++ byte ∷ bytes) (start refl)) (
      (λ text. joined [] byte bytes (line_feed byte ten) (both.0 text)),
      (λ text. both.1 ((cut [] byte bytes (ascii byte ten) text).1)),
    )

text_behind : (bytes : List ℕ) (begins : Bool) (x : List ℕ) → (begins ≡ true → x ≡ []) → IsUtf8 (x ++ without_empty begins bytes) ↔ IsUtf8 (x ++ bytes)
text_behind [] begins x start = (λ text. text, λ text. text)
text_behind (byte ∷ bytes) begins x start = text_by (byte == 10) begins x byte bytes refl start (text_behind bytes)

-- what is kept of a text, as a list of its own
pub same_filled : (old new : List ℕ) → new ≡ without_empty true old → filled (lines new) ≡ filled (lines old)
same_filled old new is = ap (λ (l : List ℕ). filled (lines l)) is ∙ same_lines old

pub same_text : (old new : List ℕ) → new ≡ without_empty true old → IsUtf8 new ↔ IsUtf8 old
same_text old new is = both_texts new (without_empty true old) old old is refl (text_behind old true [] (λ e. refl))

-- one byte more: it is passed over, or it is kept
pub passed_over : (begins : Bool) (byte : ℕ) (front rest : List ℕ) → (byte == 10 && begins) ≡ true → front ++ without_empty (byte == 10) rest ≡ front ++ without_empty begins (byte ∷ rest)
passed_over begins byte front rest passed =
    let parts = and_parts (byte == 10) begins passed in
    ap (λ (b : Bool). front ++ without_empty b rest) parts.0 ∙ ap (λ (l : List ℕ). front ++ l) (sym (goes byte rest parts.0) ∙ ap (λ (b : Bool). without_empty b (byte ∷ rest)) (sym parts.1))

kept_by : (begins : Bool) (byte : ℕ) (rest : List ℕ) → (byte == 10 && begins) ≡ false → without_empty begins (byte ∷ rest) ≡ byte ∷ without_empty (byte == 10) rest
kept_by begins byte rest is = rw is refl

pub kept_behind : (bytes : List ℕ) (kept : ℕ) (begins : Bool) (byte : ℕ) (rest : List ℕ) → kept < length bytes → (byte == 10 && begins) ≡ false → take (kept + 1) (set bytes kept byte) ++ without_empty (byte == 10) rest ≡ take kept bytes ++ without_empty begins (byte ∷ rest)
kept_behind bytes kept begins byte rest room is =
    ap (λ (l : List ℕ). l ++ without_empty (byte == 10) rest) (take_more_set bytes kept byte room)
    ∙ append_assoc (take kept bytes) (byte ∷ []) (without_empty (byte == 10) rest)
    ∙ ap (λ (l : List ℕ). take kept bytes ++ l) (sym (kept_by begins byte rest is))

-- what is kept of a list of bytes that was written over from its start
pub kept_items : (old given out rest new : List ℕ) (kept len : ℕ) → new ≡ take kept (take len (out ++ rest)) → take kept out ≡ without_empty true given → given ≡ old → kept ≤ length given → length out ≡ length given → length given ≡ len → new ≡ without_empty true old
kept_items old given out rest new kept len is same all few size long =
    is
    ∙ take-take kept len (out ++ rest) (omega (arith, few, long))
    ∙ take-append-le kept out rest (omega (arith, few, size))
    ∙ same
    ∙ ap (without_empty true) all
