-- A text that is UTF-8 is cut by the markup between characters, since all of the markup's bytes are ASCII.
use Rattle.std.proofs.Common.{◌≡◌, ℕ, zero, suc, ◌+◌, ◌<◌, ◌≤◌, Bool, true, false, cond, ◌||◌, ◌&&◌, List, [], ◌∷◌, length, drop, take, get_or, Option, Some, None, refl, sym, ap, subst, ◌∙◌, arith, ◌==◌, IsUtf8, Ok, Err, nat_le, ◌-◌, ◌++◌}
use Rattle.std.specs.List.{prefix_len}
use Rattle.std.proofs.lemmas.List.{length-drop}
use Rattle.std.specs.Str.{IsCharBoundary}
use Rattle.std.proofs.lemmas.Str.{IsUtf8-drop, IsUtf8-take, IsUtf8-nil, IsCharBoundary-after_ascii, IsUtf8-append}
use Rattle.std.proofs.lemmas.Bool.Decides.{nat_tests}
use Rattle.vrt_markup.specs.Items.{is_later, has_first, trim_front, name_at, byte_at, spaces_at, quote_at, plain_len, ends_at, entity_at, option_case, value_at, pair_at, Pair, pairs_by, pairs, with_pair, Tag, tag_end, tag_front, tag_at, is_distinct, close_at, strip, begins, is_equal, after_comment, run_at, item_at, Item, bad, comment, run, open_tag, close_tag}
use Rattle.lists_and_answers.specs.Answers.{◌>>=◌}
use Rattle.lists_and_answers.specs.Texts.{is_white}
use Rattle.vrt_markup.specs.Forest.{Forest, stop, text, element, ForestRead, with_text, with_element, inner_by, nodes_step, nodes_by, plain_at, decoded_from, text_of}
use Rattle.vrt_markup.specs.declared.fault.VrtFault.TheVariants.{BadText, Limit}
use Rattle.vrt_markup.proofs.Shorter.{guard_some, bind_some}
use Rattle.vrt_writing.proofs.Bytes.{tail_utf8, IsEnd, end_boundary, cons_utf8, is_high, high_boundary}

prefix_case : (p : ℕ → Bool) (c : ℕ) (cs : List ℕ) (b : Bool) → p c ≡ b → ((d : ℕ) → p d ≡ true → d < 128) → IsUtf8 (c ∷ cs) → (IsUtf8 cs → IsUtf8 (drop (prefix_len p cs) cs)) → IsUtf8 (drop (cond b (1 + prefix_len p cs) 0) (c ∷ cs))
prefix_case p c cs true e ascii h ih = let one : suc (prefix_len p cs) ≡ 1 + prefix_len p cs = omega arith in subst (λ n. IsUtf8 (drop n (c ∷ cs))) one (ih (tail_utf8 c cs h (ascii c e)))
prefix_case p c cs false e ascii h ih = h

pub prefix_utf8 : (p : ℕ → Bool) → ((d : ℕ) → p d ≡ true → d < 128) → (t : List ℕ) → IsUtf8 t → IsUtf8 (drop (prefix_len p t) t)
prefix_utf8 p ascii [] h = h
prefix_utf8 p ascii (c ∷ cs) h = prefix_case p c cs (p c) refl ascii h (prefix_utf8 p ascii cs)

white_ascii : (d : ℕ) → is_white d ≡ true → d < 128
white_ascii d e = grind (arith, nat_tests, e)

later_ascii : (d : ℕ) → is_later d ≡ true → d < 128
later_ascii d e = grind (arith, nat_tests, e)

pub trim_utf8 : (t : List ℕ) → IsUtf8 t → IsUtf8 (trim_front t)
trim_utf8 t h = prefix_utf8 is_white white_ascii t h

pub name_utf8 : (t : List ℕ) (x : List ℕ × List ℕ) → name_at t ≡ Some x → IsUtf8 t → IsUtf8 x.1
name_utf8 t x e h = subst IsUtf8 (ap (λ (p : List ℕ × List ℕ). p.1) (guard_some (has_first t) (take (prefix_len is_later t) t, drop (prefix_len is_later t) t) x e)) (prefix_utf8 is_later later_ascii t h)

byte_case : (b c : ℕ) (cs r : List ℕ) (s : Bool) → (c == b) ≡ s → cond s (Some cs) None ≡ Some r → b < 128 → IsUtf8 (c ∷ cs) → IsUtf8 r
byte_case b c cs r true e some less h = let same : cs ≡ r = cc in subst IsUtf8 same (tail_utf8 c cs h (grind (arith, nat_tests, e, less)))
byte_case b c cs r false e some less h = absurd cc

pub byte_utf8 : (b : ℕ) (t r : List ℕ) → byte_at b t ≡ Some r → b < 128 → IsUtf8 t → IsUtf8 r
byte_utf8 b [] r e less h = absurd cc
byte_utf8 b (c ∷ cs) r e less h = byte_case b c cs r (c == b) refl e less h

-- Plain text ends at a byte that is ASCII, or with the text.
ends_ascii : (q c : ℕ) (cs : List ℕ) → q < 128 → ends_at q c cs ≡ true → c < 128
ends_ascii q c cs less e = grind (arith, nat_tests, e, less)

end_case : (q c : ℕ) (cs : List ℕ) (b : Bool) → ends_at q c cs ≡ b → q < 128 → IsEnd cs (plain_len q cs) → IsEnd (c ∷ cs) (cond b 0 (suc (plain_len q cs)))
end_case q c cs true e less ih = (λ _. ends_ascii q c cs less e, omega arith)
end_case q c cs false e less ih = (λ l. ih.0 (omega (arith, l)), omega (arith, ih.1))

pub plain_end : (q : ℕ) (t : List ℕ) → q < 128 → IsEnd t (plain_len q t)
plain_end q [] less = (λ l. absurd (omega (arith, l)), omega arith)
plain_end q (c ∷ cs) less = end_case q c cs (ends_at q c cs) refl less (plain_end q cs less)

pub plain_boundary : (q : ℕ) (t : List ℕ) → q < 128 → IsCharBoundary t (plain_len q t)
plain_boundary q t less = end_boundary t (plain_len q t) (plain_len q t == length t) refl (plain_end q t less)

-- a run, and what stands behind it
pub run_utf8 : (t : List ℕ) → IsUtf8 t → IsUtf8 (take (plain_len 60 t) t) × IsUtf8 (drop (plain_len 60 t) t)
run_utf8 t h = (IsUtf8-take t (plain_len 60 t) h (plain_boundary 60 t (omega arith)), IsUtf8-drop t (plain_len 60 t) h (plain_boundary 60 t (omega arith)))

spaces_case : (b : Bool) (u r : List ℕ) → cond b None (Some u) ≡ Some r → u ≡ r
spaces_case true u r h = absurd cc
spaces_case false u r h = cc

pub spaces_utf8 : (t r : List ℕ) → spaces_at t ≡ Some r → IsUtf8 t → IsUtf8 r
spaces_utf8 t r e h = subst IsUtf8 (spaces_case (prefix_len is_white t == 0) (trim_front t) r e) (trim_utf8 t h)

quote_case : (c : ℕ) (cs : List ℕ) (x : ℕ × List ℕ) (b : Bool) → ((c == 34) || (c == 39)) ≡ b → cond b (Some (c, cs)) None ≡ Some x → IsUtf8 (c ∷ cs) → (x.0 < 128) × IsUtf8 x.1
quote_case c cs x true e some h =
    let less : c < 128 = grind (arith, nat_tests, e) in
    let same : (c, cs) ≡ x = cc in
    subst (λ (y : ℕ × List ℕ). (y.0 < 128) × IsUtf8 y.1) same (less, tail_utf8 c cs h less)
quote_case c cs x false e some h = absurd cc

pub quote_utf8 : (t : List ℕ) (x : ℕ × List ℕ) → quote_at t ≡ Some x → IsUtf8 t → (x.0 < 128) × IsUtf8 x.1
quote_utf8 [] x e h = absurd cc
quote_utf8 (c ∷ cs) x e h = quote_case c cs x ((c == 34) || (c == 39)) refl e h

plain_utf8 : (q : ℕ) (t : List ℕ) → q < 128 → IsUtf8 t → IsUtf8 (drop (plain_len q t) t)
plain_utf8 q t less h = IsUtf8-drop t (plain_len q t) h (plain_boundary q t less)

pub value_utf8 : (t : List ℕ) (x : List ℕ × List ℕ) → value_at t ≡ Some x → IsUtf8 t → IsUtf8 x.1
unfolding value_at
value_utf8 t x h u =
    let q = bind_some (quote_at t) _ x h in
    let e = bind_some (byte_at q.0.0 (drop (plain_len q.0.0 q.0.1) q.0.1)) _ x q.2 in
    let last : e.0 ≡ x.1 = ap (λ (p : Option (List ℕ × List ℕ)). option_case p [] (λ y. y.1)) e.2 in
    let inside = quote_utf8 t q.0 q.1 u in
    subst IsUtf8 last (byte_utf8 q.0.0 (drop (plain_len q.0.0 q.0.1) q.0.1) e.0 e.1 inside.0 (plain_utf8 q.0.0 q.0.1 inside.0 inside.1))

pub pair_utf8 : (t : List ℕ) (x : Pair × List ℕ) → pair_at t ≡ Some x → IsUtf8 t → IsUtf8 x.1
unfolding pair_at
pair_utf8 t x h u =
    let s = bind_some (spaces_at t) _ x h in
    let n = bind_some (name_at s.0) _ x s.2 in
    let e = bind_some (byte_at 61 (trim_front n.0.1)) _ x n.2 in
    let v = bind_some (value_at (trim_front e.0)) _ x e.2 in
    let last : v.0.1 ≡ x.1 = ap (λ (p : Option (Pair × List ℕ)). option_case p [] (λ y. y.1)) v.2 in
    let behind = byte_utf8 61 (trim_front n.0.1) e.0 e.1 (omega arith) (trim_utf8 n.0.1 (name_utf8 s.0 n.0 n.1 (spaces_utf8 t s.0 s.1 u))) in
    subst IsUtf8 last (value_utf8 (trim_front e.0) v.0 v.1 (trim_utf8 e.0 behind))

pairs_case : (f : ℕ) (t : List ℕ) (o : Option (Pair × List ℕ)) → pair_at t ≡ o → IsUtf8 t → ((r : List ℕ) → IsUtf8 r → IsUtf8 (pairs_by f r).1) → IsUtf8 (option_case o ([], t) (λ p. with_pair p.0 (pairs_by f p.1))).1
pairs_case f t None e h ih = h
pairs_case f t (Some p) e h ih = ih p.1 (pair_utf8 t p e h)

pub pairs_utf8 : (f : ℕ) (t : List ℕ) → IsUtf8 t → IsUtf8 (pairs_by f t).1
pairs_utf8 zero t h = h
pairs_utf8 (suc f) t h = pairs_case f t (pair_at t) refl h (pairs_utf8 f)

end_rest : (cs : List ℕ) (o : Option (List ℕ)) (x : Bool × List ℕ) → byte_at 62 cs ≡ o → option_case o None (λ rest. Some (true, rest)) ≡ Some x → IsUtf8 cs → IsUtf8 x.1
end_rest cs None x e some h = absurd cc
end_rest cs (Some rest) x e some h = let same : rest ≡ x.1 = ap (λ (p : Option (Bool × List ℕ)). option_case p [] (λ y. y.1)) some in subst IsUtf8 same (byte_utf8 62 cs rest e (omega arith) h)

tag_end_case : (c : ℕ) (cs : List ℕ) (x : Bool × List ℕ) (a b : Bool) → (c == 62) ≡ a → (c == 47) ≡ b → cond a (Some (false, cs)) (cond b (option_case (byte_at 62 cs) None (λ rest. Some (true, rest))) None) ≡ Some x → IsUtf8 (c ∷ cs) → IsUtf8 x.1
tag_end_case c cs x true b ea eb some h = let same : cs ≡ x.1 = ap (λ (p : Option (Bool × List ℕ)). option_case p [] (λ y. y.1)) some in subst IsUtf8 same (tail_utf8 c cs h (grind (arith, nat_tests, ea)))
tag_end_case c cs x false true ea eb some h = end_rest cs (byte_at 62 cs) x refl some (tail_utf8 c cs h (grind (arith, nat_tests, eb)))
tag_end_case c cs x false false ea eb some h = absurd cc

pub tag_end_utf8 : (t : List ℕ) (x : Bool × List ℕ) → tag_end t ≡ Some x → IsUtf8 t → IsUtf8 x.1
tag_end_utf8 [] x e h = absurd cc
tag_end_utf8 (c ∷ cs) x e h = tag_end_case c cs x (c == 62) (c == 47) refl refl e h

front_utf8 : (t : List ℕ) (x : Tag × List ℕ) → tag_front t ≡ Some x → IsUtf8 t → IsUtf8 x.1
unfolding tag_front
front_utf8 t x h u =
    let n = bind_some (name_at t) _ x h in
    let e = bind_some (tag_end (trim_front (pairs n.0.1).1)) _ x n.2 in
    let last : e.0.1 ≡ x.1 = ap (λ (p : Option (Tag × List ℕ)). option_case p [] (λ y. y.1)) e.2 in
    subst IsUtf8 last (tag_end_utf8 (trim_front (pairs n.0.1).1) e.0 e.1 (trim_utf8 (pairs n.0.1).1 (pairs_utf8 (length n.0.1) n.0.1 (name_utf8 t n.0 n.1 u))))

pub tag_utf8 : (t : List ℕ) (x : Tag × List ℕ) → tag_at t ≡ Some x → IsUtf8 t → IsUtf8 x.1
unfolding tag_at
tag_utf8 t x h u =
    let y = bind_some (tag_front t) _ x h in
    let last = guard_some (is_distinct y.0.0.pairs) y.0 x y.2 in
    subst IsUtf8 (ap (λ (p : Tag × List ℕ). p.1) last) (front_utf8 t y.0 y.1 u)

pub close_utf8 : (t : List ℕ) (x : List ℕ × List ℕ) → close_at t ≡ Some x → IsUtf8 t → IsUtf8 x.1
unfolding close_at
close_utf8 t x h u =
    let n = bind_some (name_at t) _ x h in
    let e = bind_some (byte_at 62 (trim_front n.0.1)) _ x n.2 in
    let last : e.0 ≡ x.1 = ap (λ (p : Option (List ℕ × List ℕ)). option_case p [] (λ y. y.1)) e.2 in
    subst IsUtf8 last (byte_utf8 62 (trim_front n.0.1) e.0 e.1 (omega arith) (trim_utf8 n.0.1 (name_utf8 t n.0 n.1 u)))

-- a front of ASCII bytes
abbrev pub AllAscii : List ℕ → Type 0
AllAscii [] = Unit {0}
AllAscii (c ∷ cs) = (c < 128) × AllAscii cs

pub both_true : (a b : Bool) → (a && b) ≡ true → (a ≡ true) × (b ≡ true)
both_true true b e = (refl, e)
both_true false b e = absurd cc

pub begins_utf8 : (front t : List ℕ) → begins front t ≡ true → AllAscii front → IsUtf8 t → IsUtf8 (drop (length front) t)
begins_utf8 [] t e a h = h
begins_utf8 (f ∷ fs) [] e a h = absurd cc
begins_utf8 (f ∷ fs) (c ∷ cs) e a h =
    let both = both_true (c == f) (begins fs cs) e in
    begins_utf8 fs cs both.1 a.1 (tail_utf8 c cs h (grind (arith, nat_tests, both.0, a.0)))

strip_case : (front t r : List ℕ) (b : Bool) → begins front t ≡ b → cond b (Some (drop (length front) t)) None ≡ Some r → AllAscii front → IsUtf8 t → IsUtf8 r
strip_case front t r true e some a h = let same : drop (length front) t ≡ r = cc in subst IsUtf8 same (begins_utf8 front t e a h)
strip_case front t r false e some a h = absurd cc

pub strip_utf8 : (front t r : List ℕ) → strip front t ≡ Some r → AllAscii front → IsUtf8 t → IsUtf8 r
strip_utf8 front t r e a h = strip_case front t r (begins front t) refl e a h

-- the last byte of what ends a comment, and what stands behind it
abbrev pub Ends : List ℕ → List ℕ → Type 0
Ends t r = (i : ℕ) × (i < length t) × (get_or t i 0 ≡ 62) × (drop (suc i) t ≡ r)

last_byte : (t : List ℕ) → begins (45 ∷ 45 ∷ 62 ∷ []) t ≡ true → (2 < length t) × (get_or t 2 0 ≡ 62)
last_byte [] e = absurd cc
last_byte (a ∷ []) e = let x = both_true (a == 45) false e in absurd cc
last_byte (a ∷ b ∷ []) e = let x = both_true (a == 45) ((b == 45) && false) e in let y = both_true (b == 45) false x.1 in absurd cc
last_byte (a ∷ b ∷ c ∷ cs) e =
    let x = both_true (a == 45) ((b == 45) && ((c == 62) && begins [] cs)) e in
    let y = both_true (b == 45) ((c == 62) && begins [] cs) x.1 in
    let z = both_true (c == 62) (begins [] cs) y.1 in
    (omega arith, grind (arith, nat_tests, z.0))

ends_case : (c : ℕ) (cs r : List ℕ) (b : Bool) → begins (45 ∷ 45 ∷ 62 ∷ []) (c ∷ cs) ≡ b → cond b (Some (drop 3 (c ∷ cs))) (after_comment cs) ≡ Some r → (after_comment cs ≡ Some r → Ends cs r) → Ends (c ∷ cs) r
ends_case c cs r true e some ih = let l = last_byte (c ∷ cs) e in let same : drop 3 (c ∷ cs) ≡ r = cc in (2, l.0, l.1, same)
ends_case c cs r false e some ih = let x = ih some in (suc x.0, omega (arith, x.1), x.2, x.3)

comment_ends : (t r : List ℕ) → after_comment t ≡ Some r → Ends t r
comment_ends [] r e = absurd cc
comment_ends (c ∷ cs) r e = ends_case c cs r (begins (45 ∷ 45 ∷ 62 ∷ []) (c ∷ cs)) refl e (comment_ends cs r)

pub comment_utf8 : (t r : List ℕ) → after_comment t ≡ Some r → IsUtf8 t → IsUtf8 r
comment_utf8 t r e h =
    let x = comment_ends t r e in
    let one : x.0 + 1 ≡ suc x.0 = omega arith in
    subst IsUtf8 (ap (λ n. drop n t) one ∙ x.3) (IsUtf8-drop t (x.0 + 1) h (IsCharBoundary-after_ascii t x.0 h x.1 (omega (arith, x.2))))

-- What stands behind an item is UTF-8, and so is a run.
abbrev pub IsUtf8Behind : Item → Type 0
IsUtf8Behind bad = Unit {0}
IsUtf8Behind (comment rest) = IsUtf8 rest
IsUtf8Behind (run front rest) = IsUtf8 front × IsUtf8 rest
IsUtf8Behind (open_tag tag rest) = IsUtf8 rest
IsUtf8Behind (close_tag name rest) = IsUtf8 rest

run_by : (b : Bool) (t : List ℕ) → IsUtf8 t → IsUtf8Behind (cond b bad (run (take (plain_len 60 t) t) (drop (plain_len 60 t) t)))
run_by true t h = tt
run_by false t h = run_utf8 t h

comment_item : (r : List ℕ) (o : Option (List ℕ)) → after_comment r ≡ o → IsUtf8 r → IsUtf8Behind (option_case o bad comment)
comment_item r None e h = tt
comment_item r (Some x) e h = comment_utf8 r x e h

close_item : (r : List ℕ) (o : Option (List ℕ × List ℕ)) → close_at r ≡ o → IsUtf8 r → IsUtf8Behind (option_case o bad (λ x. close_tag x.0 x.1))
close_item r None e h = tt
close_item r (Some x) e h = close_utf8 r x e h

tag_item : (r : List ℕ) (o : Option (Tag × List ℕ)) → tag_at r ≡ o → IsUtf8 r → IsUtf8Behind (option_case o bad (λ x. open_tag x.0 x.1))
tag_item r None e h = tt
tag_item r (Some x) e h = tag_utf8 r x e h

third : (t : List ℕ) (o : Option (List ℕ)) → byte_at 60 t ≡ o → IsUtf8 t → IsUtf8Behind (option_case o (run_at t) (λ rest. option_case (tag_at rest) bad (λ x. open_tag x.0 x.1)))
third t None e h = run_by (plain_len 60 t == 0) t h
third t (Some r) e h = tag_item r (tag_at r) refl (byte_utf8 60 t r e (omega arith) h)

second : (t : List ℕ) (o : Option (List ℕ)) → strip (60 ∷ 47 ∷ []) t ≡ o → IsUtf8 t → IsUtf8Behind (option_case o (option_case (byte_at 60 t) (run_at t) (λ rest. option_case (tag_at rest) bad (λ x. open_tag x.0 x.1))) (λ rest. option_case (close_at rest) bad (λ x. close_tag x.0 x.1)))
second t None e h = third t (byte_at 60 t) refl h
second t (Some r) e h = close_item r (close_at r) refl (strip_utf8 (60 ∷ 47 ∷ []) t r e (omega arith, (omega arith, tt)) h)

first : (t : List ℕ) (o : Option (List ℕ)) → strip (60 ∷ 33 ∷ 45 ∷ 45 ∷ []) t ≡ o → IsUtf8 t → IsUtf8Behind (option_case o (option_case (strip (60 ∷ 47 ∷ []) t) (option_case (byte_at 60 t) (run_at t) (λ rest. option_case (tag_at rest) bad (λ x. open_tag x.0 x.1))) (λ rest. option_case (close_at rest) bad (λ x. close_tag x.0 x.1))) (λ rest. option_case (after_comment rest) bad comment))
first t None e h = second t (strip (60 ∷ 47 ∷ []) t) refl h
first t (Some r) e h = comment_item r (after_comment r) refl (strip_utf8 (60 ∷ 33 ∷ 45 ∷ 45 ∷ []) t r e (omega arith, (omega arith, (omega arith, (omega arith, tt)))) h)

pub item_utf8 : (t : List ℕ) → IsUtf8 t → IsUtf8Behind (item_at t)
unfolding item_at
item_utf8 t h = first t (strip (60 ∷ 33 ∷ 45 ∷ 45 ∷ []) t) refl h

-- what stands in an element: each run of text is UTF-8
abbrev pub AllWhole : Forest → Type 0
AllWhole stop = Unit {0}
AllWhole (text raw more) = IsUtf8 raw × AllWhole more
AllWhole (element place tag inside more) = AllWhole inside × AllWhole more

abbrev pub ReadsWhole : ForestRead → Type 0
ReadsWhole (Ok x) = AllWhole x.0 × IsUtf8 x.1
ReadsWhole (Err e) = Unit {0}

run_read : (raw : List ℕ) (read : ForestRead) → IsUtf8 raw → ReadsWhole read → ReadsWhole (read >>= with_text raw)
run_read raw (Ok x) u h = ((u, h.0), h.1)
run_read raw (Err e) u h = tt

element_read : (place : ℕ) (tag : Tag) (inside : Forest) (read : ForestRead) → AllWhole inside → ReadsWhole read → ReadsWhole (read >>= with_element place tag inside)
element_read place tag inside (Ok x) u h = ((u, h.0), h.1)
element_read place tag inside (Err e) u h = tt

abbrev pub Keeps : (ℕ → List ℕ → List ℕ → ForestRead) → Type 0
Keeps more = (depth : ℕ) (name bytes : List ℕ) → IsUtf8 bytes → ReadsWhole (more depth name bytes)

pub inner_read : (more : ℕ → List ℕ → List ℕ → ForestRead) (depth : ℕ) (tag : Tag) (rest : List ℕ) (b : Bool) → Keeps more → IsUtf8 rest → ReadsWhole (cond b (Ok (stop, rest)) (more (suc depth) tag.name rest))
inner_read more depth tag rest true keeps h = (tt, h)
inner_read more depth tag rest false keeps h = keeps (suc depth) tag.name rest h

behind_read : (more : ℕ → List ℕ → List ℕ → ForestRead) (place depth : ℕ) (name : List ℕ) (tag : Tag) (read : ForestRead) → Keeps more → ReadsWhole read → ReadsWhole (read >>= λ x. more depth name x.1 >>= with_element place tag x.0)
behind_read more place depth name tag (Ok x) keeps h = element_read place tag x.0 (more depth name x.1) h.0 (keeps depth name x.1 h.1)
behind_read more place depth name tag (Err e) keeps h = tt

deep_read : (b : Bool) (read : ForestRead) → ReadsWhole read → ReadsWhole (cond b (Err Limit) read)
deep_read true read h = tt
deep_read false read h = h

last_read : (b : Bool) (place : ℕ) (rest : List ℕ) → IsUtf8 rest → ReadsWhole (cond b (Ok (stop, rest)) (Err (BadText place)))
last_read true place rest h = (tt, h)
last_read false place rest h = tt

step_read : (more : ℕ → List ℕ → List ℕ → ForestRead) (total depth : ℕ) (name bytes : List ℕ) (item : Item) → Keeps more → IsUtf8Behind item → ReadsWhole (nodes_step more total depth name bytes item)
step_read more total depth name bytes bad keeps h = tt
step_read more total depth name bytes (comment rest) keeps h = keeps depth name rest h
step_read more total depth name bytes (run raw rest) keeps h = run_read raw (more depth name rest) h.0 (keeps depth name rest h.1)
step_read more total depth name bytes (close_tag other rest) keeps h = last_read (is_equal other name) (total - length bytes) rest h
step_read more total depth name bytes (open_tag tag rest) keeps h = deep_read (nat_le 64 depth) _ (behind_read more (total - length bytes) depth name tag (inner_by more depth tag rest) keeps (inner_read more depth tag rest tag.empty keeps h))

pub nodes_whole : (fuel total : ℕ) → Keeps (λ d n r. nodes_by fuel total d n r)
nodes_whole zero total depth name bytes h = tt
nodes_whole (suc fuel) total depth name bytes h = step_read (λ d n r. nodes_by fuel total d n r) total depth name bytes (item_at bytes) (nodes_whole fuel total) (item_utf8 bytes h)

skips : (k : ℕ) (t : List ℕ) → decoded_from k t ≡ decoded_from 0 (drop k t)
skips zero t = refl
skips (suc k) [] = refl
skips (suc k) (c ∷ cs) = skips k cs

-- a byte that is plain text, and how many bytes behind it belong to it
abbrev pub IsPlainByte : List ℕ → ℕ × ℕ → Type 0
IsPlainByte cs x = (x.0 < 128) × IsUtf8 (drop x.1 cs)

entity_case : (front cs : List ℕ) (b : ℕ) (o : Option (ℕ × ℕ)) (x : ℕ × ℕ) (t : Bool) → begins front cs ≡ t → b < 128 → AllAscii front → IsUtf8 cs → (o ≡ Some x → IsPlainByte cs x) → cond t (Some (b, length front)) o ≡ Some x → IsPlainByte cs x
entity_case front cs b o x true e less a h more some = let same : (b, length front) ≡ x = cc in subst (IsPlainByte cs) same (less, begins_utf8 front cs e a h)
entity_case front cs b o x false e less a h more some = more some

entity_utf8 : (cs : List ℕ) (x : ℕ × ℕ) → entity_at cs ≡ Some x → IsUtf8 cs → IsPlainByte cs x
entity_utf8 cs x e h =
    entity_case (108 ∷ 116 ∷ 59 ∷ []) cs 60 _ x _ refl (omega arith) (omega arith, (omega arith, (omega arith, tt))) h
    (entity_case (103 ∷ 116 ∷ 59 ∷ []) cs 62 _ x _ refl (omega arith) (omega arith, (omega arith, (omega arith, tt))) h
    (entity_case (97 ∷ 109 ∷ 112 ∷ 59 ∷ []) cs 38 _ x _ refl (omega arith) (omega arith, (omega arith, (omega arith, (omega arith, tt)))) h
    (entity_case (113 ∷ 117 ∷ 111 ∷ 116 ∷ 59 ∷ []) cs 34 _ x _ refl (omega arith) (omega arith, (omega arith, (omega arith, (omega arith, (omega arith, tt))))) h
    (entity_case (97 ∷ 112 ∷ 111 ∷ 115 ∷ 59 ∷ []) cs 39 None x _ refl (omega arith) (omega arith, (omega arith, (omega arith, (omega arith, (omega arith, tt))))) h
    (λ none. absurd cc))))) e

and_case : (c : ℕ) (cs : List ℕ) (o : Option (ℕ × ℕ)) → entity_at cs ≡ o → c < 128 → IsUtf8 cs → IsPlainByte cs (option_case o (c, 0) (λ e. e))
and_case c cs None e less h = (less, h)
and_case c cs (Some x) e less h = entity_utf8 cs x e h

plain_case : (c : ℕ) (cs : List ℕ) (b : Bool) → c < 128 → IsUtf8 cs → IsPlainByte cs (cond b (option_case (entity_at cs) (c, 0) (λ e. e)) (c, 0))
plain_case c cs true less h = and_case c cs (entity_at cs) refl less h
plain_case c cs false less h = (less, h)

-- such bytes stay as they are
high_case : (c : ℕ) (cs : List ℕ) (b : Bool) → is_high c ≡ b → decoded_from 0 cs ≡ take (prefix_len is_high cs) cs ++ decoded_from 0 (drop (prefix_len is_high cs) cs) → decoded_from 0 (c ∷ cs) ≡ take (cond b (1 + prefix_len is_high cs) 0) (c ∷ cs) ++ decoded_from 0 (drop (cond b (1 + prefix_len is_high cs) 0) (c ∷ cs))
high_case c cs true e ih =
    let other : (c == 38) ≡ false = grind (arith, nat_tests, e) in
    let one : suc (prefix_len is_high cs) ≡ 1 + prefix_len is_high cs = omega arith in
    ap (λ b. (cond b (option_case (entity_at cs) (c, 0) (λ e. e)) (c, 0)).0 ∷ decoded_from (cond b (option_case (entity_at cs) (c, 0) (λ e. e)) (c, 0)).1 cs) other
    ∙ ap (λ x. c ∷ x) ih
    ∙ ap (λ n. take n (c ∷ cs) ++ decoded_from 0 (drop n (c ∷ cs))) one
high_case c cs false e ih = refl

high_stays : (t : List ℕ) → decoded_from 0 t ≡ take (prefix_len is_high t) t ++ decoded_from 0 (drop (prefix_len is_high t) t)
high_stays [] = refl
high_stays (c ∷ cs) = high_case c cs (is_high c) refl (high_stays cs)

-- all that is shorter is decoded to UTF-8
abbrev pub Decodes : ℕ → Type 0
Decodes n = (t : List ℕ) → length t ≤ n → IsUtf8 t → IsUtf8 (decoded_from 0 t)

decoded_case : (n c : ℕ) (cs : List ℕ) (b : Bool) → is_high c ≡ b → Decodes n → length cs ≤ n → IsUtf8 (c ∷ cs) → IsUtf8 (decoded_from 0 (c ∷ cs))
decoded_case n c cs true e ih le h =
    let m = prefix_len is_high (c ∷ cs) in
    let some : 1 + prefix_len is_high cs ≡ prefix_len is_high (c ∷ cs) = ap (λ b. cond b (1 + prefix_len is_high cs) 0) (sym e) in
    let at = high_boundary (c ∷ cs) in
    subst IsUtf8 (sym (high_stays (c ∷ cs))) (IsUtf8-append (take m (c ∷ cs)) _ (IsUtf8-take (c ∷ cs) m h at) (ih (drop m (c ∷ cs)) (omega (arith, le, some, length-drop (prefix_len is_high (c ∷ cs)) (c ∷ cs))) (IsUtf8-drop (c ∷ cs) m h at)))
decoded_case n c cs false e ih le h =
    let less : c < 128 = grind (arith, nat_tests, e) in
    let x = plain_case c cs (c == 38) less (tail_utf8 c cs h less) in
    cons_utf8 _ _ x.0 (subst IsUtf8 (sym (skips (plain_at c cs).1 cs)) (ih (drop (plain_at c cs).1 cs) (omega (arith, le, length-drop (plain_at c cs).1 cs)) x.1))

decoded_by : (n : ℕ) → Decodes n
decoded_by n [] le h = IsUtf8-nil
decoded_by zero (c ∷ cs) le h = absurd (omega (arith, le))
decoded_by (suc n) (c ∷ cs) le h = decoded_case n c cs (is_high c) refl (decoded_by n) (omega (arith, le)) h

-- the text directly in an element
pub text_utf8 : (f : Forest) → AllWhole f → IsUtf8 (text_of f)
text_utf8 stop h = IsUtf8-nil
text_utf8 (text raw more) h = IsUtf8-append (decoded_from 0 raw) (text_of more) (decoded_by (length raw) raw (omega arith) h.0) (text_utf8 more h.1)
text_utf8 (element place tag inside more) h = text_utf8 more h.1
