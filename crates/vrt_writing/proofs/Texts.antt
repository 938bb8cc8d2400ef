-- In a document that is read, each element's text is UTF-8.
use Rattle.std.proofs.Common.{◌≡◌, ℕ, zero, suc, ◌+◌, ◌<◌, ◌≤◌, Bool, true, false, cond, ◌==◌, ◌&&◌, List, [], ◌∷◌, ◌++◌, length, drop, take, get_or, Option, Some, None, Result, Ok, Err, refl, sym, ap, subst, ◌∙◌, arith, IsUtf8, nat_lt, ◌-◌}
use Rattle.std.specs.Char.{encode_utf8}
use Rattle.std.specs.Str.{is_utf8}
use Rattle.std.specs.Str.Lossy.{utf8_valid_len, valid_len_up_to}
use Rattle.std.proofs.lemmas.List.{take_all}
use Rattle.std.proofs.lemmas.Str.{IsUtf8-drop, IsUtf8-nil, IsCharBoundary-after_ascii, IsUtf8-past_char, IsUtf8-from_is_utf8}
use Rattle.std.proofs.lemmas.Bool.Decides.{nat_tests}
use Rattle.vrt_markup.specs.Items.{strip, begins, option_case, Item, bad, comment, run, open_tag, close_tag, Tag, item_at}
use Rattle.vrt_markup.specs.Forest.{Forest, stop, text, element, nodes, inner, is_all_white, text_of}
use Rattle.vrt_markup.specs.Tree.{space_step, space_by, space, utf8_of, without_mark, after_declaration, declared_at, Root, root_item, root_at, end_at, Tree, markup_of, tree_of}
use Rattle.vrt_writing.specs.Texts.{AreTexts}
use Rattle.vrt_markup.specs.declared.fault.VrtFault.{VrtFault}
use Rattle.vrt_markup.specs.declared.fault.VrtFault.TheVariants.{BadText}
use Rattle.vrt_markup.proofs.Next.{bind_ok}
use Rattle.vrt_profile.proofs.Tables.{ok_same, cond_err}
use Rattle.vrt_writing.proofs.Whole.{both_true, strip_utf8, Ends, IsUtf8Behind, item_utf8, AllWhole, ReadsWhole, Keeps, inner_read, nodes_whole, text_utf8}

-- a file that is UTF-8
valid_le : (bytes : List ℕ) (n : ℕ) → valid_len_up_to bytes n ≤ n
valid_le bytes zero = omega arith
valid_le bytes (suc n) = le_case (is_utf8 (take (suc n) bytes)) n (valid_len_up_to bytes n) (valid_le bytes n)
  where
    le_case : (b : Bool) (n m : ℕ) → m ≤ n → cond b (suc n) m ≤ suc n
    le_case true n m le = omega arith
    le_case false n m le = omega arith

whole_case : (bytes : List ℕ) (n : ℕ) (b : Bool) → is_utf8 (take (suc n) bytes) ≡ b → suc n ≤ cond b (suc n) (valid_len_up_to bytes n) → is_utf8 (take (suc n) bytes) ≡ true
whole_case bytes n true e le = e
whole_case bytes n false e le = absurd (omega (arith, le, valid_le bytes n))

front_whole : (bytes : List ℕ) (n : ℕ) → n ≤ valid_len_up_to bytes n → IsUtf8 (take n bytes)
front_whole bytes zero le = IsUtf8-nil
front_whole bytes (suc n) le = IsUtf8-from_is_utf8 (take (suc n) bytes) (whole_case bytes n (is_utf8 (take (suc n) bytes)) refl le)

whole_file : (bytes : List ℕ) → length bytes ≤ utf8_valid_len bytes → IsUtf8 bytes
unfolding utf8_valid_len
whole_file bytes le = subst IsUtf8 (take_all (length bytes) bytes (omega arith)) (front_whole bytes (length bytes) le)

file_utf8 : (bytes valid : List ℕ) → utf8_of bytes ≡ Ok valid → IsUtf8 valid
file_utf8 bytes valid h =
    let c = cond_err (nat_lt (utf8_valid_len bytes) (length bytes)) (BadText (utf8_valid_len bytes)) (Ok bytes) valid h in
    let all : length bytes ≤ utf8_valid_len bytes = grind (arith, nat_tests, c.0) in
    subst IsUtf8 (ok_same bytes valid c.1) (whole_file bytes all)

-- the byte order mark
begins_is : (front t : List ℕ) → begins front t ≡ true → t ≡ front ++ drop (length front) t
begins_is [] t h = refl
begins_is (f ∷ fs) [] h = absurd cc
begins_is (f ∷ fs) (c ∷ cs) h =
    let p = both_true (c == f) (begins fs cs) h in
    let same : c ≡ f = grind (arith, nat_tests, p.0) in
    ap (λ (x : List ℕ). c ∷ x) (begins_is fs cs p.1) ∙ ap (λ x. x ∷ fs ++ drop (length fs) cs) same

mark_is : encode_utf8 65279 ≡ 239 ∷ 187 ∷ 191 ∷ []
unfolding encode_utf8
mark_is = refl

abbrev mark : List ℕ
mark = 239 ∷ 187 ∷ 191 ∷ []

mark_case : (bytes : List ℕ) (b : Bool) → begins mark bytes ≡ b → IsUtf8 bytes → IsUtf8 (option_case (cond b (Some (drop 3 bytes)) None) bytes (λ rest. rest))
mark_case bytes true e h = IsUtf8-past_char bytes (drop 3 bytes) 65279 h (begins_is mark bytes e ∙ ap (λ (x : List ℕ). x ++ drop 3 bytes) (sym mark_is))
mark_case bytes false e h = h

mark_utf8 : (bytes : List ℕ) → IsUtf8 bytes → IsUtf8 (without_mark bytes)
mark_utf8 bytes h = mark_case bytes (begins mark bytes) refl h

-- the declaration
last_of_two : (t : List ℕ) → begins (63 ∷ 62 ∷ []) t ≡ true → (1 < length t) × (get_or t 1 0 ≡ 62)
last_of_two [] e = absurd cc
last_of_two (a ∷ []) e = let x = both_true (a == 63) false e in absurd cc
last_of_two (a ∷ b ∷ cs) e =
    let x = both_true (a == 63) ((b == 62) && begins [] cs) e in
    let y = both_true (b == 62) (begins [] cs) x.1 in
    (omega arith, grind (arith, nat_tests, y.0))

ends_case : (c : ℕ) (cs r : List ℕ) (b : Bool) → begins (63 ∷ 62 ∷ []) (c ∷ cs) ≡ b → cond b (Some (drop 2 (c ∷ cs))) (after_declaration cs) ≡ Some r → (after_declaration cs ≡ Some r → Ends cs r) → Ends (c ∷ cs) r
ends_case c cs r true e some ih = let l = last_of_two (c ∷ cs) e in let same : drop 2 (c ∷ cs) ≡ r = cc in (1, l.0, l.1, same)
ends_case c cs r false e some ih = let x = ih some in (suc x.0, omega (arith, x.1), x.2, x.3)

declaration_ends : (t r : List ℕ) → after_declaration t ≡ Some r → Ends t r
declaration_ends [] r e = absurd cc
declaration_ends (c ∷ cs) r e = ends_case c cs r (begins (63 ∷ 62 ∷ []) (c ∷ cs)) refl e (declaration_ends cs r)

behind_ends : (t r : List ℕ) → Ends t r → IsUtf8 t → IsUtf8 r
behind_ends t r x h =
    let one : x.0 + 1 ≡ suc x.0 = omega arith in
    subst IsUtf8 (ap (λ n. drop n t) one ∙ x.3) (IsUtf8-drop t (x.0 + 1) h (IsCharBoundary-after_ascii t x.0 h x.1 (omega (arith, x.2))))

after_case : (place : ℕ) (t r : List ℕ) (o : Option (List ℕ)) → after_declaration t ≡ o → option_case o (Err (BadText place)) Ok ≡ Ok r → IsUtf8 t → IsUtf8 r
after_case place t r None e h u = absurd cc
after_case place t r (Some x) e h u = subst IsUtf8 (ok_same x r h) (behind_ends t x (declaration_ends t x e) u)

abbrev xml : List ℕ
xml = 60 ∷ 63 ∷ 120 ∷ 109 ∷ 108 ∷ []

declared_case : (place : ℕ) (bytes r : List ℕ) (o : Option (List ℕ)) → strip xml bytes ≡ o → option_case o (Ok bytes) (λ rest. option_case (after_declaration rest) (Err (BadText place)) Ok) ≡ Ok r → IsUtf8 bytes → IsUtf8 r
declared_case place bytes r None e h u = subst IsUtf8 (ok_same bytes r h) u
declared_case place bytes r (Some rest) e h u = after_case place rest r (after_declaration rest) refl h (strip_utf8 xml bytes rest e (omega arith, (omega arith, (omega arith, (omega arith, (omega arith, tt))))) u)

declared_utf8 : (total : ℕ) (bytes r : List ℕ) → declared_at total bytes ≡ Ok r → IsUtf8 bytes → IsUtf8 r
declared_utf8 total bytes r h u = declared_case (total - length bytes) bytes r (strip xml bytes) refl h u

-- outside the root
blank_case : (b : Bool) (place : ℕ) (more : Result (List ℕ) VrtFault) (r : List ℕ) → cond b more (Err (BadText place)) ≡ Ok r → more ≡ Ok r
blank_case true place more r h = h
blank_case false place more r h = absurd cc

step_utf8 : (more : List ℕ → Result (List ℕ) VrtFault) (total : ℕ) (bytes r : List ℕ) (item : Item) → IsUtf8Behind item → IsUtf8 bytes → ((x : List ℕ) → more x ≡ Ok r → IsUtf8 x → IsUtf8 r) → space_step more total bytes item ≡ Ok r → IsUtf8 r
step_utf8 more total bytes r bad w u ih h = subst IsUtf8 (ok_same bytes r h) u
step_utf8 more total bytes r (comment rest) w u ih h = ih rest h w
step_utf8 more total bytes r (run raw rest) w u ih h = ih rest (blank_case (is_all_white raw) (total - length bytes) (more rest) r h) w.1
step_utf8 more total bytes r (open_tag tag rest) w u ih h = subst IsUtf8 (ok_same bytes r h) u
step_utf8 more total bytes r (close_tag name rest) w u ih h = subst IsUtf8 (ok_same bytes r h) u

space_utf8 : (fuel total : ℕ) (bytes r : List ℕ) → space_by fuel total bytes ≡ Ok r → IsUtf8 bytes → IsUtf8 r
space_utf8 zero total bytes r h u = subst IsUtf8 (ok_same bytes r h) u
space_utf8 (suc fuel) total bytes r h u = step_utf8 (λ x. space_by fuel total x) total bytes r (item_at bytes) (item_utf8 bytes u) u (λ x e v. space_utf8 fuel total x r e v) h

-- what stands behind the root's tag
item_case : (total : ℕ) (bytes : List ℕ) (root : Root) (item : Item) → IsUtf8Behind item → root_item total bytes item ≡ Ok root → IsUtf8 root.rest
item_case total bytes root bad w h = absurd cc
item_case total bytes root (comment rest) w h = absurd cc
item_case total bytes root (run raw rest) w h = absurd cc
item_case total bytes root (open_tag tag rest) w h = subst (λ (x : Root). IsUtf8 x.rest) (ok_same (record { place = total - length bytes; tag = tag; rest = rest }) root h) w
item_case total bytes root (close_tag name rest) w h = absurd cc

root_utf8 : (total : ℕ) (bytes : List ℕ) (root : Root) → root_at total bytes ≡ Ok root → IsUtf8 bytes → IsUtf8 root.rest
unfolding root_at
root_utf8 total bytes root h u =
    let front = bind_ok (declared_at total (without_mark bytes)) _ root h in
    let start = bind_ok (space total front.0) _ root front.2 in
    let v = space_utf8 (length front.0) total front.0 start.0 start.1 (declared_utf8 total (without_mark bytes) front.0 front.1 (mark_utf8 bytes u)) in
    item_case total start.0 root (item_at start.0) (item_utf8 start.0 v) start.2

inner_whole : (total : ℕ) (tag : Tag) (rest : List ℕ) (x : Forest × List ℕ) → inner total 0 tag rest ≡ Ok x → IsUtf8 rest → AllWhole x.0
inner_whole total tag rest x h u =
    let keeps : Keeps (nodes total) = λ d n r v. nodes_whole (length r) total d n r v in
    (subst ReadsWhole h (inner_read (nodes total) 0 tag rest tag.empty keeps u)).0

markup_whole : (bytes : List ℕ) (t : Tree) → markup_of bytes ≡ Ok t → IsUtf8 bytes → AllWhole t.inside
unfolding markup_of
markup_whole bytes t h u =
    let root = bind_ok (root_at (length bytes) bytes) _ t h in
    let x = bind_ok (inner (length bytes) 0 root.0.tag root.0.rest) _ t root.2 in
    let end = bind_ok (end_at (length bytes) x.0.1) _ t x.2 in
    subst (λ (y : Tree). AllWhole y.inside) (ok_same (record { place = root.0.place; tag = root.0.tag; inside = x.0.0 }) t end.2)
    (inner_whole (length bytes) root.0.tag root.0.rest x.0 x.1 (root_utf8 (length bytes) bytes root.0 root.1 u))

tree_whole : (bytes : List ℕ) (t : Tree) → tree_of bytes ≡ Ok t → AllWhole t.inside
tree_whole bytes t h =
    let valid = bind_ok (utf8_of bytes) _ t h in
    markup_whole valid.0 t valid.2 (file_utf8 bytes valid.0 valid.1)

texts : (f : Forest) → AllWhole f → AreTexts f
texts stop h = tt
texts (text raw more) h = texts more h.1
texts (element place tag inside more) h = (text_utf8 inside h.0, texts inside h.0, texts more h.1)

pub root_text : (bytes : List ℕ) (t : Tree) → tree_of bytes ≡ Ok t → IsUtf8 (text_of t.inside)
root_text bytes t h = text_utf8 t.inside (tree_whole bytes t h)

pub inner_texts : (bytes : List ℕ) (t : Tree) → tree_of bytes ≡ Ok t → AreTexts t.inside
inner_texts bytes t h = texts t.inside (tree_whole bytes t h)
