-- Tags of a name that is known.
use Rattle.std.proofs.Common.{◌≡◌, ℕ, suc, ◌+◌, Bool, true, false, cond, ◌||◌, ◌&&◌, List, [], ◌∷◌, ◌++◌, length, drop, take, Some, None, refl, sym, ap, ◌∙◌, arith, ◌==◌, nat_le}
use Rattle.std.specs.List.{prefix_len, list_all}
use Rattle.std.specs.Cmp.Lexicographic.{same_text}
use Rattle.std.proofs.Math.Seq.{drop-append_seam, take-append_seam}
use Rattle.std.proofs.lemmas.List.{take-append-drop}
use Rattle.std.proofs.lemmas.Bool.Decides.{nat_tests}
use Rattle.lists_and_answers.specs.Options.{◌>>=◌}
use Rattle.vrt_markup.specs.Items.{option_case, is_equal, is_first, is_later, has_first, is_name, name_at, byte_at, begins, strip, trim_front, close_at, item_at, bad, close_tag}

guard : {A : Type 0} (b : Bool) (u y : A) → Some y ≡ cond b (Some u) None → (b ≡ true) × (y ≡ u)
guard true u y h = (refl, cc)
guard false u y h = absurd cc

pub and_both : (a b : Bool) → (a && b) ≡ true → (a ≡ true) × (b ≡ true)
and_both true true h = (refl, refl)
and_both true false h = absurd cc
and_both false b h = absurd cc

-- a text is what it begins with and what stands behind that
strip_whole : (front t r : List ℕ) → Some r ≡ strip front t → t ≡ front ++ r
strip_whole front t r h =
    let both = guard (begins front t) (drop (length front) t) r h in
    sym (take-append-drop (length front) t)
    ∙ ap (λ x. x ++ drop (length front) t) (same_text (take (length front) t) front (sym both.0))
    ∙ ap (λ x. front ++ x) (sym both.1)

pub byte_whole : (b : ℕ) (t r : List ℕ) → Some r ≡ byte_at b t → t ≡ b ∷ r
byte_whole b [] r h = absurd cc
byte_whole b (c ∷ cs) r h =
    let both = guard (c == b) cs r h in
    let same : c ≡ b = grind (arith, nat_tests, both.0) in
    ap (λ x. x ∷ cs) same ∙ ap (λ x. b ∷ x) (sym both.1)

pub named_whole : (t n b r : List ℕ) → Some b ≡ strip n t → Some r ≡ byte_at 62 b → t ≡ n ++ 62 ∷ r
named_whole t n b r name end = strip_whole n t b name ∙ ap (λ x. n ++ x) (byte_whole 62 b r end)

pub end_whole : (t n a r : List ℕ) → Some a ≡ strip (60 ∷ 47 ∷ []) t → a ≡ n ++ 62 ∷ r → t ≡ 60 ∷ 47 ∷ n ++ 62 ∷ r
end_whole t n a r front name = strip_whole (60 ∷ 47 ∷ []) t a front ∙ ap (λ x. 60 ∷ 47 ∷ x) name

pub start_whole : (t n a r : List ℕ) → Some a ≡ byte_at 60 t → a ≡ n ++ 62 ∷ r → t ≡ 60 ∷ n ++ 62 ∷ r
start_whole t n a r front name = byte_whole 60 t a front ∙ ap (λ x. 60 ∷ x) name

one_more : (n : ℕ) → 1 + n ≡ suc n
one_more n = omega arith

-- the name that a text begins with is one
pub all_front : (p : ℕ → Bool) (t : List ℕ) → list_all p (take (prefix_len p t) t) ≡ true
all_front p [] = refl
all_front p (c ∷ cs) = by_case (p c) refl (all_front p cs)
  where
    by_case : (b : Bool) → p c ≡ b → list_all p (take (prefix_len p cs) cs) ≡ true → list_all p (take (cond b (1 + prefix_len p cs) 0) (c ∷ cs)) ≡ true
    by_case true e all = ap (λ k. list_all p (take k (c ∷ cs))) (one_more (prefix_len p cs)) ∙ ap (λ b. b && list_all p (take (prefix_len p cs) cs)) e ∙ all
    by_case false e all = refl

first_later : (c : ℕ) → is_first c ≡ true → is_later c ≡ true
first_later c h = ap (λ b. b || (nat_le 48 c && nat_le c 58) || (c == 45) || (c == 46)) h

front_named : (t : List ℕ) → has_first t ≡ true → is_name (take (prefix_len is_later t) t) ≡ true
front_named [] h = absurd cc
front_named (c ∷ cs) h =
    ap (λ b. has_first (take (cond b (1 + prefix_len is_later cs) 0) (c ∷ cs)) && list_all is_later (take (prefix_len is_later (c ∷ cs)) (c ∷ cs))) (first_later c h)
    ∙ ap (λ k. has_first (take k (c ∷ cs)) && list_all is_later (take (prefix_len is_later (c ∷ cs)) (c ∷ cs))) (one_more (prefix_len is_later cs))
    ∙ ap (λ b. b && list_all is_later (take (prefix_len is_later (c ∷ cs)) (c ∷ cs))) h
    ∙ all_front is_later (c ∷ cs)

pub name_front : (t n : List ℕ) (k : ℕ) → has_first t ≡ true → k ≡ prefix_len is_later t → n ≡ take k t → is_name n ≡ true
name_front t n k first count front = ap is_name (front ∙ ap (λ k. take k t) count) ∙ front_named t first

-- a name ends before a `>`
all_later : (n r : List ℕ) → list_all is_later n ≡ true → prefix_len is_later (n ++ 62 ∷ r) ≡ length n
all_later [] r h = refl
all_later (c ∷ cs) r h =
    let both = and_both (is_later c) (list_all is_later cs) h in
    let later = all_later cs r both.1 in
    ap (λ b. cond b (1 + prefix_len is_later (cs ++ 62 ∷ r)) 0) both.0 ∙ omega (arith, later)

pub name_whole : (n r : List ℕ) → is_name n ≡ true → name_at (n ++ 62 ∷ r) ≡ Some (n, 62 ∷ r)
name_whole [] r h = absurd cc
name_whole (c ∷ cs) r h =
    let t = (c ∷ cs) ++ 62 ∷ r in
    let both = and_both (is_first c) (list_all is_later (c ∷ cs)) h in
    ap (λ b. cond b (Some (take (prefix_len is_later t) t, drop (prefix_len is_later t) t)) None) both.0
    ∙ ap (λ k. Some (take k t, drop k t)) (all_later (c ∷ cs) r both.1)
    ∙ ap (λ x. Some (x, drop (length (c ∷ cs)) t)) (take-append_seam (c ∷ cs) (62 ∷ r))
    ∙ ap (λ x. Some (c ∷ cs, x)) (drop-append_seam (c ∷ cs) (62 ∷ r))

close_whole : (n r : List ℕ) → is_name n ≡ true → close_at (n ++ 62 ∷ r) ≡ Some (n, r)
unfolding close_at
close_whole n r h = ap (λ o. o >>= λ name. byte_at 62 (trim_front name.1) >>= λ end. Some (name.0, end)) (name_whole n r h)

-- the item that an end tag without white space is
pub end_item : (t n r : List ℕ) → t ≡ 60 ∷ 47 ∷ n ++ 62 ∷ r → is_name n ≡ true → close_tag n r ≡ item_at t
unfolding item_at
end_item t n r e h = sym (ap item_at e ∙ ap (λ o. option_case o bad (λ x. close_tag x.0 x.1)) (close_whole n r h))

pub equal_itself : (n : List ℕ) → is_equal n n ≡ true
equal_itself [] = refl
equal_itself (c ∷ cs) =
    let same : (c == c) ≡ true = grind (arith, nat_tests) in
    ap (λ b. b && is_equal cs cs) same ∙ equal_itself cs
