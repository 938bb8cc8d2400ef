-- Texts that stand in a document as they are.
use Rattle.std.proofs.Common.{◌≡◌, ℕ, suc, Bool, true, false, cond, not, ◌||◌, ◌&&◌, List, [], ◌∷◌, ◌++◌, length, drop, take, Some, None, Ok, refl, sym, ap, ◌∙◌, arith, ◌==◌}
use Rattle.std.specs.List.{prefix_len, list_all}
use Rattle.std.specs.Cmp.Lexicographic.{pointwise}
use Rattle.std.proofs.Math.Seq.{drop-append_seam, take-append_seam}
use Rattle.std.proofs.lemmas.List.{take-append-drop}
use Rattle.std.proofs.lemmas.Bool.Decides.{nat_tests}
use Rattle.vrt_markup.specs.Items.{option_case, is_some, entity_at, is_name, plain_len, after_comment, close_at, run_at, tag_item, item_at, bad, comment, run, close_tag}
use Rattle.vrt_markup.specs.Keys.{is_plain}
use Rattle.vrt_markup.specs.Forest.{nodes, read_as, decoded, decoded_from}
use Rattle.vrt_markup.specs.Kept.{worded}
use Rattle.vrt_markup.proofs.EndTags.{and_both, all_front}
use Rattle.vrt_markup.proofs.Reading.{worded_run, worded_end}

is_false : (b : Bool) → not b ≡ true → b ≡ false
is_false false h = refl
is_false true h = absurd cc

-- no byte of it is a `<` or an `&`
no_front : (c : ℕ) → is_plain c ≡ true → (c == 60) ≡ false
no_front c h = is_false (c == 60) (and_both (not (c == 60)) (not (c == 38)) h).0

no_entity : (c : ℕ) → is_plain c ≡ true → (c == 38) ≡ false
no_entity c h = is_false (c == 38) (and_both (not (c == 60)) (not (c == 38)) h).1

plain_count : (w x : List ℕ) → list_all is_plain w ≡ true → plain_len 60 (w ++ 60 ∷ x) ≡ length w
plain_count [] x h = refl
plain_count (c ∷ cs) x h =
    let both = and_both (is_plain c) (list_all is_plain cs) h in
    let entity = (λ (b : Bool). b && not (is_some (entity_at (cs ++ 60 ∷ x)))) in
    ap (λ a. cond (a || (a || entity (c == 38))) 0 (suc (plain_len 60 (cs ++ 60 ∷ x)))) (no_front c both.0)
    ∙ ap (λ a. cond (entity a) 0 (suc (plain_len 60 (cs ++ 60 ∷ x)))) (no_entity c both.0)
    ∙ ap suc (plain_count cs x both.1)

decoded_same : (w : List ℕ) → list_all is_plain w ≡ true → decoded w ≡ w
decoded_same [] h = refl
decoded_same (c ∷ cs) h =
    let both = and_both (is_plain c) (list_all is_plain cs) h in
    ap (λ b. (cond b (option_case (entity_at cs) (c, 0) (λ e. e)) (c, 0)).0 ∷ decoded_from (cond b (option_case (entity_at cs) (c, 0) (λ e. e)) (c, 0)).1 cs) (no_entity c both.0)
    ∙ ap (λ x. c ∷ x) (decoded_same cs both.1)

-- a text that begins no tag is a run
front_run : (c : ℕ) (y : List ℕ) → (c == 60) ≡ false → item_at (c ∷ y) ≡ run_at (c ∷ y)
unfolding item_at
front_run c y e =
    ap (λ b. option_case (cond (b && pointwise (λ x y. x == y) (take 3 y) (33 ∷ 45 ∷ 45 ∷ [])) (Some (drop 4 (c ∷ y))) None) (option_case (cond (b && pointwise (λ x y. x == y) (take 1 y) (47 ∷ [])) (Some (drop 2 (c ∷ y))) None) (option_case (cond b (Some y) None) (run_at (c ∷ y)) tag_item) (λ rest. option_case (close_at rest) bad (λ t. close_tag t.0 t.1))) (λ rest. option_case (after_comment rest) bad comment)) e

plain_run : (c : ℕ) (cs x : List ℕ) → list_all is_plain (c ∷ cs) ≡ true → run (c ∷ cs) (60 ∷ x) ≡ item_at ((c ∷ cs) ++ 60 ∷ x)
plain_run c cs x h =
    let t = (c ∷ cs) ++ 60 ∷ x in
    let both = and_both (is_plain c) (list_all is_plain cs) h in
    let some : (suc (length cs) == 0) ≡ false = grind (arith, nat_tests) in
    sym (front_run c (cs ++ 60 ∷ x) (no_front c both.0)
    ∙ ap (λ k. cond (k == 0) bad (run (take k t) (drop k t))) (plain_count (c ∷ cs) x h)
    ∙ ap (λ b. cond b bad (run (take (length (c ∷ cs)) t) (drop (length (c ∷ cs)) t))) some
    ∙ ap (λ w. run w (drop (length (c ∷ cs)) t)) (take-append_seam (c ∷ cs) (60 ∷ x))
    ∙ ap (λ r. run (c ∷ cs) r) (drop-append_seam (c ∷ cs) (60 ∷ x)))

-- a text in front of the end tag
before_end : (T d : ℕ) (n r w : List ℕ) → is_name n ≡ true → list_all is_plain w ≡ true → Ok ((w, None), r) ≡ read_as (worded [] None) (nodes T d n (w ++ (60 ∷ 47 ∷ n ++ 62 ∷ r)))
before_end T d n r [] named h = sym (worded_end [] None T d n (60 ∷ 47 ∷ n ++ 62 ∷ r) r refl named)
before_end T d n r (c ∷ cs) named h =
    let u = 60 ∷ 47 ∷ n ++ 62 ∷ r in
    sym (worded_run [] None T d n ((c ∷ cs) ++ u) (c ∷ cs) u (plain_run c cs (47 ∷ n ++ 62 ∷ r) h)
    ∙ ap (λ x. read_as (worded x None) (nodes T d n u)) (decoded_same (c ∷ cs) h)
    ∙ worded_end (c ∷ cs) None T d n u r refl named)

pub lent : (T d : ℕ) (n t u r : List ℕ) → drop (prefix_len is_plain t) t ≡ 60 ∷ 47 ∷ n ++ 62 ∷ r → is_name n ≡ true → Ok ((take (prefix_len is_plain t) t, None), r) ≡ read_as (worded [] None) (nodes T d n t)
lent T d n t u r e named =
    let w = take (prefix_len is_plain t) t in
    before_end T d n r w named (all_front is_plain t)
    ∙ ap (λ x. read_as (worded [] None) (nodes T d n (w ++ x))) (sym e)
    ∙ ap (λ x. read_as (worded [] None) (nodes T d n x)) (take-append-drop (prefix_len is_plain t) t)
