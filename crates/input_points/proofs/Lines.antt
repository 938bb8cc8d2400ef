-- The lines of a text that is known in parts.
use Rattle.std.proofs.Common.{◌≡◌, ◌∙◌, ap, sym, refl, ℕ, ◌+◌, ◌-◌, ◌<◌, ◌≤◌, true, false, cond, ◌&&◌, List, [], ◌∷◌, ◌++◌, length, take, drop, get_or, arith, length-append, ⊎_elim}
use Rattle.std.specs.Prelude.{not, ◌==◌, slice_index}
use Rattle.std.specs.List.{slice_split, onto_first, list_all, prefix_len, AllPass}
use Rattle.std.specs.Str.Lines.{lines, lines_of_parts, strip_carriage_return}
use Rattle.std.proofs.lemmas.List.{append-nil, length-take-le, length-drop, get_or-take, take-append-drop, drop_more}
use Rattle.std.proofs.lemmas.List.Sums.{prefix_len_passes, prefix_len_stops, list_all-from_AllPass}
use Rattle.std.proofs.lemmas.List.Splits.{slice_split-cons_no}
use Rattle.std.proofs.lemmas.Bool.{not-true, not-false, eqb-true, ne_eqb, cases_Bool, and_parts}
use Rattle.input_points.specs.Lines.{is_in_line, lines_but_last, ended_lines}
use Rattle.input_points.specs.Cuts.{IsLineIn}

abbrev pub parts : List ℕ → List (List ℕ)
parts text = slice_split (λ c. c == 10) text

-- a text in front of the first part
abbrev pub onto : List ℕ → List (List ℕ) → List (List ℕ)
onto front [] = front ∷ []
onto front (part ∷ more) = (front ++ part) ∷ more

-- there is a first part
onto_none : (text : List ℕ) → parts text ≡ onto [] (parts text)
onto_none [] = refl
onto_none (c ∷ cs) = elim (c == 10) as (λ b. cond b ([] ∷ parts cs) (onto_first c (parts cs)) ≡ onto [] (cond b ([] ∷ parts cs) (onto_first c (parts cs)))) [
  | true ↦ refl
  | false ↦ elim (parts cs) as (λ p. onto_first c p ≡ onto [] (onto_first c p)) [ [] ↦ refl | p ∷ ps ↦ refl ]
]

onto_both : (c : ℕ) (front : List ℕ) (ps : List (List ℕ)) → onto_first c (onto front ps) ≡ onto (c ∷ front) ps
onto_both c front [] = refl
onto_both c front (p ∷ ps) = refl

-- a text without a line feed stands in front of the first part of what follows
pub parts_behind : (front more : List ℕ) → list_all is_in_line front ≡ true → parts (front ++ more) ≡ onto front (parts more)
parts_behind [] more h = onto_none more
parts_behind (c ∷ cs) more h =
    slice_split-cons_no (λ c. c == 10) c (cs ++ more) (not-true (c == 10) (and_parts (is_in_line c) (list_all is_in_line cs) h).0)
    ∙ ap (onto_first c) (parts_behind cs more (and_parts (is_in_line c) (list_all is_in_line cs) h).1)
    ∙ onto_both c cs (parts more)

first_line : (line : List ℕ) (ps : List (List ℕ)) → lines_of_parts (line ∷ onto [] ps) ≡ strip_carriage_return line ∷ lines_of_parts (onto [] ps)
first_line line [] = refl
first_line line (p ∷ ps) = refl

first_ended : (line : List ℕ) (ps : List (List ℕ)) → lines_but_last (line ∷ onto [] ps) ≡ strip_carriage_return line ∷ lines_but_last (onto [] ps)
first_ended line [] = refl
first_ended line (p ∷ ps) = refl

parts_at : (line more : List ℕ) → list_all is_in_line line ≡ true → parts (line ++ 10 ∷ more) ≡ line ∷ onto [] (parts more)
parts_at line more h = parts_behind line (10 ∷ more) h ∙ ap (λ (x : List ℕ). x ∷ parts more) (append-nil line) ∙ ap (λ (x : List (List ℕ)). line ∷ x) (onto_none more)

-- a line with its end in front
pub lines_at : (line more : List ℕ) → list_all is_in_line line ≡ true → lines (line ++ 10 ∷ more) ≡ strip_carriage_return line ∷ lines more
lines_at line more h = ap lines_of_parts (parts_at line more h) ∙ first_line line (parts more) ∙ ap (λ (x : List (List ℕ)). strip_carriage_return line ∷ lines_of_parts x) (sym (onto_none more))

pub ended_at : (line more : List ℕ) → list_all is_in_line line ≡ true → ended_lines (line ++ 10 ∷ more) ≡ strip_carriage_return line ∷ ended_lines more
ended_at line more h = ap lines_but_last (parts_at line more h) ∙ first_ended line (parts more) ∙ ap (λ (x : List (List ℕ)). strip_carriage_return line ∷ lines_but_last x) (sym (onto_none more))

-- nothing but a line without an end
pub lines_end : (line : List ℕ) → list_all is_in_line line ≡ true → lines (line ++ []) ≡ cond (length line == 0) [] (line ∷ [])
lines_end line h = ap lines_of_parts (parts_behind line [] h) ∙ ap (λ (x : List ℕ). cond (length x == 0) [] (x ∷ [])) (append-nil line)

pub ended_end : (line : List ℕ) → list_all is_in_line line ≡ true → ended_lines (line ++ []) ≡ []
ended_end line h = ap lines_but_last (parts_behind line [] h)

-- a line loses at most one byte
pub strip_length : (line : List ℕ) → length line ≤ length (strip_carriage_return line) + 1
strip_length line = elim (slice_index line (length line - 1) == 13) as (λ b. length line ≤ length (cond b (take (length line - 1) line) line) + 1) [
  | true ↦ omega (arith, length-take-le (length line - 1) line (omega arith))
  | false ↦ omega arith
]

one_line : (c : ℕ) (cs : List ℕ) → lines_of_parts ((c ∷ cs) ∷ []) ≡ (c ∷ cs) ∷ []
one_line c cs = ap (λ b. cond b [] ((c ∷ cs) ∷ [])) (ne_eqb (length (c ∷ cs)) 0 (λ e. omega arith))

-- the first line of a text that begins with so many bytes and no line feed
pub record FirstLine (n : ℕ) (text : List ℕ) : Type 0 where
  pub line : List ℕ
  pub more : List (List ℕ)
  pub are : lines text ≡ line ∷ more
  pub long : n ≤ length line + 1

first_of : (front : List ℕ) (ps : List (List ℕ)) → 0 < length front → (line : List ℕ) × (more : List (List ℕ)) × (lines_of_parts (onto front ps) ≡ line ∷ more) × (length front ≤ length line + 1)
first_of [] ps some = absurd (omega arith)
first_of (c ∷ cs) [] some = (c ∷ cs, [], one_line c cs, omega arith)
first_of (c ∷ cs) (p ∷ []) some = ((c ∷ cs) ++ p, [], one_line c (cs ++ p), omega (arith, length-append (c ∷ cs) p))
first_of (c ∷ cs) (p ∷ (q ∷ ps)) some = (strip_carriage_return ((c ∷ cs) ++ p), lines_of_parts (q ∷ ps), refl, omega (arith, length-append (c ∷ cs) p, strip_length ((c ∷ cs) ++ p)))

pub first_behind : (front more : List ℕ) → list_all is_in_line front ≡ true → 0 < length front → FirstLine (length front) (front ++ more)
first_behind front more h some =
    let f : (line : List ℕ) × (rest : List (List ℕ)) × (lines_of_parts (onto front (parts more)) ≡ line ∷ rest) × (length front ≤ length line + 1) = first_of front (parts more) some in
    record { line = f.0; more = f.1; are = ap lines_of_parts (parts_behind front more h) ∙ f.2; long = f.3 }

-- a text that isn't empty has a first line
pub first_some : (text : List ℕ) → 0 < length text → FirstLine 0 text
first_some [] some = absurd (omega arith)
first_some (c ∷ cs) some =
    ⊎_elim
    (λ (is : (c == 10) ≡ true).
    let e : lines (c ∷ cs) ≡ strip_carriage_return [] ∷ lines cs =
    ap (λ b. lines_of_parts (cond b ([] ∷ parts cs) (onto_first c (parts cs)))) is ∙ ap (λ (x : List (List ℕ)). lines_of_parts ([] ∷ x)) (onto_none cs) ∙ first_line [] (parts cs) ∙ ap (λ (x : List (List ℕ)). strip_carriage_return [] ∷ lines_of_parts x) (sym (onto_none cs)) in
    record { line = strip_carriage_return []; more = lines cs; are = e; long = omega arith })
    (λ (no : (c == 10) ≡ false).
    let f : FirstLine 1 (c ∷ cs) = first_behind (c ∷ []) cs (ap (λ b. not b && true) no) (omega arith) in
    record { line = f.line; more = f.more; are = f.are; long = omega arith })
    (cases_Bool (c == 10))

-- the bytes that were counted
pub all_inside : (text : List ℕ) (n : ℕ) → n ≡ prefix_len is_in_line text → length text ≤ n → list_all is_in_line text ≡ true
all_inside text n is all =
    list_all-from_AllPass is_in_line text (λ k d less. prefix_len_passes is_in_line text k d (omega arith))

pub line_in : (text line rest : List ℕ) (n : ℕ) → n ≡ prefix_len is_in_line text → line ≡ take n text → rest ≡ drop n text → 0 < length rest → IsLineIn line text
line_in text line rest n count front back some =
    let less : n < length text = omega (arith, length-drop n text, ap length back) in
    let len : length line ≡ n = ap length front ∙ length-take-le n text (omega arith) in
    let feed : get_or text n 0 ≡ 10 = eqb-true (get_or text n 0) 10 (not-false (get_or text n 0 == 10) (ap (λ (k : ℕ). is_in_line (get_or text k 0)) count ∙ prefix_len_stops is_in_line text 0 (omega arith))) in
    let ahead : AllPass is_in_line (take n text) = λ k d lower. ap is_in_line (get_or-take n text k d (omega (arith, length-take-le n text (omega arith)))) ∙ prefix_len_passes is_in_line text k d (omega (arith, length-take-le n text (omega arith))) in
    record {
      inside = ap (list_all is_in_line) front ∙ list_all-from_AllPass is_in_line (take n text) ahead;
      parts = sym (take-append-drop n text) ∙ ap (λ (x : List ℕ). take n text ++ x) (drop_more text n 0 less ∙ ap (λ (x : ℕ). x ∷ drop (n + 1) text) feed) ∙ ap (λ (x : List ℕ). x ++ 10 ∷ drop (n + 1) text) (sym front) ∙ ap (λ (k : ℕ). line ++ 10 ∷ drop (k + 1) text) (sym len);
      within = omega arith;
    }
