-- What a call of the reader makes of a piece.
use Rattle.std.proofs.Common.{◌≡◌, ◌∙◌, ap, sym, refl, ℕ, ◌+◌, ◌<◌, ◌≤◌, Bool, true, false, cond, ◌&&◌, List, [], ◌∷◌, ◌++◌, length, drop, nat_lt, nat_le, nat_eq, arith, length-append, Option, Some, None}
use Rattle.std.specs.Prelude.{IfSome}
use Rattle.std.specs.List.{list_all}
use Rattle.std.specs.Str.Lines.{lines, strip_carriage_return}
use Rattle.std.proofs.lemmas.Bool.{cond-true, cond-false, lt-ltb, le-ltb, leb-false, leb-true, ne_eqb}
use Rattle.std.proofs.lemmas.List.{append-nil, append_assoc, drop_all, nil_from_length}
use Rattle.std.proofs.lemmas.List.Folds.{list_all-append}
use Rattle.input_points.specs.declared.entry.Entry.{Entry}
use Rattle.input_points.specs.declared.entry.LineKind.{LineKind}
use Rattle.input_points.specs.declared.entry.LineKind.TheVariants.{Bad, TooMany}
use Rattle.input_points.specs.Lines.{is_in_line, ended_lines}
use Rattle.input_points.specs.Cuts.{IsLineIn}
use Rattle.input_points.specs.Points.{line_kind_of}
use Rattle.input_points.specs.Entries.{ends, entry_of, entries_from}
use Rattle.input_points.specs.Reading.{Reading, kept, behind, coming}
use Rattle.input_points.proofs.Lines.{lines_at, ended_at, lines_end, ended_end, first_behind, first_some, FirstLine, strip_length}

pub long_is_bad : (line : List ℕ) → 4096 < length line → line_kind_of line ≡ Bad
unfolding line_kind_of
long_is_bad line long = cond-true (nat_lt 4096 (length line)) Bad _ (lt-ltb 4096 (length line) long)

pub longer_is_bad : (held bytes : List ℕ) → nat_le (length held + length bytes) 4097 ≡ false → line_kind_of (strip_carriage_return (held ++ bytes)) ≡ Bad
longer_is_bad held bytes long = long_is_bad (strip_carriage_return (held ++ bytes)) (omega (arith, strip_length (held ++ bytes), length-append held bytes, leb-false (length held + length bytes) 4097 long))

-- the line with a number that isn't too great
known : (n : ℕ) (line : List ℕ) (kind : LineKind) → n ≤ 16777216 → kind ≡ line_kind_of line → entry_of n line ≡ record { line = n; kind = kind }
known n line kind few is = ap (λ (k : LineKind). record { line = n; kind = k }) (cond-false (nat_lt 16777216 n) TooMany (line_kind_of line) (le-ltb 16777216 n few) ∙ sym is)

-- what comes behind a line
comes_behind : (cut : List ℕ → List (List ℕ)) (n : ℕ) (kind : LineKind) (text : List ℕ) → cond (ends kind) [] (entries_from (n + 1) (cut text)) ≡ coming cut (behind n kind) text
unfolding coming
comes_behind cut n kind text = elim (ends kind) as (λ b. cond b [] (entries_from (n + 1) (cut text)) ≡ cond b [] (entries_from (cond b n (n + 1)) (cut text))) [ true ↦ refl | false ↦ refl ]

-- a line and what comes behind it
first_comes : (cut : List ℕ → List (List ℕ)) (n : ℕ) (line : List ℕ) (ls : List (List ℕ)) (kind : LineKind) (text : List ℕ) → n ≤ 16777216 → kind ≡ line_kind_of line → ls ≡ cut text → entries_from n (line ∷ ls) ≡ record { line = n; kind = kind } ∷ coming cut (behind n kind) text
first_comes cut n line ls kind text few is are =
    ap (λ (e : Entry). e ∷ cond (ends e.kind) [] (entries_from (n + 1) ls)) (known n line kind few is)
    ∙ ap (λ (x : List (List ℕ)). record { line = n; kind = kind } ∷ cond (ends kind) [] (entries_from (n + 1) x)) are
    ∙ ap (λ (es : List Entry). record { line = n; kind = kind } ∷ es) (comes_behind cut n kind text)

-- where the reading is over
over_none : (r : Reading) (text : List ℕ) → r.over ≡ true → coming lines r text ≡ []
unfolding coming
over_none r text over = ap (λ b. cond b [] (entries_from r.line (lines (r.held ++ text)))) over

-- where the reading goes on
going_on : (cut : List ℕ → List (List ℕ)) (r : Reading) (text : List ℕ) → r.over ≡ false → coming cut r text ≡ entries_from r.line (cut (r.held ++ text))
unfolding coming
going_on cut r text going = ap (λ b. cond b [] (entries_from r.line (cut (r.held ++ text)))) going

pub joined : (a b : List ℕ) → list_all is_in_line a ≡ true → list_all is_in_line b ≡ true → list_all is_in_line (a ++ b) ≡ true
joined a b p q = list_all-append is_in_line a b ∙ ap (λ x. x && list_all is_in_line b) p ∙ q

-- a line that ends in the piece
comes : (cut : List ℕ → List (List ℕ)) (at : (line more : List ℕ) → list_all is_in_line line ≡ true → cut (line ++ 10 ∷ more) ≡ strip_carriage_return line ∷ cut more) (r new : Reading) (piece front : List ℕ) (kind : LineKind) (e : Entry) (more : List ℕ) → r.over ≡ false → r.line ≤ 16777216 → list_all is_in_line r.held ≡ true → IsLineIn front piece → kind ≡ line_kind_of (strip_carriage_return (r.held ++ front)) → e ≡ record { line = r.line; kind = kind } → new ≡ behind r.line kind → coming cut r (piece ++ more) ≡ e ∷ coming cut new (drop (length front + 1) piece ++ more)
comes cut at r new piece front kind e more going few inside is_line says is_entry is_new =
    let rest : List ℕ = drop (length front + 1) piece in
    let apart : r.held ++ (piece ++ more) ≡ (r.held ++ front) ++ 10 ∷ (rest ++ more) =
    ap (λ (x : List ℕ). r.held ++ (x ++ more)) is_line.parts ∙ ap (λ (x : List ℕ). r.held ++ x) (append_assoc front (10 ∷ rest) more) ∙ sym (append_assoc r.held front (10 ∷ (rest ++ more))) in
    going_on cut r (piece ++ more) going
    ∙ ap (λ (x : List ℕ). entries_from r.line (cut x)) apart
    ∙ ap (entries_from r.line) (at (r.held ++ front) (rest ++ more) (joined r.held front inside is_line.inside))
    ∙ first_comes cut r.line (strip_carriage_return (r.held ++ front)) (cut (rest ++ more)) kind (rest ++ more) few says refl
    ∙ ap (λ (x : Entry). x ∷ coming cut (behind r.line kind) (rest ++ more)) (sym is_entry)
    ∙ ap (λ (x : Reading). e ∷ coming cut x (rest ++ more)) (sym is_new)

pub line_comes : (r new : Reading) (piece front : List ℕ) (kind : LineKind) (e : Entry) (more : List ℕ) → r.over ≡ false → r.line ≤ 16777216 → list_all is_in_line r.held ≡ true → IsLineIn front piece → kind ≡ line_kind_of (strip_carriage_return (r.held ++ front)) → e ≡ record { line = r.line; kind = kind } → new ≡ behind r.line kind → coming lines r (piece ++ more) ≡ e ∷ coming lines new (drop (length front + 1) piece ++ more)
line_comes r new piece front kind e more = comes lines lines_at r new piece front kind e more

pub ended_comes : (r new : Reading) (piece front : List ℕ) (kind : LineKind) (e : Entry) (more : List ℕ) → r.over ≡ false → r.line ≤ 16777216 → list_all is_in_line r.held ≡ true → IsLineIn front piece → kind ≡ line_kind_of (strip_carriage_return (r.held ++ front)) → e ≡ record { line = r.line; kind = kind } → new ≡ behind r.line kind → coming ended_lines r (piece ++ more) ≡ e ∷ coming ended_lines new (drop (length front + 1) piece ++ more)
ended_comes r new piece front kind e more = comes ended_lines ended_at r new piece front kind e more

-- a piece that is kept whole
pub kept_comes : (cut : List ℕ → List (List ℕ)) (r new : Reading) (piece more : List ℕ) → new ≡ kept r piece → coming cut r (piece ++ more) ≡ coming cut new (drop (length piece) piece ++ more)
unfolding coming
kept_comes cut r new piece more is =
    ap (λ (x : List ℕ). cond r.over [] (entries_from r.line (cut x))) (sym (append_assoc r.held piece more))
    ∙ ap (λ (x : List ℕ). coming cut (kept r piece) (x ++ more)) (sym (drop_all (length piece) piece (omega arith)))
    ∙ ap (λ (x : Reading). coming cut x (drop (length piece) piece ++ more)) (sym is)

-- a line that is too long, before its end is seen
pub long_comes : (r new : Reading) (piece : List ℕ) (e : Entry) (more text : List ℕ) → r.over ≡ false → r.line ≤ 16777216 → list_all is_in_line r.held ≡ true → list_all is_in_line piece ≡ true → 4097 < length r.held + length piece → e ≡ record { line = r.line; kind = Bad } → new ≡ behind r.line Bad → coming lines r (piece ++ more) ≡ e ∷ coming lines new text
long_comes r new piece e more text going few inside more_inside long is_entry is_new =
    let front : List ℕ = r.held ++ piece in
    let size : length front ≡ length r.held + length piece = length-append r.held piece in
    let f : FirstLine (length front) (front ++ more) = first_behind front more (joined r.held piece inside more_inside) (omega arith) in
    let bad : line_kind_of f.line ≡ Bad = long_is_bad f.line (omega (arith, f.long)) in
    going_on lines r (piece ++ more) going
    ∙ ap (λ (x : List ℕ). entries_from r.line (lines x)) (sym (append_assoc r.held piece more))
    ∙ ap (entries_from r.line) f.are
    ∙ ap (λ (x : Entry). x ∷ cond (ends x.kind) [] (entries_from (r.line + 1) f.more)) (known r.line f.line Bad few (sym bad))
    ∙ ap (λ (x : Entry). x ∷ []) (sym is_entry)
    ∙ ap (λ (es : List Entry). e ∷ es) (sym (over_none new text (ap (λ (x : Reading). x.over) is_new)))

-- where there is no room for one more line
pub past_comes : (r new : Reading) (piece : List ℕ) (e : Entry) (more text : List ℕ) → r.over ≡ false → 16777216 < r.line → 0 < length piece → e ≡ record { line = r.line; kind = TooMany } → new ≡ behind r.line TooMany → coming lines r (piece ++ more) ≡ e ∷ coming lines new text
past_comes r new piece e more text going past some is_entry is_new =
    let f : FirstLine 0 (r.held ++ (piece ++ more)) = first_some (r.held ++ (piece ++ more)) (omega (arith, length-append r.held (piece ++ more), length-append piece more)) in
    let one_more : entry_of r.line f.line ≡ record { line = r.line; kind = TooMany } = ap (λ (k : LineKind). record { line = r.line; kind = k }) (cond-true (nat_lt 16777216 r.line) TooMany (line_kind_of f.line) (lt-ltb 16777216 r.line past)) in
    going_on lines r (piece ++ more) going
    ∙ ap (entries_from r.line) f.are
    ∙ ap (λ (x : Entry). x ∷ cond (ends x.kind) [] (entries_from (r.line + 1) f.more)) one_more
    ∙ ap (λ (x : Entry). x ∷ []) (sym is_entry)
    ∙ ap (λ (es : List Entry). e ∷ es) (sym (over_none new text (ap (λ (x : Reading). x.over) is_new)))

-- behind the end of the reading nothing comes, and behind nothing the same
pub nothing_comes : (cut : List ℕ → List (List ℕ)) (r : Reading) (piece more : List ℕ) → r.over ≡ true → coming cut r (piece ++ more) ≡ coming cut r (drop (length piece) piece ++ more)
unfolding coming
nothing_comes cut r piece more over =
    ap (λ b. cond b [] (entries_from r.line (cut (r.held ++ (piece ++ more))))) over
    ∙ sym (ap (λ b. cond b [] (entries_from r.line (cut (r.held ++ (drop (length piece) piece ++ more))))) over)

pub over_nothing : (cut : List ℕ → List (List ℕ)) (r : Reading) (text : List ℕ) → r.over ≡ true → coming cut r text ≡ []
unfolding coming
over_nothing cut r text over = ap (λ b. cond b [] (entries_from r.line (cut (r.held ++ text)))) over

-- no line that has an end is kept
pub none_ended : (r : Reading) → list_all is_in_line r.held ≡ true → coming ended_lines r [] ≡ []
unfolding coming
none_ended r inside = elim r.over as (λ b. cond b [] (entries_from r.line (ended_lines (r.held ++ []))) ≡ []) [ true ↦ refl | false ↦ ap (entries_from r.line) (ended_end r.held inside) ]

alone : (b : Bool) (e : Entry) → e ∷ cond b [] [] ≡ e ∷ []
alone true e = refl
alone false e = refl

nothing : (b : Bool) → cond b (let none : List Entry = [] in none) [] ≡ []
nothing true = refl
nothing false = refl

-- at the end of the input
pub end_comes : (r : Reading) (kind : LineKind) (e : Entry) → r.over ≡ false → r.line ≤ 16777216 → list_all is_in_line r.held ≡ true → 0 < length r.held → kind ≡ line_kind_of r.held → e ≡ record { line = r.line; kind = kind } → coming lines r [] ≡ e ∷ []
end_comes r kind e going few inside some says is_entry =
    going_on lines r [] going
    ∙ ap (entries_from r.line) (lines_end r.held inside ∙ cond-false (nat_eq (length r.held) 0) [] (r.held ∷ []) (ne_eqb (length r.held) 0 (λ is. omega arith)))
    ∙ ap (λ (x : Entry). x ∷ cond (ends x.kind) [] []) (known r.line r.held kind few says ∙ sym is_entry)
    ∙ alone (ends e.kind) e

pub no_end_comes : (r : Reading) → length r.held ≡ 0 → coming lines r [] ≡ []
unfolding coming
no_end_comes r none = ap (λ (x : List ℕ). cond r.over [] (entries_from r.line (lines (x ++ [])))) (nil_from_length r.held none) ∙ nothing r.over

-- behind the last entry
pub last_over : (entry : Option Entry) (r : Reading) → IfSome entry (λ e. r.over ≡ ends e.kind) → IfSome entry (λ e. ends e.kind ≡ true → (more : List ℕ) → coming lines r more ≡ [])
last_over None r h = tt
last_over (Some e) r h = λ is more. over_nothing lines r more (h ∙ is)

-- what is kept where there is room
pub kept_few : (r new : Reading) (piece : List ℕ) → nat_le (length r.held + length piece) 4097 ≡ true → new ≡ kept r piece → length new.held ≤ 4097
kept_few r new piece fits is = omega (arith, ap (λ (x : Reading). length x.held) is, length-append r.held piece, leb-true (length r.held + length piece) 4097 fits)

-- no piece
pub kept_nothing : (r : Reading) (piece : List ℕ) → length piece ≡ 0 → r ≡ kept r piece
kept_nothing r piece none = ap (λ (x : List ℕ). record { line = r.line; held = x; over = r.over }) (sym (append-nil r.held) ∙ ap (λ (x : List ℕ). r.held ++ x) (sym (nil_from_length piece none)))
