-- Written markup is read part by part: what is known of an element after each piece that stands in it.
use Rattle.std.proofs.Common.{◌≡◌, ℕ, zero, suc, ◌-◌, ◌*◌, ◌<◌, Bool, true, false, List, ◌∷◌, ◌++◌, length, replicate, flat_map, Option, None, Result, Ok, refl, sym, ap, ◌∙◌, append_assoc}
use Rattle.vrt_markup.specs.Items.{plain_len, run, open_tag, item_at, Pair, Tag}
use Rattle.vrt_markup.specs.Forest.{Forest, stop, ForestRead, nodes, inner, read_as, is_all_white, text_of, child_of}
use Rattle.vrt_markup.specs.Kept.{seen}
use Rattle.vrt_markup.specs.Fronts.{stepped}
use Rattle.vrt_writing.specs.Spelled.{Markup, nothing, both, words, empty, group, markup_text, indent, pair_text, escaped}
use Rattle.vrt_writing.specs.Reread.{IsTagName, words_forest}
use Rattle.vrt_markup.specs.declared.fault.VrtFault.{VrtFault}
use Rattle.vrt_writing.proofs.Reread.{run_again, end_again, equal_self, words_again, words_text, words_child}
use Rattle.vrt_markup.proofs.Reading.{seen_run, seen_close, seen_open, read_then, read_same}
use Rattle.vrt_writing.proofs.Openings.{IsOpening, opening_item, ends_open, ends_empty, tag_of}

abbrev pub ElementStep : Type 0 → Type 0
ElementStep S = S → ℕ → Tag → Forest → Result S VrtFault

-- what is known of an element whose text so far is all white, where these bytes are left of it behind the end of a line
abbrev pub after : {S : Type 0} → ElementStep S → ℕ → ℕ → List ℕ → Result S VrtFault → List ℕ → Result ((Result S VrtFault × Bool) × List ℕ) VrtFault
after step total level name kept rest = read_as (seen step kept true) (nodes total level name (10 ∷ rest))

-- Markup in an element takes its parts from kept to now, whatever stands behind it.
pub record Takes {S : Type 0} (step : ElementStep S) (level : ℕ) (m : Markup) (kept now : Result S VrtFault) : Type 0 where
  pub on : (total : ℕ) (name rest : List ℕ) → after step total level name kept (markup_text level m ++ rest) ≡ after step total level name now rest

pub takes_nothing : {S : Type 0} (step : ElementStep S) (level : ℕ) (kept : Result S VrtFault) → Takes step level nothing kept kept
takes_nothing step level kept = record { on = λ total name rest. refl }

pub takes_both : {S : Type 0} (step : ElementStep S) (level : ℕ) (m n : Markup) (kept now then : Result S VrtFault) → Takes step level m kept now → Takes step level n now then → Takes step level (both m n) kept then
takes_both step level m n kept now then p q = record {
  on = λ total name rest.
      ap (after step total level name kept) (append_assoc (markup_text level m) (markup_text level n) rest)
      ∙ p.on total name (markup_text level n ++ rest)
      ∙ q.on total name rest;
}

-- the white space before a tag
spaces_plain : (k : ℕ) (x : List ℕ) → plain_len 60 (replicate k 32 ++ 60 ∷ x) ≡ length {A = ℕ} (replicate k 32)
spaces_plain zero x = refl
spaces_plain (suc k) x = ap suc (spaces_plain k x)

spaces_blank : (k : ℕ) → is_all_white (replicate k 32) ≡ true
spaces_blank zero = refl
spaces_blank (suc k) = spaces_blank k

line_item : (level : ℕ) (x : List ℕ) → item_at (10 ∷ indent level ++ 60 ∷ x) ≡ run (10 ∷ indent level) (60 ∷ x)
line_item level x = run_again 10 (indent level) x refl (ap suc (spaces_plain (2 * level) x))

-- before a tag nothing is known but that the text is all white
line_start : {S : Type 0} (step : ElementStep S) (total depth level : ℕ) (name : List ℕ) (kept : Result S VrtFault) (x : List ℕ) → after step total depth name kept (indent level ++ 60 ∷ x) ≡ read_as (seen step kept true) (nodes total depth name (60 ∷ x))
line_start step total depth level name kept x =
    seen_run step kept true total depth name (10 ∷ indent level ++ 60 ∷ x) (10 ∷ indent level) (60 ∷ x) (sym (line_item level x))
    ∙ ap (λ b. read_as (seen step kept b) (nodes total depth name (60 ∷ x))) (spaces_blank (2 * level))

-- an element in an element
line_element : {S : Type 0} (step : ElementStep S) (total level : ℕ) (name : List ℕ) (kept now : Result S VrtFault) (x : List ℕ) (tag : Tag) (r rest : List ℕ) → level < 64 → item_at (60 ∷ x) ≡ open_tag tag r → Ok (now, 10 ∷ rest) ≡ read_as (stepped step kept (total - length (60 ∷ x)) tag) (inner total level tag r) → after step total level name kept (indent level ++ 60 ∷ x) ≡ after step total level name now rest
line_element step total level name kept now x tag r rest less item inside =
    line_start step total level level name kept x
    ∙ seen_open step kept true total level name (60 ∷ x) tag r now (10 ∷ rest) (sym item) less inside

-- what a line is, where more stands behind it
words_line : (level : ℕ) (name : List ℕ) (ps : List Pair) (t rest : List ℕ) → markup_text level (words name ps t) ++ rest ≡ indent level ++ 60 ∷ (name ++ (flat_map pair_text ps ++ 62 ∷ (t ++ (60 ∷ 47 ∷ name ++ 62 ∷ 10 ∷ rest))))
words_line level name ps t rest = simp append_assoc

empty_line : (level : ℕ) (name : List ℕ) (ps : List Pair) (rest : List ℕ) → markup_text level (empty name ps) ++ rest ≡ indent level ++ 60 ∷ (name ++ (flat_map pair_text ps ++ 47 ∷ 62 ∷ 10 ∷ rest))
empty_line level name ps rest = simp append_assoc

pub group_lines : (level : ℕ) (name : List ℕ) (ps : List Pair) (m : Markup) (rest : List ℕ) → markup_text level (group name ps m) ++ rest ≡ indent level ++ 60 ∷ (name ++ (flat_map pair_text ps ++ 62 ∷ 10 ∷ (markup_text (suc level) m ++ (indent level ++ (60 ∷ 47 ∷ name ++ 62 ∷ 10 ∷ rest)))))
group_lines level name ps m rest = simp append_assoc

-- an element that holds a text
words_mean : {S : Type 0} (g : Forest → Result S VrtFault) (k : List ℕ × Option ℕ → Result S VrtFault) (t rest : List ℕ) → ((f : Forest) → k (text_of f, child_of f) ≡ g f) → (x : ForestRead) → x ≡ Ok (words_forest t, rest) → Ok (k (t, None), rest) ≡ read_as g x
words_mean g k t rest same x e =
    ap (λ w. Ok (k (w, None), rest)) (sym (words_text t))
    ∙ ap (λ c. Ok (k (text_of (words_forest t), c), rest)) (sym (words_child t))
    ∙ ap (λ v. Ok (v, rest)) (same (words_forest t))
    ∙ ap (read_as g) (sym e)

pub takes_words : {S : Type 0} (step : ElementStep S) (level : ℕ) (name : List ℕ) (ps : List Pair) (t : List ℕ) (kept : Result S VrtFault) (k : List ℕ × Option ℕ → Result S VrtFault) → level < 64 → IsOpening name ps → ((place : ℕ) (f : Forest) → k (text_of f, child_of f) ≡ stepped step kept place (tag_of name ps false) f) → Takes step level (words name ps (escaped t)) kept (k (t, None))
takes_words step level name ps t kept k less is same = record {
  on = λ total outer rest.
      let end : List ℕ = escaped t ++ (60 ∷ 47 ∷ name ++ 62 ∷ 10 ∷ rest) in
      let x : List ℕ = name ++ (flat_map pair_text ps ++ 62 ∷ end) in
      ap (after step total level outer kept) (words_line level name ps (escaped t) rest)
      ∙ line_element step total level outer kept (k (t, None)) x (tag_of name ps false) end rest less
      (opening_item name ps 62 end false end is refl (ends_open end))
      (words_mean (stepped step kept (total - length (60 ∷ x)) (tag_of name ps false)) k t (10 ∷ rest) (same (total - length (60 ∷ x))) (inner total level (tag_of name ps false) end) (words_again total (suc level) name t (10 ∷ rest) is.named));
}

-- an element of attributes
pub takes_empty : {S : Type 0} (step : ElementStep S) (level : ℕ) (name : List ℕ) (ps : List Pair) (kept now : Result S VrtFault) → level < 64 → IsOpening name ps → ((place : ℕ) → now ≡ stepped step kept place (tag_of name ps true) stop) → Takes step level (empty name ps) kept now
takes_empty step level name ps kept now less is same = record {
  on = λ total outer rest.
      let x : List ℕ = name ++ (flat_map pair_text ps ++ 47 ∷ 62 ∷ 10 ∷ rest) in
      ap (after step total level outer kept) (empty_line level name ps rest)
      ∙ line_element step total level outer kept now x (tag_of name ps true) (10 ∷ rest) rest less
      (opening_item name ps 47 (62 ∷ 10 ∷ rest) true (10 ∷ rest) is refl (ends_empty (10 ∷ rest)))
      (ap (λ v. Ok (v, 10 ∷ rest)) (same (total - length (60 ∷ x))));
}

-- an element that holds elements, up to its end tag
pub group_inside : {S : Type 0} (step : ElementStep S) (level : ℕ) (name : List ℕ) (m : Markup) (kept now : Result S VrtFault) (total : ℕ) (rest : List ℕ) → IsTagName name → Takes step (suc level) m kept now → Ok ((now, true), 10 ∷ rest) ≡ after step total (suc level) name kept (markup_text (suc level) m ++ (indent level ++ (60 ∷ 47 ∷ name ++ 62 ∷ 10 ∷ rest)))
group_inside step level name m kept now total rest is p =
    sym (p.on total name (indent level ++ (60 ∷ 47 ∷ name ++ 62 ∷ 10 ∷ rest))
    ∙ line_start step total (suc level) level name now (47 ∷ name ++ 62 ∷ 10 ∷ rest)
    ∙ seen_close step now true total (suc level) name (60 ∷ 47 ∷ name ++ 62 ∷ 10 ∷ rest) name (10 ∷ rest) (sym (end_again name (10 ∷ rest) is)) (equal_self name))

pub takes_group : {S R : Type 0} (step : ElementStep S) (under : ElementStep R) (level : ℕ) (name : List ℕ) (ps : List Pair) (m : Markup) (kept : Result S VrtFault) (first last : Result R VrtFault) (k : Result R VrtFault × Bool → Result S VrtFault) → level < 64 → IsOpening name ps → Takes under (suc level) m first last → ((place : ℕ) (f : Forest) → k (seen under first true f) ≡ stepped step kept place (tag_of name ps false) f) → Takes step level (group name ps m) kept (k (last, true))
takes_group step under level name ps m kept first last k less is p same = record {
  on = λ total outer rest.
      let end : List ℕ = 10 ∷ (markup_text (suc level) m ++ (indent level ++ (60 ∷ 47 ∷ name ++ 62 ∷ 10 ∷ rest))) in
      let x : List ℕ = name ++ (flat_map pair_text ps ++ 62 ∷ end) in
      let tag : Tag = tag_of name ps false in
      ap (after step total level outer kept) (group_lines level name ps m rest)
      ∙ line_element step total level outer kept (k (last, true)) x tag end rest less
      (opening_item name ps 62 end false end is refl (ends_open end))
      (read_then k (seen under first true) (last, true) (10 ∷ rest) (inner total level tag end) (group_inside under level name m first last total rest is.named p)
      ∙ read_same (λ f. k (seen under first true f)) (stepped step kept (total - length (60 ∷ x)) tag) (inner total level tag end) (same (total - length (60 ∷ x))));
}
