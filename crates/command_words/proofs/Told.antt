-- What the words so far said, as they are read from left to right.
use Rattle.std.proofs.Common.{◌≡◌, ◌∙◌, ap, sym, refl, subst, ℕ, zero, suc, ◌+◌, ◌-◌, ◌<◌, List, [], ◌∷◌, length, map, take, drop, get_or, Result, Ok, Err, Option, Some, arith}
use Rattle.std.proofs.lemmas.List.{drop_more}
use Rattle.lists_and_answers.specs.Answers.{◌>>=◌, Gives}
use Rattle.command_words.specs.declared.options.Tool.{Tool}
use Rattle.command_words.specs.declared.options.OptionWord.{OptionWord}
use Rattle.command_words.specs.declared.spoken.MosaicSaid.TheVariants as mosaic
use Rattle.command_words.specs.declared.spoken.Said.{Said}
use Rattle.command_words.specs.declared.spoken.Said.TheVariants as said
use Rattle.command_words.specs.declared.spoken.Spoken.{Spoken}
use Rattle.command_words.specs.declared.spoken.WordPlace.{WordPlace}
use Rattle.command_words.specs.declared.spoken.WordFault.{WordFault}
use Rattle.command_words.specs.Options.{option_of, value_count}
use Rattle.command_words.specs.Said.{option_said}
use Rattle.command_words.specs.Uses.{Use, uses_from, values_behind, said_by, behind_use, judged, spoken_of, spoken_in}
use Rattle.command_words.specs.Gathered.{with_said}
use Rattle.command_words.specs.Words.{IsMemory}

-- one use more
pub spoken_more : (at : ℕ) (s : Said) (uses : List (ℕ × Said)) → with_said at s (spoken_of uses) ≡ spoken_of ((at, s) ∷ uses)
unfolding spoken_of
spoken_more at said.Setting uses = refl
spoken_more at (said.Verification on) uses = refl
spoken_more at (said.Blocks blocks) uses = refl
spoken_more at (said.Workers workers) uses = refl
spoken_more at (said.Band band) uses = refl
spoken_more at said.ValuesOnly uses = refl
spoken_more at said.FilesOnly uses = refl
spoken_more at said.Geoloc uses = refl
spoken_more at (said.Format format) uses = refl
spoken_more at (said.Window view) uses = refl
spoken_more at (said.Places view) uses = refl
spoken_more at (said.OutSize w h) uses = refl
spoken_more at (said.Nodata word) uses = refl
spoken_more at (said.Kind kind) uses = refl
spoken_more at (said.Interleave layout) uses = refl
spoken_more at said.Quiet uses = refl
spoken_more at said.Inside uses = refl
spoken_more at said.Touching uses = refl
spoken_more at (said.Mosaic (mosaic.Resolution word)) uses = refl
spoken_more at (said.Mosaic (mosaic.PixelSize size)) uses = refl
spoken_more at (said.Mosaic (mosaic.Extent extent)) uses = refl
spoken_more at (said.Mosaic (mosaic.SourceNodata word)) uses = refl
spoken_more at (said.Mosaic (mosaic.Nodata word)) uses = refl
spoken_more at (said.Mosaic mosaic.Separate) uses = refl
spoken_more at (said.Mosaic mosaic.Strict) uses = refl
spoken_more at (said.List name) uses = refl
spoken_more at (said.Source name) uses = refl
spoken_more at (said.Output name) uses = refl
spoken_more at (said.Input name) uses = refl
spoken_more at (said.X x) uses = refl
spoken_more at (said.Y y) uses = refl
spoken_more at (said.Tile n) uses = refl

-- the use that a word begins
abbrev pub use_at : Tool → ℕ → List ℕ → List (List ℕ) → Use
use_at tool at word behind = record { at = at; word = word; option = option_of tool word; values = take (values_behind (option_of tool word)) behind }

-- an option, and its values among the words behind it
pub option_used : (tool : Tool) (place : WordPlace) (before : ℕ) (word : List ℕ) (behind values : List (List ℕ)) (o : OptionWord) (r : Result Said WordFault) → option_of tool word ≡ Some o → values ≡ take (value_count o) behind → Gives IsMemory (λ s. s) r (option_said o place values) → Gives IsMemory (λ s. s) r (said_by (option_of tool word) tool place.count before (use_at tool place.at word behind))
option_used tool place before word behind values o r named few is =
    let told : Gives IsMemory (λ s. s) r (option_said o place (take (value_count o) behind)) = subst (λ (vs : List (List ℕ)). Gives IsMemory (λ s. s) r (option_said o place vs)) few is in
    subst (λ (p : Option OptionWord). Gives IsMemory (λ s. s) r (said_by p tool place.count before (record { at = place.at; word = word; option = p; values = take (values_behind p) behind }))) (sym named) told

-- the word in a place of a list stands before those behind it
pub next_word : {X : Type 0} (f : X → List ℕ) (words : List X) (i : ℕ) (word d : X) → i < length words → word ≡ get_or words i d → map f (drop i words) ≡ f word ∷ map f (drop (i + 1) words)
next_word f words i word d less is = ap (map f) (drop_more words i d less) ∙ ap (λ x. f x ∷ map f (drop (i + 1) words)) (sym is)

-- what was said is that of uses, behind which those of the words that are left give what all words give
pub record Told (tool : Tool) (count before taken at : ℕ) (all : Spoken) (left words : List (List ℕ)) : Type 0 where
  pub uses : List (ℕ × Said)
  pub said_is : all ≡ spoken_of uses
  pub same : judged tool count before uses (uses_from tool at taken left) ≡ judged tool count 0 [] (uses_from tool 1 0 words)

pub told_none : (tool : Tool) (count : ℕ) (all : Spoken) (words : List (List ℕ)) → all ≡ spoken_of [] → Told tool count 0 0 1 all words words
told_none tool count all words is = record { uses = []; said_is = is; same = refl }

module _ (tool : Tool) (count before at : ℕ) (all : Spoken) (word : List ℕ) (left words : List (List ℕ)) where
  -- a value of the option before
  pub told_value : (taken : ℕ) → Told tool count before (suc taken) at all (word ∷ left) words → Told tool count before taken (at + 1) all left words
  told_value taken t = record { uses = t.uses; said_is = t.said_is; same = t.same }

  abbrev this : Use
  this = use_at tool at word left

  abbrev rest : Result Said WordFault → List (ℕ × Said) → Result (List (ℕ × Said)) WordFault
  rest r uses = r >>= (λ s. judged tool count (behind_use before (option_of tool word)) ((at, s) ∷ uses) (uses_from tool (at + 1) (values_behind (option_of tool word)) left))

  -- a use that fits
  pub told_more : (s : Said) (next : Spoken) → Told tool count before zero at all (word ∷ left) words → said_by (option_of tool word) tool count before this ≡ Ok s → next ≡ with_said at s all → Told tool count (behind_use before (option_of tool word)) (values_behind (option_of tool word)) (at + 1) next left words
  told_more s next t is more = record {
    uses = (at, s) ∷ t.uses;
    said_is = more ∙ ap (with_said at s) t.said_is ∙ spoken_more at s t.uses;
    same = ap (λ (r : Result Said WordFault). rest r t.uses) (sym is) ∙ t.same;
  }

  -- one that is refused
  pub told_refused : (f : WordFault) → Told tool count before zero at all (word ∷ left) words → said_by (option_of tool word) tool count before this ≡ Err f → spoken_in tool count words ≡ Err f
  unfolding spoken_in
  told_refused f t is =
      let all_refused : judged tool count 0 [] (uses_from tool 1 0 words) ≡ Err f = sym t.same ∙ ap (λ (r : Result Said WordFault). rest r t.uses) is in
      ap (λ (r : Result (List (ℕ × Said)) WordFault). r >>= (λ (uses : List (ℕ × Said)). Ok (spoken_of uses))) all_refused

  -- the same where so many values are left
  pub told_skipped : (taken now : ℕ) → 0 < taken → now ≡ taken - 1 → Told tool count before taken at all (word ∷ left) words → Told tool count before now (at + 1) all left words
  told_skipped zero now some is t = absurd (omega arith)
  told_skipped (suc taken) now some is t = let same : now ≡ taken = omega arith in subst (λ (k : ℕ). Told tool count before k (at + 1) all left words) (sym same) (told_value taken t)

-- the step of a word that is a value, and of one that begins a use that fits
module _ (tool : Tool) (count at : ℕ) (all : Spoken) (word : List ℕ) (here left words : List (List ℕ)) (next : here ≡ word ∷ left) where
  pub value_step : (before before_now taken taken_now : ℕ) (all_now : Spoken) → Told tool count before taken at all here words → 0 < taken → taken_now ≡ taken - 1 → before_now ≡ before → all_now ≡ all → Told tool count before_now taken_now (at + 1) all_now left words
  value_step before before_now taken taken_now all_now t some fewer before_is all_is =
      let from : Told tool count before taken at all (word ∷ left) words = subst (λ (ls : List (List ℕ)). Told tool count before taken at all ls words) next t in
      let to : Told tool count before taken_now (at + 1) all left words = told_skipped tool count before at all word left words taken taken_now some fewer from in
      subst (λ (b : ℕ). Told tool count b taken_now (at + 1) all_now left words) (sym before_is) (subst (λ (a : Spoken). Told tool count before taken_now (at + 1) a left words) (sym all_is) to)

  -- what the use says that a word with this text begins, before others
  abbrev said_at : ℕ → List ℕ → List (List ℕ) → Result Said WordFault
  said_at before w behind = said_by (option_of tool w) tool count before (use_at tool at w behind)

  as_read : (before : ℕ) (read : List ℕ) (behind : List (List ℕ)) (r : Result Said WordFault) → read ≡ word → behind ≡ left → said_at before read behind ≡ r → said_at before word left ≡ r
  as_read before read behind r read_is behind_is is = subst (λ (b : List (List ℕ)). said_at before word b ≡ r) behind_is (subst (λ (w : List ℕ). said_at before w behind ≡ r) read_is is)

  first : (before taken : ℕ) → Told tool count before taken at all here words → taken ≡ 0 → Told tool count before 0 at all (word ∷ left) words
  first before taken t none = subst (λ (k : ℕ). Told tool count before k at all (word ∷ left) words) none (subst (λ (ls : List (List ℕ)). Told tool count before taken at all ls words) next t)

  pub use_step : (before before_now taken taken_now : ℕ) (all_now : Spoken) (read : List ℕ) (behind : List (List ℕ)) (s : Said) (o : Option OptionWord) → Told tool count before taken at all here words → taken ≡ 0 → read ≡ word → behind ≡ left → said_at before read behind ≡ Ok s → all_now ≡ with_said at s all → o ≡ option_of tool word → before_now ≡ behind_use before o → taken_now ≡ values_behind o → Told tool count before_now taken_now (at + 1) all_now left words
  use_step before before_now taken taken_now all_now read behind s o t none read_is behind_is fits more named before_is taken_is =
      let is = as_read before read behind (Ok s) read_is behind_is fits in
      let to = told_more tool count before at all word left words s all_now (first before taken t none) is more in
      subst (λ (b : ℕ). Told tool count b taken_now (at + 1) all_now left words) (sym (before_is ∙ ap (behind_use before) named)) (subst (λ (k : ℕ). Told tool count (behind_use before (option_of tool word)) k (at + 1) all_now left words) (sym (taken_is ∙ ap values_behind named)) to)

  pub use_refused : (before taken : ℕ) (read : List ℕ) (behind : List (List ℕ)) (f : WordFault) → Told tool count before taken at all here words → taken ≡ 0 → read ≡ word → behind ≡ left → said_at before read behind ≡ Err f → spoken_in tool count words ≡ Err f
  use_refused before taken read behind f t none read_is behind_is fails =
      told_refused tool count before at all word left words f (first before taken t none) (as_read before read behind (Err f) read_is behind_is fails)

-- all words were read
pub told_all : (tool : Tool) (count before taken at : ℕ) (all : Spoken) (words : List (List ℕ)) → Told tool count before taken at all [] words → spoken_in tool count words ≡ Ok all
unfolding spoken_in
told_all tool count before taken at all words t =
    ap (λ (r : Result (List (ℕ × Said)) WordFault). r >>= (λ (uses : List (ℕ × Said)). Ok (spoken_of uses))) (sym t.same)
    ∙ ap (λ (s : Spoken). Ok s) (sym t.said_is)
