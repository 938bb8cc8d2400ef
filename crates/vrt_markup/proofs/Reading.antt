-- What an element means after the item in front, for any meaning of what is left.
use Rattle.std.proofs.Common.{◌≡◌, ℕ, ◌-◌, ◌<◌, ◌≤◌, Bool, true, false, cond, ◌&&◌, List, ◌∷◌, ◌++◌, length, Option, Some, None, Result, Ok, Err, refl, sym, ap, subst, ◌∙◌, append_assoc}
use Rattle.std.proofs.lemmas.List.{append-nil}
use Rattle.vrt_markup.specs.Items.{item_at, bad, comment, run, open_tag, close_tag, Tag, is_equal, is_name}
use Rattle.lists_and_answers.specs.Answers.{◌>>=◌}
use Rattle.vrt_markup.specs.Forest.{Forest, stop, text, element, ForestRead, with_text, with_element, nodes, inner, read_as, over, all_white, is_all_white, text_of, child_of, decoded}
use Rattle.vrt_markup.specs.Views.{past}
use Rattle.vrt_markup.specs.Kept.{seen, worded, first_child, Fails, Gives}
use Rattle.vrt_markup.specs.Fronts.{stepped}
use Rattle.vrt_markup.specs.declared.fault.VrtFault.{VrtFault}
use Rattle.vrt_markup.specs.declared.fault.VrtFault.TheVariants.{BadText, Limit}
use Rattle.vrt_markup.proofs.EndTags.{end_item, equal_itself}
use Rattle.vrt_markup.proofs.Behind.{not_ok, err_same, at_item, at_open, leb_deep, opened}

pub read_bad : {A : Type 0} (g : Forest → A) (T d : ℕ) (n t : List ℕ) → bad ≡ item_at t → read_as g (nodes T d n t) ≡ Err (BadText (T - length t))
read_bad g T d n t e = ap (read_as g) (at_item T d n t bad e)

pub read_comment : {A : Type 0} (g : Forest → A) (T d : ℕ) (n t r : List ℕ) → comment r ≡ item_at t → read_as g (nodes T d n t) ≡ read_as g (nodes T d n r)
read_comment g T d n t r e = ap (read_as g) (at_item T d n t (comment r) e)

behind_text : {A : Type 0} (g h : Forest → A) (raw : List ℕ) → ((f : Forest) → g (text raw f) ≡ h f) → (x : ForestRead) → read_as g (x >>= with_text raw) ≡ read_as h x
behind_text g h raw same (Ok x) = ap (λ v. Ok (v, x.1)) (same x.0)
behind_text g h raw same (Err e) = refl

pub read_run : {A : Type 0} (g h : Forest → A) (T d : ℕ) (n t raw r : List ℕ) → ((f : Forest) → g (text raw f) ≡ h f) → run raw r ≡ item_at t → read_as g (nodes T d n t) ≡ read_as h (nodes T d n r)
read_run g h T d n t raw r same e = ap (read_as g) (at_item T d n t (run raw r) e) ∙ behind_text g h raw same (nodes T d n r)

pub read_close : {A : Type 0} (g : Forest → A) (T d : ℕ) (n t o r : List ℕ) → close_tag o r ≡ item_at t → is_equal o n ≡ true → read_as g (nodes T d n t) ≡ Ok (g stop, r)
read_close g T d n t o r e same = ap (read_as g) (at_item T d n t (close_tag o r) e) ∙ ap (λ b. read_as g (cond b (Ok (stop, r)) (Err (BadText (T - length t))))) same

pub read_other : {A : Type 0} (g : Forest → A) (T d : ℕ) (n t o r : List ℕ) → close_tag o r ≡ item_at t → is_equal o n ≡ false → read_as g (nodes T d n t) ≡ Err (BadText (T - length t))
read_other g T d n t o r e same = ap (read_as g) (at_item T d n t (close_tag o r) e) ∙ ap (λ b. read_as g (cond b (Ok (stop, r)) (Err (BadText (T - length t))))) same

pub read_deep : {A : Type 0} (g : Forest → A) (T d : ℕ) (n t : List ℕ) (tag : Tag) (r : List ℕ) → open_tag tag r ≡ item_at t → 64 ≤ d → read_as g (nodes T d n t) ≡ Err Limit
read_deep g T d n t tag r e deep = ap (read_as g) (at_item T d n t (open_tag tag r) e) ∙ ap (λ b. read_as g (cond b (Err Limit) (opened T d n t tag (inner T d tag r)))) (leb_deep d deep)

behind_element : {A : Type 0} (g h : Forest → A) (place : ℕ) (tag : Tag) (inside : Forest) → ((f : Forest) → g (element place tag inside f) ≡ h f) → (x : ForestRead) → read_as g (x >>= with_element place tag inside) ≡ read_as h x
behind_element g h place tag inside same (Ok x) = ap (λ v. Ok (v, x.1)) (same x.0)
behind_element g h place tag inside same (Err e) = refl

abbrev value_of : {B : Type 0} → B → Result (B × List ℕ) VrtFault → B
value_of v (Ok x) = x.0
value_of v (Err e) = v

abbrev left_of : {B : Type 0} → List ℕ → Result (B × List ℕ) VrtFault → List ℕ
left_of r (Ok x) = x.1
left_of r (Err e) = r

opened_ok : {A B : Type 0} (g : Forest → A) (m : Forest → B) (h : B → Forest → A) (T d : ℕ) (n t : List ℕ) (tag : Tag) (v : B) (s : List ℕ) → ((i f : Forest) → g (element (T - length t) tag i f) ≡ h (m i) f) → (x : ForestRead) → Ok (v, s) ≡ read_as m x → read_as g (opened T d n t tag x) ≡ read_as (h v) (nodes T d n s)
opened_ok g m h T d n t tag v s same (Ok y) e =
    behind_element g (h (m y.0)) (T - length t) tag y.0 (same y.0) (nodes T d n y.1)
    ∙ ap (λ z. read_as (h (value_of v z)) (nodes T d n (left_of s z))) (sym e)
opened_ok g m h T d n t tag v s same (Err f) e = absurd cc

opened_fails : {A B : Type 0} (g : Forest → A) (m : Forest → B) (T d : ℕ) (n t : List ℕ) (tag : Tag) (e : VrtFault) (x : ForestRead) → Fails e (read_as m x) → Fails e (read_as g (opened T d n t tag x))
opened_fails g m T d n t tag e (Ok y) h = not_ok e (m y.0, y.1) (read_as g (opened T d n t tag (Ok y))) h
opened_fails g m T d n t tag e (Err k) h = err_same _ _ e k h

-- a child element that means v, and s behind it
pub read_open : {A B : Type 0} (g : Forest → A) (m : Forest → B) (h : B → Forest → A) (T d : ℕ) (n t : List ℕ) (tag : Tag) (r : List ℕ) (v : B) (s : List ℕ) → ((i f : Forest) → g (element (T - length t) tag i f) ≡ h (m i) f) → open_tag tag r ≡ item_at t → d < 64 → Ok (v, s) ≡ read_as m (inner T d tag r) → read_as g (nodes T d n t) ≡ read_as (h v) (nodes T d n s)
read_open g m h T d n t tag r v s same e less inside = ap (read_as g) (at_open T d n t tag r e less) ∙ opened_ok g m h T d n t tag v s same (inner T d tag r) inside

-- an element that has only elements: its parts so far, and whether its text is all white
abbrev ElementStep : Type 0 → Type 0
ElementStep S = S → ℕ → Tag → Forest → Result S VrtFault

bind_assoc : {A B C : Type 0} (x : Result A VrtFault) (f : A → Result B VrtFault) (g : B → Result C VrtFault) → (x >>= λ a. f a >>= g) ≡ ((x >>= f) >>= g)
bind_assoc (Ok a) f g = refl
bind_assoc (Err e) f g = refl

and_assoc : (a b c : Bool) → a && (b && c) ≡ (a && b) && c
and_assoc true b c = refl
and_assoc false b c = refl

and_true : (a : Bool) → a && true ≡ a
and_true true = refl
and_true false = refl

bind_end : {A : Type 0} (x : Result A VrtFault) → (x >>= λ a. Ok a) ≡ x
bind_end (Ok a) = refl
bind_end (Err e) = refl

pub seen_run : {S : Type 0} (step : ElementStep S) (kept : Result S VrtFault) (white : Bool) (T d : ℕ) (n t raw r : List ℕ) → run raw r ≡ item_at t → read_as (seen step kept white) (nodes T d n t) ≡ read_as (seen step kept (white && is_all_white raw)) (nodes T d n r)
seen_run step kept white T d n t raw r e = read_run (seen step kept white) (seen step kept (white && is_all_white raw)) T d n t raw r (λ f. ap (λ b. (kept >>= λ s. over step s f, b)) (and_assoc white (is_all_white raw) (all_white f))) e

pub seen_close : {S : Type 0} (step : ElementStep S) (kept : Result S VrtFault) (white : Bool) (T d : ℕ) (n t o r : List ℕ) → close_tag o r ≡ item_at t → is_equal o n ≡ true → read_as (seen step kept white) (nodes T d n t) ≡ Ok ((kept, white), r)
seen_close step kept white T d n t o r e same = read_close (seen step kept white) T d n t o r e same ∙ ap (λ k. Ok ((k, white && true), r)) (bind_end kept) ∙ ap (λ b. Ok ((kept, b), r)) (and_true white)

pub seen_end : {S : Type 0} (step : ElementStep S) (kept : Result S VrtFault) (white : Bool) (T d : ℕ) (n t r : List ℕ) → t ≡ 60 ∷ 47 ∷ n ++ 62 ∷ r → is_name n ≡ true → read_as (seen step kept white) (nodes T d n t) ≡ Ok ((kept, white), r)
seen_end step kept white T d n t r e named = seen_close step kept white T d n t n r (end_item t n r e named) (equal_itself n)

pub seen_open : {S : Type 0} (step : ElementStep S) (kept : Result S VrtFault) (white : Bool) (T d : ℕ) (n t : List ℕ) (tag : Tag) (r : List ℕ) (now : Result S VrtFault) (s : List ℕ) → open_tag tag r ≡ item_at t → d < 64 → Ok (now, s) ≡ read_as (stepped step kept (T - length t) tag) (inner T d tag r) → read_as (seen step kept white) (nodes T d n t) ≡ read_as (seen step now white) (nodes T d n s)
seen_open step kept white T d n t tag r now s e less inside = read_open (seen step kept white) (stepped step kept (T - length t) tag) (λ k. seen step k white) T d n t tag r now s (λ i f. ap (λ k. (k, white && all_white f)) (bind_assoc kept (λ p. step p (T - length t) tag i) (λ p. over step p f))) e less inside

-- an element that holds text alone
pub worded_run : (front : List ℕ) (child : Option ℕ) (T d : ℕ) (n t raw r : List ℕ) → run raw r ≡ item_at t → read_as (worded front child) (nodes T d n t) ≡ read_as (worded (front ++ decoded raw) child) (nodes T d n r)
worded_run front child T d n t raw r e = read_run (worded front child) (worded (front ++ decoded raw) child) T d n t raw r (λ f. ap (λ w. (w, first_child child (child_of f))) (sym (append_assoc front (decoded raw) (text_of f)))) e

first_none : (child : Option ℕ) → first_child child None ≡ child
first_none None = refl
first_none (Some x) = refl

first_assoc : (child : Option ℕ) (place : ℕ) (later : Option ℕ) → first_child child (Some place) ≡ first_child (first_child child (Some place)) later
first_assoc None place later = refl
first_assoc (Some x) place later = refl

pub worded_close : (front : List ℕ) (child : Option ℕ) (T d : ℕ) (n t o r : List ℕ) → close_tag o r ≡ item_at t → is_equal o n ≡ true → read_as (worded front child) (nodes T d n t) ≡ Ok ((front, child), r)
worded_close front child T d n t o r e same = read_close (worded front child) T d n t o r e same ∙ ap (λ w. Ok ((w, first_child child None), r)) (append-nil front) ∙ ap (λ c. Ok ((front, c), r)) (first_none child)

pub worded_end : (front : List ℕ) (child : Option ℕ) (T d : ℕ) (n t r : List ℕ) → t ≡ 60 ∷ 47 ∷ n ++ 62 ∷ r → is_name n ≡ true → read_as (worded front child) (nodes T d n t) ≡ Ok ((front, child), r)
worded_end front child T d n t r e named = worded_close front child T d n t n r (end_item t n r e named) (equal_itself n)

abbrev past_of : List ℕ → Result (List ℕ) VrtFault → List ℕ
past_of s (Ok r) = r
past_of s (Err e) = s

abbrev nothing : ℕ
nothing = 0

as_past : (s : List ℕ) (x : ForestRead) → Ok s ≡ past x → Ok (nothing, s) ≡ read_as (λ (f : Forest). nothing) x
as_past s (Ok y) e = ap (λ (z : Result (List ℕ) VrtFault). Ok (nothing, past_of s z)) e
as_past s (Err f) e = absurd cc

-- an element that is read past and fails, fails whatever it means
pub past_read_fails : {A : Type 0} (g : Forest → A) (e : VrtFault) (x : ForestRead) → Fails e (past x) → Fails e (read_as g x)
past_read_fails g e (Ok y) h = not_ok e y.1 (read_as g (Ok y)) h
past_read_fails g e (Err k) h = err_same _ _ e k h

pub worded_open : (front : List ℕ) (child : Option ℕ) (T d : ℕ) (n t : List ℕ) (tag : Tag) (r s : List ℕ) → open_tag tag r ≡ item_at t → d < 64 → Ok s ≡ past (inner T d tag r) → read_as (worded front child) (nodes T d n t) ≡ read_as (worded front (first_child child (Some (T - length t)))) (nodes T d n s)
worded_open front child T d n t tag r s e less inside = read_open (worded front child) (λ f. nothing) (λ v. worded front (first_child child (Some (T - length t)))) T d n t tag r nothing s (λ i f. ap (λ c. (front ++ text_of f, c)) (first_assoc child (T - length t) (child_of f))) e less (as_past s (inner T d tag r) inside)

-- a child element that isn't read, for want of memory or by a fault of the first pass
pub child_fails : {A B : Type 0} (g : Forest → A) (m : Forest → B) (T d : ℕ) (n t : List ℕ) (tag : Tag) (r : List ℕ) (y : Result (A × List ℕ) VrtFault) (e : VrtFault) → open_tag tag r ≡ item_at t → d < 64 → read_as g (nodes T d n t) ≡ y → Fails e (read_as m (inner T d tag r)) → Fails e y
child_fails g m T d n t tag r y e h less same inside = subst (Fails e) (ap (read_as g) (sym (at_open T d n t tag r h less)) ∙ same) (opened_fails g m T d n t tag e (inner T d tag r) inside)

-- what follows from what an element's inside means
pub read_then : {A B : Type 0} (k : A → B) (g : Forest → A) (v : A) (s : List ℕ) (x : ForestRead) → Ok (v, s) ≡ read_as g x → Ok (k v, s) ≡ read_as (λ f. k (g f)) x
read_then k g v s (Ok y) e = ap (λ z. Ok (k (value_of v z), left_of s z)) e
read_then k g v s (Err f) e = absurd cc

pub read_same : {A : Type 0} (g h : Forest → A) (x : ForestRead) → ((f : Forest) → g f ≡ h f) → read_as g x ≡ read_as h x
read_same g h (Ok y) same = ap (λ v. Ok (v, y.1)) (same y.0)
read_same g h (Err e) same = refl

pub ok_value : {A : Type 0} (x y : A) → ◌≡◌ {A = Result A VrtFault} (Ok x) (Ok y) → x ≡ y
ok_value x y e = cc

-- what a function gives of an element's inside, where what follows from it follows for the definitions too
pub gives_then : {A B C X : Type 0} (rest : X → List ℕ) (u : C → A) (v : C → B) (g : Forest → A) (h : Forest → B) (r : Result (C × X) VrtFault) (x : ForestRead) → ((c : C) (f : Forest) → u c ≡ g f → v c ≡ h f) → Gives (λ y. (u y.0, rest y.1)) r (read_as g x) → Gives (λ y. (v y.0, rest y.1)) r (read_as h x)
gives_then rest u v g h (Ok y) (Ok z) more e =
    let same = ok_value (u y.0, rest y.1) (g z.0, z.1) e in
    ap (λ a. Ok (a, rest y.1)) (more y.0 z.0 (ap (λ p. p.0) same)) ∙ ap (λ s. Ok (h z.0, s)) (ap (λ p. p.1) same)
gives_then rest u v g h (Ok y) (Err k) more e = absurd cc
gives_then rest u v g h (Err k) (Ok z) more e = not_ok k (g z.0, z.1) (read_as h (Ok z)) e
gives_then rest u v g h (Err k) (Err l) more e = err_same _ _ k l e
