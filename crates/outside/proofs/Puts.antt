-- Files that were put one after another.
use Rattle.std.proofs.Common.{◌≡◌, ℕ, ◌+◌, ◌<◌, List, [], ◌∷◌, ◌++◌, length, take, get_or, refl, ap, sym, ◌∙◌, Some, None, cond, true, false, Bool}
use Rattle.std.specs.FinMap.{get, insert, empty, get-insert, get-empty}
use Rattle.std.specs.Ordering.{nat_cmp, eq_by_cmp}
use Rattle.std.specs.Cmp.Lexicographic.{slice_cmp, nat_list_cmp_total}
use Rattle.std.specs.Str.{bytes_eq}
use Rattle.std.proofs.lemmas.Map.Text.{is_eq-slice_cmp}
use Rattle.std.proofs.lemmas.Slice.Eq.{bytes_eq-Decides}
use Rattle.std.proofs.lemmas.List.{take_more}
use Rattle.outside.specs.Outside.{Files}
use Rattle.outside.specs.Memory.{put_all, files_of}
use Rattle.outside.specs.Stored.{newest}
use Rattle.outside.specs.declared.memory.Stored.{Stored}
use Rattle.outside.proofs.Orders.{names_with-push}

-- one more is put last
pub put_all-push : (m : Files) (ss : List Stored) (s : Stored) → put_all m (ss ++ s ∷ []) ≡ insert (put_all m ss) s.name s.bytes.items
put_all-push m [] s = refl
put_all-push m (t ∷ ss) s = put_all-push (insert m t.name t.bytes.items) ss s

pub files_of-push : (ss : List Stored) (s : Stored) → files_of (ss ++ s ∷ []) ≡ insert (files_of ss) s.name s.bytes.items
files_of-push ss s = put_all-push empty ss s

-- one more of the list
pub files_of-more : (ss : List Stored) (i : ℕ) (s : Stored) → i < length ss → s ≡ get_or ss i s → files_of (take (i + 1) ss) ≡ insert (files_of (take i ss)) s.name s.bytes.items
files_of-more ss i s h is =
    ap files_of (take_more ss i s h ∙ ap (λ x. take i ss ++ x ∷ []) (sym is)) ∙ files_of-push (take i ss) s

-- the order calls two names equal exactly where they are one
pub same_name : (a b : List ℕ) → a ≡ b → eq_by_cmp (slice_cmp nat_cmp) a b ≡ true
same_name a b e = is_eq-slice_cmp a b ∙ (bytes_eq-Decides a b).1 e

pub other_name : (a b : List ℕ) → (a ≡ b → ⊥) → eq_by_cmp (slice_cmp nat_cmp) a b ≡ false
other_name a b ne = is_eq-slice_cmp a b ∙ differs (bytes_eq a b) (λ e. ne ((bytes_eq-Decides a b).0 e))
  where
    differs : (r : Bool) → (r ≡ true → ⊥) → r ≡ false
    differs true h = absurd (h refl)
    differs false h = refl

-- the name that was put last has its bytes
pub newest-same : (ss : List Stored) (i : ℕ) (s : Stored) (name : List ℕ) → i < length ss → s ≡ get_or ss i s → s.name ≡ name → newest (take (i + 1) ss) name ≡ Some s.bytes.items
newest-same ss i s name h is e =
    ap (λ m. get m name) (files_of-more ss i s h is)
    ∙ get-insert nat_list_cmp_total (files_of (take i ss)) s.name s.bytes.items name
    ∙ ap (λ b. cond b (Some s.bytes.items) (newest (take i ss) name)) (same_name name s.name (sym e))

pub newest-other : (ss : List Stored) (i : ℕ) (s : Stored) (name : List ℕ) → i < length ss → s ≡ get_or ss i s → (s.name ≡ name → ⊥) → newest (take (i + 1) ss) name ≡ newest (take i ss) name
newest-other ss i s name h is ne =
    ap (λ m. get m name) (files_of-more ss i s h is)
    ∙ get-insert nat_list_cmp_total (files_of (take i ss)) s.name s.bytes.items name
    ∙ ap (λ b. cond b (Some s.bytes.items) (newest (take i ss) name)) (other_name name s.name (λ e. ne (sym e)))

-- equal files, names and bytes
pub put_alike : (m n : Files) (a b : List ℕ) (x y : List ℕ) → m ≡ n → a ≡ b → x ≡ y → insert m a x ≡ insert n b y
put_alike m n a b x y e f g = cc

-- nothing was put
pub newest-none : (name : List ℕ) → newest [] name ≡ None
newest-none name = get-empty (slice_cmp nat_cmp) name

pub ruleset puts = (files_of-push, names_with-push)
