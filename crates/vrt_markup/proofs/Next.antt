-- What stands in an element is by the item in front and what stands behind it, whatever the fuel.
use Rattle.std.proofs.Common.{◌≡◌, ℕ, zero, suc, ◌-◌, ◌<◌, ◌≤◌, Bool, true, false, cond, List, [], length, Result, Ok, Err, refl, sym, ap, ◌∙◌, arith, nat_le}
use Rattle.vrt_markup.specs.Items.{item_at, Item, bad, comment, run, open_tag, close_tag, Tag, is_equal}
use Rattle.lists_and_answers.specs.Answers.{◌>>=◌}
use Rattle.vrt_markup.specs.Forest.{Forest, stop, ForestRead, with_text, with_element, inner_by, nodes_step, nodes_by, nodes}
use Rattle.vrt_markup.specs.Fronts.{IsShorter}
use Rattle.vrt_markup.specs.declared.fault.VrtFault.{VrtFault}
use Rattle.vrt_markup.specs.declared.fault.VrtFault.TheVariants.{BadText, Limit}
use Rattle.vrt_markup.proofs.Shorter.{item_short}

abbrev More : Type 0
More = ℕ → List ℕ → List ℕ → ForestRead

bind_same : {A B : Type 0} (r : Result A VrtFault) (f g : A → Result B VrtFault) → ((x : A) → r ≡ Ok x → f x ≡ g x) → (r >>= f) ≡ (r >>= g)
bind_same (Ok x) f g h = h x refl
bind_same (Err e) f g h = refl

pub bind_ok : {A B : Type 0} (r : Result A VrtFault) (f : A → Result B VrtFault) (y : B) → (r >>= f) ≡ Ok y → (x : A) × (r ≡ Ok x) × (f x ≡ Ok y)
bind_ok (Ok x) f y h = (x, refl, h)
bind_ok (Err e) f y h = absurd cc

cond_same : {A : Type 0} (b : Bool) (x y z : A) → y ≡ z → cond b x y ≡ cond b x z
cond_same true x y z e = refl
cond_same false x y z e = e

-- what a reader leaves is no longer than what it read
abbrev Shortens : More → List ℕ → Type 0
Shortens more bytes = (d : ℕ) (n r : List ℕ) → length r < length bytes → (x : Forest × List ℕ) → more d n r ≡ Ok x → length x.1 ≤ length r

abbrev Agree : More → More → List ℕ → Type 0
Agree more other bytes = (d : ℕ) (n r : List ℕ) → length r < length bytes → more d n r ≡ other d n r

abbrev rest_of : ForestRead → List ℕ
rest_of (Ok x) = x.1
rest_of (Err e) = []

inner_short : (more : More) (depth : ℕ) (tag : Tag) (bytes rest : List ℕ) (x : Forest × List ℕ) (b : Bool) → Shortens more bytes → length rest < length bytes → cond b (Ok (stop, rest)) (more (suc depth) tag.name rest) ≡ Ok x → length x.1 ≤ length rest
inner_short more depth tag bytes rest x true s less h = omega (arith, ap (λ (r : ForestRead). length (rest_of r)) h)
inner_short more depth tag bytes rest x false s less h = s (suc depth) tag.name rest less x h

close_short : (total : ℕ) (bytes rest : List ℕ) (x : Forest × List ℕ) (b : Bool) → length rest < length bytes → cond b (Ok (stop, rest)) (Err (BadText (total - length bytes))) ≡ Ok x → length x.1 ≤ length bytes
close_short total bytes rest x true less h = omega (arith, ap (λ (r : ForestRead). length (rest_of r)) h)
close_short total bytes rest x false less h = absurd cc

open_short : (more : More) (total depth : ℕ) (name bytes : List ℕ) (tag : Tag) (rest : List ℕ) (x : Forest × List ℕ) (b : Bool) → length rest < length bytes → Shortens more bytes → cond b (Err Limit) (inner_by more depth tag rest >>= λ y. more depth name y.1 >>= with_element (total - length bytes) tag y.0) ≡ Ok x → length x.1 ≤ length bytes
open_short more total depth name bytes tag rest x true less s h = absurd cc
open_short more total depth name bytes tag rest x false less s h =
    let y = bind_ok (inner_by more depth tag rest) _ x h in
    let z = bind_ok (more depth name y.0.1) _ x y.2 in
    let first = inner_short more depth tag bytes rest y.0 tag.empty s less y.1 in
    omega (arith, less, first, s depth name y.0.1 (omega (arith, less, first)) z.0 z.1, ap (λ (r : ForestRead). length (rest_of r)) z.2)

step_short : (more : More) (total depth : ℕ) (name bytes : List ℕ) (i : Item) (x : Forest × List ℕ) → IsShorter i bytes → Shortens more bytes → nodes_step more total depth name bytes i ≡ Ok x → length x.1 ≤ length bytes
step_short more total depth name bytes bad x i s h = absurd cc
step_short more total depth name bytes (comment rest) x i s h = omega (arith, i, s depth name rest i x h)
step_short more total depth name bytes (run raw rest) x i s h =
    let z = bind_ok (more depth name rest) _ x h in
    omega (arith, i, s depth name rest i z.0 z.1, ap (λ (r : ForestRead). length (rest_of r)) z.2)
step_short more total depth name bytes (close_tag other rest) x i s h = close_short total bytes rest x (is_equal other name) i h
step_short more total depth name bytes (open_tag tag rest) x i s h = open_short more total depth name bytes tag rest x (nat_le 64 depth) i s h

pub nodes_short : (f total depth : ℕ) (name bytes : List ℕ) (x : Forest × List ℕ) → nodes_by f total depth name bytes ≡ Ok x → length x.1 ≤ length bytes
nodes_short zero total depth name bytes x h = absurd cc
nodes_short (suc f) total depth name bytes x h = step_short (λ d n r. nodes_by f total d n r) total depth name bytes (item_at bytes) x (item_short bytes) (λ d n r less y e. nodes_short f total d n r y e) h

inner_same : (more other : More) (depth : ℕ) (tag : Tag) (bytes rest : List ℕ) (b : Bool) → Agree more other bytes → length rest < length bytes → cond b (Ok (stop, rest)) (more (suc depth) tag.name rest) ≡ cond b (Ok (stop, rest)) (other (suc depth) tag.name rest)
inner_same more other depth tag bytes rest b same less = cond_same b (Ok (stop, rest)) (more (suc depth) tag.name rest) (other (suc depth) tag.name rest) (same (suc depth) tag.name rest less)

step_same : (more other : More) (total depth : ℕ) (name bytes : List ℕ) (i : Item) → IsShorter i bytes → Shortens other bytes → Agree more other bytes → nodes_step more total depth name bytes i ≡ nodes_step other total depth name bytes i
step_same more other total depth name bytes bad i s same = refl
step_same more other total depth name bytes (comment rest) i s same = same depth name rest i
step_same more other total depth name bytes (run raw rest) i s same = ap (λ (r : ForestRead). r >>= with_text raw) (same depth name rest i)
step_same more other total depth name bytes (close_tag n rest) i s same = refl
step_same more other total depth name bytes (open_tag tag rest) i s same =
    cond_same (nat_le 64 depth) (Err Limit) _ _
    (ap (λ (r : ForestRead). r >>= λ x. more depth name x.1 >>= with_element (total - length bytes) tag x.0) (inner_same more other depth tag bytes rest tag.empty same i)
    ∙ bind_same (inner_by other depth tag rest) (λ x. more depth name x.1 >>= with_element (total - length bytes) tag x.0) (λ x. other depth name x.1 >>= with_element (total - length bytes) tag x.0)
    (λ x e. ap (λ (r : ForestRead). r >>= with_element (total - length bytes) tag x.0) (same depth name x.1 (omega (arith, i, inner_short other depth tag bytes rest x tag.empty s i e)))))

-- without a byte there is no item
none_left : (f total depth : ℕ) (name bytes : List ℕ) (i : Item) → IsShorter i bytes → length bytes ≤ 0 → nodes_step (λ d n r. nodes_by f total d n r) total depth name bytes i ≡ Err (BadText (total - length bytes))
none_left f total depth name bytes bad i le = refl
none_left f total depth name bytes (comment rest) i le = absurd (omega (arith, i, le))
none_left f total depth name bytes (run raw rest) i le = absurd (omega (arith, i, le))
none_left f total depth name bytes (close_tag n rest) i le = absurd (omega (arith, i, le))
none_left f total depth name bytes (open_tag tag rest) i le = absurd (omega (arith, i, le))

pub enough : (f g total depth : ℕ) (name bytes : List ℕ) → length bytes ≤ f → length bytes ≤ g → nodes_by f total depth name bytes ≡ nodes_by g total depth name bytes
enough zero zero total depth name bytes lf lg = refl
enough zero (suc g) total depth name bytes lf lg = sym (none_left g total depth name bytes (item_at bytes) (item_short bytes) lf)
enough (suc f) zero total depth name bytes lf lg = none_left f total depth name bytes (item_at bytes) (item_short bytes) lg
enough (suc f) (suc g) total depth name bytes lf lg =
    step_same (λ d n r. nodes_by f total d n r) (λ d n r. nodes_by g total d n r) total depth name bytes (item_at bytes) (item_short bytes)
    (λ d n r less x e. nodes_short g total d n r x e)
    (λ d n r less. enough f g total d n r (omega (arith, less, lf)) (omega (arith, less, lg)))

-- what stands in an element is by the item in front, with no word of fuel
pub next : (total depth : ℕ) (name bytes : List ℕ) → nodes total depth name bytes ≡ nodes_step (nodes total) total depth name bytes (item_at bytes)
next total depth name bytes =
    enough (length bytes) (suc (length bytes)) total depth name bytes (omega arith) (omega arith)
    ∙ step_same (λ d n r. nodes_by (length bytes) total d n r) (nodes total) total depth name bytes (item_at bytes) (item_short bytes)
    (λ d n r less x e. nodes_short (length r) total d n r x e)
    (λ d n r less. enough (length bytes) (length r) total d n r (omega (arith, less)) (omega arith))
