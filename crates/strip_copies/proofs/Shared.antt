-- Products and quotients of what several workers share, and the form that an output takes.
use Rattle.std.proofs.Common.{◌≡◌, ℕ, ◌+◌, ◌*◌, ◌/◌, ◌%◌, ◌<◌, ◌≤◌, ◌∙◌, ap, sym, subst, refl, max, min, Bool, true, false, List, Option, Some, None, inl, inr, arith}
use Rattle.std.specs.Prelude.{nat_lt, slice_get, if◌then◌else◌}
use Rattle.std.proofs.Math.Nat.{add-mul, div-le_self, div-mul-le_self, mod-lt, mul-le-mul, mul-le-mul_right, mul_comm}
use Rattle.std.proofs.lemmas.Bool.{cases_lt, le-ltb, lt-ltb}
use Rattle.std.proofs.lemmas.Nat.{div-add-mod'}
use Rattle.catalog.specs.Drivers.{Dataset}
use Rattle.translate_plan.specs.Plan.{Planned}
use Rattle.strip_copies.specs.declared.height.BlockShape.TheVariants.{Columns}
use Rattle.strip_copies.specs.declared.portions.Form.{Form}
use Rattle.strip_copies.specs.declared.portions.Form.TheVariants.{Lines, Pieces, Records}
use Rattle.strip_copies.specs.declared.portions.Portions.{Portions}
use Rattle.strip_copies.specs.Heights.{has_blocks, is_cell}
use Rattle.strip_copies.specs.Pieces.{is_copied, IsCopied}
use Rattle.strip_copies.specs.Portions.{extent_of, form_of, form_of_columns, has_columns, makes_columns, pays, portions_by, portions_in, portions_of, reads_pieces, rows_of, share_of_each, step_of, TakesForm}

-- a line of all bands has so few samples, and some
pub line_few : (w n : ℕ) → w ≤ 4194304 → n ≤ 256 → w * n ≤ 1073741824
line_few w n p q = mul-le-mul p q

pub line_some : (w n : ℕ) → 1 ≤ w → 1 ≤ n → 1 ≤ w * n
line_some w n p q = let h : 1 * 1 ≤ w * n = mul-le-mul p q in omega arith

-- so have all lines
pub all_few : (line h : ℕ) → line ≤ 1073741824 → h ≤ 4194304 → line * h ≤ 4503599627370496
all_few line h p q = mul-le-mul p q

-- an extent by parts of so many: one part at least, and no more than all
pub ceil_some : (h k : ℕ) → 1 ≤ h → 1 ≤ k → 1 ≤ h / k + min 1 (h % k)
ceil_some h k some parts =
    let whole : h / k * k + h % k ≡ h = div-add-mod' h k in
    elim (cases_lt 0 (h / k)) [
      | inl a ↦ omega arith
      | inr b ↦
          let none : h / k ≡ 0 = omega arith in
          let times : h / k * k ≡ 0 * k = ap (λ n. n * k) none in
          let rest : h % k ≡ h = omega arith in
          omega arith
    ]

pub ceil_few : (h k : ℕ) → 1 ≤ k → h / k + min 1 (h % k) ≤ h
ceil_few h k parts =
    let whole : h / k * k + h % k ≡ h = div-add-mod' h k in
    let same : h / k ≤ h / k = omega arith in
    let less : h / k * 1 ≤ h / k * k = mul-le-mul same parts in
    omega arith

-- so many that all is made, and no more
pub ceil_covers : (h k : ℕ) → 1 ≤ k → h ≤ (h / k + min 1 (h % k)) * k
ceil_covers h k some =
    let whole : h / k * k + h % k ≡ h = div-add-mod' h k in
    let positive : 0 < k = omega arith in
    let rest : h % k < k = mod-lt h positive in
    elim (cases_lt 0 (h % k)) [
      | inl more ↦
          let times : (h / k + 1) * k ≤ (h / k + min 1 (h % k)) * k = mul-le-mul_right k (omega arith) in
          let one : (h / k + 1) * k ≡ h / k * k + 1 * k = add-mul (h / k) 1 k in
          omega arith
      | inr none ↦
          let times : h / k * k ≤ (h / k + min 1 (h % k)) * k = mul-le-mul_right k (omega arith) in
          omega arith
    ]

pub ceil_least : (h k m : ℕ) → 1 ≤ k → h ≤ m * k → h / k + min 1 (h % k) ≤ m
ceil_least h k m some fits =
    let whole : h / k * k + h % k ≡ h = div-add-mod' h k in
    elim (cases_lt m (h / k + min 1 (h % k))) [
      | inl less ↦ elim (cases_lt 0 (h % k)) [
        | inl more ↦
            let times : m * k ≤ h / k * k = mul-le-mul_right k (omega arith) in
            absurd (omega arith)
        | inr none ↦
            let times : (m + 1) * k ≤ h / k * k = mul-le-mul_right k (omega arith) in
            let one : (m + 1) * k ≡ m * k + 1 * k = add-mul m 1 k in
            absurd (omega arith)
      ]
      | inr within ↦ within
    ]

-- what each makes in all turns, by what all make in one
pub each_of_all : (turns most workers : ℕ) → turns * (most * workers) ≡ most * (turns * workers)
each_of_all turns most workers = grind arith

-- the samples of all shares fit
pub shares_fit : (room workers samples most : ℕ) → room ≤ most → workers * (room / workers / samples * samples) ≤ most
shares_fit room workers samples most few =
    let same : workers ≤ workers = omega arith in
    let one : room / workers / samples * samples ≤ room / workers = div-mul-le_self (room / workers) samples in
    let all : workers * (room / workers / samples * samples) ≤ workers * (room / workers) = mul-le-mul same one in
    let turned : workers * (room / workers) ≡ room / workers * workers = mul_comm workers (room / workers) in
    let fits : room / workers * workers ≤ room = div-mul-le_self room workers in
    omega arith

-- fewer lines of so many columns fit where more do
pub fewer_lines : (columns lines most bound : ℕ) → lines ≤ most → columns * most ≤ bound → columns * lines ≤ bound
fewer_lines columns lines most bound less fits =
    let same : columns ≤ columns = omega arith in
    let all : columns * lines ≤ columns * most = mul-le-mul same less in
    omega arith

-- the lines of a share, at least one, have no more samples than the share, or than one line
pub beside_fits : (share width : ℕ) → width * max (share / width) 1 ≤ max width share
beside_fits share width = elim (cases_lt (share / width) 1) [
  | inl none ↦
      let one : max (share / width) 1 ≡ 1 = omega arith in
      let times : width * max (share / width) 1 ≡ width * 1 = ap (λ n. width * n) one in
      omega arith
  | inr some ↦
      let many : max (share / width) 1 ≡ share / width = omega arith in
      let times : width * max (share / width) 1 ≡ width * (share / width) = ap (λ n. width * n) many in
      let turned : width * (share / width) ≡ share / width * width = mul_comm width (share / width) in
      let fits : share / width * width ≤ share = div-mul-le_self share width in
      omega arith
]

-- a share is no more than the room
pub share_few : (room workers samples : ℕ) → room / workers / samples ≤ room
share_few room workers samples =
    let one : room / workers / samples ≤ room / workers = div-le_self (room / workers) samples in
    let all : room / workers ≤ room = div-le_self room workers in
    omega arith

-- fewer than a share fit
pub fewer_fit : (workers rows share samples most : ℕ) → rows ≤ share → workers * (share * samples) ≤ most → workers * (rows * samples) ≤ most
fewer_fit workers rows share samples most less fits =
    let same : workers ≤ workers = omega arith in
    let one : rows * samples ≤ share * samples = mul-le-mul_right samples less in
    let all : workers * (rows * samples) ≤ workers * (share * samples) = mul-le-mul same one in
    omega arith

abbrev portion : Form → ℕ → ℕ → Option Portions
portion form rows step = Some (record { form = form; rows = rows; step = step })

portion_is : (form : Form) (rows step rows' step' : ℕ) → rows ≡ rows' → step ≡ step' → portion form rows step ≡ portion form rows' step'
portion_is form rows step rows' step' e f = ap (λ n. portion form n step) e ∙ ap (portion form rows') f

-- portions where a share is at least one
pub portions_found : (form : Form) (workers : ℕ) (cat : List Dataset) (p : Planned) (most extent rows step : ℕ) → 0 < most → most ≡ share_of_each form workers p → extent ≡ extent_of form p.size → rows ≡ rows_of extent most workers → step ≡ step_of form cat p rows
    → Some (record { form = form; rows = rows; step = step }) ≡ portions_in form workers cat p
portions_found form workers cat p most extent rows step some share long many each =
    let all = rows_of (extent_of form p.size) (share_of_each form workers p) workers in
    let test : nat_lt 0 (share_of_each form workers p) ≡ true = lt-ltb 0 (share_of_each form workers p) (subst (λ n. 0 < n) share some) in
    let here : rows ≡ all = many ∙ ap (λ n. rows_of n most workers) long ∙ ap (λ n. rows_of (extent_of form p.size) n workers) share in
    let there : step ≡ step_of form cat p all = each ∙ ap (step_of form cat p) here in
    portion_is form rows step all (step_of form cat p all) here there
    ∙ sym (ap (λ (t : Bool). if t then portion form all (step_of form cat p all) else None) test)

-- none where a share has nothing
pub portions_missed : (form : Form) (workers : ℕ) (cat : List Dataset) (p : Planned) (most : ℕ) → most ≡ 0 → most ≡ share_of_each form workers p → None ≡ portions_in form workers cat p
portions_missed form workers cat p most none share =
    let all = rows_of (extent_of form p.size) (share_of_each form workers p) workers in
    let test : nat_lt 0 (share_of_each form workers p) ≡ false = le-ltb 0 (share_of_each form workers p) (subst (λ n. n ≤ 0) share (omega arith)) in
    sym (ap (λ (t : Bool). if t then portion form all (step_of form cat p all) else None) test)

-- portions of a form that was found
pub portions_shared : (workers : ℕ) (cat : List Dataset) (p : Planned) (form : Form) (found : Option Form) (r : Option Portions) → Some form ≡ found → r ≡ portions_in form workers cat p → r ≡ portions_by found workers cat p
portions_shared workers cat p form found r is here = here ∙ ap (λ (o : Option Form). portions_by o workers cat p) is

-- portions where the workers get enough samples, and where they don't
pub portions_pay : (count workers : ℕ) (cat : List Dataset) (d : Dataset) (p : Planned) (r : Option Portions) → count ≡ workers → pays count p ≡ true → r ≡ portions_by (form_of cat d p) count cat p → r ≡ portions_of workers cat d p
portions_pay count workers cat d p r same enough is =
    is ∙ sym (ap (λ (t : Bool). if t then portions_by (form_of cat d p) count cat p else None) enough)
    ∙ ap (λ n. portions_of n cat d p) same

pub portions_cost : (count workers : ℕ) (cat : List Dataset) (d : Dataset) (p : Planned) → count ≡ workers → pays count p ≡ false → None ≡ portions_of workers cat d p
portions_cost count workers cat d p same few =
    sym (ap (λ (t : Bool). if t then portions_by (form_of cat d p) count cat p else None) few)
    ∙ ap (λ n. portions_of n cat d p) same

-- a form of columns, and one of lines
columns_taken : (cells copied : Bool) (form : Form) → form_of_columns cells copied ≡ Some form → (makes_columns form ≡ true) × (reads_pieces form ≡ true → copied ≡ true)
columns_taken true copied form is = absurd (cc)
columns_taken false true form is = let same : Records ≡ form = cc in (subst (λ (f : Form). makes_columns f ≡ true) same refl, λ _. refl)
columns_taken false false form is = absurd (cc)

lines_taken : (cell cells copied : Bool) (form : Form) → (if cell then (if copied then Some Pieces else None) else (if cells then None else Some Lines)) ≡ Some form → (makes_columns form ≡ false) × (reads_pieces form ≡ true → copied ≡ true)
lines_taken true cells true form is = let same : Pieces ≡ form = cc in (subst (λ (f : Form). makes_columns f ≡ false) same refl, λ _. refl)
lines_taken true cells false form is = absurd (cc)
lines_taken false true copied form is = absurd (cc)
lines_taken false false copied form is = let same : Lines ≡ form = cc in (subst (λ (f : Form). makes_columns f ≡ false) same refl, subst (λ (f : Form). reads_pieces f ≡ true → copied ≡ true) same (λ e. absurd (cc)))

module _ (cat : List Dataset) (id : ℕ) (d : Dataset) (p : Planned) (form : Form) (at : slice_get cat id ≡ Some d) where
  copied_so : (reads_pieces form ≡ true → is_copied p d.head.size ≡ true) → reads_pieces form ≡ true → IsCopied cat id p
  copied_so h reads = λ e at'. let same : d ≡ e = cc in subst (λ (x : Dataset). is_copied p x.head.size ≡ true) same (h reads)

  taken_by : (columns : Bool) → has_columns p.driver ≡ columns
      → (if columns then form_of_columns (has_blocks Columns cat) (is_copied p d.head.size) else (if is_cell d.head.kind then (if is_copied p d.head.size then Some Pieces else None) else (if has_blocks Columns cat then None else Some Lines))) ≡ Some form
      → TakesForm form cat id p
  taken_by true is found =
      let t = columns_taken (has_blocks Columns cat) (is_copied p d.head.size) form found in
      record { columns = t.0 ∙ sym is; copied = copied_so t.1 }
  taken_by false is found =
      let t = lines_taken (is_cell d.head.kind) (has_blocks Columns cat) (is_copied p d.head.size) form found in
      record { columns = t.0 ∙ sym is; copied = copied_so t.1 }

  -- the form of a plan's output is one that it takes
  pub form_taken : form_of cat d p ≡ Some form → TakesForm form cat id p
  form_taken found = taken_by (has_columns p.driver) refl found
