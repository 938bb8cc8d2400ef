-- Lookup tables and geotransforms that are written are read again.
use Rattle.std.proofs.Common.{◌≡◌, ◌≢◌, ℕ, ℤ, suc, ◌+◌, ◌*◌, ◌^◌, ◌%◌, ◌<◌, ◌≤◌, true, false, cond, ◌&&◌, List, [], ◌∷◌, ◌++◌, length, map, flat_map, Option, Some, None, Result, Ok, Err, refl, ap, ◌∙◌, arith, append_assoc, append-nil, unsigned_abs, pos, nat_le, nat_lt, codes, ok_or}
use Rattle.std.specs.List.{All}
use Rattle.std.proofs.lemmas.Bool.Decides.{nat_tests}
use Rattle.std.proofs.lemmas.Int.{ints}
use Rattle.lists_and_answers.specs.Options.{◌>>=◌}
use Rattle.lists_and_answers.specs.Answers.{◌>>=◌ as ◌>>=>◌}
use Rattle.geotransform.specs.Decimal.{parts_of, ticks_of, places_of}
use Rattle.geotransform.specs.Geo.{Transform, IsTransform, transform_of, is_near, is_step}
use Rattle.geotransform.specs.Print.{short_text, unit}
use Rattle.geotransform.proofs.RoundTrip.{short_again}
use Rattle.vrt_profile.specs.Fields.{trim, cut_at, near_by, near_number, pair_of, pieces, Six, ticks_then, six_of}
use Rattle.vrt_profile.specs.Numbers.{is_above, rising_pair, next_pair, lut_from, lut_of, north_up, geo_of}
use Rattle.vrt_profile.specs.Values.{million, is_below, is_rising, IsPair, IsLut, IsDecimal}
use Rattle.vrt_writing.specs.Spelled.{micro_text, lut_pair_text, next_pair_text, lut_text, joined_text, geo_text}
use Rattle.vrt_profile.specs.declared.rectangle.LutPair.{LutPair}
use Rattle.vrt_markup.specs.declared.fault.VrtFault.{VrtFault}
use Rattle.vrt_markup.specs.declared.fault.VrtFault.TheVariants.{BadNumber, Limit}
use Rattle.vrt_writing.proofs.Places.{micro_again}
use Rattle.vrt_profile.proofs.Tables.{pieces_cut, pieces_whole, Follows}
use Rattle.vrt_writing.proofs.Figures.{AreFigures, AreMarks, and_parts, micro_figures, short_figures, trim_same, trim_behind, figures_marks, marks_append, AllOther, figures_other, other_append, cut_other, cut_none}

near_again : (v : ℤ) → unsigned_abs v < 5000000000 * million → near_number (micro_text v) ≡ Some v
near_again v small =
    let low : nat_lt (unsigned_abs v) (5000000000 * million) ≡ true = grind (arith, nat_tests) in
    ap (λ (t : List ℕ). near_by (places_of 6 t)) (trim_same (micro_text v) (micro_figures v (omega arith)))
    ∙ ap near_by (micro_again v (omega arith))
    ∙ ap (λ b. cond b (Some v) None) low

abbrev ends_pair : ℤ → Option ℤ → Option LutPair
ends_pair input o = o >>= λ output. Some (record { input = input; output = output })

abbrev cut_pair : Option (List ℕ × List ℕ) → Option LutPair
cut_pair o = o >>= λ x. near_number x.0 >>= λ input. ends_pair input (near_number x.1)

pair_again : (p : LutPair) → IsPair p → pair_of (lut_pair_text p) ≡ Some p
unfolding pair_of
pair_again p is =
    ap cut_pair (cut_other 58 (micro_text p.input) (micro_text p.output) (figures_other 58 (micro_text p.input) (micro_figures p.input (omega (arith, is.input))) refl))
    ∙ ap (λ (o : Option ℤ). o >>= λ input. ends_pair input (near_number (micro_text p.output))) (near_again p.input is.input)
    ∙ ap (ends_pair p.input) (near_again p.output is.output)

-- a pair's text has no comma
pair_other : (p : LutPair) → IsPair p → AllOther 44 (lut_pair_text p)
pair_other p is =
    other_append 44 (micro_text p.input) (58 ∷ micro_text p.output)
    (figures_other 44 (micro_text p.input) (micro_figures p.input (omega (arith, is.input))) refl)
    (figures_other 44 (micro_text p.output) (micro_figures p.output (omega (arith, is.output))) refl)

pair_marks : (p : LutPair) → IsPair p → AreMarks (lut_pair_text p)
pair_marks p is =
    marks_append (micro_text p.input) (58 ∷ micro_text p.output)
    (figures_marks (micro_text p.input) (micro_figures p.input (omega (arith, is.input))))
    (figures_marks (micro_text p.output) (micro_figures p.output (omega (arith, is.output))))

all_head : (p : LutPair) (ps : List LutPair) → All IsPair (p ∷ ps) → IsPair p
all_head p ps h = h 0 p (omega arith)

all_tail : (p : LutPair) (ps : List LutPair) → All IsPair (p ∷ ps) → All IsPair ps
all_tail p ps h = λ k d less. h (suc k) d (omega arith)

more_marks : (ps : List LutPair) → All IsPair ps → AreMarks (flat_map next_pair_text ps)
unfolding next_pair_text
more_marks [] h = refl
more_marks (p ∷ ps) h = marks_append (next_pair_text p) (flat_map next_pair_text ps) (pair_marks p (all_head p ps h)) (more_marks ps (all_tail p ps h))

pub lut_marks : (ps : List LutPair) → All IsPair ps → AreMarks (lut_text ps)
lut_marks [] h = refl
lut_marks (p ∷ ps) h = marks_append (lut_pair_text p) (flat_map next_pair_text ps) (pair_marks p (all_head p ps h)) (more_marks ps (all_tail p ps h))

-- the pieces of a table's text
pieces_again : (p : LutPair) (ps : List LutPair) → All IsPair (p ∷ ps) → pieces 44 (lut_pair_text p ++ flat_map next_pair_text ps) ≡ lut_pair_text p ∷ map lut_pair_text ps
unfolding next_pair_text
pieces_again p [] h =
    let whole : lut_pair_text p ++ [] ≡ lut_pair_text p = append-nil (lut_pair_text p) in
    ap (pieces 44) whole ∙ pieces_whole 44 (lut_pair_text p) (cut_none 44 (lut_pair_text p) (pair_other p (all_head p [] h)))
pieces_again p (q ∷ qs) h =
    let rest : List ℕ = lut_pair_text q ++ flat_map next_pair_text qs in
    pieces_cut 44 (lut_pair_text p ++ 44 ∷ rest) (lut_pair_text p) rest (cut_other 44 (lut_pair_text p) rest (pair_other p (all_head p (q ∷ qs) h)))
    ∙ ap (λ (x : List (List ℕ)). lut_pair_text p ∷ x) (pieces_again q qs (all_tail p (q ∷ qs) h))

-- pair by pair
above_again : (last : Option LutPair) (p : LutPair) (ps : List LutPair) → Follows last (p ∷ ps) → is_above last p ≡ true
above_again None p ps h = refl
above_again (Some q) p ps h = h

next_again : (n : ℕ) (last : Option LutPair) (p : LutPair) (ps : List LutPair) → n < 65536 → IsPair p → Follows last (p ∷ ps) → next_pair n last (lut_pair_text p) ≡ Ok p
next_again n last p ps few is follows =
    let low : nat_le 65536 n ≡ false = grind (arith, nat_tests) in
    ap (λ b. cond b (Err Limit) (ok_or (pair_of (lut_pair_text p)) BadNumber >>=> rising_pair last)) low
    ∙ ap (λ (o : Option LutPair). ok_or o BadNumber >>=> rising_pair last) (pair_again p is)
    ∙ ap (λ b. cond b (Ok p) (Err BadNumber)) (above_again last p ps follows)

abbrev then_more : ℕ → List (List ℕ) → Result LutPair VrtFault → Result (List LutPair) VrtFault
then_more n ps found = found >>=> λ pair. lut_from (suc n) (Some pair) ps >>=> λ pairs. Ok (pair ∷ pairs)

from_again : (n : ℕ) (last : Option LutPair) (ps : List LutPair) → n + length ps ≤ 65536 → Follows last ps → is_rising ps ≡ true → All IsPair ps → lut_from n last (map lut_pair_text ps) ≡ Ok ps
from_again n last [] few follows rising near = refl
from_again n last (p ∷ ps) few follows rising near =
    let r = and_parts (is_below p.input ps) (is_rising ps) rising in
    ap (then_more n (map lut_pair_text ps)) (next_again n last p ps (omega arith) (all_head p ps near) follows)
    ∙ ap (λ (x : Result (List LutPair) VrtFault). x >>=> λ pairs. Ok (p ∷ pairs)) (from_again (suc n) (Some p) ps (omega arith) r.0 r.1 (all_tail p ps near))

pub lut_again : (ps : List LutPair) → IsLut ps → lut_of (lut_text ps) ≡ Ok ps
lut_again [] is = absurd (omega (arith, is.some))
lut_again (p ∷ ps) is =
    ap (lut_from 0 None) (pieces_again p ps is.near)
    ∙ from_again 0 None (p ∷ ps) (omega (arith, is.few)) tt is.rising is.near

-- six numbers with commas between them
ticks_rest : (t r : List ℕ) (v : ℤ) (x : List ℕ) → cut_at 44 t ≡ Some (x, r) → ticks_of (trim x) ≡ Some v → ticks_then t ≡ Some (v, r)
unfolding ticks_then
ticks_rest t r v x cut is =
    ap (λ (o : Option (List ℕ × List ℕ)). o >>= λ y. ticks_of (trim y.0) >>= λ w. Some (w, y.1)) cut
    ∙ ap (λ (o : Option ℤ). o >>= λ w. Some (w, r)) is

pub record IsTicks (v : ℤ) : Type 0 where
  pub places : unsigned_abs v % 18 ≡ 0
  pub near : unsigned_abs v < 10 ^ 12 * unit

ticks_figures : (v : ℤ) → IsTicks v → AreFigures (short_text v)
ticks_figures v is = short_figures v (omega (arith, is.near))

ticks_first : (v : ℤ) (r : List ℕ) → IsTicks v → ticks_then (short_text v ++ 44 ∷ r) ≡ Some (v, r)
ticks_first v r is =
    let f = ticks_figures v is in
    ticks_rest (short_text v ++ 44 ∷ r) r v (short_text v) (cut_other 44 (short_text v) r (figures_other 44 (short_text v) f refl))
    (ap ticks_of (trim_same (short_text v) f) ∙ short_again v is.places is.near)

ticks_next : (v : ℤ) (r : List ℕ) → IsTicks v → ticks_then (32 ∷ short_text v ++ 44 ∷ r) ≡ Some (v, r)
ticks_next v r is =
    let f = ticks_figures v is in
    ticks_rest (32 ∷ short_text v ++ 44 ∷ r) r v (32 ∷ short_text v) (cut_other 44 (32 ∷ short_text v) r (figures_other 44 (short_text v) f refl))
    (ap ticks_of (trim_behind (short_text v) f) ∙ short_again v is.places is.near)

zero_ticks : ticks_of (48 ∷ []) ≡ Some (pos 0)
unfolding ticks_of parts_of
zero_ticks = refl

ticks_zero : (r : List ℕ) → ticks_then (32 ∷ 48 ∷ 44 ∷ r) ≡ Some (pos 0, r)
ticks_zero r = ticks_rest (32 ∷ 48 ∷ 44 ∷ r) r (pos 0) (32 ∷ 48 ∷ []) refl zero_ticks

abbrev six : ℤ → ℤ → ℤ → ℤ → Six
six ox dx oy dy = record { ox = ox; dx = dx; rx = pos 0; oy = oy; ry = pos 0; dy = dy }

six_again : (ox dx oy dy : ℤ) → IsTicks ox → IsTicks dx → IsTicks oy → IsTicks dy → six_of (short_text ox ++ 44 ∷ 32 ∷ (short_text dx ++ 44 ∷ 32 ∷ 48 ∷ 44 ∷ 32 ∷ (short_text oy ++ 44 ∷ 32 ∷ 48 ∷ 44 ∷ 32 ∷ short_text dy))) ≡ Some (six ox dx oy dy)
unfolding six_of
six_again ox dx oy dy a b c d =
    let last : List ℕ = 32 ∷ short_text dy in
    let ry : List ℕ = 32 ∷ 48 ∷ 44 ∷ last in
    let more : List ℕ = 32 ∷ (short_text oy ++ 44 ∷ ry) in
    let rx : List ℕ = 32 ∷ 48 ∷ 44 ∷ more in
    let f5 : ℤ × List ℕ → ℤ × List ℕ → ℤ × List ℕ → ℤ × List ℕ → Option (ℤ × List ℕ) → Option Six = λ x0 x1 x2 x3 o. o >>= λ x4. ticks_of (trim x4.1) >>= λ dy. Some (record { ox = x0.0; dx = x1.0; rx = x2.0; oy = x3.0; ry = x4.0; dy = dy }) in
    let f4 : ℤ × List ℕ → ℤ × List ℕ → ℤ × List ℕ → Option (ℤ × List ℕ) → Option Six = λ x0 x1 x2 o. o >>= λ x3. f5 x0 x1 x2 x3 (ticks_then x3.1) in
    let f3 : ℤ × List ℕ → ℤ × List ℕ → Option (ℤ × List ℕ) → Option Six = λ x0 x1 o. o >>= λ x2. f4 x0 x1 x2 (ticks_then x2.1) in
    let f2 : ℤ × List ℕ → Option (ℤ × List ℕ) → Option Six = λ x0 o. o >>= λ x1. f3 x0 x1 (ticks_then x1.1) in
    let f1 : Option (ℤ × List ℕ) → Option Six = λ o. o >>= λ x0. f2 x0 (ticks_then x0.1) in
    ap f1 (ticks_first ox (32 ∷ (short_text dx ++ 44 ∷ rx)) a)
    ∙ ap (f2 (ox, 32 ∷ (short_text dx ++ 44 ∷ rx))) (ticks_next dx rx b)
    ∙ ap (f3 (ox, 32 ∷ (short_text dx ++ 44 ∷ rx)) (dx, rx)) (ticks_zero more)
    ∙ ap (f4 (ox, 32 ∷ (short_text dx ++ 44 ∷ rx)) (dx, rx) (pos 0, more)) (ticks_next oy ry c)
    ∙ ap (f5 (ox, 32 ∷ (short_text dx ++ 44 ∷ rx)) (dx, rx) (pos 0, more) (oy, ry)) (ticks_zero last)
    ∙ ap (λ (t : List ℕ). ticks_of t >>= λ v. Some (six ox dx oy v)) (trim_behind (short_text dy) (ticks_figures dy d))
    ∙ ap (λ (o : Option ℤ). o >>= λ v. Some (six ox dx oy v)) (short_again dy d.places d.near)

geo_whole : (g : Transform) → geo_text g ≡ short_text g.ox ++ 44 ∷ 32 ∷ (short_text g.dx ++ 44 ∷ 32 ∷ 48 ∷ 44 ∷ 32 ∷ (short_text g.oy ++ 44 ∷ 32 ∷ 48 ∷ 44 ∷ 32 ∷ short_text g.dy))
unfolding joined_text
geo_whole g = simp append_assoc

near_is : (v : ℤ) → unsigned_abs v < 10 ^ 12 * unit → is_near v ≡ true
near_is v small = grind (arith, nat_tests)

some_step : (v : ℤ) → v ≢ pos 0 → 0 < unsigned_abs v
some_step v n = omega (arith, ints, n)

step_is : (v : ℤ) → v ≢ pos 0 → unsigned_abs v < 10 ^ 12 * unit → is_step v ≡ true
step_is v n small =
    let some : nat_lt 0 (unsigned_abs v) ≡ true = grind (arith, nat_tests, some_step v n) in
    ap (λ b. b && is_near v) some ∙ near_is v small

transform_again : (g : Transform) → IsTransform g → transform_of g.ox g.oy g.dx g.dy ≡ Some g
transform_again g is =
    ap (λ b. cond ((b && is_near g.oy) && (is_step g.dx && is_step g.dy)) (Some g) None) (near_is g.ox is.ox_near)
    ∙ ap (λ b. cond (b && (is_step g.dx && is_step g.dy)) (Some g) None) (near_is g.oy is.oy_near)
    ∙ ap (λ b. cond (b && is_step g.dy) (Some g) None) (step_is g.dx is.column is.dx_near)
    ∙ ap (λ b. cond b (Some g) None) (step_is g.dy is.line is.dy_near)

pub geo_again : (g : Transform) → IsDecimal g → geo_of (geo_text g) ≡ Ok g
geo_again g is =
    let t = is.transform in
    ap geo_of (geo_whole g)
    ∙ ap (λ (o : Option Six). ok_or o BadNumber >>=> north_up)
    (six_again g.ox g.dx g.oy g.dy (record { places = is.ox; near = t.ox_near }) (record { places = is.dx; near = t.dx_near }) (record { places = is.oy; near = t.oy_near }) (record { places = is.dy; near = t.dy_near }))
    ∙ ap (λ o. ok_or o BadNumber) (transform_again g t)

pub geo_marks : (g : Transform) → IsDecimal g → AreMarks (geo_text g)
unfolding joined_text
geo_marks g is =
    let m : (v : ℤ) → unsigned_abs v < 10 ^ 12 * unit → AreMarks (short_text v) = λ v small. figures_marks (short_text v) (short_figures v (omega (arith, small))) in
    let t = is.transform in
    marks_append (joined_text g.ox (codes ", ") g.dx) (codes ", 0, " ++ joined_text g.oy (codes ", 0, ") g.dy)
    (marks_append (short_text g.ox) (codes ", " ++ short_text g.dx) (m g.ox t.ox_near) (m g.dx t.dx_near))
    (marks_append (short_text g.oy) (codes ", 0, " ++ short_text g.dy) (m g.oy t.oy_near) (m g.dy t.dy_near))
