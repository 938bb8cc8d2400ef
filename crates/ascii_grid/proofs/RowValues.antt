-- The samples of a row are of the band.
use Rattle.std.proofs.Common.{◌≡◌, ℕ, ℤ, pos, Bool, true, false, List, ◌++◌, refl, cond, map, replicate, Ok, Err}
use Rattle.std.specs.Prelude.{All}
use Rattle.std.proofs.lemmas.List.Elements.{All-take, All-append, All-map, All-replicate}
use Rattle.geotransform.specs.Decimal.{is_decimal}
use Rattle.ascii_grid.specs.declared.faults.GridFault.{GridFault}
use Rattle.ascii_grid.specs.declared.faults.GridFault.TheVariants.{BadToken, NotInteger, Limit}
use Rattle.ascii_grid.specs.Tokens.{Token, tokens}
use Rattle.ascii_grid.specs.Values.{is_value, value_in, is_whole_text, whole_value}
use Rattle.ascii_grid.specs.Row.{value_or_zero, or_zero, row_of}

kept : (a b c : Bool) (v : ℤ) (f g h : GridFault) → is_value v ≡ b → is_value (or_zero (cond a (cond b (Ok v) (Err f)) (cond c (Err g) (Err h)))) ≡ true
kept true true c v f g h is = is
kept true false c v f g h is = refl
kept false b true v f g h is = refl
kept false b false v f g h is = refl

value_kept : (text : List ℕ) → is_value (value_or_zero text) ≡ true
unfolding value_in
value_kept text = kept (is_whole_text text) (is_value (whole_value text)) (is_decimal text) (whole_value text) Limit (NotInteger 0) (BadToken 0) refl

-- each sample of a row is of Int32
pub row_kept : (text : List ℕ) (n : ℕ) → All (λ v. is_value v ≡ true) (row_of n text)
row_kept text n =
    let P : ℤ → Type 0 = λ v. is_value v ≡ true in
    All-take (λ v. is_value v ≡ true) n (map (λ (t : Token). value_or_zero t.text) (tokens text) ++ replicate n (pos 0))
    (All-append (λ v. is_value v ≡ true) (map (λ (t : Token). value_or_zero t.text) (tokens text)) (replicate n (pos 0))
    (All-map (λ v. is_value v ≡ true) (λ (t : Token). value_or_zero t.text) (tokens text) (λ k d less. value_kept _))
    (All-replicate (λ v. is_value v ≡ true) n (pos 0) refl))
