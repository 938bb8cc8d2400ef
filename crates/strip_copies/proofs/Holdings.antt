-- What a band of an output makes of samples.
use Rattle.std.proofs.Common.{◌≡◌, ℕ, ℤ, List, refl, ap, sym, ◌∙◌, subst, arith, pos, negsuc, Option, Some, None}
use Rattle.std.specs.Prelude.{slice_get, option_map}
use Rattle.std.specs.Option.{unwrap_or}
use Rattle.std.specs.List.{All}
use Rattle.std.proofs.lemmas.Int.{ints}
use Rattle.std.proofs.lemmas.Bool.Decides.{nat_tests}
use Rattle.std.proofs.lemmas.Option.{get_or_from_slice_get, slice_get_within}
use Rattle.geotransform.specs.Types.{highest}
use Rattle.geotransform.specs.declared.types.PixelType.{PixelType}
use Rattle.geotransform.specs.declared.types.PixelType.TheVariants.{Int16}
use Rattle.translate_plan.specs.declared.band.OutBand.{OutBand}
use Rattle.translate_plan.specs.declared.options.Driver.{Driver}
use Rattle.translate_plan.specs.declared.options.Driver.TheVariants.{EHdr, Dted, SrtmHgt, AaiGrid, Vrt}
use Rattle.translate_plan.specs.Plan.{Planned, BandsHold, IsPlan, held}
use Rattle.strip_copies.specs.declared.holding.Holding.{Holding}
use Rattle.strip_copies.specs.Rows.{least_sample_by, nearest, IsHolding}

near_cell : (v : ℤ) → nearest (negsuc 32766) (pos 32767) v ≡ held (Dted 0) Int16 v
near_cell v = grind (arith, nat_tests, ints)

-- a sample of a driver's files is the nearest that its band can hold
nearest_held : (d : Driver) (kind : PixelType) → ((level : ℕ) → d ≡ Dted level → kind ≡ Int16) → (v : ℤ) → nearest (least_sample_by d kind) (highest kind) v ≡ held d kind v
nearest_held EHdr kind h v = refl
nearest_held (Dted level) kind h v = rw (h level refl) (near_cell v)
nearest_held SrtmHgt kind h v = refl
nearest_held AaiGrid kind h v = refl
nearest_held Vrt kind h v = refl

-- what holds of all bands holds of one
pub one_of : (P : OutBand → Type 0) (bs : List OutBand) (k : ℕ) (b : OutBand) → All P bs → slice_get bs k ≡ Some b → P b
one_of P bs k b all e = subst P (get_or_from_slice_get bs k b b e) (all k b (slice_get_within bs k b e))

cell_kind : (p : Planned) (d : Driver) (level k : ℕ) (b : OutBand) → BandsHold d p.bands → d ≡ Dted level → slice_get p.bands k ≡ Some b → b.kind ≡ Int16
cell_kind p d level k b holds is e = (one_of (λ b. (b.kind ≡ Int16) × (b.nodata ≡ Some (negsuc 32766))) p.bands k b (subst (λ d. BandsHold d p.bands) is holds) e).0

holding_by : (p : Planned) (k : ℕ) (h : Holding) (kind : PixelType) (nodata : Option ℤ) (found : Option OutBand) → slice_get p.bands k ≡ found → IsPlan p → option_map (λ b. b.kind) found ≡ Some kind → option_map (λ b. b.nodata) found ≡ Some nodata
    → h.least ≡ least_sample_by p.driver kind → h.most ≡ highest kind → h.fill ≡ unwrap_or nodata (pos 0) → IsHolding p k h
holding_by p k h kind nodata None e plan t n least most fill = absurd (cc)
holding_by p k h kind nodata (Some b) e plan t n least most fill =
    let same : b.kind ≡ kind = cc in
    let word : b.nodata ≡ nodata = cc in
    record {
      band = b;
      at = e;
      held = λ v. ap (λ l. nearest l h.most v) (least ∙ ap (least_sample_by p.driver) (sym same)) ∙ ap (λ m. nearest (least_sample_by p.driver b.kind) m v) (most ∙ ap highest (sym same)) ∙ nearest_held p.driver b.kind (λ level is. cell_kind p p.driver level k b plan.alike is e) v;
      fill = fill ∙ ap (λ o. unwrap_or o (pos 0)) (sym word);
    }

pub holding_is : (p : Planned) (k : ℕ) (h : Holding) (kind : PixelType) (nodata : Option ℤ) → IsPlan p → option_map (λ b. b.kind) (slice_get p.bands k) ≡ Some kind → option_map (λ b. b.nodata) (slice_get p.bands k) ≡ Some nodata
    → h.least ≡ least_sample_by p.driver kind → h.most ≡ highest kind → h.fill ≡ unwrap_or nodata (pos 0) → IsHolding p k h
holding_is p k h kind nodata plan t n least most fill = holding_by p k h kind nodata (slice_get p.bands k) refl plan t n least most fill
