use Rattle.std.proofs.Common.{◌≡◌, ◌⊎◌, subst, List, ℕ, Ok, Err}
use Rattle.buildvrt.specs.Options.{Options}
use Rattle.error_lines.specs.declared.faults.Fault.TheVariants.{Memory}
use Rattle.published_files.specs.Names.{unless_own}
use Rattle.mosaic_builds.specs.Built.{built_of, warnings_of}
use Rattle.mosaic_builds.specs.Walks.{heads_at}
use Rattle.mosaic_builds.proofs.Stages.{own_building, refused_mosaic, refused_own, built_so}
use Rattle.mosaic_builds.proofs.making.build.Goals as goal

pub returns-in-Err-clause-told : goal.returns-in-Err-clause-told
returns-in-Err-clause-told c =
    let o = c.args.options.now in
    let cat = c.args.cat in
    let f = c.in-Err.fault in
    subst (λ (ids : List ℕ). (f ≡ Memory) ⊎ (built_of o cat (heads_at cat ids) ≡ Err f)) c.as_slice.ensures.items
    (refused_mosaic o cat (heads_at cat c.as_slice.result.now) f c.in-Err.ensures.mosaic)

pub returns-in-Ok-unless_own-clause-told : goal.returns-in-Ok-unless_own-clause-told
returns-in-Ok-unless_own-clause-told c =
    let o = c.args.options.now in
    let cat = c.args.cat in
    let made = c.in-Ok.made in
    subst (λ (ids : List ℕ). built_of o cat (heads_at cat ids) ≡ Ok (record { document = made.0; warnings = warnings_of (heads_at cat ids) made.1 })) c.as_slice.ensures.items
    (built_so o cat (heads_at cat c.as_slice.result.now) made c.in-Ok.ensures.mosaic
    (subst (λ (p : Options). unless_own cat p.out ≡ Ok tt) c.options.view_is c.in-Ok-unless_own.ensures.gives))

pub returns-in-Err-unless_own-clause-told : goal.returns-in-Err-unless_own-clause-told
returns-in-Err-unless_own-clause-told c =
    let o = c.args.options.now in
    let cat = c.args.cat in
    let made = c.in-Ok.made in
    let f = c.in-Err-unless_own.fault in
    subst (λ (ids : List ℕ). (f ≡ Memory) ⊎ (built_of o cat (heads_at cat ids) ≡ Err f)) c.as_slice.ensures.items
    (refused_own o cat (heads_at cat c.as_slice.result.now) made f c.in-Ok.ensures.mosaic
    (subst (λ (p : Options). (f ≡ Memory) ⊎ (unless_own cat p.out ≡ Err f)) c.options.view_is c.in-Err-unless_own.ensures.gives))

pub returns-in-Err-unless_own-clause-faults : goal.returns-in-Err-unless_own-clause-faults
returns-in-Err-unless_own-clause-faults c =
    let f = c.in-Err-unless_own.fault in
    own_building c.args.cat c.args.options.now.out f (subst (λ (p : Options). (f ≡ Memory) ⊎ (unless_own c.args.cat p.out ≡ Err f)) c.options.view_is c.in-Err-unless_own.ensures.gives)
