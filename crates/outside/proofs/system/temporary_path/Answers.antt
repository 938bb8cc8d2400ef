use Rattle.std.proofs.Common.{◌≡◌, ◌∙◌, ap, string_bytes, Some, None}
use Rattle.std.proofs.lemmas.Result.{IfOk-weaker}
use Rattle.outside.specs.Names.{folder_part}
use Rattle.outside.specs.Temporary.{temporary_in, temporary_of}
use Rattle.outside.proofs.system.temporary_path.Goals as goal

pub returns-in-Some : goal.returns-in-Some
returns-in-Some c =
    let process = c.args.process in
    let number = c.args.number in
    let folder = c.in-Some.folder.now in
    let is : Some folder ≡ folder_part c.args.name.now = c.in-Some.ensures in
    IfOk-weaker c.format.result (λ s. string_bytes s ≡ temporary_in (Some folder) process number) (λ s. string_bytes s ≡ temporary_of c.args.name.now process number)
    (λ s wrote. wrote ∙ ap (λ f. temporary_in f process number) is) c.format.ensures.ok

pub returns-in-None : goal.returns-in-None
returns-in-None c =
    let process = c.args.process in
    let number = c.args.number in
    let is : None ≡ folder_part c.args.name.now = c.in-None.ensures in
    IfOk-weaker c.format-in-None.result (λ s. string_bytes s ≡ temporary_in None process number) (λ s. string_bytes s ≡ temporary_of c.args.name.now process number)
    (λ s wrote. wrote ∙ ap (λ f. temporary_in f process number) is) c.format-in-None.ensures.ok
