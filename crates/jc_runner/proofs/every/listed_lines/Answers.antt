use Rattle.std.proofs.Common.{◌∙◌, List, string_bytes, subst}
use Rattle.std.proofs.lemmas.Result.{IfOk-weaker}
use Rattle.jc_cli.specs.declared.fault.ProgramFault.{ProgramFault}
use Rattle.jc_runner.specs.Every.{Each, TellsAlone}
use Rattle.jc_runner.proofs.every.listed_lines.Goals as goal

pub returns : goal.returns
returns c =
    let rest = string_bytes c.in_ok-rest.rest in
    let told = subst (λ (faults : List ProgramFault). Each (TellsAlone c.args.origin.now.path.now c.args.origin.now.kind c.args.origin.now.config.now c.args.origin.now.script.now c.args.explain) faults rest) (c.as_slice.ensures.value ∙ c.in_ok-faults.ensures) c.in_ok-rest.ensures in
    IfOk-weaker c.joined.result _ _ (λ s h. (string_bytes c.in_ok-lines.lines, rest, c.in_ok-lines.ensures, told, h)) c.joined.ensures
