-- What each of the program's processors answers.
use Rattle.std.specs.Prelude.{ℕ, Bool, true, false, List, Option, Result}
use Rattle.jc_model.specs.declared.call.Verdict.{Verdict}
use Rattle.jc_model.specs.declared.call.ProcessorFault.{ProcessorFault}
use Rattle.jc_hooks.specs.Program.{append_verdict, processor_failure, drop_verdict, peek_verdict}
use Rattle.jc_hooks.specs.declared.program.ProgramProcessor.{ProgramProcessor}
use Rattle.jc_hooks.specs.declared.program.ProgramProcessor.TheVariants.{Append, Fail, Drop, Peek}

abbrev pub wants_of : ProgramProcessor → Bool
wants_of Append = true
wants_of Fail = false
wants_of Drop = false
wants_of Peek = true

abbrev pub program_verdict : ProgramProcessor → Option (List ℕ) → List ℕ → Result Verdict ProcessorFault
program_verdict Append value argument = append_verdict value argument
program_verdict Fail value argument = processor_failure
program_verdict Drop value argument = drop_verdict value
program_verdict Peek value argument = peek_verdict value
