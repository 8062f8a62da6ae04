use Rattle.std.proofs.Common.{map}
use Rattle.jc_hooks.specs.Program.{echo_answer}
use Rattle.jc_hooks.specs.Processors.{program_verdict}
use Rattle.jc_locked.specs.Stated.{stated_by}
use Rattle.jc_core_tests.proofs.coming.live.Given as goal

abbrev pub ghosts-named : goal.ghosts-named
ghosts-named g a = record {
  configs = a.shared.configs;
  stated = map (stated_by (λ l. echo_answer) (λ p. program_verdict p.processor)) a.shared.shared;
  index = a.shared.index;
}
