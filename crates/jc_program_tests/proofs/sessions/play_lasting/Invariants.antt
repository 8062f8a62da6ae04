use Rattle.std.proofs.Common.{map}
use Rattle.jc_locked.specs.Stated.{stated_by}
use Rattle.jc_program_tests.proofs.sessions.play_lasting.Given as goal

abbrev pub ghosts-lasted : goal.ghosts-lasted
ghosts-lasted g a = record {
  configs = a.shared.configs;
  stated = map (stated_by g.L.Loader.load_of g.P.Processor.verdict_of) a.shared.shared;
  index = a.shared.index;
}
