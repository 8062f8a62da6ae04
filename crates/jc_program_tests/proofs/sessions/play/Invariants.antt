use Rattle.std.proofs.Common.{map}
use Rattle.jc_locked.specs.Stated.{stated_by}
use Rattle.jc_program_tests.proofs.sessions.play.Given as goal

abbrev pub ghosts-played : goal.ghosts-played
ghosts-played g a = record {
  configs = a.shared.configs;
  stated = map (stated_by g.L.Loader.load_of g.P.Processor.verdict_of) a.shared.shared;
  index = a.shared.index;
}
