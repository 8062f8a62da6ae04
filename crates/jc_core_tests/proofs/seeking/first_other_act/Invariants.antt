use Rattle.std.proofs.Common.{map}
use Rattle.jc_locked.specs.Stated.{stated_by}
use Rattle.jc_core_tests.proofs.seeking.first_other_act.Given as goal

abbrev pub ghosts-first_other_named : goal.ghosts-first_other_named
ghosts-first_other_named g a = record {
  configs = a.shared.configs;
  stated = map (stated_by g.L.Loader.load_of g.P.Processor.verdict_of) a.shared.shared;
  index = a.shared.index;
}
