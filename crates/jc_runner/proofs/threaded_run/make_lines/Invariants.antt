use Rattle.std.proofs.Common.{map}
use Rattle.jc_locked.specs.Stated.{stated_by}
use Rattle.jc_runner.proofs.threaded_run.make_lines.Given as goal

abbrev pub ghosts-make_lines_under : goal.ghosts-make_lines_under
ghosts-make_lines_under g a = record {
  configs = a.shared.configs;
  stated = map (stated_by g.L.Loader.load_of g.P.Processor.verdict_of) a.shared.shared;
  index = a.shared.index;
}
