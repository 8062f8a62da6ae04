use Rattle.jc_locked.specs.Stated.{stated_by_hand}
use Rattle.jc_bench.proofs.managers.named_one.Given as goal

abbrev pub ghosts-played_one : goal.ghosts-played_one
ghosts-played_one g a = record {
  configs = a.unnamed.configs;
  stated = stated_by_hand a.unnamed.shared;
  index = a.unnamed.index;
}
