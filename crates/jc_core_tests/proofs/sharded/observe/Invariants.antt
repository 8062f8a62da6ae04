use Rattle.jc_shards.specs.Sharded.{four_told_by}
use Rattle.jc_core_tests.proofs.sharded.observe.Given as goal

abbrev pub ghosts-named : goal.ghosts-named
ghosts-named g a = record {
  shards = four_told_by a.quarters.left.left a.quarters.left.right a.quarters.right.left a.quarters.right.right;
}
