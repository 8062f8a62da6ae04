use Rattle.jc_shards.specs.Sharded.{four_told_by}
use Rattle.jc_bench.proofs.managers.named_four.Given as goal

abbrev pub ghosts-played_four : goal.ghosts-played_four
ghosts-played_four g a = record {
  shards = four_told_by a.quarters.left.left a.quarters.left.right a.quarters.right.left a.quarters.right.right;
}
