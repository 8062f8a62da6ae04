use Rattle.std.proofs.Common.{◌≡◌, map, take}
use Rattle.jc_save.specs.Placing.{put_at}
use Rattle.jc_save.specs.Spelling.{flag}
use Rattle.jc_c.proofs.put.put_flags.Given as goal

abbrev pub invariant-loop-is_set : goal.invariant-loop-is_set
invariant-loop-is_set l = record {
  place : l.at ≡ l.is_set-index;
  out : l.out ≡ put_at 0 (map flag (take l.is_set-index l.flags)) l.fn.out;
}
