use Rattle.std.proofs.Common.{◌≡◌, ◌+◌, ◌++◌, length, take, map}
use Rattle.jc_save.specs.Spelling.{flag}
use Rattle.jc_save.proofs.saving.push_flags.Given as goal

abbrev pub invariant-loop-b : goal.invariant-loop-b
invariant-loop-b l = record {
  bytes : l.piece ≡ l.fn.piece ++ map flag (take l.b-index l.flags);
  count : length l.piece ≡ length l.fn.piece + l.b-index;
}
