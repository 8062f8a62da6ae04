use Rattle.std.proofs.Common.{◌≡◌, drop}
use Rattle.jc_explain.specs.Shape.{first_mark}
use Rattle.jc_explain.proofs.shape.first_mark.Given as goal

-- the first of the bytes that are left is the first of all
abbrev pub invariant-loop-byte : goal.invariant-loop-byte
invariant-loop-byte l = first_mark l.bytes ≡ first_mark (drop l.byte-index l.bytes)
