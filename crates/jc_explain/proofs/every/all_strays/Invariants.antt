use Rattle.std.proofs.Common.{◌≡◌, ◌+◌, ◌++◌, drop, map}
use Rattle.jc_explain.specs.Every.{strays_from}
use Rattle.jc_explain.proofs.every.all_strays.Given as goal

-- the lines so far, and those of the pieces that are left, are all
abbrev pub invariant-loop-i : goal.invariant-loop-i
invariant-loop-i l = strays_from 1 (map (λ piece. piece.now) l.piece-items) ≡ l.strays.items ++ strays_from (l.i + 1) (map (λ piece. piece.now) (drop l.i l.piece-items))
