use Rattle.std.proofs.Common.{◌≡◌, ◌+◌, ◌++◌, drop, map}
use Rattle.jc_explain.specs.Every.{faults_from}
use Rattle.jc_explain.proofs.every.all_faults.Given as goal

-- the faults so far, and those of the pieces that are left, are all
abbrev pub invariant-loop-i : goal.invariant-loop-i
invariant-loop-i l = faults_from l.fn.settings 1 (map (λ piece. piece.now) l.piece-items) ≡ l.faults.items ++ faults_from l.live (l.i + 1) (map (λ piece. piece.now) (drop l.i l.piece-items))
