use Rattle.std.proofs.Common.{◌≡◌, ◌+◌, drop, map}
use Rattle.jc_script.specs.Stray.{stray_from}
use Rattle.jc_script.proofs.stray.stray_line.Given as goal

-- the first of the pieces that are left is the first of all
abbrev pub invariant-loop-i : goal.invariant-loop-i
invariant-loop-i l = stray_from 1 (map (λ piece. piece.now) l.piece-items) ≡ stray_from (l.i + 1) (map (λ piece. piece.now) (drop l.i l.piece-items))
