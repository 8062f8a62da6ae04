use Rattle.std.proofs.Common.{◌≡◌, drop, map}
use Rattle.jc_explain.specs.Script.{piece_from}
use Rattle.jc_explain.proofs.script.piece_at.Given as goal

-- the piece is found among those that are left as it is among all
abbrev pub invariant-loop-i : goal.invariant-loop-i
invariant-loop-i l = piece_from 0 l.place (map (λ piece. piece.now) l.piece-items) ≡ piece_from l.i l.place (map (λ piece. piece.now) (drop l.i l.piece-items))
