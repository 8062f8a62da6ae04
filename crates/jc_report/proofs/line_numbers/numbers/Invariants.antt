use Rattle.std.proofs.Common.{◌≡◌, ◌+◌, ◌++◌, drop, map}
use Rattle.jc_report.specs.Outline.{piece_numbers_from}
use Rattle.jc_report.proofs.line_numbers.numbers.Given as goal

-- the numbers so far, and then those of the pieces that are left, are all
abbrev pub invariant-loop-i : goal.invariant-loop-i
invariant-loop-i l = l.numbers.items ++ piece_numbers_from (l.i + 1) (map (λ piece. piece.now) (drop l.i l.pieces)) ≡ piece_numbers_from 1 (map (λ piece. piece.now) l.pieces)
