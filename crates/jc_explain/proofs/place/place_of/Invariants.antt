use Rattle.std.proofs.Common.{◌≡◌, ◌≤◌, ◌+◌, drop}
use Rattle.jc_explain.specs.Place.{line_number, line_from, column_of, column_from}
use Rattle.jc_explain.proofs.place.place_of.Given as goal

-- what is counted goes on over the bytes that are left
abbrev pub invariant-loop-byte : goal.invariant-loop-byte
invariant-loop-byte l =
    (line_number l.byte-items ≡ line_from l.line (drop l.byte-index l.byte-items)) × (column_of l.byte-items ≡ column_from l.column (drop l.byte-index l.byte-items))
    × (l.line ≤ l.byte-index + 1) × (l.column ≤ l.byte-index + 1)
