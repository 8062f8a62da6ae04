use Rattle.std.proofs.Common.{◌≡◌, ℕ, ◌-◌, ◌+◌, ◌≤◌, ◌<◌, None}
use Rattle.jc_cuckoo.specs.Cells.{cell}
use Rattle.jc_cuckoo.proofs.scan.first_empty.Given as goal

abbrev pub invariant-slots : goal.invariant-slots
invariant-slots l = record { from : l.from ≤ l.at; to : l.at ≤ l.from + 4; full : (j : ℕ) → l.from ≤ j → j < l.at → cell l.cells j ≡ None → ⊥ }

abbrev pub decreases-slots : goal.decreases-slots
decreases-slots l = l.from + 4 - l.at
