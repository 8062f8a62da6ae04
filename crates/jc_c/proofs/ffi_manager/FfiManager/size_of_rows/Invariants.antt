use Rattle.std.proofs.Common.{◌≡◌, ◌≤◌, ◌+◌, ◌-◌, ◌*◌}
use Rattle.jc_model.specs.Places.{at_place}
use Rattle.jc_engine.specs.Caches.{NumbersRows}
use Rattle.jc_c.specs.Bytes.{bytes_numbered}
use Rattle.jc_c.proofs.ffi_manager.FfiManager.size_of_rows.Given as goal

-- the rows of the numbers below this one are counted
abbrev pub invariant-rows : goal.invariant-rows
invariant-rows l = record {
  counted : l.total ≡ bytes_numbered l.number (at_place l.self.caches l.id);
  bound : l.total ≤ 65598 * l.number;
  least : 1 ≤ l.number;
  within : l.number ≤ 1 + (l.capacity - 1);
  numbers : NumbersRows (at_place l.self.caches l.id);
}

abbrev pub decreases-rows : goal.decreases-rows
decreases-rows l = l.capacity - l.number
