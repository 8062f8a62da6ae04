use Rattle.std.proofs.Common.{◌≡◌}
use Rattle.jc_model.specs.Places.{at_place}
use Rattle.jc_c.proofs.Walking.{Going}
use Rattle.jc_c.proofs.ffi_manager.FfiManager.walk_rows.Given as goal

-- some rows are given, and those from this number on are left
abbrev pub invariant-loop-number : goal.invariant-loop-number
invariant-loop-number l = record {
  going : Going (at_place l.self.caches l.id) l.capacity l.from l.fn.out l.number l.way l.out;
  len : l.len ≡ l.fn.len;
  next : l.next ≡ l.fn.next;
}
