use Rattle.std.proofs.Common.{arith}
use Rattle.jc_rows.proofs.Found.{len_found, same_found}
use Rattle.jc_rows.proofs.list_rows.ListRowsRows.make_room.Goals as goal

pub returns-then-n-capacity-clause-ok : goal.returns-then-n-capacity-clause-ok
returns-then-n-capacity-clause-ok c = rw (← c.self.view_is) (omega (arith, len_found c.self.inside.rows.entries c.len-held.ensures.unique, c.capacity.ensures, c.if-n-capacity.true))

pub returns-clause-same : goal.returns-clause-same
returns-clause-same c = rw (← c.self.view_is) (same_found c.self.inside.rows.entries c.reserve.new.self.entries c.reserve.ensures.entries.2)

pub returns-clause-ok : goal.returns-clause-ok
returns-clause-ok c = omega (arith, len_found c.reserve.new.self.entries c.reserve.ensures.unique, c.reserve.ensures.entries.1, c.len-held.ensures.len, c.capacity-2.ensures, c.if-capacity-held.false)

pub returns-then-capacity-held-clause-refused : goal.returns-then-capacity-held-clause-refused
returns-then-capacity-held-clause-refused c = omega (arith, len_found c.reserve.new.self.entries c.reserve.ensures.unique, c.reserve.ensures.entries.1, c.len-held.ensures.len, c.capacity-2.ensures, c.if-capacity-held.true)

pub returns-then-capacity-held-clause-succeeds : goal.returns-then-capacity-held-clause-succeeds
returns-then-capacity-held-clause-succeeds c = rw (← c.self.view_is) (λ h. absurd (omega (arith, h, len_found c.self.inside.rows.entries c.len-held.ensures.unique, c.capacity.ensures, c.if-n-capacity.false)))

pub returns-clause-there : goal.returns-clause-there
returns-clause-there c = rw (← c.self.view_is) (λ h. absurd (omega (arith, h, len_found c.self.inside.rows.entries c.len-held.ensures.unique, c.capacity.ensures, c.if-n-capacity.false)))

pub returns-then-capacity-held-clause-there : goal.returns-then-capacity-held-clause-there
returns-then-capacity-held-clause-there c = rw (← c.self.view_is) (λ h. absurd (omega (arith, h, len_found c.self.inside.rows.entries c.len-held.ensures.unique, c.capacity.ensures, c.if-n-capacity.false)))
