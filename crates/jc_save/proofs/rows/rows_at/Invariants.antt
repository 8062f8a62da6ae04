use Rattle.std.proofs.Common.{◌-◌, []}
use Rattle.jc_save.specs.Reading.{rows_at}
use Rattle.jc_save.proofs.Loops.{Reads}
use Rattle.jc_save.proofs.rows.rows_at.Given as goal

abbrev pub invariant-loop : goal.invariant-loop
invariant-loop l = Reads l.keys l.rows.items (l.count - l.counter) l.rest (rows_at [] l.count l.bytes)
