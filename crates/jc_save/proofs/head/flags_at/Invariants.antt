use Rattle.std.proofs.Common.{◌≡◌, ◌-◌, []}
use Rattle.jc_save.specs.Reading.{flags_at}
use Rattle.jc_save.proofs.head.flags_at.Given as goal

abbrev pub invariant-loop : goal.invariant-loop
invariant-loop l = flags_at l.flags.items (l.count - l.counter) l.rest ≡ flags_at [] l.count l.bytes
