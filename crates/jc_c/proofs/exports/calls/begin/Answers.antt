use Rattle.std.proofs.Common.{Some, sym, ap, ◌∙◌}
use Rattle.jc_c.proofs.Holding.{on_seat}
use Rattle.jc_c.proofs.exports.calls.begin.Goals as goal

pub returns-clause-or_memory : goal.returns-clause-or_memory
returns-clause-or_memory c = λ what read. on_seat _ _ _ _ _ _ _ (c.in-Some.ensures.had ∙ ap Some (sym c.deref_mut.ensures.value)) c.put_in.ensures c.number-2.ensures (c.call-status.ensures.or_memory what read)
