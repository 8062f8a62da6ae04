use Rattle.std.proofs.Common.{arith}
use Rattle.jc_engine.proofs.Entries.{asked_same}
use Rattle.jc_engine.proofs.journal.notes.note.Goals as goal

pub returns-in-Asked-clause-noted : goal.returns-in-Asked-clause-noted
returns-in-Asked-clause-noted c = grind (arith, asked_same)
