use Rattle.std.proofs.Common.{◌≡◌, ◌++◌, List, Some, is_some, slice_get, sym, ap, ◌∙◌, length-set, set-set}
use Rattle.jc_engine.proofs.Names.{Notice, Entry, at_same}
use Rattle.jc_engine.proofs.Entries.{some_at}
use Rattle.jc_engine.proofs.journal.all_calls.AllCalls.note_given_up.Goals as goal

pub set_end-requires : goal.set_end-requires
set_end-requires c = let e = some_at c.args.self.now.transcript.entries c.args.place c.requires in rw (c.set_told.ensures e.0 e.1, length-set) c.requires

pub returns-in-Some-clause-noted : goal.returns-in-Some-clause-noted
returns-in-Some-clause-noted c = λ e at untold.
    let written = c.set_told.ensures e at in
    let told : Entry = record e { told = c.into_lists-notices.result.1 } in
    let there : slice_get c.set_told.new.self.entries c.args.place ≡ Some told = rw written (at_same c.args.self.now.transcript.entries c.args.place e told at) in
    let notices : c.into_lists-notices.result.1 ≡ e.told ++ c.in-Some.left.told = c.into_lists-notices.ensures.kept ∙ ap (λ (before : List Notice). before ++ c.in-Some.left.told) (sym (untold (ap is_some c.in-Some.is))) in
    rw (c.in-Some.is, ← notices) (rw (written, set-set) at (c.set_end.ensures told there))
