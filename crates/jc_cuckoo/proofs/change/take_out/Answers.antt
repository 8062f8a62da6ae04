use Rattle.std.proofs.Common.{◌∙◌, ap, sym}
use Rattle.jc_cuckoo.specs.Cells.{cell}
use Rattle.jc_cuckoo.proofs.Listed.{indexed_dropped, indexed_moved, listed_moved}
use Rattle.jc_cuckoo.proofs.change.take_out.Goals as goal

pub returns-in-Some-clause-index : goal.returns-in-Some-clause-index
returns-in-Some-clause-index c = λ keyed n behind indexed.
    let others = c.remove.ensures.others in let dropped = c.swap_out.ensures.dropped in
    let there = sym (c.row_at.ensures ∙ ap (λ l. cell l c.args.at) c.deref.ensures.value) ∙ c.in-Some.is in
    indexed_moved c.remove.new.self c.args.at c.args.held.now c.in-Some.moved c.requires.once c.requires.held behind dropped c.remove.ensures.gone others there
    (c.move_to.ensures.moved (listed_moved c.remove.new.self c.args.at c.args.held.now c.in-Some.moved behind c.requires.once c.requires.held dropped others there indexed))
    c.move_to.ensures.others indexed

pub returns-in-None-clause-index : goal.returns-in-None-clause-index
returns-in-None-clause-index c = λ keyed n behind indexed.
    indexed_dropped c.args.at c.args.held.now c.requires.once c.requires.held c.swap_out.ensures.dropped c.remove.ensures.gone c.remove.ensures.others (sym (c.row_at.ensures ∙ ap (λ l. cell l c.args.at) c.deref.ensures.value) ∙ c.in-None.is) indexed
