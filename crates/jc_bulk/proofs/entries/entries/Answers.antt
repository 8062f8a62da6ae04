use Rattle.std.proofs.Common.{◌∙◌, append-nil}
use Rattle.std.proofs.lemmas.List.{drop_all}
use Rattle.jc_bulk.proofs.Names.{items_of, progress_in}
use Rattle.jc_bulk.proofs.Rows.{all_there, all_listed, each_touched}
use Rattle.jc_bulk.proofs.entries.entries.Goals as goal

pub returns-clause-listed : goal.returns-clause-listed
returns-clause-listed g c =
    let v = c.args.visit.now in
    let rows = c.in_ok-rows.ensures in
    let done = rw (drop_all _ _ c.loop-key-test.false, append-nil, c.as_slice-keys.ensures.value, rows.keys) at c.loop-key.invariant.listed in
    c.into_lists.ensures ∙ (done ∙ all_listed v.cache.config v.moment _ (items_of v.cache.cells) (all_there _ rows.apart))

pub returns-clause-progress : goal.returns-clause-progress
returns-clause-progress g c =
    let v = c.args.visit.now in
    let rows = c.in_ok-rows.ensures in
    rw (c.touch_each.ensures.progress, c.as_slice-keys.ensures.value, rows.keys) (each_touched v (items_of v.cache.cells) (progress_in v) (all_there _ rows.apart) rows.apart)
