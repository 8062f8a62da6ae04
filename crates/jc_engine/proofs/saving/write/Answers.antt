use Rattle.jc_engine.proofs.Saved.{none_written, row_is_next, at_fits, fewer_left, all_length, all_out}
use Rattle.jc_engine.proofs.saving.write.Goals as goal

pub rows-init : goal.rows-init
rows-init g c = record {
  written = none_written c.args.state.now.kept _ _ _ _ c.first-next.ensures (rw (c.config.ensures, c.counts.ensures, c.len.ensures) at c.put_head-at.ensures.place) c.put_head-at.ensures.few (rw (c.config.ensures, c.counts.ensures, c.len.ensures) at c.put_head-at.ensures.out);
}

pub put_row-at-requires : goal.put_row-at-requires
put_row-at-requires g c =
    at_fits c.args.state.now.kept c.in-Some.row c.record-held.result.now _ _ _ c.requires.apart (rw c.in-Some.is at c.rows.invariant.written) c.record-held.ensures c.requires.limits c.requires.within

pub rows-smaller : goal.rows-smaller
rows-smaller g c =
    rw (c.after-next.ensures, c.in-Some.is) (fewer_left c.args.state.now.kept c.in-Some.row c.record-held.result.now _ _ _ c.requires.apart (rw c.in-Some.is at c.rows.invariant.written) c.record-held.ensures)

pub rows-preserved : goal.rows-preserved
rows-preserved g c = record {
  written = rw c.after-next.ensures (row_is_next c.args.state.now.kept c.in-Some.row c.record-held.result.now _ _ _ c.requires.apart (rw c.in-Some.is at c.rows.invariant.written) c.record-held.ensures _ _
      (rw (c.first.ensures, c.is_used.ensures) at c.put_row-at.ensures.place) c.put_row-at.ensures.few (rw (c.first.ensures, c.is_used.ensures) at c.put_row-at.ensures.out) (rw (c.first.ensures, c.is_used.ensures) at c.put_row-at.ensures.limits));
}

pub returns-clause-length : goal.returns-clause-length
returns-clause-length g c = all_length c.args.state.now.kept _ _ _ (rw c.in_default.is at c.rows.invariant.written)

pub returns-clause-out : goal.returns-clause-out
returns-clause-out g c = all_out c.args.state.now.kept _ _ _ (rw c.in_default.is at c.rows.invariant.written)
