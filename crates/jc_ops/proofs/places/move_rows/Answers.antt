use Rattle.std.proofs.Common.{◌∙◌, sym}
use Rattle.jc_ops.proofs.Moves.{row_moves}
use Rattle.jc_ops.proofs.places.move_rows.Goals as goal

pub push_with-requires-clause-below : goal.push_with-requires-clause-below
push_with-requires-clause-below g c =
    let moves = row_moves _ _ _ (c.in-Some.row, c.in-Some.used) c.requires.apart c.rows.invariant.all (sym c.in-Some.ensures) in
    rw c.rows.invariant.limit (c.requires.below _ moves.on)

pub push_with-requires-clause-absent : goal.push_with-requires-clause-absent
push_with-requires-clause-absent g c = (row_moves _ _ _ (c.in-Some.row, c.in-Some.used) c.requires.apart c.rows.invariant.all (sym c.in-Some.ensures)).absent

pub rows-preserved : goal.rows-preserved
rows-preserved g c = record {
  all = rw (c.push_with.ensures.pushed, c.drop_one.ensures.dropped) (row_moves _ _ _ (c.in-Some.row, c.in-Some.used) c.requires.apart c.rows.invariant.all (sym c.in-Some.ensures)).left;
  limit = c.push_with.ensures.limit ∙ c.rows.invariant.limit;
}
