use Rattle.std.proofs.Common.{◌≡◌, List, ℕ, ◌+◌, ◌++◌, length, take, sym, ap, ◌∙◌, append_assoc, arith}
use Rattle.std.specs.List.{flat_map}
use Rattle.std.proofs.lemmas.List.{length-append}
use Rattle.jc_save.specs.Placing.{put_at}
use Rattle.jc_save.specs.Restoring.{item, items}
use Rattle.jc_save.specs.Spelling.{head, row}
use Rattle.jc_save.proofs.Placing.{put_after}
use Rattle.jc_save.proofs.Written.{rows_then, all_rows}
use Rattle.jc_save.proofs.saving.save_into.Goals as goal

pub loop-row-preserved : goal.loop-row-preserved
loop-row-preserved c =
    let rows = c.items-rows.result.now in
    let i = c.loop-row.row-index in
    let x = c.row-item.result in
    let start = head c.args.cache.now.config c.args.cache.now.counts (length c.args.cache.now.rows) in
    let done = start ++ flat_map row (items (take i rows)) in
    let this : row (item (_)) ≡ row (item x) = ap (λ r. row (item r)) (sym c.row-item.is) in
    let more : start ++ flat_map row (items (take (i + 1) rows)) ≡ done ++ row (item x) =
    ap (λ (t : List ℕ). start ++ t) (rows_then rows i x c.loop-row-test.true ∙ ap (λ (t : List ℕ). flat_map row (items (take i rows)) ++ t) this) ∙ sym (append_assoc start (flat_map row (items (take i rows))) (row (item x))) in
    record {
      place = rw more (omega (arith, length-append done (row (item x)), c.put_row-at.ensures.place, c.loop-row.invariant.place));
      few = omega (arith, c.put_row-at.ensures.few, c.loop-row.invariant.few);
      out = rw (more, c.put_row-at.ensures.out, c.loop-row.invariant.out, c.loop-row.invariant.place) (put_after done (row (item x)) c.args.out.now);
    }

pub returns-clause-length : goal.returns-clause-length
returns-clause-length c =
    c.loop-row.invariant.place ∙ ap length (rw c.items-rows.ensures (all_rows c.args.cache.now c.loop-row.row-index (rw (← c.items-rows.ensures) (omega (arith, c.loop-row-test.false)))))

pub returns-clause-out : goal.returns-clause-out
returns-clause-out c =
    c.loop-row.invariant.out ∙ ap (λ (t : List ℕ). put_at 0 t c.args.out.now) (rw c.items-rows.ensures (all_rows c.args.cache.now c.loop-row.row-index (rw (← c.items-rows.ensures) (omega (arith, c.loop-row-test.false)))))
