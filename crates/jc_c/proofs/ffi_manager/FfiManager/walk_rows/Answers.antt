use Rattle.std.proofs.Common.{Some, None, refl, ap, ◌∙◌}
use Rattle.jc_c.specs.Walk.{length_at_end, number_at_end}
use Rattle.jc_c.proofs.Walking.{sets_out, stepped, stopped, ended_there}
use Rattle.jc_c.proofs.ffi_manager.FfiManager.walk_rows.Goals as goal

pub loop-number-init : goal.loop-number-init
loop-number-init c = record { going = sets_out _ _ _ _; len = refl; next = refl }

pub loop-number-preserved : goal.loop-number-preserved
loop-number-preserved c = record {
  going = stepped c.loop-number.invariant.going _ refl c.loop-number-test.true c.loop-number.auto.out c.in-Ok.ensures;
  len = c.loop-number.invariant.len;
  next = c.loop-number.invariant.next;
}

pub returns-in-Err : goal.returns-in-Err
returns-in-Err c =
    let t = stopped c.loop-number.invariant.going _ _ _ refl c.loop-number-test.true c.loop-number.auto.out c.in-Err.ensures c.args.len.now c.args.next.now in
    record {
      status = c.stop.ensures.status ∙ t.status;
      bytes = t.bytes;
      many = c.stop.ensures.len ∙ ap (length_at_end c.loop-number.way (Some c.in-Err.wanted)) c.loop-number.invariant.len ∙ t.many;
      onward = c.stop.ensures.next ∙ ap (number_at_end c.loop-number.way) c.loop-number.invariant.next ∙ t.onward;
    }

pub returns : goal.returns
returns c =
    let t = ended_there c.loop-number.invariant.going c.loop-number-test.false c.args.len.now c.args.next.now in
    record {
      status = c.stop-2.ensures.status ∙ t.status;
      bytes = t.bytes;
      many = c.stop-2.ensures.len ∙ ap (length_at_end c.loop-number.way None) c.loop-number.invariant.len ∙ t.many;
      onward = c.stop-2.ensures.next ∙ ap (number_at_end c.loop-number.way) c.loop-number.invariant.next ∙ t.onward;
    }
