use Rattle.std.proofs.Common.{◌+◌, ◌∙◌, sym, arith}
use Rattle.std.proofs.lemmas.Grind.{common_steps}
use Rattle.jc_replay.proofs.Lines.{next_line, no_line, skips, takes, stops, is_done}
use Rattle.jc_replay.proofs.trace.read_lines.Goals as goal

pub loop-i-preserved-then-is_empty : goal.loop-i-preserved-then-is_empty
loop-i-preserved-then-is_empty c =
    let next = next_line c.args.lines.now c.loop-i.i _ c.loop-i-test.true in
    record {
      exact = skips (c.loop-i.i + 1) c.loop-i.keys.items _ _ _ (sym c.is_empty.ensures ∙ c.if-is_empty.true) (rw next at c.loop-i.invariant.exact);
      few = grind (arith, common_steps);
    }

pub loop-i-preserved : goal.loop-i-preserved
loop-i-preserved c =
    let next = next_line c.args.lines.now c.loop-i.i _ c.loop-i-test.true in
    record {
      exact = rw c.in_ok-push.ensures.items (takes (c.loop-i.i + 1) c.loop-i.keys.items _ c.in-Some.key _ _ (sym c.is_empty.ensures ∙ c.if-is_empty.false) (sym c.in-Some.ensures) (rw next at c.loop-i.invariant.exact));
      few = grind (arith, common_steps);
    }

pub returns-in_default-clause-read : goal.returns-in_default-clause-read
returns-in_default-clause-read c =
    let next = next_line c.args.lines.now c.loop-i.i _ c.loop-i-test.true in
    stops (c.loop-i.i + 1) c.loop-i.keys.items _ _ _ (sym c.is_empty.ensures ∙ c.if-is_empty.false) (sym c.in_default.ensures) (rw next at c.loop-i.invariant.exact)

pub returns-clause-read : goal.returns-clause-read
returns-clause-read c =
    let past = no_line c.args.lines.now c.loop-i.i c.loop-i-test.false in
    is_done (c.loop-i.i + 1) c.loop-i.keys.items _ (rw past at c.loop-i.invariant.exact)
