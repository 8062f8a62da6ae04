use Rattle.std.proofs.Common.{◌∙◌, ap, sym, arith, drop, string_bytes, ◌∷◌, ◌+◌}
use Rattle.std.proofs.lemmas.List.{drop_more}
use Rattle.jc_report.proofs.SoFar.{begins, goes_on, next_few}
use Rattle.jc_report.proofs.lines.push_lines.Goals as goal

pub loop-line-init : goal.loop-line-init
loop-line-init c = record {
  few = let is = c.from.ensures in omega (arith, is);
  told = rw c.from.ensures (begins c.args.run.now.transcript.now.lives (string_bytes c.args.text.now) c.args.first c.args.outline.now c.in_ok-callers.field-0 c.args.run.now.transcript.now.entries c.args.run.now.managed.now (rw c.entries-entries.ensures at c.in_ok-callers.ensures));
}

pub loop-line-preserved : goal.loop-line-preserved
loop-line-preserved c = record {
  few = let is = c.in_ok-push_line.ensures.next in let more = next_few c.line-item.result.asked c.loop-line.left.managed.now c.loop-line.left.next in let before = c.loop-line.invariant.few in omega (arith, is, more, before);
  told = goes_on c.args.run.now.transcript.now.lives (string_bytes c.loop-line.text) (string_bytes c.push_line.new.text) c.loop-line.left.next c.push_line.new.left.next c.line-item.result (drop c.loop-line.line-index c.args.outline.now) (drop (c.loop-line.line-index + 1) c.args.outline.now)
      c.loop-line.left.callers c.push_line.new.left.callers c.loop-line.left.managed.now c.push_line.new.left.managed.now (string_bytes c.args.text.now) c.args.first c.args.outline.now c.args.run.now.transcript.now.entries c.args.run.now.managed.now
      (drop_more c.args.outline.now c.loop-line.line-index c.line-item.result c.loop-line-test.true ∙ ap (λ line. line ∷ drop (c.loop-line.line-index + 1) c.args.outline.now) (sym c.line-item.is))
      c.in_ok-push_line.ensures.next c.in_ok-push_line.ensures.managed (rw c.lives-lives.ensures at c.in_ok-push_line.ensures.text) c.in_ok-push_line.ensures.entries c.loop-line.invariant.told;
}
