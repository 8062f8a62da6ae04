use Rattle.std.proofs.Common.{◌∙◌, sym, drop, append-nil, drop_of_length-le}
use Rattle.jc_report.proofs.SoFar.{none_left}
use Rattle.jc_report.proofs.line_numbers.number_lines.Goals as goal

pub returns : goal.returns
returns c =
    let so_far = c.loop-i.invariant in
    sym (append-nil c.loop-i.all.items) ∙ rw (drop_of_length-le c.args.lines.now c.loop-i-test.false, none_left (drop c.loop-i.i c.args.numbers.now)) at so_far
