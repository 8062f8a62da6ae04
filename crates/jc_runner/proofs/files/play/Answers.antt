use Rattle.std.proofs.Common.{◌≡◌, length, ap, arith}
use Rattle.jc_runner.proofs.Opening.{as_many_kinds}
use Rattle.jc_runner.proofs.Playing.{named_as, run_ends}
use Rattle.jc_runner.proofs.files.play.Goals as goal

pub all_hooks-requires : goal.all_hooks-requires
all_hooks-requires g c =
    let settings = c.args.configuration.settings in
    let kinds = c.args.configuration.hooks in
    let same : length c.caches.result.now ≡ length settings = ap length c.caches.ensures.same in
    let alike : length c.items.result.now ≡ length kinds = ap length c.items.ensures in
    omega (arith, same, alike, as_many_kinds settings kinds c.requires.kinds)

pub returns-clause-ends : goal.returns-clause-ends
returns-clause-ends g c =
    run_ends c.args.options.format c.args.configuration c.as_mut_slice.result.now c.serial_as.new.hooks
    (named_as _ _ _ _ _ _ c.caches.ensures.same c.items.ensures c.as_mut_slice.ensures.value c.in_ok-hooks.ensures)
    g.I.Read.remaining g.O.Write.contents c.args.options.strict c.args.reader.now c.serial_as.new.reader c.args.writer.now c.serial_as.new.writer c.requires c.serial_as.result
    c.serial_as.ensures.ok c.serial_as.ensures.end c.serial_as.ensures.flushed c.serial_as.ensures.script c.serial_as.ensures.entry c.serial_as.ensures.known c.serial_as.ensures.long c.serial_as.ensures.open c.serial_as.ensures.closed c.serial_as.ensures.front c.serial_as.ensures.write_failed c.serial_as.ensures.read_failed c.serial_as.ensures.nothing
