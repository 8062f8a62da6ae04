use Rattle.std.proofs.Common.{sym, length-drop, ◌∙◌}
use Rattle.jc_cli.proofs.Meters.{none_failed}
use Rattle.jc_cli.proofs.Known.{step_on}
use Rattle.jc_cli.proofs.output.write_text.Goals as goal

pub loop-rest-preserved : goal.loop-rest-preserved
loop-rest-preserved g c =
    let so_far = c.loop-rest.invariant.written in
    record {
      unfailed = none_failed c.in-Ok.n _ _ c.in-Ok.n-test.1 c.in-Ok.ensures.failures ∙ c.loop-rest.invariant.unfailed;
      written = step_on _ _ _ _ so_far.0 c.loop-rest.rest.now c.in-Ok.n _ so_far.1 (sym (length-drop c.in-Ok.n c.loop-rest.rest.now)) so_far.2 c.in-Ok.ensures.bytes;
    }
