use Rattle.std.proofs.lemmas.List.{map-append}
use Rattle.jc_bulk.proofs.Names.{Provided}
use Rattle.jc_bulk.proofs.Left.{covered-push}
use Rattle.jc_bulk.proofs.provide.with_values.Goals as goal

pub loop-call-preserved : goal.loop-call-preserved
loop-call-preserved g c = record {
  calls = rw (c.in_ok-push_back.ensures.items, map-append (λ (p : Provided). p.call), c.loop-call.invariant.calls);
  covered = rw c.in_ok-push_back.ensures.items (covered-push c.args.visit.now.cache.config _ _ _ c.loop-call.invariant.covered (rw c.config.ensures at c.in_ok-values.ensures));
}
