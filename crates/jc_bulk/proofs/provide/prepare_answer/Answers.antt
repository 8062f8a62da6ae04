use Rattle.std.proofs.Common.{◌≤◌, ◌∙◌, ap, arith}
use Rattle.std.proofs.lemmas.Grind.{common_steps}
use Rattle.jc_ops.proofs.Told.{most_absent}
use Rattle.jc_bulk.proofs.Names.{Visited}
use Rattle.jc_bulk.proofs.provide.prepare_answer.Goals.{then-ahead, else-ahead}
use Rattle.jc_bulk.proofs.provide.prepare_answer.Goals as goal

pub returns-clause-places : goal.returns-clause-places
returns-clause-places g c = rw c.in-Some.is (grind (arith, common_steps, most_absent))

pub returns-in_err-places_for-clause-asks : goal.returns-in_err-places_for-clause-asks
returns-in_err-places_for-clause-asks g c own rest = c.for_answer.ensures.asks own

pub returns-in_err-reserve_notices-clause-asks : goal.returns-in_err-reserve_notices-clause-asks
returns-in_err-reserve_notices-clause-asks g c own rest = ap (λ (v : Visited). v.spare) c.reserve_notices.ensures.same ∙ c.for_answer.ensures.asks own

pub returns-clause-asks : goal.returns-clause-asks
returns-clause-asks g c own rest =
    let same = ap (λ (v : Visited). v.spare) c.reserve_notices.ensures.same ∙ c.for_answer.ensures.asks own in
    let room = rw c.in-Some.is at rest in
    let few : c.if-ahead.reserve_rows ≤ c.reserve_notices.new.self.spare = elim c.if-ahead.branch [ then-ahead w ↦ omega (arith, room w.if-ahead.true) | else-ahead w ↦ omega arith ] in
    c.reserve_rows.ensures.there few ∙ same
