use Rattle.std.proofs.Common.{refl, ◌∙◌}
use Rattle.jc_threads.proofs.Dealt.{seats_more}
use Rattle.jc_threads.proofs.dealing.seat_all.Goals as goal

pub loop-number-preserved : goal.loop-number-preserved
loop-number-preserved g c = record {
  counted = c.seat_session.ensures.counted ∙ c.loop-number.invariant.counted;
  opened = seats_more _ _ _ _ _ _ c.loop-number.invariant.counted refl c.in_ok-seat_session.ensures.own c.in_ok-seat_session.ensures.kept c.loop-number.invariant.opened;
  seated = λ first. c.in_ok-seat_session.ensures.seated (c.loop-number.invariant.seated first);
}
