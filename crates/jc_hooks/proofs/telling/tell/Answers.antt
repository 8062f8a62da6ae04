use Rattle.std.proofs.Common.{◌∙◌, arith}
use Rattle.jc_hooks.proofs.InTurn.{next_told, as_many}
use Rattle.jc_hooks.proofs.telling.tell.Goals as goal

pub loop-listeners-preserved : goal.loop-listeners-preserved
loop-listeners-preserved g c =
    let i = c.loop-listeners.turn.told in
    let before = c.loop-listeners.listeners in
    let after = c.tell_next-turn.new.listeners in
    let notice = c.args.notice.now in
    let t = c.tell_next-turn.ensures.told in
    let same = as_many g.K.FilteredListener.state_after before after i notice t in
    let left = c.has_listener.ensures.0 c.loop-listeners-test.true in
    let many = c.loop-listeners.invariant.many in
    record {
      within = omega (arith, same, c.tell_next-turn.ensures.next, left, many);
      all = same ∙ c.loop-listeners.invariant.all;
      many = omega (arith, same, c.tell_next-turn.ensures.all, many);
      notices = c.tell_next-turn.ensures.notices ∙ c.loop-listeners.invariant.notices;
      told = λ rest. rw c.tell_next-turn.ensures.next (next_told g.K.FilteredListener.state_after before after i notice (omega (arith, left, many)) t rest ∙ c.loop-listeners.invariant.told rest);
    }
