use Rattle.std.proofs.Common.{◌≡◌, List, ◌++◌, drop, length}
use Rattle.jc_model.specs.declared.call.Notice.{Notice}
use Rattle.jc_hooks.specs.Asking.{states_after}
use Rattle.jc_hooks.specs.Turns.{HasTold}
use Rattle.jc_hooks.proofs.telling.tell_all.Given as goal

-- the notices so far were told, and those that are left lead from here to where all of them lead
abbrev pub invariant-loop-notice : goal.invariant-loop-notice
invariant-loop-notice g l = record {
  many : length l.listeners ≡ length l.fn.listeners;
  order : HasTold l.turn (length l.listeners) l.notice-index;
  told : (rest : List Notice) →
      states_after g.K.FilteredListener.state_after l.listeners (drop l.notice-index l.notices ++ rest)
      ≡ states_after g.K.FilteredListener.state_after l.fn.listeners (l.notices ++ rest);
}
