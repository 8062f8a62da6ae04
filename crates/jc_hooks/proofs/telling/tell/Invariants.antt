use Rattle.std.proofs.Common.{◌≡◌, ◌≤◌, ◌-◌, List, ◌∷◌, ◌++◌, take, drop, length}
use Rattle.jc_model.specs.declared.call.Notice.{Notice}
use Rattle.jc_hooks.specs.Asking.{states_after}
use Rattle.jc_hooks.proofs.telling.tell.Given as goal

-- the listeners so far were told, and the others were not
abbrev pub invariant-loop-listeners : goal.invariant-loop-listeners
invariant-loop-listeners g l = record {
  within : l.turn.told ≤ length l.listeners;
  all : length l.listeners ≡ length l.fn.listeners;
  many : l.turn.listeners ≡ length l.listeners;
  notices : l.turn.notices ≡ l.fn.turn.notices;
  told : (rest : List Notice)
      → states_after g.K.FilteredListener.state_after (take l.turn.told l.listeners) rest ++ states_after g.K.FilteredListener.state_after (drop l.turn.told l.listeners) (l.notice ∷ rest)
      ≡ states_after g.K.FilteredListener.state_after l.fn.listeners (l.notice ∷ rest);
}

abbrev pub decreases-loop-listeners : goal.decreases-loop-listeners
decreases-loop-listeners g l = length l.listeners - l.turn.told
