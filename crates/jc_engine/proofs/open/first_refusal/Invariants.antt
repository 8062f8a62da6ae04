use Rattle.std.proofs.Common.{◌≡◌, [], take, drop}
use Rattle.jc_engine.proofs.Names.{refusal_from, names_in, AreNames}
use Rattle.jc_engine.proofs.open.first_refusal.Given as goal

-- no cache so far is refused, and the names so far are the set's
abbrev pub invariant-loop-place : goal.invariant-loop-place
invariant-loop-place l = record {
  left : refusal_from [] 0 l.configs ≡ refusal_from (names_in (take l.place l.configs)) l.place (drop l.place l.configs);
  names : AreNames l.names (names_in (take l.place l.configs));
}
