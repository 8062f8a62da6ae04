use Rattle.std.proofs.Common.{◌≡◌, ◌++◌, drop}
use Rattle.jc_model.specs.Legal.{numbered_lives}
use Rattle.jc_script.proofs.following.first_lives.Given as goal

abbrev pub invariant-loop-cache : goal.invariant-loop-cache
invariant-loop-cache l = record {
  counted : l.id ≡ l.cache-index;
  all : l.lives.items ++ numbered_lives l.id (drop l.cache-index l.settings) ≡ numbered_lives 0 l.settings;
}
