use Rattle.std.proofs.Common.{◌≡◌, Some, map, take}
use Rattle.jc_script.specs.Live.{lives_in}
use Rattle.jc_model.specs.Runs.{members_of}
use Rattle.jc_script.proofs.live.Live.new.Given as goal

-- the caches so far are there
abbrev pub invariant-loop-cache : goal.invariant-loop-cache
invariant-loop-cache l = record {
  caches : l.caches.items ≡ map Some (take l.cache-index l.settings);
  roster : l.roster ≡ members_of (lives_in l.caches.items);
}
