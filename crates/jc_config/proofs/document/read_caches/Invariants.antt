use Rattle.std.proofs.Common.{◌≡◌, ◌+◌, drop}
use Rattle.toml.specs.View.{items_view}
use Rattle.jc_config.specs.Config.{caches_of}
use Rattle.jc_config.proofs.Loops.{behind}
use Rattle.jc_config.proofs.document.read_caches.Given as goal

-- the caches so far, and those of the tables that are left, are all
abbrev pub invariant-loop-i : goal.invariant-loop-i
invariant-loop-i l = caches_of 1 (items_view l.tables) ≡ behind l.caches.items (caches_of (l.i + 1) (items_view (drop l.i l.tables)))
