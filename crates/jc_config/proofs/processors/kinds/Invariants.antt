use Rattle.std.proofs.Common.{◌≡◌, ◌++◌, drop, option_map}
use Rattle.toml.specs.View.{items_view}
use Rattle.jc_config.specs.Members.{kinds_of}
use Rattle.jc_config.proofs.processors.kinds.Given as goal

-- the kinds so far, and those of the items that are left, are all
abbrev pub invariant-loop-item : goal.invariant-loop-item
invariant-loop-item l = kinds_of (items_view l.items) ≡ option_map (λ kinds. l.kinds.items ++ kinds) (kinds_of (items_view (drop l.item-index l.items)))
