use Rattle.std.proofs.Common.{[], List, ℕ, refl, ap}
use Rattle.std.specs.HashMap.{get}
use Rattle.std.specs.Map.{lookup}
use Rattle.std.specs.Str.{bytes_eq}
use Rattle.jc_model.specs.Places.{none_before}
use Rattle.jc_model.specs.Fields.{IsRoster}
use Rattle.jc_model.proofs.Rosters.{nothing, same_fields, is_kept, stands_for}
use Rattle.jc_model.proofs.roster.Roster.new.Goals as goal

none_yet : (c : goal.After-new-4) → IsRoster (none_before c.args.first []) c.args.first c.new.result.items c.new-2.result.items c.new-3.result.items (get bytes_eq c.new-4.result) 0
none_yet c = same_fields (nothing c.args.first (get bytes_eq c.new-4.result) c.requires (λ q. ap (λ (es : List (List ℕ × ℕ)). lookup (bytes_eq q) es) c.new-4.ensures.empty)) c.new.ensures.items c.new-2.ensures.items c.new-3.ensures.items refl

pub invariant_of-result : goal.invariant_of-result
invariant_of-result c = is_kept _ _ _ _ _ _ _ (none_yet c)

pub returns : goal.returns
returns c = stands_for _ _ _ _ _ _ _ (none_yet c)
