use Rattle.std.proofs.Common.{◌≤◌, ◌<◌, ◌+◌, ◌∙◌, ◌++◌, ◌∷◌, [], Some, ap, sym, subst, List, Option}
use Rattle.std.specs.HashMap.{get}
use Rattle.std.specs.Str.{bytes_eq}
use Rattle.jc_model.specs.Limits.{most_ids, most_rows_together}
use Rattle.jc_model.specs.Fields.{IsRoster}
use Rattle.jc_model.proofs.Rosters.{added, same_fields, is_kept, stands_for}
use Rattle.jc_model.specs.Refusals.{Member}
use Rattle.jc_model.proofs.roster.Roster.add.Goals as goal

one_more : (c : goal.After-self-2-1) → IsRoster (c.args.self.now ++ Some (record { name = c.args.name; capacity = c.args.capacity }) ∷ []) (c.self.inside.next + 1) c.push_reserved.new.self.items c.push_reserved-2.new.self.items c.push_reserved-3.new.self.items (get bytes_eq c.insert.new.self) (c.self.inside.total + c.from.result)
one_more c =
    let is : IsRoster c.args.self.now c.self.inside.next c.self.inside.order.items c.self.inside.names.items c.self.inside.capacities.items (get bytes_eq c.self.inside.ids) c.self.inside.total =
    subst (λ (l : List (Option Member)). IsRoster l c.self.inside.next c.self.inside.order.items c.self.inside.names.items c.self.inside.capacities.items (get bytes_eq c.self.inside.ids) c.self.inside.total) c.self.view_is c.self.invariant in
    let few : c.self.inside.next < most_ids = subst (λ n. n < most_ids) (sym is.counted) c.requires.ids in
    let small : c.self.inside.total + c.args.capacity ≤ most_rows_together = subst (λ n. n + c.args.capacity ≤ most_rows_together) (sym is.summed) c.requires.rows in
    same_fields
    (added _ _ _ _ _ _ _ is (record { name = c.args.name; capacity = c.args.capacity }) (get bytes_eq c.insert.new.self) few c.requires.new small c.in_ok-insert.ensures.updates.0)
    (c.push_reserved.ensures.items ∙ ap (λ l. l ++ c.self.inside.next ∷ []) c.reserve.ensures.items)
    (c.push_reserved-2.ensures.items ∙ ap (λ l. l ++ c.args.name ∷ []) c.reserve-2.ensures.items)
    (c.push_reserved-3.ensures.items ∙ ap (λ l. l ++ c.args.capacity ∷ []) c.reserve-3.ensures.items)
    (ap (λ n. c.self.inside.total + n) c.from.ensures)

pub invariant_of-self-2 : goal.invariant_of-self-2
invariant_of-self-2 c = is_kept _ _ _ _ _ _ _ (one_more c)

pub returns-clause-ok : goal.returns-clause-ok
returns-clause-ok c = stands_for _ _ _ _ _ _ _ (one_more c)
