use Rattle.std.proofs.Common.{◌≡◌, ◌≤◌, ◌<◌, ◌-◌, ◌∙◌, Some, None, ap, sym, subst, List, Option, Result, ℕ, get_or, length, arith}
use Rattle.std.specs.Prelude.{MatchResult, slice_get, slice_set, if◌then◌else◌}
use Rattle.std.specs.HashMap.{get}
use Rattle.std.specs.Str.{bytes_eq}
use Rattle.std.proofs.lemmas.List.Sorted.{searched}
use Rattle.std.proofs.lemmas.Option.{slice_get-get_or}
use Rattle.jc_model.specs.Fields.{IsRoster}
use Rattle.jc_model.proofs.Rosters.{in_place, rises, not_missed, same_count, StandsAt, stands_at, removed, same_fields, is_kept, stands_for}
use Rattle.jc_model.specs.Refusals.{Member}
use Rattle.jc_model.proofs.roster.Roster.remove.Goals as goal

-- what the search finds
abbrev Misses : List ℕ → ℕ → ℕ → Type 0
Misses order number i = (i ≤ length order) × ((k : ℕ) → k < i → get_or order k 0 < number) × ((k : ℕ) → i ≤ k → k < length order → number < get_or order k 0)

abbrev Finds : List ℕ → ℕ → ℕ → Type 0
Finds order number i = (i < length order) × (get_or order i 0 ≡ number)

pub unreachable-requires : goal.unreachable-requires
unreachable-requires c =
    let is : IsRoster c.args.self.now c.self.inside.next c.self.inside.order.items c.self.inside.names.items c.self.inside.capacities.items (get bytes_eq c.self.inside.ids) c.self.inside.total =
    subst (λ (l : List (Option Member)). IsRoster l c.self.inside.next c.self.inside.order.items c.self.inside.names.items c.self.inside.capacities.items (get bytes_eq c.self.inside.ids) c.self.inside.total) c.self.view_is c.self.invariant in
    let same = c.deref.ensures.value ∙ is.numbers in
    let missed : Misses c.deref.result.now c.args.number c.in_default.field-0 =
    subst (λ (r : Result ℕ ℕ). MatchResult r (Finds c.deref.result.now c.args.number) (Misses c.deref.result.now c.args.number)) c.in_default.is (searched c.deref.result.now c.args.number c.binary_search.result c.binary_search.ensures.position (rises c.args.self.now c.deref.result.now same)) in
    not_missed c.args.self.now c.deref.result.now c.args.number c.requires.0 same (in_place c.args.self.now c.args.number c.requires.0 c.requires.1) c.in_default.field-0 missed.1 missed.2

pub remove-name-requires : goal.remove-name-requires
remove-name-requires c =
    let counts = same_count c.self.invariant in
    let within : c.in-Ok.place < length c.deref.result.now = c.in-Ok.ensures.bound in
    let same : length c.deref.result.now ≡ length c.self.inside.order.items = ap length c.deref.ensures.value in
    omega (arith, within, same, counts.0, c.self.inside.names.ok)

module _ (c : goal.After-self-1) where
  is : IsRoster c.args.self.now c.self.inside.next c.self.inside.order.items c.self.inside.names.items c.self.inside.capacities.items (get bytes_eq c.self.inside.ids) c.self.inside.total
  is = subst (λ (l : List (Option Member)). IsRoster l c.self.inside.next c.self.inside.order.items c.self.inside.names.items c.self.inside.capacities.items (get bytes_eq c.self.inside.ids) c.self.inside.total) c.self.view_is c.self.invariant

  found : Finds c.deref.result.now c.args.number c.in-Ok.place
  found = subst (λ (r : Result ℕ ℕ). MatchResult r (Finds c.deref.result.now c.args.number) (Misses c.deref.result.now c.args.number)) c.in-Ok.is (searched c.deref.result.now c.args.number c.binary_search.result c.binary_search.ensures.position (rises c.args.self.now c.deref.result.now (c.deref.ensures.value ∙ is.numbers)))

  there : slice_get c.args.self.now c.args.number ≡ Some (Some c.requires.0)
  there = in_place c.args.self.now c.args.number c.requires.0 c.requires.1

  placed : slice_get c.self.inside.order.items c.in-Ok.place ≡ Some c.args.number
  placed = ap (λ (ns : List ℕ). slice_get ns c.in-Ok.place) (sym c.deref.ensures.value) ∙ (slice_get-get_or c.deref.result.now c.in-Ok.place 0 found.0 ∙ ap Some found.1)

  at : StandsAt _ _ _ _ _ _ _ is c.in-Ok.place c.requires.0
  at = stands_at _ _ _ _ _ _ _ is c.args.number c.in-Ok.place c.requires.0 there placed

  named : c.remove-name.result ≡ c.requires.0.name
  named = c.remove-name.ensures.value ∙ at.name c.remove-name.result

  sized : c.from.result ≡ c.requires.0.capacity
  sized = c.from.ensures ∙ (c.remove-3.ensures.value ∙ at.rows c.remove-3.result)

  one_less : IsRoster (slice_set c.args.self.now c.args.number None) c.self.inside.next c.remove.new.self.items c.remove-name.new.self.items c.remove-3.new.self.items (get bytes_eq c.remove-2.new.self) (c.self.inside.total - c.from.result)
  one_less = same_fields
      (removed _ _ _ _ _ _ _ is c.args.number c.in-Ok.place c.requires.0 (get bytes_eq c.remove-2.new.self) there placed
      (λ q. c.remove-2.ensures.updates.0 q ∙ ap (λ (name : List ℕ). if bytes_eq name q then None else get bytes_eq c.self.inside.ids q) named))
      c.remove.ensures.items
      c.remove-name.ensures.items
      c.remove-3.ensures.items
      (ap (λ n. c.self.inside.total - n) sized)

pub invariant_of-self : goal.invariant_of-self
invariant_of-self c = is_kept _ _ _ _ _ _ _ (one_less c)

pub returns : goal.returns
returns c = stands_for _ _ _ _ _ _ _ (one_less c)
