use Rattle.std.proofs.Common.{◌≡◌, ◌<◌, ℕ, List, [], ◌∷◌, ◌++◌, length, Some, None, refl, ap, subst, ◌∙◌, nat_eq}
use Rattle.std.proofs.Math.Path.{fun_ext}
use Rattle.jc_engine.proofs.Names.{CacheConfig, Item, Cache, member_of, Slot, cache_in, caches_in, get, most_ids, IsAt, IsManaged, SameElsewhere}
use Rattle.jc_engine.proofs.Numbered.{Puts, puts_same}
use Rattle.jc_engine.proofs.Places.{within, as_many}
use Rattle.jc_engine.proofs.Listed.{id_listed}
use Rattle.jc_engine.proofs.Coming.{seen_added, manager_added, manager_left}
use Rattle.jc_engine.proofs.Restored.{new_ready, same_twice, rests_twice}
use Rattle.jc_engine.specs.Saving.{idle_cache}
use Rattle.jc_engine.specs.Sound.{IsManager}
use Rattle.jc_ops.specs.Kept.{numbers_of}
use Rattle.jc_save.specs.Restoring.{items}
use Rattle.jc_engine.proofs.engine.Engine.admit_saved.Given as given
use Rattle.jc_engine.proofs.engine.Engine.admit_saved.Goals as goal

pub fill-requires-clause-ready : goal.fill-requires-clause-ready
fill-requires-clause-ready g c =
    let w = within c.self.view_is c.self.invariant in
    let is = c.in-Ok-empty.ensures in
    new_ready w c.in-Ok-empty.cache (ap (λ (s : Slot). s.state.id) is ∙ c.new.ensures ∙ c.next-number.ensures.same) (subst (λ (n : ℕ). n < most_ids) (as_many w) c.requires.may.ids)
    (ap (λ (s : Slot). s.state.cells) is) (ap (λ (s : Slot). s.turn) is)

pub invariant_of-self-in_default-fill : goal.invariant_of-self-in_default-fill
invariant_of-self-in_default-fill g c =
    let w = within c.self.view_is c.self.invariant in
    let id_is : c.in-Ok-empty.cache.state.id ≡ length c.self.inside.roster = ap (λ (s : Slot). s.state.id) c.in-Ok-empty.ensures ∙ c.new.ensures ∙ c.next-number.ensures.same in
    rw (fun_ext c.reserve.ensures.entries.2)
    (manager_left w c.fill.new.visit (subst (λ (i : ℕ). IsAt c.fill.new.visit.table i None) id_is c.in_default-fill.ensures.gone)
    (subst (λ (i : ℕ). SameElsewhere i c.self.inside.visit.table c.fill.new.visit.table) id_is c.fill.ensures.elsewhere) c.fill.ensures.rests)

pub add-requires-clause-new : goal.add-requires-clause-new
add-requires-clause-new g c = id_listed c.self.view_is c.self.invariant c.args.saved.config.name ∙ c.requires.may.name

pub invariant_of-self-in_default-add : goal.invariant_of-self-in_default-add
invariant_of-self-in_default-add g c =
    let w = within c.self.view_is c.self.invariant in
    let id_is : c.in-Ok-empty.cache.state.id ≡ length c.self.inside.roster = ap (λ (s : Slot). s.state.id) c.in-Ok-empty.ensures ∙ c.new.ensures ∙ c.next-number.ensures.same in
    let still : c.fill.new.self.state.id ≡ length c.self.inside.roster = ap (λ (s : Slot). s.state.id) c.fill.ensures.same ∙ id_is in
    rw (fun_ext c.reserve.ensures.entries.2, c.in_default-add.ensures.err)
    (manager_left w c.leave.new.visit (subst (λ (i : ℕ). IsAt c.leave.new.visit.table i None) still c.leave.ensures.gone)
    (same_twice (length c.self.inside.roster) c.self.inside.visit.table c.fill.new.visit.table c.leave.new.visit.table
    (subst (λ (i : ℕ). SameElsewhere i c.self.inside.visit.table c.fill.new.visit.table) id_is c.fill.ensures.elsewhere)
    (subst (λ (i : ℕ). SameElsewhere i c.fill.new.visit.table c.leave.new.visit.table) still c.leave.ensures.elsewhere))
    (rests_twice c.self.inside.visit c.fill.new.visit c.leave.new.visit c.fill.ensures.rests c.leave.ensures.rests))

-- the filled cache is put at the next id
puts : (g : given.Over) (c : goal.After-new-in-Ok-insert g) → Puts (get nat_eq c.self.inside.caches) (length c.self.inside.roster) (Some c.fill.new.self) (get nat_eq c.insert.new.self)
puts g c = puts_same _ (get nat_eq c.reserve.new.self) _ c.next-number.result _ _ _ c.reserve.ensures.entries.2 c.next-number.ensures.same refl c.in-Ok-insert.ensures.updates.0

pub invariant_of-self-2 : goal.invariant_of-self-2
invariant_of-self-2 g c =
    let w = within c.self.view_is c.self.invariant in
    let id_is : c.in-Ok-empty.cache.state.id ≡ length c.self.inside.roster = ap (λ (s : Slot). s.state.id) c.in-Ok-empty.ensures ∙ c.new.ensures ∙ c.next-number.ensures.same in
    let config_is : c.fill.new.self.state.config ≡ c.args.saved.config = ap (λ (s : Slot). s.state.config) c.fill.ensures.same ∙ ap (λ (s : Slot). s.state.config) c.in-Ok-empty.ensures in
    rw c.in-Ok-add.ensures.ok
    (subst (λ (d : CacheConfig). IsManager c.fill.new.visit (get nat_eq c.insert.new.self) (c.self.inside.roster ++ Some (member_of d) ∷ [])) config_is
    (manager_added w c.fill.new.self (get nat_eq c.insert.new.self) (puts g c) c.fill.new.visit (subst (λ (n : ℕ). n < most_ids) (as_many w) c.requires.may.ids) (rw config_is c.requires.may.limits)
    (subst (λ (i : ℕ). IsManaged c.fill.new.visit.table i c.fill.new.self) id_is c.in-Ok-fill.ensures.there)
    (subst (λ (i : ℕ). SameElsewhere i c.self.inside.visit.table c.fill.new.visit.table) id_is c.fill.ensures.elsewhere) c.fill.ensures.rests))

pub returns-clause-added : goal.returns-clause-added
returns-clause-added g c =
    let w = within c.self.view_is c.self.invariant in
    let config_is : c.fill.new.self.state.config ≡ c.args.saved.config = ap (λ (s : Slot). s.state.config) c.fill.ensures.same ∙ ap (λ (s : Slot). s.state.config) c.in-Ok-empty.ensures in
    let slot_is = c.fill.ensures.same ∙ ap (λ (s : Slot). record s { state = record s.state { cells = c.fill.new.self.state.cells } }) c.in-Ok-empty.ensures in
    let rows_are = c.in-Ok-fill.ensures.filled ∙ ap items c.into_items.ensures in
    let numbers = numbers_of c.fill.new.self.state.cells in
    let cache_is : cache_in c.fill.new.self ≡ idle_cache c.args.saved.config (record { ring = items c.args.saved.rows; counts = c.args.saved.counts }) numbers =
    ap cache_in slot_is ∙ ap (λ (ring : List Item). idle_cache c.args.saved.config (record { ring = ring; counts = c.args.saved.counts }) numbers) rows_are in
    record {
      numbers = numbers;
      added = rw c.in-Ok-add.ensures.ok
          (subst (λ (d : CacheConfig). caches_in (get nat_eq c.insert.new.self) (length (c.self.inside.roster ++ Some (member_of d) ∷ [])) ≡ c.args.self.now ++ Some (cache_in c.fill.new.self) ∷ []) config_is (seen_added w c.fill.new.self (get nat_eq c.insert.new.self) (puts g c))
          ∙ ap (λ (k : Cache). c.args.self.now ++ Some k ∷ []) cache_is);
    }
