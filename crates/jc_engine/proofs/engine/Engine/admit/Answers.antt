use Rattle.std.proofs.Common.{ℕ, ◌<◌, length, Some, ap, subst, ◌∙◌, nat_eq}
use Rattle.std.proofs.Math.Path.{fun_ext}
use Rattle.jc_engine.proofs.Names.{Housed, Idle, Kept, Slot, get, most_ids, fresh_slot}
use Rattle.jc_engine.proofs.Numbered.{Puts, puts_same}
use Rattle.jc_engine.proofs.Places.{within, as_many}
use Rattle.jc_engine.proofs.Listed.{id_listed}
use Rattle.jc_engine.proofs.Coming.{seen_more, manager_more}
use Rattle.jc_engine.proofs.engine.Engine.admit.Given as given
use Rattle.jc_engine.proofs.engine.Engine.admit.Goals as goal

pub add-requires-clause-new : goal.add-requires-clause-new
add-requires-clause-new g c = id_listed c.self.view_is c.self.invariant c.args.config.name ∙ c.requires.name

pub invariant_of-self-in-Err : goal.invariant_of-self-in-Err
invariant_of-self-in-Err g c = rw (fun_ext c.reserve.ensures.entries.2) c.self.invariant

pub invariant_of-self-in_default-add : goal.invariant_of-self-in_default-add
invariant_of-self-in_default-add g c = rw (fun_ext c.reserve.ensures.entries.2, c.in_default-add.ensures.err) c.self.invariant

-- the new cache is put at the next id
puts : (g : given.Over) (c : goal.After-new-in-Ok-insert g) → Puts (get nat_eq c.self.inside.caches) (length c.self.inside.roster) (Some (fresh_slot (length c.self.inside.roster) c.args.config)) (get nat_eq c.insert.new.self)
puts g c =
    let made = ap (λ (h : Housed). h.kept) c.in-Ok-new.ensures.ok ∙ (c.in_ok-state.ensures.made ∙ ap (λ (i : ℕ). (fresh_slot i c.args.config).state) (c.new.ensures ∙ c.next-number.ensures.same)) in
    puts_same _ (get nat_eq c.reserve.new.self) _ c.next-number.result _ _ _ c.reserve.ensures.entries.2 c.next-number.ensures.same
    (ap (λ (k : Kept). Some (let cache : Slot = record { state = k; turn = Idle } in cache)) made) c.in-Ok-insert.ensures.updates.0

pub invariant_of-self-2 : goal.invariant_of-self-2
invariant_of-self-2 g c =
    rw c.in-Ok-add.ensures.ok (manager_more (within c.self.view_is c.self.invariant) c.args.config (get nat_eq c.insert.new.self) (puts g c) (subst (λ (n : ℕ). n < most_ids) (as_many (within c.self.view_is c.self.invariant)) c.requires.ids) c.requires.limits)

pub returns-clause-added : goal.returns-clause-added
returns-clause-added g c = rw c.in-Ok-add.ensures.ok (seen_more (within c.self.view_is c.self.invariant) c.args.config (get nat_eq c.insert.new.self) (puts g c))
