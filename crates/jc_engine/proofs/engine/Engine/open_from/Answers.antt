use Rattle.std.proofs.Common.{◌≡◌, List, ◌∷◌, ◌++◌, Option, None, sym, ap, subst, ◌∙◌, append_assoc, arith, nat_eq}
use Rattle.jc_engine.proofs.Names.{CacheConfig, Cache, MayCome, open_refusal_from, common_steps, get, lookup}
use Rattle.jc_engine.proofs.Coming.{spare_empty, vacant_seen, vacant_manager}
use Rattle.jc_engine.proofs.Openings.{may_come, fresh_more}
use Rattle.jc_engine.proofs.engine.Engine.open_from.Goals as goal

pub admit-requires : goal.admit-requires
admit-requires g c =
    let here : c.loop-config.yielded ++ c.in-Some-config.config ∷ c.next.new.self.rest.items ≡ c.args.configs.items = ap (λ (l : List CacheConfig). c.loop-config.yielded ++ l) (sym c.in-Some-config.ensures.steps.0) ∙ c.loop-config.invariant.all in
    let none : open_refusal_from c.args.first c.args.configs.items ≡ None = subst (λ (cs : List CacheConfig). open_refusal_from c.args.first cs ≡ None) c.deref.ensures.value (sym c.open_refusal_from.ensures ∙ c.in_default.is) in
    subst (λ (ks : List (Option Cache)). MayCome ks c.in-Some-config.config) (sym c.loop-config.invariant.made)
    (may_come c.args.first c.args.configs.items c.loop-config.yielded c.next.new.self.rest.items c.in-Some-config.config none here)

pub new-requires : goal.new-requires
new-requires g c = record { kept = spare_empty (g.R.Rows.contents c.args.rows) c.in_ok-spare_cache.field-0.value.kept c.requires c.in_ok-spare_cache.ensures }

pub invariant_of-engine : goal.invariant_of-engine
invariant_of-engine g c =
    vacant_manager (get nat_eq c.new-2.result) c.args.first (λ i. ap (lookup (nat_eq i)) c.new-2.ensures.empty) c.new-3.result c.new-3.ensures c.new.result (omega arith)
    (c.new.ensures.table ∙ c.requires) (rw c.new.ensures.cache c.in_ok-spare_cache.ensures) c.new.ensures.untold

pub loop-config-init : goal.loop-config-init
loop-config-init g c = record {
  made = vacant_seen (get nat_eq c.new-2.result) c.args.first (λ i. ap (lookup (nat_eq i)) c.new-2.ensures.empty) c.new-3.result c.new-3.ensures;
  all = grind (arith, common_steps);
}

pub loop-config-preserved : goal.loop-config-preserved
loop-config-preserved g c = grind (arith, fresh_more, append_assoc)
