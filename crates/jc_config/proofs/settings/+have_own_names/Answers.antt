use Rattle.std.proofs.Common.{refl, sym, ap, ◌∙◌, not, ◌&&◌, map, List, ℕ}
use Rattle.jc_model.specs.Lists.{distinct}
use Rattle.jc_model.specs.declared.config.CacheConfig.{CacheConfig}
use Rattle.jc_model.proofs.Distinct.{distinct-first, others}
use Rattle.jc_config.proofs.settings.+have_own_names.Goals as goal

abbrev name_of : CacheConfig → List ℕ
name_of c = c.name

pub returns-then-not-is_taken : goal.returns-then-not-is_taken
returns-then-not-is_taken t c =
    let items = c.args.caches.now in
    c.have_own_names.ensures
    ∙ sym (distinct-first name_of items c.first-item.result c.first-item.result.name c.in-len1-up.len_at_least c.first-item.is refl
    ∙ ap (λ b. not b && distinct (map name_of (others items))) (sym c.is_taken.ensures ∙ c.if-not-is_taken.true))

pub returns-else-not-is_taken : goal.returns-else-not-is_taken
returns-else-not-is_taken t c =
    let items = c.args.caches.now in
    ap not c.if-not-is_taken.false
    ∙ sym (distinct-first name_of items c.first-item.result c.first-item.result.name c.in-len1-up.len_at_least c.first-item.is refl
    ∙ ap (λ b. not b && distinct (map name_of (others items))) (sym c.is_taken.ensures ∙ c.if-not-is_taken.false))
