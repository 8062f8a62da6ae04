use Rattle.std.proofs.Common.{◌≡◌, ap, sym, ◌∙◌, rules, Some, None}
use Rattle.jc_model.specs.Places.{at_place}
use Rattle.jc_script.specs.Live.{processors_at, lives_in}
use Rattle.jc_script.proofs.KeptCaches.{few_at, no_processors}
use Rattle.jc_script.proofs.live.Live.processors.Goals as goal

pub returns-in-Some-clause-few : goal.returns-in-Some-clause-few
returns-in-Some-clause-few c =
    let there : at_place c.self.inside.caches.items c.args.id ≡ Some c.in-Some.cache.now = search rules in
    rw c.items.ensures (few_at c.self.inside.caches.items c.args.id c.in-Some.cache.now c.self.invariant.few there)

pub returns-in-None-clause-count : goal.returns-in-None-clause-count
returns-in-None-clause-count c =
    let none : at_place c.self.inside.caches.items c.args.id ≡ None = search rules in
    sym (ap (λ caches. processors_at (lives_in caches) c.args.id) (sym c.self.view_is) ∙ no_processors c.self.inside.caches.items c.args.id none)
