use Rattle.std.proofs.Common.{◌≡◌, ap, sym, ◌∙◌, subst, rules, true, false, List, Option, None, is_some}
use Rattle.jc_model.specs.declared.config.CacheConfig.{CacheConfig}
use Rattle.jc_model.specs.Runs.{creates, answer_in, lives_by}
use Rattle.jc_model.proofs.Members.{allowed}
use Rattle.jc_script.specs.Live.{lives_in}
use Rattle.jc_script.proofs.KeptCaches.{none_there, refused, accepted, one_more}
use Rattle.jc_model.specs.Refusals.{refusal_beside}
use Rattle.jc_script.proofs.live.Live.create.Goals as goal

pub returns-then-is_some : goal.returns-then-is_some
returns-then-is_some c =
    let config = c.args.config.now in
    let some : is_some (refusal_beside c.self.inside.roster config) ≡ true = ap is_some (sym c.refusal.ensures) ∙ (search rules) in
    subst (λ (caches : List (Option CacheConfig)). lives_in caches ≡ lives_by (lives_in caches) (creates config) (answer_in (lives_in caches) (creates config) false)) c.self.view_is
    (refused c.self.inside.caches.items c.self.inside.roster config c.self.invariant some)

pub add-requires-clause-new : goal.add-requires-clause-new
add-requires-clause-new c =
    let none : refusal_beside c.self.inside.roster c.args.config.now ≡ None = none_there _ (ap is_some (sym c.refusal.ensures) ∙ (search rules)) in
    (allowed c.self.inside.roster c.args.config.now none).new

pub invariant_of-result : goal.invariant_of-result
invariant_of-result c =
    let none : refusal_beside c.self.inside.roster c.args.config.now ≡ None = none_there _ (ap is_some (sym c.refusal.ensures) ∙ (search rules)) in
    rw (c.in_ok-push.ensures.items, c.in_ok-share.ensures, c.in_ok-add.ensures.ok) (one_more c.self.inside.caches.items c.self.inside.roster c.args.config.now c.self.invariant none)

pub returns : goal.returns
returns c =
    let config = c.args.config.now in
    let none : refusal_beside c.self.inside.roster config ≡ None = none_there _ (ap is_some (sym c.refusal.ensures) ∙ (search rules)) in
    let before = accepted c.self.inside.caches.items c.self.inside.roster config c.self.invariant none in
    rw (c.in_ok-push.ensures.items, c.in_ok-share.ensures)
    (before ∙ ap (λ (caches : List (Option CacheConfig)). lives_by (lives_in caches) (creates config) (answer_in (lives_in caches) (creates config) false)) c.self.view_is)
