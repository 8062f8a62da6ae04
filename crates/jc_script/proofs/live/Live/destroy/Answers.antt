use Rattle.std.proofs.Common.{◌≡◌, ap, ◌∙◌, rules, List, Option, None, option_map, false}
use Rattle.jc_model.specs.declared.config.CacheConfig.{CacheConfig}
use Rattle.jc_model.specs.Places.{at_place}
use Rattle.jc_model.specs.Runs.{destroys, answer_in, lives_by}
use Rattle.jc_script.specs.Live.{lives_in}
use Rattle.jc_script.proofs.KeptCaches.{somewhere, member_by_place, one_less, nothing_there, destroyed}
use Rattle.jc_model.specs.Refusals.{member_of}
use Rattle.jc_script.proofs.live.Live.destroy.Goals as goal

pub returns-then-is_none : goal.returns-then-is_none
returns-then-is_none c =
    let none : at_place c.self.inside.caches.items c.args.id ≡ None = search rules in
    nothing_there c.self.inside.caches.items c.args.id none
    ∙ ap (λ (caches : List (Option CacheConfig)). lives_by (lives_in caches) (destroys c.args.id) (answer_in (lives_in caches) (destroys c.args.id) false)) c.self.view_is

pub remove-requires : goal.remove-requires
remove-requires c =
    let found = somewhere c.live_in.result (at_place c.self.inside.caches.items c.args.id) (search rules) (search rules) in
    (member_of found.0, rw c.number-3.ensures (rw c.self.invariant.listed (member_by_place c.self.inside.caches.items c.args.id ∙ ap (option_map member_of) found.1)))

pub invariant_of-result-2 : goal.invariant_of-result-2
invariant_of-result-2 c =
    rw (c.vacate.ensures, c.number-2.ensures, c.remove.ensures, c.number-3.ensures) (one_less c.self.inside.caches.items c.self.inside.roster c.args.id c.self.invariant)

pub returns : goal.returns
returns c =
    let found = somewhere c.live_in.result (at_place c.self.inside.caches.items c.args.id) (search rules) (search rules) in
    rw (c.vacate.ensures, c.number-2.ensures)
    (destroyed c.self.inside.caches.items c.args.id found.0 found.1
    ∙ ap (λ (caches : List (Option CacheConfig)). lives_by (lives_in caches) (destroys c.args.id) (answer_in (lives_in caches) (destroys c.args.id) false)) c.self.view_is)
