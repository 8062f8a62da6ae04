use Rattle.std.proofs.Common.{rules, ◌≡◌, length, map, sym, ap, ◌∙◌}
use Rattle.std.specs.Prelude.{is_some}
use Rattle.std.proofs.lemmas.Iterator.Adapters.{YieldsList-from_vec}
use Rattle.std.proofs.lemmas.Iterator.Consumers.{YieldsList-end}
use Rattle.jc_locked.specs.Stated.{shared_of, wants_lock}
use Rattle.jc_locked.proofs.Entered.{map_same, shared_more, told_more}
use Rattle.jc_locked.proofs.hooks.apart.Goals as goal

pub loop-own-init : goal.loop-own-init
loop-own-init g c = (c.in_ok-shared.ensures.items, ap (map is_some) c.in_ok-locks.ensures.items)

pub loop-own-preserved : goal.loop-own-preserved
loop-own-preserved g c =
    let before = c.loop-own.invariant in (
      shared_more shared_of c.loop-own.yielded c.in-Some.own c.loop-own.shared.items c.push.new.self.items c.split_hooks-asked.result.0 c.in_ok-push.ensures.items before.0 c.split_hooks-asked.ensures.asked,
      told_more wants_lock is_some c.loop-own.yielded c.in-Some.own c.loop-own.locks.items c.push-in-loop-own.new.self.items c.lock_over.result c.in_ok-push-2.ensures.items before.1 (c.lock_over.ensures ∙ c.wants_lock-wanted.ensures),
    )

pub returns-clause-shared : goal.returns-clause-shared
returns-clause-shared g c =
    let given = c.into_iter-own-iterator.ensures.into_iter_gives in
    let count : c.into_iter-own-iterator.result.rest.len ≡ length c.args.hooks.items = search rules in
    let all = YieldsList-end (YieldsList-from_vec {s = c.into_iter-own-iterator.result} c.args.hooks.items given.0 count) c.loop-own.yielded c.loop-own.own-iterator c.loop-own.yielded_by c.next.result c.next.new.self c.in-None.is c.next.ensures.steps in
    c.loop-own.invariant.0 ∙ ap (map shared_of) (sym (map_same c.loop-own.yielded) ∙ all.0)

pub returns-clause-locks : goal.returns-clause-locks
returns-clause-locks g c =
    let given = c.into_iter-own-iterator.ensures.into_iter_gives in
    let count : c.into_iter-own-iterator.result.rest.len ≡ length c.args.hooks.items = search rules in
    let all = YieldsList-end (YieldsList-from_vec {s = c.into_iter-own-iterator.result} c.args.hooks.items given.0 count) c.loop-own.yielded c.loop-own.own-iterator c.loop-own.yielded_by c.next.result c.next.new.self c.in-None.is c.next.ensures.steps in
    c.loop-own.invariant.1 ∙ ap (map wants_lock) (sym (map_same c.loop-own.yielded) ∙ all.0)
