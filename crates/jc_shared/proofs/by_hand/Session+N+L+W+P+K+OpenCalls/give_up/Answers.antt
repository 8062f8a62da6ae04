use Rattle.std.proofs.Common.{◌≡◌, ◌==◌, ◌++◌, ◌∷◌, [], List, length, ◌∙◌, ap, subst}
use Rattle.jc_model.specs.declared.call.Notice.{Notice}
use Rattle.jc_model.specs.declared.event.Entry.{Entry}
use Rattle.jc_model.specs.Legal.{History}
use Rattle.jc_locked.specs.Calls.{EntryIsLast}
use Rattle.jc_locked.specs.Pending.{given_up_entry}
use Rattle.jc_shared.proofs.GivingUp.{told_and_left, given_up_as}
use Rattle.jc_shared.proofs.by_hand.Session+N+L+W+P+K+OpenCalls.give_up.Goals as goal

pub returns-clause-ok : goal.returns-clause-ok
returns-clause-ok g c =
    let held = c.hold_told.new.draft in
    let new = c.give_up-given_up.new.draft in
    let left = c.take_left-left.result in
    let told : new.told ≡ held.told ++ left = told_and_left held.told new.told left c.is_empty-untold.result (c.is_empty-untold.ensures ∙ ap (λ (ns : List Notice). length ns == 0) c.items.ensures) c.take_left-left.ensures c.in_default.ensures.told in
    let entry : new ≡ given_up_entry c.args.pending left =
    given_up_as c.args.pending c.into_parts-draft.result.0 held new c.into_parts-draft.result.1 left c.into_parts-draft.ensures.draft c.into_parts-draft.ensures.request c.hold_told.ensures.told c.in_default.ensures.ok.0 told in
    rw (← c.self.view_is)
    (record {
      added = ap (λ (h : History). h.entries) c.push.ensures ∙ ap (λ (e : Entry). c.self.inside.own.past.history.entries ++ e ∷ []) entry;
      stands = subst (λ (e : Entry). EntryIsLast g.N.Name.configs e c.give_up-given_up.new.seat.pass) entry c.in_default.ensures.ok.1;
      accepted = c.in_default.ensures.accepted;
    })
