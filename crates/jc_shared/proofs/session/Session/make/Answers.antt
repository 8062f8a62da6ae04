use Rattle.std.proofs.Common.{◌≡◌, ◌++◌, ◌∷◌, [], ◌∙◌, ap, List}
use Rattle.jc_model.specs.declared.event.Entry.{Entry}
use Rattle.jc_index.proofs.Lists.{prefix_trans}
use Rattle.jc_engine.specs.declared.journal.change.Origin.{Origin}
use Rattle.jc_engine.specs.Recording.{blank, blank_of}
use Rattle.jc_locked.specs.Calls.{IsSameCall}
use Rattle.jc_shared.proofs.Carrying.{begun_same, same_call, added_ok, added_err, counts_all, goes_needed}
use Rattle.jc_shared.proofs.Writing.{serves_carried}
use Rattle.jc_shared.proofs.session.Session.make.Goals as goal

pub returns-clause-ok : goal.returns-clause-ok
returns-clause-ok g c =
    let e = c.carry_on-replied.new.draft in
    let draft = c.blank-draft.result in
    let is : draft ≡ blank c.self.inside.seat.number c.args.id c.args.now c.args.call = c.blank-draft.ensures ∙ ap (λ (o : Origin). blank_of o c.in-Ok.copy) c.origin.ensures ∙ ap (blank c.self.inside.seat.number c.args.id c.args.now) c.in-Ok.ensures.copy in
    let same : IsSameCall draft e = same_call draft c.begin-begun.new.draft e (begun_same g.N.Name.configs draft c.begin-begun.new.draft c.begin-begun.new.seat.pass c.in-Ok-Need.field-0 c.in-Ok-Need.ensures.ok) c.carry_on-replied.ensures.same in
    let added : g.J.Own.SessionJournal.calls c.push-2.new.self ≡ g.J.Own.SessionJournal.calls c.self.inside.own ++ e ∷ [] = c.push-2.ensures ∙ ap (λ (es : List Entry). es ++ e ∷ []) c.copy_for-copied.ensures.same in
    rw (← c.self.view_is)
    (added_ok g.N.Name.configs g.N.Name.stated (record { number = c.self.inside.seat.number; calls = g.J.Own.SessionJournal.calls c.self.inside.own; accepted = c.self.inside.seat.accepted; pass = c.self.inside.seat.pass }) (record { number = c.carry_on-replied.new.seat.number; calls = g.J.Own.SessionJournal.calls c.push-2.new.self; accepted = c.carry_on-replied.new.seat.accepted; pass = c.carry_on-replied.new.seat.pass }) c.args.id c.args.now c.args.call
    draft e is same added (counts_all c.self.inside.seat.accepted c.begin-begun.new.seat.accepted c.carry_on-replied.new.seat.accepted draft c.begin-begun.new.draft e (ap (λ (x : Entry). x.answers) is) (ap (λ (x : Entry). x.end) is) (goes_needed g.N.Name.configs draft c.begin-begun.new.draft c.begin-begun.new.seat.pass c.in-Ok-Need.field-0 c.in-Ok-Need.request c.in-Ok-Need.field-0-is c.in-Ok-Need.ensures.ok) c.in-Ok-Need.ensures.accepted c.carry_on-replied.ensures.counted) c.carry_on-replied.result c.carry_on-replied.ensures.ends)

pub returns-clause-err : goal.returns-clause-err
returns-clause-err g c =
    let e = c.carry_on-replied.new.draft in
    let draft = c.blank-draft.result in
    let is : draft ≡ blank c.self.inside.seat.number c.args.id c.args.now c.args.call = c.blank-draft.ensures ∙ ap (λ (o : Origin). blank_of o c.in-Ok.copy) c.origin.ensures ∙ ap (blank c.self.inside.seat.number c.args.id c.args.now) c.in-Ok.ensures.copy in
    let same : IsSameCall draft e = same_call draft c.begin-begun.new.draft e (begun_same g.N.Name.configs draft c.begin-begun.new.draft c.begin-begun.new.seat.pass c.in-Ok-Need.field-0 c.in-Ok-Need.ensures.ok) c.carry_on-replied.ensures.same in
    let added : g.J.Own.SessionJournal.calls c.push-2.new.self ≡ g.J.Own.SessionJournal.calls c.self.inside.own ++ e ∷ [] = c.push-2.ensures ∙ ap (λ (es : List Entry). es ++ e ∷ []) c.copy_for-copied.ensures.same in
    rw (← c.self.view_is)
    (added_err g.N.Name.configs g.N.Name.stated (record { number = c.self.inside.seat.number; calls = g.J.Own.SessionJournal.calls c.self.inside.own; accepted = c.self.inside.seat.accepted; pass = c.self.inside.seat.pass }) (record { number = c.carry_on-replied.new.seat.number; calls = g.J.Own.SessionJournal.calls c.push-2.new.self; accepted = c.carry_on-replied.new.seat.accepted; pass = c.carry_on-replied.new.seat.pass }) c.args.id c.args.now c.args.call
    draft e is same added (counts_all c.self.inside.seat.accepted c.begin-begun.new.seat.accepted c.carry_on-replied.new.seat.accepted draft c.begin-begun.new.draft e (ap (λ (x : Entry). x.answers) is) (ap (λ (x : Entry). x.end) is) (goes_needed g.N.Name.configs draft c.begin-begun.new.draft c.begin-begun.new.seat.pass c.in-Ok-Need.field-0 c.in-Ok-Need.request c.in-Ok-Need.field-0-is c.in-Ok-Need.ensures.ok) c.in-Ok-Need.ensures.accepted c.carry_on-replied.ensures.counted) c.carry_on-replied.result c.carry_on-replied.ensures.ends)

pub returns-clause-front : goal.returns-clause-front
returns-clause-front g c = rw (← c.self.view_is) (prefix_trans _ _ _ c.begin-begun.ensures.front c.carry_on-replied.ensures.front)

pub returns-clause-served : goal.returns-clause-served
returns-clause-served g c =
    let e = c.carry_on-replied.new.draft in
    let draft = c.blank-draft.result in
    let is : draft ≡ blank c.self.inside.seat.number c.args.id c.args.now c.args.call = c.blank-draft.ensures ∙ ap (λ (o : Origin). blank_of o c.in-Ok.copy) c.origin.ensures ∙ ap (blank c.self.inside.seat.number c.args.id c.args.now) c.in-Ok.ensures.copy in
    let first : c.begin-begun.new.draft ≡ blank c.self.inside.seat.number c.args.id c.args.now c.args.call = (goes_needed g.N.Name.configs draft c.begin-begun.new.draft c.begin-begun.new.seat.pass c.in-Ok-Need.field-0 c.in-Ok-Need.request c.in-Ok-Need.field-0-is c.in-Ok-Need.ensures.ok) ∙ is in
    let added : g.J.Own.SessionJournal.calls c.push-2.new.self ≡ g.J.Own.SessionJournal.calls c.self.inside.own ++ e ∷ [] = c.push-2.ensures ∙ ap (λ (es : List Entry). es ++ e ∷ []) c.copy_for-copied.ensures.same in
    rw (← c.self.view_is)
    (serves_carried g.W.Writer.may g.K.FilteredListener.state_after c.args.locked.now c.carry_on-replied.new.hooks c.begin-begun.new.draft e (g.J.Own.SessionJournal.calls c.self.inside.own) (g.J.Own.SessionJournal.calls c.push-2.new.self) c.carry_on-replied.result
    (ap (λ (x : Entry). x.answers) first) (ap (λ (x : Entry). x.told) first) added c.carry_on-replied.ensures.told c.carry_on-replied.ensures.wrote)
