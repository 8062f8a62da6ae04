use Rattle.std.proofs.Common.{◌≡◌, ◌∷◌, ◌++◌, List, [], refl, sym, ◌∙◌, ap}
use Rattle.jc_model.specs.declared.event.Entry.{Entry}
use Rattle.jc_locked.specs.Accounts.{calls_of}
use Rattle.jc_locked.proofs.Comparing.{part_here, calls_own, no_calls, push_front, front_length, none_here}
use Rattle.jc_locked.proofs.auditing.parting_place.Goals as goal

pub returns-in-None : goal.returns-in-None
returns-in-None c =
    let front = c.loop-entry.invariant.0 in
    let e = c.in-Some.entry.now in
    let later = calls_of c.args.session c.in-Some.later.now in
    let here : calls_of c.args.session c.loop-entry.left.now ≡ e ∷ later = ap (calls_of c.args.session) c.in-Some.ensures.cases.0 ∙ calls_own c.args.session e c.in-Some.later.now c.if-entry-session.true in
    part_here (calls_of c.args.session c.args.entries.now) c.args.own.now front (e ∷ later) c.loop-entry.rest.now _ (c.loop-entry.invariant.2 ∙ ap (λ (es : List Entry). front ++ es) here) c.loop-entry.invariant.1
    (front_length c.args.own.now front c.loop-entry.rest.now c.loop-entry.invariant.1) (λ h. c.in-None.ensures (sym h))

pub loop-entry-preserved-in-Some-rest_behind : goal.loop-entry-preserved-in-Some-rest_behind
loop-entry-preserved-in-Some-rest_behind c =
    let front = c.loop-entry.invariant.0 in
    let e = c.in-Some.entry.now in
    let later = calls_of c.args.session c.in-Some.later.now in
    let here : calls_of c.args.session c.loop-entry.left.now ≡ e ∷ later = ap (calls_of c.args.session) c.in-Some.ensures.cases.0 ∙ calls_own c.args.session e c.in-Some.later.now c.if-entry-session.true in (
      front ++ e ∷ [],
      c.loop-entry.invariant.1 ∙ ap (λ (es : List Entry). front ++ es) c.in-Some-rest_behind.ensures ∙ push_front front c.in-Some-rest_behind.tail.now e,
      c.loop-entry.invariant.2 ∙ ap (λ (es : List Entry). front ++ es) here ∙ push_front front later e,
    )

pub returns-else-is_empty : goal.returns-else-is_empty
returns-else-is_empty c =
    let front = c.loop-entry.invariant.0 in
    let none : calls_of c.args.session c.loop-entry.left.now ≡ [] = no_calls c.args.session c.loop-entry.left.now c.in_default.ensures.cases in
    part_here (calls_of c.args.session c.args.entries.now) c.args.own.now front [] c.loop-entry.rest.now _ (c.loop-entry.invariant.2 ∙ ap (λ (es : List Entry). front ++ es) none) c.loop-entry.invariant.1
    (front_length c.args.own.now front c.loop-entry.rest.now c.loop-entry.invariant.1) (none_here [] c.loop-entry.rest.now refl c.if-is_empty.ensures)
