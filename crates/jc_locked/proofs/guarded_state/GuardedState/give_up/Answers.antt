use Rattle.std.proofs.Common.{◌≡◌, ◌∙◌, ◌++◌, List, inl, inr, sym, ap, subst, append-nil}
use Rattle.jc_model.specs.declared.call.Notice.{Notice}
use Rattle.jc_model.specs.declared.event.End.TheVariants as ends
use Rattle.jc_model.specs.declared.event.Entry.{Entry}
use Rattle.jc_model.specs.declared.event.Event.TheVariants as event
use Rattle.jc_model.specs.declared.event.Outcome.TheVariants as outcome
use Rattle.jc_model.specs.Runs.{gives_up}
use Rattle.jc_engine.specs.Caches.{lives_of}
use Rattle.jc_engine.specs.Recording.{Recording}
use Rattle.jc_engine.specs.Results.{of_give_up}
use Rattle.jc_locked.specs.Tenures.{IsTenure}
use Rattle.jc_locked.proofs.Tenures.{still_begins, told_or_left, given_up_stands}
use Rattle.jc_locked.proofs.guarded_state.GuardedState.give_up.Given as given
use Rattle.jc_locked.proofs.guarded_state.GuardedState.give_up.Goals as goal

pub invariant_of-self : goal.invariant_of-self
invariant_of-self g c =
    let old = c.args.self.now.recorded in
    let draft = c.args.draft.now in
    record { begins = still_begins g.N.Name.configs old.transcript c.give_up.new.self.transcript draft.session draft.id gives_up (of_give_up c.give_up.result) c.args.self.now.begins (c.give_up.ensures.transcript draft.session); closes = c.args.self.now.closes }

pub keep_left-requires : goal.keep_left-requires
keep_left-requires g c =
    let old = c.args.self.now.recorded in
    let draft = c.args.draft.now in
    told_or_left g.N.Name.configs (lives_of old.caches) (lives_of old.caches) old.transcript old.transcript draft draft c.items.result.now c.args.seat.now.pass (c.is_open.ensures.open c.if-not-is_open.false) c.requires c.in-Ok.left c.in-Ok.ensures.outcome c.in-Ok.ensures.left

module _ (g : given.Over) (c : goal.After-show g) where
  ends_so : c.end_with.new.draft ≡ record c.args.draft.now { told = c.args.draft.now.told ++ c.in-Ok.left; end = ends.GivenUp }
  ends_so = c.end_with.ensures ∙ ap (λ (e : Entry). record e { end = ends.GivenUp }) c.keep_left.ensures

  tells : c.end_with.new.draft.told ≡ c.args.draft.now.told ++ c.in-Ok.left
  tells = ap (λ (e : Entry). e.told) ends_so

pub returns-clause-ok : goal.returns-clause-ok
returns-clause-ok g c =
    let old = c.args.self.now.recorded in
    let new = c.give_up.new.self in
    let draft = c.args.draft.now in (
      ends_so g c ∙ ap (λ (ns : List Notice). record draft { told = ns; end = ends.GivenUp }) (sym (tells g c)),
      given_up_stands g.N.Name.configs (lives_of old.caches) (lives_of new.caches) old.transcript new.transcript draft c.end_with.new.draft c.items.result.now c.show.new.pass (c.is_open.ensures.open c.if-not-is_open.false) c.requires
          c.in-Ok.left (sym c.items.ensures) (ends_so g c) (c.in-Ok.ensures.transcript draft.session) c.in-Ok.ensures.outcome c.in-Ok.ensures.lives c.in-Ok.ensures.told.1.legal
          (still_begins g.N.Name.configs old.transcript new.transcript draft.session draft.id gives_up (of_give_up c.give_up.result) c.args.self.now.begins (c.give_up.ensures.transcript draft.session)) c.show.ensures.sees,
    )

pub returns-clause-given_up : goal.returns-clause-given_up
returns-clause-given_up g c =
    let old = c.args.self.now.recorded in
    let draft = c.args.draft.now in
    record {
      left = c.in-Ok.left;
      tenure = subst (λ (r : Recording). IsTenure old r draft.session (event.GiveUp draft.id) (outcome.GivenUp c.in-Ok.left)) (sym c.show.ensures.same)
          (record { answered = c.in-Ok.ensures.outcome; transcript = c.in-Ok.ensures.transcript draft.session; lives = c.in-Ok.ensures.lives });
      notices = tells g c;
    }

pub returns-clause-told : goal.returns-clause-told
returns-clause-told g c =
    let old = c.args.self.now.recorded in
    let draft = c.args.draft.now in
    elim (told_or_left g.N.Name.configs (lives_of old.caches) (lives_of old.caches) old.transcript old.transcript draft draft c.items.result.now c.args.seat.now.pass (c.is_open.ensures.open c.if-not-is_open.false) c.requires c.in-Ok.left c.in-Ok.ensures.outcome c.in-Ok.ensures.left) [
      | inl none ↦ inl none
      | inr none ↦ inr (tells g c ∙ (ap (λ (ns : List Notice). draft.told ++ ns) none ∙ append-nil draft.told))
    ]
