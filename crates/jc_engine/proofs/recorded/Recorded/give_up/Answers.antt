use Rattle.std.proofs.Common.{◌≡◌, ℕ, slice_set}
use Rattle.jc_engine.proofs.Names.{with_outcome, GivenUp}
use Rattle.jc_engine.specs.Recording.{left_in, with_entries}
use Rattle.jc_engine.proofs.Recordings.{FindsOpen, give_up_busy, found, kept_of, entry_of, told_or_left, given_up, written_at, of_left, untold_left}
use Rattle.jc_engine.proofs.recorded.Recorded.give_up.Given as given
use Rattle.jc_engine.proofs.recorded.Recorded.give_up.Goals as goal

pub give_up-requires : goal.give_up-requires
give_up-requires g c =
    let at = found c.self.invariant (give_up_busy c.self.inside.engine c.args.id c.in_ok-left.left c.in_ok-left.ensures.outcome) in
    let f = at.1 in
    (at.0, f.opened.entry, kept_of f, untold_left c.in_ok-left.left f.busy.cache f.busy.wait f.opened.entry (rw f.busy.here at c.in_ok-left.ensures.left) f.busy.waits f.opened.untold)

module _ (g : given.Over) (c : goal.After-give_up g) where
  at : (place : ℕ) × FindsOpen c.self.inside.engine (g.J.Journal.history c.self.inside.journal).entries (g.J.Journal.places c.self.inside.journal) c.args.id place
  at = found c.self.invariant (give_up_busy c.self.inside.engine c.args.id c.in_ok-left.left c.in_ok-left.ensures.outcome)

  noted : g.J.Journal.history c.give_up.new.self ≡ with_entries (slice_set (g.J.Journal.history c.self.inside.journal).entries at.0 (with_outcome (GivenUp (left_in c.in_ok-left.left)) at.1.opened.entry)) (g.J.Journal.history c.self.inside.journal)
  noted =
      let f = at.1 in
      c.give_up.ensures.noted at.0 f.opened.entry (kept_of f) (untold_left c.in_ok-left.left f.busy.cache f.busy.wait f.opened.entry (rw f.busy.here at c.in_ok-left.ensures.left) f.busy.waits f.opened.untold)

pub invariant_of-self-2 : goal.invariant_of-self-2
invariant_of-self-2 g c =
    rw (noted g c) (given_up c.self.invariant c.in_ok-left.ensures.one (at g c).1 (g.J.Journal.places c.give_up.new.self) (left_in c.in_ok-left.left) c.give_up.ensures.places c.in_ok-left.ensures.closed
    (rw of_left at c.in_ok-left.ensures.outcome) (rw of_left at c.in_ok-left.ensures.lives))

pub returns-clause-transcript : goal.returns-clause-transcript
returns-clause-transcript g c = λ session. rw (← c.self.view_is, c.give_up.ensures.left, ← written_at c.self.invariant c.in_ok-left.ensures.one (at g c).1 (with_outcome (GivenUp (left_in c.in_ok-left.left)))) (noted g c)

pub returns-clause-told : goal.returns-clause-told
returns-clause-told g c = (rw (← c.self.view_is) c.self.invariant.told, (invariant_of-self-2 g c).told)

pub returns-clause-left : goal.returns-clause-left
returns-clause-left g c =
    let f = (at g c).1 in
    rw (← c.self.view_is, c.give_up.ensures.left) ((at g c).0, f.opened.entry, entry_of f, told_or_left c.in_ok-left.left f.busy.cache f.busy.wait f.opened.entry (rw f.busy.here at c.in_ok-left.ensures.left) f.busy.waits f.opened.untold)
