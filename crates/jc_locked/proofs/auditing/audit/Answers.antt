use Rattle.std.proofs.Common.{List, map, sym, ◌∙◌, subst}
use Rattle.jc_model.specs.declared.event.Entry.{Entry}
use Rattle.std.proofs.lemmas.Bool.{false≢true}
use Rattle.jc_locked.specs.Accounts.{NoneWaits, AllAgree, DiffersFirst}
use Rattle.jc_locked.proofs.auditing.audit.Goals as goal

pub returns-then-not-none_waits-clause-fault : goal.returns-then-not-none_waits-clause-fault
returns-then-not-none_waits-clause-fault g c =
    (record { once = c.are_once.ensures.0 c.if-not-are_once.false; below = c.are_below.ensures.0 c.if-not-are_below.false }, λ h. false≢true (sym c.if-not-none_waits.true ∙ c.none_waits.ensures.1 (subst NoneWaits (sym c.entries-entries.ensures) h)))

pub first_difference-requires : goal.first_difference-requires
first_difference-requires g c = record { once = c.are_once.ensures.0 c.if-not-are_once.false; below = c.are_below.ensures.0 c.if-not-are_below.false }

pub returns-in-Some-clause-fault : goal.returns-in-Some-clause-fault
returns-in-Some-clause-fault g c = (
  record { once = c.are_once.ensures.0 c.if-not-are_once.false; below = c.are_below.ensures.0 c.if-not-are_below.false },
  subst NoneWaits c.entries-entries.ensures (c.none_waits.ensures.0 c.if-not-none_waits.false),
  subst (λ (es : List Entry). DiffersFirst es (map g.S.Logged.log c.args.logs.now) c.in-Some.session c.in-Some.place) c.entries-entries.ensures c.in-Some.ensures,
)

pub returns-in-None-clause-ok : goal.returns-in-None-clause-ok
returns-in-None-clause-ok g c = record {
  numbers = record { once = c.are_once.ensures.0 c.if-not-are_once.false; below = c.are_below.ensures.0 c.if-not-are_below.false };
  ended = subst NoneWaits c.entries-entries.ensures (c.none_waits.ensures.0 c.if-not-none_waits.false);
  agree = subst (λ (es : List Entry). AllAgree es (map g.S.Logged.log c.args.logs.now)) c.entries-entries.ensures c.in-None.ensures;
}
