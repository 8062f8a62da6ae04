use Rattle.std.proofs.Common.{◌≡◌, ◌<◌, ◌∷◌, ℕ, List, [], map, length, refl, ◌∙◌, subst, arith}
use Rattle.std.proofs.lemmas.List.{length-set, nil_from_length}
use Rattle.std.proofs.lemmas.Bool.Decides.{nat_tests}
use Rattle.jc_model.specs.declared.event.Entry.{Entry}
use Rattle.jc_locked.proofs.Comparing.{below_next}
use Rattle.jc_locked.proofs.Walking.{rest_of, AgreeBy, rest_read, whole_next, agree_next, agree_whole, agree_all}
use Rattle.jc_locked.proofs.auditing.agree.Goals as goal

pub loop-number-init : goal.loop-number-init
loop-number-init g c = (refl, λ n lt. absurd (omega (arith, lt)))

pub loop-number-preserved : goal.loop-number-preserved
loop-number-preserved g c = (
  length-set c.loop-number.rests c.loop-number.number c.own_of.result ∙ c.loop-number.invariant.0,
  whole_next c.loop-number.rests c.loop-number.number c.own_of.result (map g.S.Logged.log c.args.logs.now) (omega (arith, c.loop-number-test.true, c.loop-number.invariant.0)) c.own_of.ensures c.loop-number.invariant.1,
)

pub loop-entry-init : goal.loop-entry-init
loop-entry-init g c = (
  c.loop-number.invariant.0,
  agree_whole c.args.entries.now c.args.given c.loop-number.number (map g.S.Logged.log c.args.logs.now) c.loop-number.rests (omega (arith, c.loop-number-test.false, c.if-given-gt-MOST_SESSIONS.false))
      (omega (arith, c.loop-number-test.false, c.loop-number.invariant.0)) c.requires.below c.loop-number.invariant.1,
)

pub listed : goal.listed
listed g c = omega (arith, c.if-entry-ge-MOST_SESSIONS.false, c.loop-entry.invariant.0)

pub loop-entry-preserved : goal.loop-entry-preserved
loop-entry-preserved g c =
    let e = c.in-Some.entry.now in
    let rests = c.loop-entry.rests in
    let logs = map g.S.Logged.log c.args.logs.now in
    let lt : e.session < length rests = omega (arith, c.if-entry-ge-MOST_SESSIONS.false, c.loop-entry.invariant.0) in
    let agree : AgreeBy c.args.entries.now logs (e ∷ c.in-Some.later.now) rests =
    subst (λ (es : List Entry). AgreeBy c.args.entries.now logs es rests) c.in-Some.ensures.cases.0 c.loop-entry.invariant.1 in (
      length-set rests e.session c.in-Some-rest_behind.rest ∙ c.loop-entry.invariant.0,
      agree_next rests e.session c.in-Some-rest_behind.rest c.args.entries.now c.in-Some.later.now logs e lt refl (rest_read e.session rests c.index-rests-entry.result lt ∙ c.in-Some-rest_behind.ensures) agree,
    )

pub loop-session-init : goal.loop-session-init
loop-session-init g c = λ n lt. absurd (omega (arith, lt))

pub listed-in-loop-session : goal.listed-in-loop-session
listed-in-loop-session g c = omega (arith, c.loop-session-test.true, c.loop-entry.invariant.0)

pub loop-session-preserved : goal.loop-session-preserved
loop-session-preserved g c =
    let lt : c.loop-session.session < length c.loop-entry.rests = omega (arith, c.loop-session-test.true, c.loop-entry.invariant.0) in
    below_next (λ (n : ℕ). rest_of n c.loop-entry.rests ≡ []) c.loop-session.session c.loop-session.invariant (rest_read c.loop-session.session c.loop-entry.rests c.index-rests-session.result lt ∙ nil_from_length _ (grind (arith, nat_tests, c.if-not-is_empty.ensures)))

pub returns : goal.returns
returns g c = λ yes.
    agree_all c.args.entries.now c.loop-entry.left.now (map g.S.Logged.log c.args.logs.now) c.loop-entry.rests c.in_default.ensures.cases
    (λ n lt. c.loop-session.invariant n (omega (arith, lt, c.loop-session-test.false, c.loop-entry.invariant.0))) c.loop-entry.invariant.1
