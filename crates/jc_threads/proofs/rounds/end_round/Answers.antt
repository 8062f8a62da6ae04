use Rattle.std.proofs.Common.{◌≡◌, ◌∙◌, List, length, map, Ok, sym, subst}
use Rattle.std.proofs.lemmas.Bool.{false≢true}
use Rattle.std.proofs.lemmas.Result.{IfOk-weaker}
use Rattle.jc_script.specs.declared.line.LineCall.{LineCall}
use Rattle.jc_threads.specs.Dealing.{AreAtRest, AreUnderWay, HaveRested}
use Rattle.jc_threads.proofs.Gathered.{as_many, at_rest, rested, rested_already}
use Rattle.jc_threads.proofs.rounds.end_round.Goals as goal

pub returns-clause-counted : goal.returns-clause-counted
returns-clause-counted g c =
    let crew = c.args.crew.items in
    let results = c.in_ok-results.results.items in
    IfOk-weaker c.gather_workers.result (λ v. map Ok v.items ≡ results) (λ v. length v.items ≡ length crew) (λ v done. as_many g.N.Name.stated crew v.items results c.in_ok-results.ensures done) c.gather_workers.ensures.ok

pub returns-clause-rested : goal.returns-clause-rested
returns-clause-rested g c =
    let stated = g.N.Name.stated in
    let crew = c.args.crew.items in
    let results = c.in_ok-results.results.items in
    IfOk-weaker c.gather_workers.result (λ v. map Ok v.items ≡ results) (λ v. (all : List LineCall) → AreUnderWay stated all crew → HaveRested stated all v.items)
    (λ v done. rested stated crew v.items results c.in_ok-results.ensures done) c.gather_workers.ensures.ok

-- a worker held a call
pub returns-in_err-results-clause-idle : goal.returns-in_err-results-clause-idle
returns-in_err-results-clause-idle g c = λ rest. absurd (false≢true (sym c.if-are_at_rest.false ∙ c.are_at_rest.ensures.1 (subst AreAtRest (sym c.as_slice.ensures.value) rest)))

pub returns-clause-idle : goal.returns-clause-idle
returns-clause-idle g c = λ rest. absurd (false≢true (sym c.if-are_at_rest.false ∙ c.are_at_rest.ensures.1 (subst AreAtRest (sym c.as_slice.ensures.value) rest)))

pub returns-clause-rest : goal.returns-clause-rest
returns-clause-rest g c =
    let crew = c.args.crew.items in
    let results = c.in_ok-results.results.items in
    IfOk-weaker c.gather_workers.result (λ v. map Ok v.items ≡ results) (λ v. AreAtRest v.items) (λ v done. at_rest g.N.Name.stated crew v.items results c.in_ok-results.ensures done) c.gather_workers.ensures.ok

-- no worker held a call
pub returns-then-are_at_rest-clause-rest : goal.returns-then-are_at_rest-clause-rest
returns-then-are_at_rest-clause-rest g c = subst AreAtRest c.as_slice.ensures.value (c.are_at_rest.ensures.0 c.if-are_at_rest.true)

pub returns-then-are_at_rest-clause-rested : goal.returns-then-are_at_rest-clause-rested
returns-then-are_at_rest-clause-rested g c = rested_already g.N.Name.stated c.args.crew.items (subst AreAtRest c.as_slice.ensures.value (c.are_at_rest.ensures.0 c.if-are_at_rest.true))
