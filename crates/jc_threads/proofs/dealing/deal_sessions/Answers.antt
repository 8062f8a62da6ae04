use Rattle.std.proofs.Common.{◌≡◌, ◌∙◌, ℕ, ◌<◌, [], List, length, drop, sym, ap, subst, arith}
use Rattle.std.proofs.lemmas.List.{length-replicate}
use Rattle.jc_threads.specs.Dealing.{Share, idle_share, HasSeat, AreWorkersIdle, AreUnderWay}
use Rattle.jc_threads.proofs.Dealt.{idle_first, under_way_first}
use Rattle.jc_threads.proofs.Lists.{written_back}
use Rattle.jc_threads.proofs.dealing.deal_sessions.Goals as goal

pub returns-clause-ready : goal.returns-clause-ready
returns-clause-ready g c =
    let given = c.as_mut_slice.ensures.value ∙ c.in_ok-crew.ensures in
    let counted : length c.seat_all.new.crew ≡ c.args.workers = c.seat_all.ensures.counted ∙ (ap length given ∙ length-replicate c.args.workers idle_share) in
    let same = written_back c.in_ok-crew.crew.len c.seat_all.new.crew (drop (length c.seat_all.new.crew) c.in_ok-crew.crew.items) (omega (arith, c.seat_all.ensures.counted, c.as_mut_slice.ensures.len)) in
    subst (λ (crew : List Share). (length crew ≡ c.args.workers) × AreUnderWay g.N.Name.stated [] crew) (sym same)
    (counted, under_way_first g.N.Name.stated c.seat_all.new.crew (c.in_ok-seat_all.ensures.seated (subst AreWorkersIdle (sym given) (idle_first c.args.workers))))

pub returns-clause-opened : goal.returns-clause-opened
returns-clause-opened g c =
    let given = c.as_mut_slice.ensures.value ∙ c.in_ok-crew.ensures in
    let many : length c.as_mut_slice.result.now ≡ c.args.workers = ap length given ∙ length-replicate c.args.workers idle_share in
    let same = written_back c.in_ok-crew.crew.len c.seat_all.new.crew (drop (length c.seat_all.new.crew) c.in_ok-crew.crew.items) (omega (arith, c.seat_all.ensures.counted, c.as_mut_slice.ensures.len)) in
    λ number below.
    subst (HasSeat c.args.workers number) (sym same)
    (subst (λ (n : ℕ). HasSeat n number c.seat_all.new.crew) many (c.in_ok-seat_all.ensures.opened number (subst (λ (n : ℕ). number < n) (sym c.sessions_of-sessions.ensures) below)))
