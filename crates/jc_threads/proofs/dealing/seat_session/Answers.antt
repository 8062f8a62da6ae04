use Rattle.std.proofs.Common.{◌%◌, ◌∙◌, length, get_or, sym, subst}
use Rattle.std.specs.Prelude.{slice_set}
use Rattle.std.proofs.lemmas.Nat.{mod_below}
use Rattle.std.proofs.lemmas.Option.{slice_get-get_or}
use Rattle.jc_threads.specs.Dealing.{Share, HasSeat, AreWorkersIdle}
use Rattle.jc_threads.proofs.Dealt.{seat_idle, seat_own, seat_others}
use Rattle.jc_threads.proofs.Lists.{on_ok_both}
use Rattle.jc_threads.proofs.dealing.seat_session.Goals as goal

pub returns-clause-seated : goal.returns-clause-seated
returns-clause-seated g c =
    let crew = c.args.crew.now in
    let n = c.args.number in
    let d = c.index-crew-number.result in
    on_ok_both c.seat.result c.seat.ensures.next c.seat.ensures.seated (λ next seated idle.
    subst (λ (s : Share). AreWorkersIdle (slice_set crew (n % length crew) s)) (sym seated)
    (seat_idle crew (get_or crew (n % length crew) d) c.args.session n (sym c.if-number.false ∙ c.number.ensures) c.requires.fresh (slice_get-get_or crew (n % length crew) d (mod_below n (length crew) c.requires.some)) next idle))

pub returns-clause-own : goal.returns-clause-own
returns-clause-own g c =
    let crew = c.args.crew.now in
    let n = c.args.number in
    let d = c.index-crew-number.result in
    on_ok_both c.seat.result c.seat.ensures.next c.seat.ensures.seated (λ next seated.
    subst (λ (s : Share). HasSeat (length crew) n (slice_set crew (n % length crew) s)) (sym seated)
    (seat_own crew (get_or crew (n % length crew) d) c.args.session n (sym c.if-number.false ∙ c.number.ensures) (slice_get-get_or crew (n % length crew) d (mod_below n (length crew) c.requires.some)) next))

pub returns-clause-kept : goal.returns-clause-kept
returns-clause-kept g c =
    let crew = c.args.crew.now in
    let n = c.args.number in
    let d = c.index-crew-number.result in
    on_ok_both c.seat.result c.seat.ensures.next c.seat.ensures.seated (λ next seated m had.
    subst (λ (s : Share). HasSeat (length crew) m (slice_set crew (n % length crew) s)) (sym seated)
    (seat_others (length crew) crew (n % length crew) (get_or crew (n % length crew) d) c.args.session (slice_get-get_or crew (n % length crew) d (mod_below n (length crew) c.requires.some)) m had))
