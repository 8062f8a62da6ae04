-- One cache and its call: what the call has come to is what the cache is to answer.
use Rattle.jc_engine.proofs.Names.{common_steps, Answer, Call, Request, CacheConfig, WrongAnswer, Progress, Run, waiting, and_then, resume, fits, told_first, Standing, Status, begins, answers, shown}
use Rattle.jc_engine.proofs.Names.{standing_of, Wait, one, many, telling, run_of, Kept, progress_of, wait_run, WaitsOn, EngineStep, Asked, Idle, Waiting, Telling, cache_in, is_step, WaitsThere, Settled, Moves, Refused, Slot}
use Rattle.std.proofs.Common.{◌≡◌, ℕ, [], Bool, true, if◌then◌else◌, refl, sym, ap, subst, ◌∙◌, arith, Ok}
use Rattle.jc_ops.specs.Visited.{Visited, IsSameVisit}
use Rattle.jc_bulk.specs.Calls.{call_run}
use Rattle.jc_engine.specs.Managed.{GivesBack, HasHeard, IsPutBack, IsReady, reply_to}
use Rattle.jc_engine.specs.Waiting.{WaitState}
use Rattle.jc_engine.specs.declared.turn.Turn.{Turn}
use Rattle.jc_engine.proofs.Untold.{carried_out-untold, resume-untold, tells_nothing, wait_run-untold}

-- a call has begun on the cache of this visit
began : (v : Visited) (turn : Turn) (call : Call) (cache' : Slot) (advance : EngineStep) → is_step (reply_to (cache_in (record { state = v.cache; turn = turn })) (begins v.moment call)) ≡ true → v.noted.told ≡ []
    → cache'.state.config ≡ v.cache.config → Settled v.cache.config (call_run v call) cache' advance → Moves (cache_in (record { state = v.cache; turn = turn })) (begins v.moment call) (cache_in cache') advance
began v Idle call cache' advance allowed untold same settled = grind (arith, carried_out-untold)
began v (Waiting s) call cache' advance allowed untold same settled = absurd cc
began v (Telling r) call cache' advance allowed untold same settled = absurd cc

-- the visit began as v, took the cache in as v', came to w and gave it back
pub put_back : {cache cache' : Slot} {v v' w w' : Visited} → v'.cache ≡ cache.state → v'.table ≡ v.table → IsSameVisit v' w → GivesBack v.cache w cache' w' → WaitsThere v'.cache.config cache'.state cache'.turn → IsPutBack cache v cache' w'
put_back {cache} {cache'} {v} {v'} {w} {w'} entered table same back waits =
    let config : v'.cache.config ≡ cache'.state.config = cc in
    let id : v'.cache.id ≡ cache.state.id = cc in
    record {
      managed = record { id_is = cc; kept = back.kept; waits = subst (λ (c : CacheConfig). WaitsThere c cache'.state cache'.turn) config waits };
      config = cc;
      elsewhere = λ other key apart. rw (back.table, ← table) (same.elsewhere other key (rw id apart));
      rests = record { cache = back.spare_is; untold = back.untold };
    }

-- and so it has heard that a call begins
pub has_begun : {T : Type 0} {cache cache' : Slot} {v w w' : Visited} {spare : ℕ} {call : Call} {advance : EngineStep} → IsReady cache v → is_step (reply_to (cache_in cache) (begins v.moment call)) ≡ true
    → IsSameVisit (record v { cache = cache.state; spare = spare }) w → GivesBack v.cache w cache' w' → Settled cache.state.config (call_run (record v { cache = cache.state; spare = spare }) call) cache' advance → HasHeard {T = T} cache v (begins v.moment call) (Ok advance) cache' w'
has_begun {T} {cache} {cache'} {v} {w} {w'} {spare} {call} {advance} is allowed same back settled =
    let after : IsPutBack cache v cache' w' = put_back refl refl same back settled.waits in
    record { back = after; ok = began (record v { cache = cache.state; spare = spare }) cache.turn call cache' advance allowed is.untold after.config settled; same = tt; table = tt }

-- a call that is allowed to begin finds none open
pub idle_before : (k : Kept) (turn : Turn) (now : ℕ) (call : Call) → is_step (reply_to (cache_in (record { state = k; turn = turn })) (begins now call)) ≡ true → turn ≡ Idle
idle_before k Idle now call allowed = refl
idle_before k (Waiting s) now call allowed = absurd cc
idle_before k (Telling r) now call allowed = absurd cc

-- a suspended call goes on as its run does
run_on : (c : CacheConfig) (p : Progress) (w : Wait) (a : Answer) (request : Request) (resumed : Answer → Run) → wait_run c p w ≡ waiting request p resumed → run_of c p w a ≡ and_then (resume (wait_run c p w) a) told_first
run_on c p (one w) a request resumed is = refl
run_on c p (many w) a request resumed is = refl
run_on c p (telling r) a request resumed is = absurd cc

-- a call that waits stands as its run does
pub settled_waiting : (c : CacheConfig) (run : Run) (k : Kept) (request : Request) (w : WaitState) → WaitsOn c (progress_of k w.told) request w.call run → Settled c run (record { state = k; turn = Waiting w }) (Asked request)
settled_waiting c run k request w is = grind (arith, common_steps, tells_nothing)

-- an answer that is allowed is one that the call waits for, and not that notices were told
pub awaited : (k : Kept) (w : WaitState) (a : Answer) → is_step (reply_to (cache_in (record { state = k; turn = Waiting w })) (answers a)) ≡ true → fits w.call.awaits a ≡ true
awaited k w a allowed = grind (arith, common_steps)

-- and a cache has heard the answer
pub has_gone_on : {T : Type 0} {k : Kept} {s : WaitState} {cache' : Slot} {v v' w w' : Visited} {a : Answer} {advance : EngineStep} → IsReady (record { state = k; turn = Waiting s }) v
    → is_step (reply_to (cache_in (record { state = k; turn = Waiting s })) (answers a)) ≡ true → v'.cache ≡ k → v'.table ≡ v.table → IsSameVisit v' w → GivesBack v.cache w cache' w'
    → Settled k.config (resume (wait_run k.config (progress_of k s.told) s.call.wait) a) cache' advance → HasHeard {T = T} (record { state = k; turn = Waiting s }) v (answers a) (Ok advance) cache' w'
has_gone_on {T} {k} {s} {cache'} {v} {v'} {w} {w'} {a} {advance} is allowed entered table same back settled =
    let c = k.config in
    let run = wait_run c (progress_of k s.told) s.call.wait in
    let goes = run_on c (progress_of k s.told) s.call.wait a is.waits.request is.waits.resumed is.waits.run_is in
    let fit : fits s.call.awaits a ≡ true = awaited k s a allowed in
    let after : IsPutBack (record { state = k; turn = Waiting s }) v cache' w' = put_back entered table same back (rw entered settled.waits) in
    record {
      back = after;
      ok = record {
        shows = settled.shows ∙ (ap shown (sym goes) ∙ ap (λ (b : Bool). if b then shown (run_of c (progress_of k s.told) s.call.wait a) else Refused WrongAnswer) (sym fit));
        moves = rw after.config (ap (λ (s : Standing). (let status : Status = record { config = c; standing = s } in status)) (settled.stands ∙ ap standing_of (sym goes)));
        fits = settled.fits (resume-untold run a (wait_run-untold c (progress_of k s.told) s.call.wait));
      };
      same = tt;
      table = tt;
    }
