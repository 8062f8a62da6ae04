-- The calls of a life, made again on a manager of its cache alone, leave that as its solo run does.
use Rattle.std.proofs.Common.{◌≡◌, ℕ, Bool, true, false, if◌then◌else◌, List, [], ◌∷◌, map, Some, refl, ap, ◌∙◌}
use Rattle.std.proofs.lemmas.Bool.{false≢true}
use Rattle.jc_model.specs.declared.call.Answer.{Answer}
use Rattle.jc_model.specs.declared.call.Call.{Call}
use Rattle.jc_model.specs.declared.config.CacheConfig.{CacheConfig}
use Rattle.jc_model.specs.declared.event.Entry.{Entry}
use Rattle.jc_model.specs.declared.event.Event.TheVariants.{Begin, Answer as Answered, GiveUp}
use Rattle.jc_model.specs.declared.event.Cause.TheVariants.{NoSuchProcessor, WrongAnswer}
use Rattle.jc_model.specs.declared.event.Outcome.TheVariants.{Refused}
use Rattle.jc_model.specs.Changes.{Progress}
use Rattle.jc_model.specs.State.{State}
use Rattle.jc_model.specs.Run.{Run, ended, waiting, resume, answered, progress, Awaited, awaited_by, awaits, fits}
use Rattle.jc_model.specs.Whole.{whole}
use Rattle.jc_model.specs.Runs.{Standing, idle, busy, Lives, begins, answers, on_cache, fresh, opened_from, standing_of, shown, has_processor, is_refused, refuse_last, lives_by, moved_by}
use Rattle.jc_model.specs.Solo.{state_in, standing_left, after_call, standing_from}
use Rattle.jc_model.specs.Legal.{Fits, IsLegalEntry, IsLegalFrom, was_given_up, played}
use Rattle.jc_report.specs.Again.{after_event, after_answers, after_entry, after_entries, counts_in}
use Rattle.jc_report.specs.Totals.{counts_after}

-- one cache, which stands so
abbrev pub one : CacheConfig → Standing → Lives
one c standing = Some (record { config = c; standing = standing }) ∷ []

-- a step is no refusal
moves : (lives changed : Lives) (run : Run) → (if is_refused (refuse_last false (shown run)) then lives else changed) ≡ changed
moves lives changed (ended p r) = refl
moves lives changed (waiting q p resumed) = refl

begun : (c : CacheConfig) (s : State) (now : ℕ) (call : Call) (run : Run) (b : Bool) → b ≡ true
    → lives_by (one c (idle s)) (on_cache 0 (begins now call)) (refuse_last false (if b then shown run else Refused NoSuchProcessor)) ≡ one c (moved_by c (idle s) (begins now call))
begun c s now call run true has = moves (one c (idle s)) (one c (moved_by c (idle s) (begins now call))) run
begun c s now call run false has = absurd (false≢true has)

pub begins_one : (c : CacheConfig) (s : State) (now : ℕ) (call : Call) → has_processor c call ≡ true → after_event (one c (idle s)) (Begin 0 now call) ≡ one c (standing_of (whole c now call s))
unfolding after_event
begins_one c s now call has = begun c s now call (whole c now call s) (has_processor c call) has

answer_fits : (c : CacheConfig) (w : Awaited) (p : Progress) (resumed : Answer → Run) (a : Answer) (b : Bool) → b ≡ true
    → lives_by (one c (busy w p resumed)) (on_cache 0 (answers a)) (refuse_last false (if b then shown (resumed a) else Refused WrongAnswer)) ≡ one c (standing_of (resumed a))
answer_fits c w p resumed a true is = moves (one c (busy w p resumed)) (one c (standing_of (resumed a))) (resumed a)
answer_fits c w p resumed a false is = absurd (false≢true is)

pub answers_one : (c : CacheConfig) (run : Run) (a : Answer) → awaits run a ≡ true → after_event (one c (standing_of run)) (Answered 0 a) ≡ one c (standing_of (resume run a))
unfolding after_event
answers_one c (ended p r) a awaited = absurd (false≢true awaited)
answers_one c (waiting q p resumed) a awaited = answer_fits c (awaited_by q) p resumed a (fits (awaited_by q) a) awaited

pub gives_up_one : (c : CacheConfig) (standing : Standing) → after_event (one c standing) (GiveUp 0) ≡ one c (idle (state_in standing))
unfolding after_event
gives_up_one c (idle s) = refl
gives_up_one c (busy w p resumed) = refl

state_left : (run : Run) → state_in (standing_of run) ≡ (progress run).state
state_left (ended p r) = refl
state_left (waiting q p resumed) = refl

pub answers_all : (c : CacheConfig) (run : Run) (given : List Answer) → Fits run given → after_answers (one c (standing_of run)) given ≡ one c (standing_of (answered run given))
answers_all c run [] fit = refl
answers_all c run (a ∷ rest) fit = ap (λ (lives : Lives). after_answers lives rest) (answers_one c run a fit.0) ∙ answers_all c (resume run a) rest fit.1

ends_call : (c : CacheConfig) (run : Run) (given_up : Bool) → (if given_up then after_event (one c (standing_of run)) (GiveUp 0) else one c (standing_of run)) ≡ one c (standing_left run given_up)
ends_call c run true = gives_up_one c (standing_of run) ∙ ap (λ (s : State). one c (idle s)) (state_left run)
ends_call c run false = refl

pub entry_again : (c : CacheConfig) (s : State) (e : Entry) → IsLegalEntry c s e → after_entry (one c (idle s)) e ≡ one c (after_call c s (played e))
entry_again c s e legal =
    let run : Run = whole c e.at e.call s in
    let all : after_answers (after_event (one c (idle s)) (Begin 0 e.at e.call)) e.answers ≡ one c (standing_of (answered run e.answers)) =
    ap (λ (lives : Lives). after_answers lives e.answers) (begins_one c s e.at e.call legal.3) ∙ answers_all c run e.answers legal.0 in
    ap (λ (lives : Lives). if was_given_up e.end then after_event lives (GiveUp 0) else lives) all ∙ ends_call c (answered run e.answers) (was_given_up e.end)

pub entries_again : (c : CacheConfig) (standing : Standing) (es : List Entry) → IsLegalFrom c standing es → after_entries (one c standing) es ≡ one c (standing_from c standing (map played es))
entries_again c standing [] legal = refl
entries_again c (idle s) (e ∷ es) legal = ap (λ (lives : Lives). after_entries lives es) (entry_again c s e legal.0) ∙ entries_again c (after_call c s (played e)) es legal.1
entries_again c (busy w p resumed) (e ∷ es) legal = absurd legal

-- its counters are read
pub counts_one : (c : CacheConfig) (s : State) → counts_in (one c (idle s)) ≡ Some s.counts
counts_one c s = refl

-- the manager as it is opened, its calls made again, and the last one given up if it waits
pub counted : (c : CacheConfig) (es : List Entry) (first last : Lives) → IsLegalFrom c fresh es → first ≡ opened_from 0 (c ∷ []) → last ≡ after_event (after_entries first es) (GiveUp 0) → counts_in last ≡ Some (counts_after c es)
counted c es first last legal opened is =
    let made : after_entries first es ≡ one c (standing_from c fresh (map played es)) = ap (λ (lives : Lives). after_entries lives es) opened ∙ entries_again c fresh es legal in
    ap counts_in (is ∙ ap (λ (lives : Lives). after_event lives (GiveUp 0)) made ∙ gives_up_one c (standing_from c fresh (map played es))) ∙ counts_one c (state_in (standing_from c fresh (map played es)))
