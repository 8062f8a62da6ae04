-- Reports of lives alone: when a run on threads has one, and that calls and answers determine it.
use Rattle.std.proofs.Common.{◌≡◌, ℕ, Bool, true, false, if◌then◌else◌, List, [], ◌∷◌, ◌++◌, map, Some, refl, sym, ap, ap₂, ◌∙◌, subst, arith}
use Rattle.std.specs.Prelude.{◌==◌}
use Rattle.std.specs.List.{All, flat_map}
use Rattle.std.proofs.lemmas.List.Elements.{All-head, All-tail, All-filter}
use Rattle.std.proofs.lemmas.Bool.Decides.{nat_tests}
use Rattle.jc_model.specs.declared.call.Answer.{Answer}
use Rattle.jc_model.specs.declared.call.Notice.{Notice}
use Rattle.jc_model.specs.declared.call.Reply.{Reply}
use Rattle.jc_model.specs.declared.config.CacheConfig.{CacheConfig}
use Rattle.jc_model.specs.declared.event.End.{End}
use Rattle.jc_model.specs.declared.event.End.TheVariants.{Waiting, Replied, GivenUp}
use Rattle.jc_model.specs.declared.event.Entry.{Entry}
use Rattle.jc_model.specs.declared.event.Life.{Life}
use Rattle.jc_model.specs.Legal.{History, Stands, IsLegalEntry, IsLegalFrom, played, config_of, entries_of}
use Rattle.jc_model.specs.Run.{Run, ended, waiting, answered}
use Rattle.jc_model.specs.Runs.{Standing, idle, busy, fresh}
use Rattle.jc_model.specs.Whole.{whole}
use Rattle.jc_model.specs.Solo.{after_call}
use Rattle.jc_model.specs.State.{State}
use Rattle.jc_script.specs.declared.line.Line.{Line}
use Rattle.jc_script.specs.declared.line.LineCall.{LineCall}
use Rattle.jc_script.specs.Calls.{line_of_entry, calls_on, IsReply}
use Rattle.jc_script.specs.Managing.{lives_of_script, managed_of}
use Rattle.jc_report.specs.Report.{header, entry_text, managed_text, text}
use Rattle.jc_locked.specs.Stated.{Stated}
use Rattle.jc_threads.specs.Lines.{IsAnswered}
use Rattle.jc_runner.specs.Alone.{AllReplied, IsAlone, alone_from}
use Rattle.jc_runner.specs.Apart.{HaveOneCallerEach, TellsAlone, answers_in, AnswerAlike}
use Rattle.jc_runner.specs.Together.{IsMade}
use Rattle.jc_runner.proofs.Sessions.{calls_alone}
use Rattle.jc_runner.proofs.Told.{each_text}

-- A run on threads whose sessions are apart.

all_replied : (stated : List Stated) (entries : List Entry) → All (IsAnswered stated) entries → AllReplied entries
all_replied stated [] all = tt
all_replied stated (e ∷ es) all = ((All-head (IsAnswered stated) e es all).replied, all_replied stated es (All-tail (IsAnswered stated) e es all))

pub apart_alone : (stated : List Stated) (caches : List CacheConfig) (all : List Line) (t : History) → IsMade stated caches all t → HaveOneCallerEach all → TellsAlone caches all (λ id. entries_of id t.entries) (text t (managed_of caches all))
apart_alone stated caches all t made apart = record {
  each = λ id c at. record {
    calls = calls_alone t.entries all id (apart id).session made.made.each (apart id).only;
    legal = made.legal.each id c (ap (config_of id) made.lives ∙ at);
    replied = all_replied stated (entries_of id t.entries) (All-filter (λ e. e.id == id) (IsAnswered stated) t.entries made.made.answered);
  };
  told = ap (λ (bytes : List ℕ). bytes ++ managed_text (managed_of caches all)) (each_text t.lives t.entries ∙ ap (alone_from (λ id. entries_of id t.entries)) made.lives);
}

-- Calls and answers determine the entries.

abbrev entry_of : LineCall → List Answer → List Notice → End → Entry
entry_of l answers told n = record { session = l.session; id = l.id; at = l.at; call = l.call; answers = answers; told = told; end = n }

one_reply : (run : Run) (r r' : Reply) → Stands run (Replied r) → Stands run (Replied r') → r ≡ r'
one_reply (ended p last) r r' is is' = is ∙ sym is'
one_reply (waiting q p resumed) r r' is is' = absurd is

one_end : (c : CacheConfig) (s : State) (l : LineCall) (answers : List Answer) (told told' : List Notice) (n n' : End) → IsReply n → IsReply n' → IsLegalEntry c s (entry_of l answers told n) → IsLegalEntry c s (entry_of l answers told' n')
    → entry_of l answers told n ≡ entry_of l answers told' n'
one_end c s l answers told told' Waiting n' replied replied' legal legal' = absurd replied
one_end c s l answers told told' GivenUp n' replied replied' legal legal' = absurd replied
one_end c s l answers told told' (Replied r) Waiting replied replied' legal legal' = absurd replied'
one_end c s l answers told told' (Replied r) GivenUp replied replied' legal legal' = absurd replied'
one_end c s l answers told told' (Replied r) (Replied r') replied replied' legal legal' =
    let run : Run = whole c l.at l.call s in
    ap₂ (λ (t : List Notice) (reply : Reply). entry_of l answers t (Replied reply)) (legal.2 ∙ sym legal'.2) (one_reply (answered run answers) r r' legal.1 legal'.1)

one_entry : (c : CacheConfig) (s : State) (e e' : Entry) → line_of_entry e ≡ line_of_entry e' → e.answers ≡ e'.answers → IsReply e.end → IsReply e'.end → IsLegalEntry c s e → IsLegalEntry c s e' → e ≡ e'
one_entry c s e e' line answers replied replied' legal legal' =
    let moved : IsLegalEntry c s (entry_of (line_of_entry e) e.answers e'.told e'.end) =
    subst (λ (l : LineCall). IsLegalEntry c s (entry_of l e.answers e'.told e'.end)) (sym line) (subst (λ (xs : List Answer). IsLegalEntry c s (entry_of (line_of_entry e') xs e'.told e'.end)) (sym answers) legal') in
    one_end c s (line_of_entry e) e.answers e.told e'.told e.end e'.end replied replied' legal moved
    ∙ ap₂ (λ (l : LineCall) (xs : List Answer). entry_of l xs e'.told e'.end) line answers

first_same : {X : Type 0} (x y : X) (xs ys : List X) → x ∷ xs ≡ y ∷ ys → x ≡ y
first_same x y xs ys is = cc

rest_same : {X : Type 0} (x y : X) (xs ys : List X) → x ∷ xs ≡ y ∷ ys → xs ≡ ys
rest_same x y xs ys is = cc

same_entries : (c : CacheConfig) (standing : Standing) (es es' : List Entry) → IsLegalFrom c standing es → IsLegalFrom c standing es' → AllReplied es → AllReplied es' → map line_of_entry es ≡ map line_of_entry es' → answers_in es ≡ answers_in es' → es ≡ es'
same_entries c standing [] [] legal legal' replied replied' lines answers = refl
same_entries c standing [] (e' ∷ es') legal legal' replied replied' lines answers = cc
same_entries c standing (e ∷ es) [] legal legal' replied replied' lines answers = cc
same_entries c (busy w p resumed) (e ∷ es) (e' ∷ es') legal legal' replied replied' lines answers = absurd legal
same_entries c (idle s) (e ∷ es) (e' ∷ es') legal legal' replied replied' lines answers =
    let here : e ≡ e' = one_entry c s e e' (first_same (line_of_entry e) (line_of_entry e') (map line_of_entry es) (map line_of_entry es') lines) (first_same e.answers e'.answers (answers_in es) (answers_in es') answers) replied.0 replied'.0 legal.0 legal'.0 in
    let after : IsLegalFrom c (after_call c s (played e)) es' = subst (λ (x : Entry). IsLegalFrom c (after_call c s (played x)) es') (sym here) legal'.1 in
    ap₂ (λ (x : Entry) (xs : List Entry). x ∷ xs) here
    (same_entries c (after_call c s (played e)) es es' legal.1 after replied.1 replied'.1 (rest_same (line_of_entry e) (line_of_entry e') (map line_of_entry es) (map line_of_entry es') lines) (rest_same e.answers e'.answers (answers_in es) (answers_in es') answers))

one_life : (c : CacheConfig) (own : List LineCall) (es es' : List Entry) → IsAlone c own es → IsAlone c own es' → answers_in es ≡ answers_in es' → es ≡ es'
one_life c own es es' a a' answers = same_entries c fresh es es' a.legal a'.legal a.replied a'.replied (a.calls ∙ sym a'.calls) answers

itself : (id : ℕ) → (id == id) ≡ true
itself id = grind (arith, nat_tests)

same_lives : (entries entries' : ℕ → List Entry) (lives : List Life) → ((id : ℕ) (c : CacheConfig) → config_of id lives ≡ Some c → entries id ≡ entries' id) → alone_from entries lives ≡ alone_from entries' lives
same_lives entries entries' [] same = refl
same_lives entries entries' (life ∷ lives) same =
    let here : entries life.id ≡ entries' life.id = same life.id life.config (ap (λ (b : Bool). if b then Some life.config else config_of life.id lives) (itself life.id)) in
    ap₂ (λ (es : List Entry) (rest : List ℕ). header life.config.name ++ flat_map entry_text es ++ rest) here (same_lives entries entries' lives (λ id c at. go (life.id == id) id c refl at))
  where
    go : (b : Bool) (id : ℕ) (c : CacheConfig) → (life.id == id) ≡ b → config_of id lives ≡ Some c → entries id ≡ entries' id
    go true id c is at = same id life.config (ap (λ (x : Bool). if x then Some life.config else config_of id lives) is)
    go false id c is at = same id c (ap (λ (x : Bool). if x then Some life.config else config_of id lives) is ∙ at)

pub one_report : (caches : List CacheConfig) (all : List Line) (entries entries' : ℕ → List Entry) (bytes bytes' : List ℕ) → TellsAlone caches all entries bytes → TellsAlone caches all entries' bytes' → AnswerAlike caches all entries entries' → bytes ≡ bytes'
one_report caches all entries entries' bytes bytes' tells tells' alike =
    tells.told
    ∙ ap (λ (xs : List ℕ). xs ++ managed_text (managed_of caches all))
    (same_lives entries entries' (lives_of_script caches all) (λ id c at. one_life c (calls_on id all) (entries id) (entries' id) (tells.each id c at) (tells'.each id c at) (alike id c at)))
    ∙ sym tells'.told
