-- A run's first and last moments.
use Rattle.std.proofs.Common.{◌≡◌, ℕ, suc, ◌+◌, List, [], ◌∷◌, ◌++◌, map, length, Option, Some, None, Result, refl, sym, ap, ◌∙◌, subst, append-nil, arith}
use Rattle.std.specs.Prelude.{slice_get, IfSome, IsOk, Ok}
use Rattle.std.specs.List.{flat_map}
use Rattle.jc_model.specs.declared.call.Answer.{Answer}
use Rattle.jc_model.specs.declared.call.Notice.{Notice}
use Rattle.jc_model.specs.declared.call.ProcessorFault.{ProcessorFault}
use Rattle.jc_model.specs.declared.call.Request.{Request}
use Rattle.jc_model.specs.declared.call.Verdict.{Verdict}
use Rattle.jc_model.specs.declared.config.CacheConfig.{CacheConfig}
use Rattle.jc_model.specs.declared.event.Entry.{Entry}
use Rattle.jc_model.specs.declared.event.Life.{Life}
use Rattle.jc_model.specs.State.{first_state}
use Rattle.jc_model.specs.Runs.{opened, opened_from, Lives}
use Rattle.jc_model.specs.Legal.{History, IsLegal, Tells, config_of, entries_of, numbered_lives, at_first}
use Rattle.jc_model.proofs.Histories.{opened_length, opened_so}
use Rattle.jc_model.proofs.Recording.{nothing_told}
use Rattle.jc_engine.specs.Recording.{Recording}
use Rattle.jc_hooks.specs.declared.cache_hooks.CacheHooks.{CacheHooks}
use Rattle.jc_hooks.specs.declared.loader.Loaded.{Loaded}
use Rattle.jc_script.specs.declared.line.Line.{Line}
use Rattle.jc_script.specs.declared.managed.Managed.{Managed}
use Rattle.jc_script.specs.Managing.{lives_of_script, managed_of, lives_begun_from, managed_from}
use Rattle.jc_script.specs.Named.{AllName}
use Rattle.jc_script.specs.Script.{lines}
use Rattle.jc_script.specs.Stray.{stray_line}
use Rattle.jc_report.specs.Report.{header, entry_text, lives_text, managed_text}
use Rattle.jc_report.specs.JsonReport.{json}
use Rattle.jc_cli.specs.declared.run.Format.{Format}
use Rattle.jc_runner.specs.Alone.{line_of_entry, alone_from}
use Rattle.jc_runner.specs.Forms.{form_of, report_in, IsToldIn}
use Rattle.jc_runner.specs.declared.form.Form.{Form}
use Rattle.jc_runner.specs.declared.form.Form.TheVariants as form
use Rattle.jc_runner.specs.Halfway.{lives_now, as_read, NoneOpen, IsAtRest, LifeGoesOn, Halfway}
use Rattle.jc_runner.specs.Reports.{Reports, ReportsOf}
use Rattle.jc_cli.specs.Streams.{IsAll}
use Rattle.jc_runner.proofs.Hearing.{nothing_heard}
use Rattle.jc_model.specs.Places.{at_place}

-- Opened caches, as a reader follows them.

read_opened : (caches : List CacheConfig) → as_read (opened_from 0 caches) ≡ opened_from 0 caches
read_opened [] = refl
read_opened (c ∷ cs) = ap (λ (ks : Lives). Some (opened c) ∷ ks) (read_opened cs)

as_many_lives : (first : ℕ) (caches : List CacheConfig) → length (numbered_lives first caches) ≡ length caches
as_many_lives first [] = refl
as_many_lives first (c ∷ cs) = ap suc (as_many_lives (first + 1) cs)

module _ (caches : List CacheConfig) (r : Recording) (new : lives_now r ≡ opened_from 0 caches) (uncalled : r.transcript ≡ at_first 0 caches) where
  read_new : as_read (lives_now r) ≡ opened_from 0 caches
  read_new = ap as_read new ∙ read_opened caches

  pub first_named : (all : List Line) → AllName (opened_from 0 caches) all → AllName (as_read (lives_now r)) all
  first_named all named = subst (λ (ks : Lives). AllName ks all) (sym read_new) named

  pub first_rest : IsAtRest r
  first_rest = record {
    told = subst (λ (h : History). Tells h (lives_now r)) (sym uncalled) (subst (λ (ks : Lives). Tells (at_first 0 caches) ks) (sym new) (nothing_told 0 caches));
    counted = ap (λ (h : History). length h.lives) uncalled ∙ as_many_lives 0 caches ∙ sym (ap length new ∙ opened_length 0 caches ∙ omega arith);
    closed = subst (λ (h : History). NoneOpen h.entries) (sym uncalled) (λ id f. refl);
    resting = λ id k at. record { state = first_state; is = (opened_so 0 id caches k (ap (λ (ks : Lives). at_place ks id) (sym new) ∙ at)).fresh };
  }

  module _ {L W P K : Type 0} (load_of : L → List ℕ → Loaded) (may : W → List (Request × Answer) → Type 0) (verdict_of : P → Option (List ℕ) → List ℕ → Result Verdict ProcessorFault) (state_after : K → List Notice → List ℕ) where
    pub first_moment : (hooks : List (CacheHooks L W P K)) (all : List Line) → Halfway load_of may verdict_of state_after caches hooks all all r hooks []
    first_moment hooks all = record {
      lives = ap (λ (h : History). h.lives ++ lives_begun_from (as_read (lives_now r)) all) uncalled ∙ ap (λ (ks : Lives). numbered_lives 0 caches ++ lives_begun_from ks all) read_new;
      answers = ap (λ (ks : Lives). managed_from ks all) read_new;
      each = λ id c at. subst (λ (h : History). LifeGoesOn load_of may verdict_of state_after c id all all (slice_get hooks id) (slice_get hooks id) h.entries) (sym uncalled) (record {
        left = record { state = first_state; is = refl };
        calls = refl;
        replied = tt;
        heard = nothing_heard load_of may verdict_of state_after (slice_get hooks id);
      });
      others = λ id beyond. record { calls = refl; same = refl };
    }

-- The report in the end.

pub each_text : (lives : List Life) (entries : List Entry) → lives_text lives entries ≡ alone_from (λ id. entries_of id entries) lives
each_text [] entries = refl
each_text (life ∷ lives) entries = ap (λ (rest : List ℕ). header life.config.name ++ flat_map entry_text (entries_of life.id entries) ++ rest) (each_text lives entries)

-- in any form, by the entries that were recorded
told_in : (form : Form) (caches : List CacheConfig) (all : List Line) (h : History) (managed : List Managed) (bytes : List ℕ) → h.lives ≡ lives_of_script caches all → managed ≡ managed_of caches all → bytes ≡ report_in form (length caches) h managed
    → IsToldIn form (λ id. entries_of id h.entries) caches all bytes
told_in form.Text caches all h managed bytes lives answers is =
    is ∙ ap (λ (xs : List ℕ). xs ++ managed_text managed) (each_text h.lives h.entries) ∙ ap (λ (ls : List Life). alone_from (λ id. entries_of id h.entries) ls ++ managed_text managed) lives
    ∙ ap (λ (ms : List Managed). alone_from (λ id. entries_of id h.entries) (lives_of_script caches all) ++ managed_text ms) answers
told_in (form.Json outline) caches all h managed bytes lives answers is = record {
  transcript = h;
  has = record { lives = lives; each = λ id. refl };
  told = is ∙ ap (λ (ms : List Managed). json (length caches) outline h ms) answers;
}

module _ {L W P K : Type 0} (load_of : L → List ℕ → Loaded) (may : W → List (Request × Answer) → Type 0) (verdict_of : P → Option (List ℕ) → List ℕ → Result Verdict ProcessorFault) (state_after : K → List Notice → List ℕ) where
  pub lives_recorded : (caches : List CacheConfig) (handed : List (CacheHooks L W P K)) (all : List Line) (r : Recording) (hooks : List (CacheHooks L W P K)) (managed : List Managed) → Halfway load_of may verdict_of state_after caches handed all [] r hooks managed
      → r.transcript.lives ≡ lives_of_script caches all
  lives_recorded caches handed all r hooks managed half = sym (append-nil r.transcript.lives) ∙ half.lives

  pub last_moment : (form : Form) (bytes : List ℕ) (caches : List CacheConfig) (handed : List (CacheHooks L W P K)) (all : List Line) (r : Recording) (hooks : List (CacheHooks L W P K)) (managed : List Managed)
      → Halfway load_of may verdict_of state_after caches handed all [] r hooks managed → IsLegal r.transcript → bytes ≡ report_in form (length caches) r.transcript managed
      → Reports load_of may verdict_of state_after form caches all handed hooks bytes
  last_moment form bytes caches handed all r hooks managed half legal is =
      let entries : List Entry = r.transcript.entries in
      let lives : r.transcript.lives ≡ lives_of_script caches all = lives_recorded caches handed all r hooks managed half in
      let answers : managed ≡ managed_of caches all = sym (append-nil managed) ∙ half.answers in
      record {
        entries = λ id. entries_of id entries;
        told = told_in form caches all r.transcript managed bytes lives answers is;
        each = λ id c at.
            let at' : config_of id r.transcript.lives ≡ Some c = ap (config_of id) lives ∙ at in
            let g : LifeGoesOn load_of may verdict_of state_after c id all [] (slice_get handed id) (slice_get hooks id) entries = half.each id c at' in
            record {
              alone = record {
                calls = sym (append-nil (map line_of_entry (entries_of id entries))) ∙ g.calls;
                legal = legal.each id c at';
                replied = g.replied;
              };
              heard = g.heard;
            };
      }

-- The bytes that were read are all that there were.

pub of_all : (P : List ℕ → Type 0) (left left' : Option (List ℕ)) (bytes bytes' : List ℕ) → IsAll left left' bytes → bytes' ≡ bytes → P bytes' → IfSome left P
of_all P None left' bytes bytes' read same holds = tt
of_all P (Some input) None bytes bytes' read same holds = absurd read.0
of_all P (Some input) (Some rest) bytes bytes' read same holds = subst P (sym (read.0 ∙ ap (λ (xs : List ℕ). bytes ++ xs) read.1 ∙ append-nil bytes ∙ sym same)) holds

pub lines_of_all : (caches : List CacheConfig) (all : List Line) (left left' : Option (List ℕ)) (bytes bytes' : List ℕ) → IsAll left left' bytes → bytes' ≡ bytes → lines caches bytes' ≡ Ok all → IfSome left (λ input. lines caches input ≡ Ok all)
lines_of_all caches all None left' bytes bytes' read same says = tt
lines_of_all caches all (Some input) None bytes bytes' read same says = absurd read.0
lines_of_all caches all (Some input) (Some rest) bytes bytes' read same says = ap (lines caches) (read.0 ∙ ap (λ (xs : List ℕ). bytes ++ xs) read.1 ∙ append-nil bytes ∙ sym same) ∙ says

pub stray_of_all : (caches : List CacheConfig) (all : List Line) (n : ℕ) (left left' : Option (List ℕ)) (bytes some others : List ℕ) → IsAll left left' bytes → some ≡ bytes → lines caches some ≡ Ok all → others ≡ bytes → stray_line others ≡ Some n
    → IfSome left (λ script. IsOk (lines caches script) × (stray_line script ≡ Some n))
stray_of_all caches all n left left' bytes some others read same says same' stray =
    let good : IsOk (lines caches bytes) = rw (ap (lines caches) (sym same) ∙ says) refl in
    of_all (λ script. IsOk (lines caches script) × (stray_line script ≡ Some n)) left left' bytes bytes read refl (good, ap stray_line (sym same') ∙ stray)

pub good_of_all : (caches : List CacheConfig) (all : List Line) (left left' : Option (List ℕ)) (bytes bytes' : List ℕ) → IsAll left left' bytes → bytes' ≡ bytes → lines caches bytes' ≡ Ok all → IfSome left (λ input. IsOk (lines caches input))
good_of_all caches all left left' bytes bytes' read same says = go left (lines_of_all caches all left left' bytes bytes' read same says)
  where
    go : (left : Option (List ℕ)) → IfSome left (λ input. lines caches input ≡ Ok all) → IfSome left (λ input. IsOk (lines caches input))
    go None is = tt
    go (Some input) is = rw is refl

module _ {L W P K : Type 0} (load_of : L → List ℕ → Loaded) (may : W → List (Request × Answer) → Type 0) (verdict_of : P → Option (List ℕ) → List ℕ → Result Verdict ProcessorFault) (state_after : K → List Notice → List ℕ) where
  pub reports_of_all : (format : Format) (form : Form) (caches : List CacheConfig) (all : List Line) (old new : List (CacheHooks L W P K)) (left left' : Option (List ℕ)) (bytes bytes' text : List ℕ) (IsSo : List ℕ → Type 0) → IsAll left left' bytes → bytes' ≡ bytes → lines caches bytes' ≡ Ok all
      → form ≡ form_of format bytes' all → Reports load_of may verdict_of state_after form caches all old new text → IsSo text → IfSome left (λ input. ReportsOf load_of may verdict_of state_after format caches input old new IsSo)
  reports_of_all format form caches all old new left left' bytes bytes' text IsSo read same says formed reports so =
      of_all (λ script. ReportsOf load_of may verdict_of state_after format caches script old new IsSo) left left' bytes bytes' read same
      (record { all = all; read = says; text = text; reports = subst (λ (f : Form). Reports load_of may verdict_of state_after f caches all old new text) formed reports; so = so })
