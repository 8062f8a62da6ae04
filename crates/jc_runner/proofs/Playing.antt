-- A script that is run with the callbacks that its configuration names.
use Rattle.std.proofs.Common.{◌≡◌, ◌≢◌, ℕ, ◌<◌, Bool, true, false, List, length, Option, Some, None, Result, Ok, Err, refl, sym, subst}
use Rattle.std.specs.Prelude.{IfSome, IfErr, OnOk, IsSome}
use Rattle.std.specs.Io.KnownBytes.{Appends, Keeps, IsAtEnd}
use Rattle.std.proofs.lemmas.Bool.{false≢true}
use mathlib.Core.Logic.{inl, inr}
use Rattle.jc_config.specs.declared.kinds.Configuration.{Configuration}
use Rattle.jc_config.specs.declared.kinds.HookKinds.{HookKinds}
use Rattle.jc_model.specs.Limits.{text_bytes}
use Rattle.jc_model.specs.declared.config.CacheConfig.{CacheConfig}
use Rattle.jc_engine.specs.Opening.{open_refusal}
use Rattle.jc_engine.specs.declared.open.OpenRefusal.{OpenRefusal}
use Rattle.jc_hooks.specs.Processors.{program_verdict, wants_of}
use Rattle.jc_hooks.specs.Program.{echo_answer, AllChecked}
use Rattle.jc_script.specs.declared.line.Line.{Line}
use Rattle.jc_script.specs.Script.{lines}
use Rattle.jc_script.specs.declared.fault.ScriptFault.{ScriptFault}
use Rattle.jc_cli.specs.declared.run.Format.{Format}
use Rattle.jc_runner.specs.Forms.{form_of}
use Rattle.jc_runner.specs.Hooks.{CannotOpen}
use Rattle.jc_cli.specs.Meters.{next_count}
use Rattle.jc_runner.specs.Naming.{ProgramHooks, AllHooksNamed, heard_by}
use Rattle.jc_runner.specs.Opens.{CanOpenConfiguration}
use Rattle.jc_runner.specs.Program.{ReportsSerially, GathersFromWorkers, RunEnds}
use Rattle.jc_runner.specs.Reports.{ReportsOf}
use Rattle.jc_cli.specs.Streams.{WritesFront, IsOfThreads, IsOfStrictness, HasRun}
use Rattle.jc_runner.specs.Strictness.{HasNoStray, HasStray}
use Rattle.jc_runner.specs.Together.{stated_of, GathersSo}
use Rattle.jc_cli.specs.declared.fault.RunFault.{RunFault}
use Rattle.jc_cli.specs.declared.fault.RunFault.TheVariants as run
use Rattle.jc_runner.specs.declared.form.Form.{Form}
use Rattle.jc_cli.specs.declared.input.WatchedReader.{WatchedReader}
use Rattle.jc_cli.specs.declared.output.WatchedWriter.{WatchedWriter}
use Rattle.jc_runner.proofs.Opening.{all_named_suit}
use Rattle.jc_runner.proofs.Suiting.{suited}

pub named_as : (cs cs' : List CacheConfig) (ks ks' : List HookKinds) (hs hs' : List ProgramHooks) → cs ≡ cs' → ks ≡ ks' → hs' ≡ hs → AllHooksNamed cs ks hs → AllHooksNamed cs' ks' hs'
named_as cs cs' ks ks' hs hs' e e' e'' named =
    subst (λ (x : List CacheConfig). AllHooksNamed x ks' hs') e (subst (λ (x : List HookKinds). AllHooksNamed cs x hs') e' (subst (AllHooksNamed cs ks) (sym e'') named))

not_refused : (caches : List CacheConfig) (o : Option OpenRefusal) → o ≡ None → IsSome o → ⊥
not_refused caches None e some = absurd (false≢true some)
not_refused caches (Some r) e some = cc

opens_so : (c : Configuration) (hooks : List ProgramHooks) → AllHooksNamed c.settings c.hooks hooks → CanOpenConfiguration c → CannotOpen wants_of c.settings hooks → ⊥
opens_so c hooks named opens (inl differ) = differ (suited wants_of c.settings hooks (all_named_suit c.settings c.hooks hooks opens.kinds named))
opens_so c hooks named opens (inr refused) = not_refused c.settings (open_refusal c.settings) opens.refuses_nothing refused

module _ (format : Format) (c : Configuration) (hooks hooks' : List ProgramHooks) (named : AllHooksNamed c.settings c.hooks hooks) where
  abbrev ReportsHere : List ℕ → (List ℕ → Type 0) → Type 0
  ReportsHere script IsSo = ReportsOf (λ l. echo_answer) (λ w given. AllChecked given) program_verdict heard_by format c.settings script hooks hooks' IsSo

  reported : (left : Option (List ℕ)) (IsSo : List ℕ → Type 0) → IfSome left (λ script. ReportsHere script IsSo) → IfSome left (λ script. ReportsSerially format c script IsSo)
  reported None IsSo r = tt
  reported (Some script) IsSo r = record { hooks = hooks; hooks' = hooks'; named = named; reports = r }

  module _ {I O : Type 0} (remaining : I → Option (List ℕ)) (contents : O → Option (List ℕ)) (strict : Bool) (reader reader' : WatchedReader I) (writer writer' : WatchedWriter O) (opens : CanOpenConfiguration c) where
    pub run_ends : (result : Result (Unit {0}) RunFault)
        → OnOk result (IfSome (remaining reader.inner) (λ script. ReportsHere script (Appends (contents writer.inner) (contents writer'.inner))))
        → OnOk result (IsAtEnd (remaining reader'.inner))
        → OnOk result ((writer'.flushed ≡ true) × (writer'.failures ≡ writer.failures))
        → ((f : ScriptFault) → result ≡ Err (run.Script f) → IfSome (remaining reader.inner) (λ script. lines c.settings script ≡ Err f))
        → ((n : ℕ) → result ≡ Err (run.Entry n) → HasStray strict c.settings (remaining reader.inner) n)
        → (HasRun result → HasNoStray strict (remaining reader.inner))
        → (result ≡ Err run.TooLong → IfSome (remaining reader.inner) (λ script. text_bytes < length script))
        → (result ≡ Err run.Open → CannotOpen wants_of c.settings hooks)
        → (result ≢ Err run.Close)
        → (result ≡ Err run.Write → IfSome (remaining reader.inner) (λ script. ReportsHere script (WritesFront (contents writer.inner) (contents writer'.inner))))
        → (result ≡ Err run.Write → writer'.failures ≡ next_count writer.failures)
        → (result ≡ Err run.Read → reader'.failures ≡ next_count reader.failures)
        → IfErr result (λ e. e ≢ run.Write → Keeps (contents writer.inner) (contents writer'.inner))
        → RunEnds remaining contents true strict format c reader reader' writer writer' result
    run_ends (Ok done) ok end flushed script entry known long opening closed front write read nothing = (reported (remaining reader.inner) (Appends (contents writer.inner) (contents writer'.inner)) ok, known tt, end, flushed.1, flushed.0)
    run_ends (Err run.Read) ok end flushed script entry known long opening closed front write read nothing = (read refl, nothing (λ e. cc))
    run_ends (Err run.TooLong) ok end flushed script entry known long opening closed front write read nothing = (long refl, nothing (λ e. cc))
    run_ends (Err (run.Script f)) ok end flushed script entry known long opening closed front write read nothing = (script f refl, nothing (λ e. cc))
    run_ends (Err (run.Entry n)) ok end flushed script entry known long opening closed front write read nothing = (entry n refl, nothing (λ e. cc))
    run_ends (Err run.Open) ok end flushed script entry known long opening closed front write read nothing = opens_so c hooks named opens (opening refl)
    run_ends (Err run.Close) ok end flushed script entry known long opening closed front write read nothing = absurd (closed refl)
    run_ends (Err run.Write) ok end flushed script entry known long opening closed front write read nothing = (reported (remaining reader.inner) (WritesFront (contents writer.inner) (contents writer'.inner)) (front refl), known tt, write refl)
    run_ends (Err run.Memory) ok end flushed script entry known long opening closed front write read nothing = nothing (λ e. cc)

-- A script that is refused for its members.
module _ {I O : Type 0} (remaining : I → Option (List ℕ)) (contents : O → Option (List ℕ)) (serial strict : Bool) (format : Format) (c : Configuration) (reader reader' : WatchedReader I) (writer writer' : WatchedWriter O) where
  pub stray_ends : (e : RunFault) → IsOfStrictness e → ((n : ℕ) → e ≡ run.Entry n → HasStray strict c.settings (remaining reader.inner) n) → Keeps (contents writer.inner) (contents writer'.inner)
      → RunEnds remaining contents serial strict format c reader reader' writer writer' (Err e)
  stray_ends run.Read of one keeps = absurd of
  stray_ends run.TooLong of one keeps = absurd of
  stray_ends (run.Script f) of one keeps = absurd of
  stray_ends (run.Entry n) of one keeps = (one n refl, keeps)
  stray_ends run.Open of one keeps = absurd of
  stray_ends run.Close of one keeps = absurd of
  stray_ends run.Write of one keeps = absurd of
  stray_ends run.Memory of one keeps = keeps

-- The same on worker threads.

module _ (format : Format) (form : Form) (c : Configuration) (hooks : List ProgramHooks) (named : AllHooksNamed c.settings c.hooks hooks) (all : List Line) where
  -- a script that says these lines, of which this is the form
  abbrev Says : List ℕ → Type 0
  Says script = (lines c.settings script ≡ Ok all) × (form ≡ form_of format script all)

  abbrev GathersHere : (List ℕ → Type 0) → Type 0
  GathersHere IsSo = GathersSo form (stated_of (λ l. echo_answer) program_verdict hooks) c.settings all IsSo

  gathered : (left : Option (List ℕ)) (IsSo : List ℕ → Type 0) → IfSome left Says → GathersHere IsSo → IfSome left (λ script. GathersFromWorkers format c script IsSo)
  gathered None IsSo read g = tt
  gathered (Some script) IsSo read g = record { hooks = hooks; named = named; all = all; read = read.0; gathers = subst (λ (f : Form). GathersSo f (stated_of (λ l. echo_answer) program_verdict hooks) c.settings all IsSo) read.1 g }

  module _ {I O : Type 0} (remaining : I → Option (List ℕ)) (contents : O → Option (List ℕ)) (strict : Bool) (reader reader' : WatchedReader I) (writer writer' : WatchedWriter O) (opens : CanOpenConfiguration c) (read : IfSome (remaining reader.inner) Says)
      (known : HasNoStray strict (remaining reader.inner)) where
    pub threads_end : (result : Result (Unit {0}) RunFault)
        → IsAtEnd (remaining reader'.inner)
        → OnOk result (GathersHere (Appends (contents writer.inner) (contents writer'.inner)))
        → OnOk result ((writer'.flushed ≡ true) × (writer'.failures ≡ writer.failures))
        → (result ≡ Err run.Open → CannotOpen wants_of c.settings hooks)
        → (result ≡ Err run.Write → GathersHere (WritesFront (contents writer.inner) (contents writer'.inner)))
        → (result ≡ Err run.Write → writer'.failures ≡ next_count writer.failures)
        → IfErr result (λ e. e ≢ run.Write → Keeps (contents writer.inner) (contents writer'.inner))
        → IfErr result (λ e. e ≢ run.Write → IsOfThreads e)
        → RunEnds remaining contents false strict format c reader reader' writer writer' result
    threads_end (Ok done) end ok flushed opening front write nothing others = (gathered (remaining reader.inner) (Appends (contents writer.inner) (contents writer'.inner)) read ok, known, end, flushed.1, flushed.0)
    threads_end (Err run.Read) end ok flushed opening front write nothing others = absurd (others (λ e. cc))
    threads_end (Err run.TooLong) end ok flushed opening front write nothing others = absurd (others (λ e. cc))
    threads_end (Err (run.Script f)) end ok flushed opening front write nothing others = absurd (others (λ e. cc))
    threads_end (Err (run.Entry n)) end ok flushed opening front write nothing others = absurd (others (λ e. cc))
    threads_end (Err run.Open) end ok flushed opening front write nothing others = opens_so c hooks named opens (opening refl)
    threads_end (Err run.Close) end ok flushed opening front write nothing others = (refl, nothing (λ e. cc))
    threads_end (Err run.Write) end ok flushed opening front write nothing others = (gathered (remaining reader.inner) (WritesFront (contents writer.inner) (contents writer'.inner)) read (front refl), known, write refl)
    threads_end (Err run.Memory) end ok flushed opening front write nothing others = nothing (λ e. cc)
