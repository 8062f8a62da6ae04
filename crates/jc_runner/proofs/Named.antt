-- What a path names, where the path or what a disk holds there is said in other words.
use Rattle.std.proofs.Common.{◌≡◌, ◌≢◌, ℕ, Bool, List, Option, Some, None, Result, Ok, Err, refl, subst}
use Rattle.std.specs.Prelude.{IfErr, OnOk}
use Rattle.std.specs.Io.KnownBytes.{Keeps}
use Rattle.jc_config.specs.declared.kinds.Configuration.{Configuration}
use Rattle.jc_model.specs.declared.config.CacheConfig.{CacheConfig}
use Rattle.jc_cli.specs.Program.{is_input}
use Rattle.jc_cli.specs.Streams.{IsBeforeCalls}
use Rattle.jc_cli.specs.declared.run.Format.{Format}
use Rattle.jc_runner.specs.Program.{ConfigFrom, ScriptFrom, LinesFrom}
use Rattle.jc_cli.specs.declared.fault.ProgramFault.{ProgramFault}
use Rattle.jc_cli.specs.declared.fault.RunFault.{RunFault}
use Rattle.jc_cli.specs.declared.fault.RunFault.TheVariants.{Write}
use Rattle.jc_cli.specs.declared.input.WatchedReader.{WatchedReader}
use Rattle.jc_cli.specs.declared.output.WatchedWriter.{WatchedWriter}

pub keeps_same : (a : Option (List ℕ)) → Keeps a a
keeps_same None = tt
keeps_same (Some xs) = refl

pub keeps_on : {T : Type 0} (r : Result T RunFault) (a : Option (List ℕ)) → IfErr r (λ e. e ≢ Write → Keeps a a)
keeps_on (Ok x) a = tt
keeps_on (Err e) a = λ differs. keeps_same a

pub ok_both : {T E : Type 0} (r : Result T E) (P Q : Type 0) → OnOk r P → OnOk r Q → OnOk r (P × Q)
ok_both (Ok x) P Q p q = (p, q)
ok_both (Err e) P Q p q = tt

module _ {F I : Type 0} (of_file : F → Option (List ℕ)) (of_input : I → Option (List ℕ)) (asked asked' : Option (List (List ℕ))) (input input' : WatchedReader I) (opened : Option (WatchedReader F)) where
  pub config_at : (holds : List ℕ → Option (Option (List ℕ))) (path path' : List ℕ) (result : Result Configuration ProgramFault) → path ≡ path'
      → ConfigFrom of_file of_input (holds path) path asked asked' input input' (is_input path) opened result
      → ConfigFrom of_file of_input (holds path') path' asked asked' input input' (is_input path') opened result
  config_at holds path path' result e h = subst (λ (p : List ℕ). ConfigFrom of_file of_input (holds p) p asked asked' input input' (is_input p) opened result) e h

  pub script_held : {O : Type 0} (contents : O → Option (List ℕ)) (serial strict : Bool) (format : Format) (c : Configuration) (writer writer' : WatchedWriter O) (held held' : Option (Option (List ℕ))) (path : List ℕ) (result : Result (Unit {0}) RunFault) → held ≡ held'
      → ScriptFrom of_file of_input held path asked asked' input input' contents serial strict format c writer writer' (is_input path) opened result
      → ScriptFrom of_file of_input held' path asked asked' input input' contents serial strict format c writer writer' (is_input path) opened result
  script_held contents serial strict format c writer writer' held held' path result e h =
      subst (λ (x : Option (Option (List ℕ))). ScriptFrom of_file of_input x path asked asked' input input' contents serial strict format c writer writer' (is_input path) opened result) e h

  pub lines_at : (holds holds' : List ℕ → Option (Option (List ℕ))) (strict : Bool) (caches : List CacheConfig) (path path' : List ℕ) (result : Result (Unit {0}) RunFault) → path ≡ path' → holds path' ≡ holds' path'
      → LinesFrom of_file of_input (holds path) path asked asked' input input' strict caches (is_input path) opened result
      → LinesFrom of_file of_input (holds' path') path' asked asked' input input' strict caches (is_input path') opened result
  lines_at holds holds' strict caches path path' result e held h =
      subst (λ (x : Option (Option (List ℕ))). LinesFrom of_file of_input x path' asked asked' input input' strict caches (is_input path') opened result) held
      (subst (λ (p : List ℕ). LinesFrom of_file of_input (holds p) p asked asked' input input' strict caches (is_input p) opened result) e h)

-- a writing that failed is told as that, and as nothing else

pub only_before_calls : {T : Type 0} (Q : Type 0) (r : Result T RunFault) → IfErr r (λ e. e ≡ Write) → IfErr r (λ e. IsBeforeCalls e → Q)
only_before_calls Q (Ok x) is = tt
only_before_calls Q (Err e) is = λ before. absurd (subst IsBeforeCalls is before)

pub only_of_others : {T : Type 0} (Q : Type 0) (r : Result T RunFault) → IfErr r (λ e. e ≡ Write) → IfErr r (λ e. e ≢ Write → Q)
only_of_others Q (Ok x) is = tt
only_of_others Q (Err e) is = λ differs. absurd (differs is)

-- what went well is no fault

pub ok_is_no_err : {T E : Type 0} (x : T) (e : E) → ◌≢◌ {A = Result T E} (Ok x) (Err e)
ok_is_no_err {T} {E} x e is = subst (λ (r : Result T E). IfErr r (λ _. ⊥)) is tt
