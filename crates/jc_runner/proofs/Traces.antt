-- How the replay of a trace ends.
use Rattle.std.proofs.Common.{◌≡◌, ◌<◌, ℕ, List, length, Option, Some, None, Err, refl, ap}
use Rattle.std.specs.Prelude.{IfSome}
use Rattle.jc_model.specs.Limits.{text_bytes}
use Rattle.jc_replay.specs.Table.{as_table}
use Rattle.jc_replay.specs.TableJson.{as_json}
use Rattle.jc_replay.specs.Hits.{ratios_of}
use Rattle.jc_replay.specs.declared.fault.ReplayFault.TheVariants as replay
use Rattle.jc_replay.proofs.Traces.{too_long}
use Rattle.jc_cli.specs.Faults.{of_trace}
use Rattle.jc_cli.specs.declared.asked.Replay.{Replay}
use Rattle.jc_cli.specs.declared.run.Format.{Format}
use Rattle.jc_cli.specs.declared.run.Format.TheVariants as format
use Rattle.jc_runner.specs.Program.{TraceEnds, table_in, table_of}
use Rattle.jc_cli.specs.Streams.{IsOfReading}
use Rattle.jc_cli.specs.Watching.{ReadFails}
use Rattle.jc_cli.specs.declared.fault.RunFault.{RunFault}
use Rattle.jc_cli.specs.declared.fault.RunFault.TheVariants as run
use Rattle.jc_cli.specs.declared.input.WatchedReader.{WatchedReader}
use Rattle.jc_cli.specs.declared.output.WatchedWriter.{WatchedWriter}
use Rattle.jc_runner.proofs.Named.{keeps_same}

long_table : (form : Format) (trace capacities : List ℕ) → text_bytes < length trace → table_in form trace capacities ≡ Err replay.TooLong
long_table format.Text trace capacities long = ap (λ keys. as_table (ratios_of capacities keys)) (too_long trace long)
long_table format.Json trace capacities long = ap (λ keys. as_json (ratios_of capacities keys)) (too_long trace long)

if_long : (asked : Replay) (input : Option (List ℕ)) → IfSome input (λ trace. text_bytes < length trace) → IfSome input (λ trace. table_of asked trace ≡ Err replay.TooLong)
if_long asked None long = tt
if_long asked (Some trace) long = long_table asked.format trace asked.capacities.items long

module _ {I O : Type 0} (remaining : I → Option (List ℕ)) (contents : O → Option (List ℕ)) (asked : Replay) (reader reader' : WatchedReader I) (writer : WatchedWriter O) where
  -- the trace was not read to its end
  pub ends_unread : (fault : RunFault) → IsOfReading fault → (fault ≡ run.Read → ReadFails reader reader') → (fault ≡ run.TooLong → IfSome (remaining reader.inner) (λ trace. text_bytes < length trace))
      → TraceEnds remaining contents asked reader reader' writer writer (Err (of_trace fault))
  ends_unread run.Read is failed long = (failed refl, keeps_same _)
  ends_unread run.TooLong is failed long = (if_long asked _ (long refl), keeps_same _)
  ends_unread run.Memory is failed long = keeps_same _
  ends_unread (run.Script fault) is failed long = absurd is
  ends_unread (run.Entry n) is failed long = absurd is
  ends_unread run.Open is failed long = absurd is
  ends_unread run.Close is failed long = absurd is
  ends_unread run.Write is failed long = absurd is
