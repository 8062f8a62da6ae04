-- What a processor's verdict asks the writer, and what it does once the writer has agreed.
use Rattle.std.specs.Prelude.{ℕ, Bool, true, false, if◌then◌else◌, List, Option, Some, None}
use Rattle.jc_model.specs.declared.call.Action.{Action}
use Rattle.jc_model.specs.declared.call.Action.TheVariants.{Keep, Set, Remove}
use Rattle.jc_model.specs.declared.call.By.TheVariants as by
use Rattle.jc_model.specs.declared.call.Reply.TheVariants.{Fault}
use Rattle.jc_model.specs.declared.call.Verdict.{Verdict}
use Rattle.jc_model.specs.declared.config.CacheConfig.{CacheConfig}
use Rattle.jc_model.specs.declared.table.TableLine.{TableLine}
use Rattle.jc_model.specs.State.{Item}
use Rattle.jc_model.specs.Changes.{Progress}
use Rattle.jc_model.specs.Run.{Run, ended}
use Rattle.jc_model.specs.Step.{counted, act_live, act_absent}
use Rattle.jc_model.specs.Table.{live_verdict, absent_verdict}

-- the value that is stored at once; where the writer is asked, it is stored when the writer has agreed
abbrev pub stores_by : Bool → Option (List ℕ) → Action → Option (List ℕ)
stores_by writer loaded Keep = loaded
stores_by writer loaded (Set v) = if writer then None else Some v
stores_by writer loaded Remove = None

-- the value that the writer is given
abbrev pub hands_by : Bool → Action → Option (List ℕ)
hands_by writer Keep = None
hands_by writer (Set v) = if writer then Some v else None
hands_by writer Remove = None

-- a verdict's line, by whether the key has a row
abbrev pub verdict_line : Action → Bool → TableLine
verdict_line action true = live_verdict action
verdict_line action false = absent_verdict action

module _ (c : CacheConfig) (now : ℕ) (k : List ℕ) where
  -- a verdict, where the key has this row, if any, and its loader gave this value, if any
  abbrev pub act_on : Option Item → Option (List ℕ) → Progress → Verdict → Run
  act_on (Some x) loaded p v = act_live c now k x p v.action v.answer
  act_on None loaded p v = act_absent c now k loaded p v.action v.answer

  -- what the processor's answer leads to
  abbrev pub judged_on : Option Item → Option (List ℕ) → Progress → Option Verdict → Run
  judged_on row loaded p None = ended (counted true row p) (Fault by.Processor None)
  judged_on row loaded p (Some v) = act_on row loaded p v
