-- What a reader of a line returns.
use Rattle.std.specs.Prelude.{ℕ, Option, Result}
use Rattle.serde_json.specs.Data.{Data}
use Rattle.jc_script.specs.declared.fault.Member.{Member}
use Rattle.jc_script.specs.declared.fault.ScriptFault.{ScriptFault}
use Rattle.jc_script.specs.declared.member.Reader.{Reader}
use Rattle.jc_script.specs.Faults.{GivesScript}
use Rattle.jc_script.specs.Member.{needed_line_member}
use Rattle.jc_script.specs.Tree.{data_in}

-- the object that its line is
abbrev pub object_in : Reader → Data
object_in reader = data_in reader.object.now

-- the result is what this reading gives of the line's number and its object, unless memory ran out
abbrev pub Reads : {A : Type 0} → (ℕ → Data → Result A ScriptFault) → Reader → Result A ScriptFault → Type 0
Reads reading reader result = GivesScript (λ x. x) result (reading reader.line (object_in reader))

-- the result is what a member that is needed gives, as f takes it, unless memory ran out
abbrev pub ReadsMember : {A : Type 0} → (Data → Option A) → Member → Reader → Result A ScriptFault → Type 0
ReadsMember f member reader result = GivesScript (λ x. x) result (needed_line_member f reader.line member (object_in reader))
