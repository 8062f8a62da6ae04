-- The plain data of a suspended call.
use Rattle.std.specs.Prelude.{ℕ, List}
use Rattle.jc_model.specs.Run.{Awaited, for_load, for_write, for_process, for_tell}
use Rattle.jc_model.specs.Suspended.{Wait, one, many, telling}
use Rattle.jc_bulk.specs.declared.bulk.Provided.{Provided}
use Rattle.jc_bulk.specs.declared.waits.Awaits.{Awaits}
use Rattle.jc_bulk.specs.declared.waits.Awaits.TheVariants.{Load, Write, Process, Tell}

-- what kind of answer is awaited
abbrev pub awaited : Awaits → Awaited
awaited Load = for_load
awaited Write = for_write
awaited Process = for_process
awaited Tell = for_tell

-- what it awaits, what it has come to, and the steps after the one that waits with their values
pub record Waits : Type 0 where
  pub awaits : Awaited
  pub wait : Wait
  pub stock : List Provided

-- the moment of its call
abbrev pub moment_of : Wait → ℕ
moment_of (one w) = w.now
moment_of (many w) = w.key.now
moment_of (telling reply) = 0
