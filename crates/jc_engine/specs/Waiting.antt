-- A call that waits, with the notices that no one has been told.
use Rattle.std.specs.Prelude.{List}
use Rattle.jc_model.specs.declared.call.Notice.{Notice}
use Rattle.jc_bulk.specs.Waits.{Waits}

pub record WaitState : Type 0 where
  pub call : Waits
  pub told : List Notice
