use Rattle.jc_c.proofs.Saying.{creates_or}
use Rattle.jc_c.proofs.ffi_manager.FfiManager.create_cache.Goals as goal

pub returns-in-Err-create-clause-called : goal.returns-in-Err-create-clause-called
returns-in-Err-create-clause-called c = rw c.in-Ok.is (c.in-Err-create.ensures c.args.id.now)

pub returns-in-Err-create-clause-or_memory : goal.returns-in-Err-create-clause-or_memory
returns-in-Err-create-clause-or_memory c = λ what read. creates_or c.args.self.now c.create.new.self c.in-Err-create.status c.args.id.now c.args.id.now c.args.said what read (rw c.in-Ok.is (c.in-Err-create.ensures c.args.id.now))
