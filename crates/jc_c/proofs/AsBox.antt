-- The parts of a box of a manager own what the box owns.
use mathlib.Core.List.{[]}
use mir.Syntax.{impl, tnil, dnil}
use denote.RattleType.{RattleType}
use denote.Signature.{Slot, plain}
use Rattle.std_alloc.proofs.BoxSteps.Form.{Bx}
use Rattle.std_heap.specs.contracts.Global as Heap
use Rattle.std_heap.specs.contracts.GlobalAllocator.TheImpl.{ghosts, dict}
use Rattle.std_heap.proofs.Global.TheLaws as heap
use Rattle.jc_c.specs.contracts.ffi_manager.FfiManager as FfiManager
use Rattle.jc_c.proofs.ffi_manager.FfiManager.TheLaws as seat
use Rattle.jc_c.specs.contracts.exports.handle.parts.Parts as Parts
use Rattle.jc_c.specs.contracts.exports.handle.Handle as Handle

abbrev pub E : Bx
E = record { row = FfiManager.the_row; laws = seat.the_row_laws; al = record { row = Heap.the_row; laws = heap.the_row_laws; g = ghosts; d = dict; drops = impl [] tnil dnil } }

abbrev pub Taken : RattleType
Taken = Parts.the_row FfiManager.the_row Heap.the_row ghosts

abbrev pub FromParts : Slot 0
FromParts = plain (λ _. Taken)

abbrev pub FromHandle : Slot 0
FromHandle = plain (λ _. Handle.the_row)

abbrev pub FromHeap : Slot 0
FromHeap = plain (λ _. Heap.the_row)
