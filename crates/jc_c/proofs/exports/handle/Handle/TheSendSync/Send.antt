-- A handle may go to another thread: it owns a box of a manager, which may, and frees it by `Global`, which any thread may.
use mir.Raw.{raw}
use base.Shift.{Keyless}
use denote.Memory.{lone}
use denote.RawPtr.{Ptr, block_ptr, null_ptr}
use denote.Struct.Struct.{exits_of}
use denote.Struct.Owning.{shape, fields, to}
use denote.Param.Send.{IsSend, AllSend, owning_send, struct_send, sendable}
use Rattle.std.proofs.Crossing as heap
use Rattle.std.specs.declared.option.Option.{Option}
use Rattle.std.specs.declared.option.Option.TheVariants.{None, Some}
use Rattle.std_alloc.proofs.SendSync.{quiet, lies}
use Rattle.std_heap.proofs.Global.TheSendSync as handle
use Rattle.std_heap.specs.declared.Global.{Global}
use Rattle.jc_c.specs.contracts.ffi_manager.FfiManager as FfiManager
use Rattle.jc_c.proofs.ffi_manager.FfiManager.TheSendSync.{the_send as seat}
use Rattle.jc_c.specs.Slot.{slot_owns}
use Rattle.jc_c.specs.contracts.exports.handle.Handle.{the_row, the_type}

owned : (a : Global) (p : Ptr) (y : Option FfiManager.the_row.Denot) → Keyless (slot_owns a p y)
owned a null_ptr None = tt
owned a null_ptr (Some x) = tt
owned a (block_ptr b o) None = tt
owned a (block_ptr b o) (Some x) = (lies FfiManager.the_row seat (block_ptr b o) x, heap.frees.frees a (raw (lone FfiManager.the_row.mir)) (block_ptr b o))

pub send : IsSend the_row
send =
    let all : AllSend (fields the_type) = (search sendable, (handle.the_field_send, tt)) in
    owning_send the_type all (λ d. owned d.alloc d.at d.held)
    (λ k. quiet (to the_type) (exits_of k (fields the_type)) ((struct_send (shape the_type) all).leaving k))
