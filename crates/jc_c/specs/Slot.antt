-- What a handle owns: at null nothing, and else a `Box<FfiManager>` and the right to free its block.
use base.Fml.{Fml, ftrue, ffalse}
use base.Stored.{Coded}
use denote.RawPtr.{Ptr, block_ptr, null_ptr}
use Rattle.jc_c.specs.contracts.ffi_manager.FfiManager.{the_row}
use Rattle.std.specs.Coded.{coded_option}
use Rattle.std.specs.Box.Ownership.{box_owns}
use Rattle.std.specs.declared.option.Option.{Option}
use Rattle.std.specs.declared.option.Option.TheVariants.{None, Some}
use Rattle.std_heap.specs.contracts.GlobalAllocator.TheImpl.{ghosts}
use Rattle.std_heap.specs.declared.Global.{Global}

abbrev pub slot_owns : Global → Ptr → Option the_row.Denot → Fml
slot_owns a null_ptr None = ftrue
slot_owns a null_ptr (Some x) = ffalse
slot_owns a (block_ptr b o) None = ffalse
slot_owns a (block_ptr b o) (Some x) = box_owns (ghosts.dealloc_token a) the_row (block_ptr b o) x

abbrev pub held_coded : Coded (Option the_row.Denot)
held_coded = coded_option the_row.coded
