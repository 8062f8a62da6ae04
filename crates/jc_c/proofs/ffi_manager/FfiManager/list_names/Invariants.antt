use Rattle.std.proofs.Common.{◌≡◌, ◌≤◌, ◌*◌, length, take}
use Rattle.jc_save.specs.Placing.{put_at}
use Rattle.jc_c.specs.Names.{names_listed}
use Rattle.jc_c.proofs.ffi_manager.FfiManager.list_names.Given as goal

-- the first names are written
abbrev pub invariant-loop-name : goal.invariant-loop-name
invariant-loop-name l =
    let done = names_listed l.self.caches (take l.name-index l.names) in
    record {
      place : l.at ≡ length done;
      few : l.at ≤ 68 * l.name-index;
      out : l.out ≡ put_at 0 done l.fn.out;
      len : l.len ≡ l.fn.len;
    }
