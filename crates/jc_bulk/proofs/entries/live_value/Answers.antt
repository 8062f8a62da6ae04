use Rattle.std.proofs.Common.{sym, ◌∙◌}
use Rattle.jc_bulk.proofs.Names.{record_of}
use Rattle.jc_bulk.proofs.entries.live_value.Goals.{in_default-via-in-Some+else-is_live, in_default-via-in_default}
use Rattle.jc_bulk.proofs.entries.live_value.Goals as goal

pub returns-in_ok-of-in-Some : goal.returns-in_ok-of-in-Some
returns-in_ok-of-in-Some g c =
    let x = c.in-Some.ensures.found in
    rw (x.1.found, sym (c.is_live.ensures (record_of x.0) x.1.there) ∙ c.if-is_live.true, c.map.ensures, c.in_ok-of-in-Some.ensures, c.first.ensures, c.value.ensures (record_of x.0) x.1.there)

pub returns-in_default : goal.returns-in_default
returns-in_default g c = elim c.in_default.branch [
  | in_default-via-in-Some+else-is_live w ↦ (let x = w.in-Some.ensures.found in rw (c.new.ensures, x.1.found, sym (w.is_live.ensures (record_of x.0) x.1.there) ∙ w.if-is_live.false))
  | in_default-via-in_default w ↦ rw (c.new.ensures, w.in_default.ensures.found)
]
