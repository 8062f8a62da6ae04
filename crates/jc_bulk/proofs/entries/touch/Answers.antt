use Rattle.std.proofs.Common.{sym, ◌∙◌}
use Rattle.jc_bulk.proofs.Names.{record_of, IsRow}
use Rattle.jc_bulk.proofs.entries.touch.Goals as goal

pub returns-then-is_live-clause-progress : goal.returns-then-is_live-clause-progress
returns-then-is_live-clause-progress g c =
    let x = c.in-Some.ensures.found in
    let after : IsRow c.args.key.now c.hit.new.self.cache c.in-Some.row x.0 = rw c.hit.ensures (record { found = x.1.found; key_is = x.1.key_is; there = x.1.there; on = x.1.on }) in
    rw (x.1.found, sym (c.is_live.ensures (record_of x.0) x.1.there) ∙ c.if-is_live.true) (rw c.hit.ensures at (c.access.ensures.progress c.args.key.now x.0 after))

pub returns-else-is_live-clause-progress : goal.returns-else-is_live-clause-progress
returns-else-is_live-clause-progress g c =
    let x = c.in-Some.ensures.found in
    rw (x.1.found, sym (c.is_live.ensures (record_of x.0) x.1.there) ∙ c.if-is_live.false)
