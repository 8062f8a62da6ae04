use Rattle.std.proofs.Common.{ℕ, ◌*◌, ◌<◌, ◌≤◌, sym, ◌∙◌, arith}
use Rattle.jc_cuckoo.proofs.Doubled.{brought_absent, slot_brought, slot_passed}
use Rattle.jc_cuckoo.proofs.cuckoo.Cuckoo.bring_slot.Goals as goal

inside : (at n m : ℕ) → at < 4 * n → 4 * n ≤ m → at < m
inside at n m below wide = omega arith

pub bring-requires-clause-absent : goal.bring-requires-clause-absent
bring-requires-clause-absent g c =
    let is = rw (← c.self.view_is) at (sym c.row_in.ensures ∙ c.in-Some.is) in
    let has = rw (← c.self.view_is) at c.requires.slots in
    let at = rw (← c.self.view_is) at c.requires.at in
    brought_absent c.self.inside.cells.items c.args.twice.now.cells c.args.at c.in-Some.held c.self.invariant.0.sound.once (inside _ _ _ at c.self.invariant.0.sound.wide) is has.rows

pub returns-in-Some-clause-slots : goal.returns-in-Some-clause-slots
returns-in-Some-clause-slots g c =
    let is = rw (← c.self.view_is) at (sym c.row_in.ensures ∙ c.in-Some.is) in
    let has = rw (← c.self.view_is) at c.requires.slots in
    let at = rw (← c.self.view_is) at c.requires.at in
    rw (← c.self.view_is) (slot_brought _ c.args.at c.args.twice.now c.bring.new.self c.in-Some.held c.self.invariant.0.sound.once (inside _ _ _ at c.self.invariant.0.sound.wide) is has c.bring.ensures.added c.bring.ensures.slots c.bring.ensures.blank)

pub returns-in_default-clause-slots : goal.returns-in_default-clause-slots
returns-in_default-clause-slots g c =
    let is = rw (← c.self.view_is) at (sym c.row_in.ensures ∙ c.in_default.is) in
    let has = rw (← c.self.view_is) at c.requires.slots in
    let at = rw (← c.self.view_is) at c.requires.at in
    rw (← c.self.view_is) (slot_passed _ c.args.at c.args.twice.now (inside _ _ _ at c.self.invariant.0.sound.wide) is has)
