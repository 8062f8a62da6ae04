use Rattle.std.proofs.Common.{refl}
use Rattle.jc_cuckoo.proofs.Doubled.{slots_all}
use Rattle.jc_cuckoo.proofs.Twice.{size_twice}
use Rattle.jc_cuckoo.proofs.cuckoo.Cuckoo.double_table.Goals as goal

pub with_room-requires-clause-size : goal.with_room-requires-clause-size
with_room-requires-clause-size g c = let below = rw (← c.self.view_is) at c.requires in size_twice _ c.self.invariant.0.sound.size below

pub bring_stash-requires-clause-stash : goal.bring_stash-requires-clause-stash
bring_stash-requires-clause-stash g c =
    let has = rw (← c.self.view_is) at c.bring_slots.ensures.slots in
    rw (← c.self.view_is) (slots_all g.P.Placer.placing _ _ c.bring_slots.new.twice c.self.invariant.0.sound.once c.self.invariant.0.sound.wide refl has)
