use Rattle.std.proofs.Common.{arith}
use Rattle.jc_cuckoo.proofs.Shows.{shows}
use Rattle.jc_cuckoo.proofs.cuckoo.Cuckoo.shape.Goals as goal

pub overflow_sub-result : goal.overflow_sub-result
overflow_sub-result g c =
    let all = (shows _ _ _ _ c.self.invariant.0.sound).others in
    let slots = c.self.invariant.0.sound.tag_each in
    omega arith

pub returns-clause-in_buckets : goal.returns-clause-in_buckets
returns-clause-in_buckets g c =
    let all = (shows _ _ _ _ c.self.invariant.0.sound).others in
    let slots = c.self.invariant.0.sound.tag_each in
    rw (← c.self.view_is) (omega arith)

pub returns-clause-rows : goal.returns-clause-rows
returns-clause-rows g c =
    let all = (shows _ _ _ _ c.self.invariant.0.sound).others in
    let slots = c.self.invariant.0.sound.tag_each in
    rw (← c.self.view_is) (omega arith)

pub returns-clause-shows : goal.returns-clause-shows
returns-clause-shows g c = rw (← c.self.view_is) (shows _ _ _ _ c.self.invariant.0.sound)
