use Rattle.jc_cuckoo.proofs.Shows.{shows}
use Rattle.jc_cuckoo.proofs.watched.CuckooWatched.watch.Goals as goal

pub returns-clause-shows : goal.returns-clause-shows
returns-clause-shows g c = rw (← c.self.view_is) (shows _ _ _ _ c.self.invariant.0.sound)
