use Rattle.jc_engine.proofs.Places.{within}
use Rattle.jc_engine.proofs.Watching.{expiry_seen, sound_seen}
use Rattle.jc_engine.proofs.engine.Engine.rows.Goals as goal

pub returns : goal.returns
returns g c = record { sound = sound_seen (within c.self.view_is c.self.invariant); table = rw c.rows.ensures.table (expiry_seen (within c.self.view_is c.self.invariant)) }
