use Rattle.std.proofs.Common.{subst}
use Rattle.jc_engine.proofs.Names.{AreNames}
use Rattle.jc_engine.proofs.Openings.{one_more}
use Rattle.jc_engine.proofs.open.with_name.Goals as goal

pub returns-in-Ok : goal.returns-in-Ok
returns-in-Ok c = λ taken are.
    one_more c.in_ok-names.names c.insert.new.self taken c.args.name c.in-Ok.ensures.updates.0 (subst (λ names. AreNames names taken) c.in_ok-names.was are)
