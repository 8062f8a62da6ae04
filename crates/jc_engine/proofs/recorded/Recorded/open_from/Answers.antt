use Rattle.std.proofs.Common.{ap, ◌∙◌}
use Rattle.jc_engine.proofs.Names.{at_first, lives_of}
use Rattle.jc_engine.proofs.Openings.{fresh_lives}
use Rattle.jc_engine.proofs.Recordings.{first_recorded}
use Rattle.jc_engine.proofs.recorded.Recorded.open_from.Goals as goal

pub invariant_of-result : goal.invariant_of-result
invariant_of-result g c = first_recorded c.args.first c.args.configs.items c.in_ok-engine.engine (g.J.Journal.history c.in_ok-journal.journal) (g.J.Journal.places c.in_ok-journal.journal) c.in_ok-engine.ensures.opened (c.in_ok-journal.ensures ∙ ap (at_first c.args.first) c.deref-2.ensures.value)

pub returns-clause-opened : goal.returns-clause-opened
returns-clause-opened g c = ap lives_of c.in_ok-engine.ensures.opened ∙ fresh_lives c.args.first c.args.configs.items
