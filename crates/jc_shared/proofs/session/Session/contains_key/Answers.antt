use Rattle.jc_shared.proofs.session.Session.contains_key.Goals as goal

pub returns-clause-unsure : goal.returns-clause-unsure
returns-clause-unsure g c = rw (← c.self.view_is) c.lookup.ensures.unsure
