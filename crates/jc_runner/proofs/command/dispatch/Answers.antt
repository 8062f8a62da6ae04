use Rattle.jc_runner.proofs.command.dispatch.Goals as goal

pub returns-in-Ok-clause-obeys : goal.returns-in-Ok-clause-obeys
returns-in-Ok-clause-obeys g c = rw (c.in-Ok.is, ← c.as_slice.ensures.value) c.obey_words.ensures.ends
