use Rattle.jc_cli.proofs.fault.write_script_fault.Goals as goal

pub returns-in-Bad : goal.returns-in-Bad
returns-in-Bad g c = rw (c.in-Bad.is, ← c.name.ensures) c.write_bad.ensures
