use Rattle.jc_runner.proofs.laws.serial_is_alone.Goals as goal

pub returns : goal.returns
returns g c = λ caches all old new text told. record { each = λ id config at. (told.each id config at).alone; told = told.told }
