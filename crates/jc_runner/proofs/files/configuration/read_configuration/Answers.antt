use Rattle.std.proofs.lemmas.Result.{err_from_is_err_and}
use Rattle.jc_runner.proofs.Configured.{long_texts, passed_on}
use Rattle.jc_runner.proofs.files.configuration.read_configuration.Goals as goal

pub returns-in_err-bytes-clause-config : goal.returns-in_err-bytes-clause-config
returns-in_err-bytes-clause-config g c f is =
    let p = err_from_is_err_and c.from_residual.result c.from_residual.ensures.1 in
    long_texts _ f (c.in_err-bytes.ensures.long f (passed_on c.from_residual.result c.in_err-bytes.field-0.0 f p is))
