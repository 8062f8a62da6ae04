use Rattle.std.specs.Coded.{Coded-set, coded_bool}
use Rattle.jc_hooks.proofs.Stated.{stated_is}
use Rattle.jc_hooks.proofs.closure.ClosureFilter.new.Goals as goal

-- there is one function only
pub returns : goal.returns
returns g c = λ f is. stated_is (Coded-set coded_bool) _ c.result-1.given.1.0 f is
