-- Calls in batches.
use Rattle.std.specs.Prelude.{List, ◌++◌}
use Rattle.std.specs.List.{flat_map}
use Rattle.jc_script.specs.declared.line.LineCall.{LineCall}

-- the calls of the full batches, and the last ones behind them
abbrev pub calls_in_batches : List (List LineCall) → List LineCall → List LineCall
calls_in_batches full last = flat_map (λ calls. calls) full ++ last
