use Rattle.std.proofs.Common.{◌∙◌, ap, arith, replicate}
use Rattle.jc_runner.specs.Naming.{ProgramListener, fresh_listener}
use Rattle.jc_hooks.specs.declared.tally.Tally.{Tally}
use Rattle.std.proofs.Common.{◌++◌, ◌∷◌, []}
use Rattle.jc_runner.proofs.Pushed.{more_copies}
use Rattle.jc_runner.proofs.callbacks.named.listeners_of.Goals as goal

pub loop-preserved : goal.loop-preserved
loop-preserved c =
    (more_copies c.loop.counter fresh_listener c.loop.listeners.items c.push.new.self.items c.loop.invariant.0 (c.in_ok-push.ensures.items ∙ ap (λ (t : ProgramListener). c.loop.listeners.items ++ t ∷ []) (c.unfiltered.ensures ∙ ap (λ (k : Tally). record { filter = record {}; listener = k }) c.new.ensures)), omega (arith, c.loop-test.true))

pub returns : goal.returns
returns c = c.loop.invariant.0 ∙ ap (λ n. replicate n fresh_listener) (omega (arith, c.loop.invariant.1, c.loop-test.false))
