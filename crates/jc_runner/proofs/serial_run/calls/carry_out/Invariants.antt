use Rattle.std.proofs.Common.{◌≡◌, ◌+◌, ◌-◌, length, Some}
use Rattle.jc_runner.specs.Halfway.{lives_now, Reached}
use Rattle.jc_runner.specs.Hooks.{asked_of}
use Rattle.jc_runner.proofs.Bounds.{most_at, answers_in}
use Rattle.jc_model.specs.Places.{at_place}
use Rattle.jc_runner.proofs.serial_run.calls.carry_out.Given as goal

abbrev pub invariant-loop-step : goal.invariant-loop-step
invariant-loop-step g l = record {
  reached : Reached g.L.Loader.load_of g.W.Writer.may g.P.Processor.verdict_of g.K.FilteredListener.state_after l.fn.recorded l.recorded (Some l.fn.hooks) (Some l.hooks) l.fn.line l.step;
  kept : asked_of l.hooks ≡ asked_of l.fn.hooks;
}

-- how many answers the call may still be given
abbrev pub decreases-loop-step : goal.decreases-loop-step
decreases-loop-step g l =
    (most_at (at_place (lives_now l.fn.recorded) l.fn.line.id) l.fn.line.at l.fn.line.call + length (answers_in l.fn.recorded.transcript.entries)) - length (answers_in l.recorded.transcript.entries)
