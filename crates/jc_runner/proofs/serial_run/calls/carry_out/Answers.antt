use Rattle.std.proofs.Common.{Some, refl, ◌∙◌}
use Rattle.jc_runner.proofs.Reached.{has_begun, can_answer, answer_taken, one_answer_nearer, has_replied}
use Rattle.jc_runner.proofs.serial_run.calls.carry_out.Goals as goal

pub begin-requires : goal.begin-requires
begin-requires g c = c.requires.ready.moves

pub loop-step-init : goal.loop-step-init
loop-step-init g c = record {
  reached = has_begun g.L.Loader.load_of g.W.Writer.may g.P.Processor.verdict_of g.K.FilteredListener.state_after c.args.recorded.now c.begin.new.recorded (Some c.args.hooks.now) c.args.line c.in_ok-step.step c.requires.ready c.in_ok-step.ensures.moves;
  kept = refl;
}

pub resume-requires : goal.resume-requires
resume-requires g c =
    can_answer g.L.Loader.load_of g.W.Writer.may g.P.Processor.verdict_of g.K.FilteredListener.state_after c.args.recorded.now c.loop-step.recorded (Some c.args.hooks.now) (Some c.loop-step.hooks) c.args.line c.loop-step.step c.loop-step.invariant.reached
    c.in-Need.request c.in_ok-answer.answer c.in-Need.is c.in_ok-answer.ensures.fits

pub loop-step-preserved : goal.loop-step-preserved
loop-step-preserved g c = record {
  reached =
      answer_taken g.L.Loader.load_of g.W.Writer.may g.P.Processor.verdict_of g.K.FilteredListener.state_after c.args.recorded.now c.loop-step.recorded (Some c.args.hooks.now) (Some c.loop-step.hooks) c.args.line c.loop-step.step c.loop-step.invariant.reached
      c.in-Need.request c.in_ok-answer.answer c.in-Need.is c.in_ok-answer.ensures.fits c.requires.ready.rest.closed c.resume.new.recorded c.in_ok-step-2.step c.in_ok-step-2.ensures.moves (Some c.answer.new.hooks) c.in_ok-answer.ensures.heard;
  kept = c.answer.ensures.kept ∙ c.loop-step.invariant.kept;
}

pub loop-step-smaller : goal.loop-step-smaller
loop-step-smaller g c =
    one_answer_nearer g.L.Loader.load_of g.W.Writer.may g.P.Processor.verdict_of g.K.FilteredListener.state_after c.args.recorded.now c.loop-step.recorded (Some c.args.hooks.now) (Some c.loop-step.hooks) c.args.line c.loop-step.step c.loop-step.invariant.reached
    c.in-Need.request c.in_ok-answer.answer c.in-Need.is c.in_ok-answer.ensures.fits c.requires.ready.rest.closed c.resume.new.recorded c.in_ok-step-2.step c.in_ok-step-2.ensures.moves

pub returns-clause-replies : goal.returns-clause-replies
returns-clause-replies g c =
    has_replied g.L.Loader.load_of g.W.Writer.may g.P.Processor.verdict_of g.K.FilteredListener.state_after c.args.recorded.now c.loop-step.recorded (Some c.args.hooks.now) (Some c.loop-step.hooks) c.args.line c.loop-step.step c.loop-step.invariant.reached
    c.in_default.field-0 c.in_default.is
