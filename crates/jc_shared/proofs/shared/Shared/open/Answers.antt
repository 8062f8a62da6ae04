use Rattle.std.proofs.Common.{sym, ◌∙◌, ap}
use Rattle.jc_engine.specs.Opening.{open_refusal}
use Rattle.jc_locked.proofs.Opened.{suit_of}
use Rattle.jc_shared.proofs.shared.Shared.open.Goals as goal

pub returns-in-Ok-clause-opens : goal.returns-in-Ok-clause-opens
returns-in-Ok-clause-opens g c = (
  ap open_refusal (sym c.as_slice.ensures.value) ∙ sym c.in_default.ensures,
  suit_of g.P.Processor.wants c.as_slice-2.result.now c.args.configs.items c.as_slice-3.result.now c.args.hooks.items c.as_slice-2.ensures.value c.as_slice-3.ensures.value c.in_default-first_unsuited.ensures.first,
)
