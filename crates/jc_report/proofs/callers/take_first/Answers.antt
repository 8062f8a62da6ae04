use Rattle.std.proofs.Common.{◌∙◌, ap, refl, slice_get}
use Rattle.jc_report.specs.Callers.{caller_eq}
use Rattle.jc_report.specs.Lines.{is_by}
use Rattle.jc_report.proofs.Taken.{first_kept, left_to}
use Rattle.jc_report.proofs.callers.take_first.Goals as goal

pub returns-clause-first : goal.returns-clause-first
returns-clause-first c entries left =
    rw (← c.number.ensures) (c.take_entry.ensures.first ∙ ap (λ es. slice_get es 0) (left c.number.result c.args.session) ∙ first_kept (is_by c.number.result c.args.session) entries)

pub returns-clause-left : goal.returns-clause-left
returns-clause-left c entries left i s =
    rw (← c.number.ensures) (left_to c.number.result c.args.session i s entries _ _ (caller_eq (c.number.result, c.args.session) (i, s)) refl (left i s) (c.take_entry.ensures.left i s))
