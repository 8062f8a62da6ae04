use denote.Param.Object.{read_made}
use Rattle.std.proofs.Common.{refl, subst, sym}
use Rattle.jc_hooks.proofs.Stated.{admits_by}
use Rattle.jc_trials.specs.Filters.{has_kind}
use Rattle.jc_program_tests.proofs.closures.kind_closure.Hides as hides
use Rattle.jc_program_tests.proofs.closures.kind_closure.Goals as goal

-- what the boxed closure may answer is what the closure says
pub new-requires-2-clause-answers : goal.new-requires-2-clause-answers
new-requires-2-clause-answers g c =
    admits_by _ (λ notice. has_kind c.in_ok-new.field-0.value.0 notice.kind)
    (λ notice b met. subst (λ (P : Type 0). P) (read_made g.dyn-1.0 _ (hides.at-1-1 g.dyn-1.0 g.dyn-1-has) (hides.same-1-1 g.dyn-1.0 g.dyn-1-has) (Type 0) (λ j w. j.1.post w (notice, tt) b) c.into_dyn_box.result.vtable c.into_dyn_box.result.value _ c.into_dyn_box.ensures.1) met)
    (λ notice. subst (λ (P : Type 0). P) (sym (read_made g.dyn-1.0 _ (hides.at-1-1 g.dyn-1.0 g.dyn-1-has) (hides.same-1-1 g.dyn-1.0 g.dyn-1-has) (Type 0) (λ j w. j.1.post w (record { ref_ptr = (0, 0); now = notice }, tt) (has_kind c.in_ok-new.field-0.value.0 notice.kind)) c.into_dyn_box.result.vtable c.into_dyn_box.result.value _ c.into_dyn_box.ensures.1)) refl)
