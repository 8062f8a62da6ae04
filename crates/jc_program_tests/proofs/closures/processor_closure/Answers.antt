use denote.Param.Object.{read_made}
use Rattle.std.proofs.Common.{Ok, refl, subst, sym, inl}
use Rattle.jc_hooks.proofs.Stated.{processes_by}
use Rattle.jc_hooks.specs.Processors.{program_verdict}
use Rattle.jc_program_tests.proofs.closures.processor_closure.Hides as hides
use Rattle.jc_program_tests.proofs.closures.processor_closure.Goals as goal

-- what the boxed closure may answer is what the closure says
pub new-requires-2-clause-answers : goal.new-requires-2-clause-answers
new-requires-2-clause-answers g c =
    processes_by _ (λ given. program_verdict c.in_ok-new.field-0.value.0 given.0 given.1)
    (λ alloc value argument v met. (subst (λ (P : Type 0). P) (read_made g.dyn-1.0 _ (hides.at-1-1 g.dyn-1.0 g.dyn-1-has) (hides.same-1-1 g.dyn-1.0 g.dyn-1-has) (Type 0) (λ j w. j.1.post w (alloc, (value, (argument, tt))) (Ok v)) c.into_dyn_box.result.vtable c.into_dyn_box.result.value _ c.into_dyn_box.ensures.1) met).2)
    c.args.alloc
    (λ value argument. subst (λ (P : Type 0). P) (sym (read_made g.dyn-1.0 _ (hides.at-1-1 g.dyn-1.0 g.dyn-1-has) (hides.same-1-1 g.dyn-1.0 g.dyn-1-has) (Type 0) (λ j w. j.1.post w (c.args.alloc, (value, (record { ref_ptr = (0, 0); now = argument }, tt))) (Ok (program_verdict c.in_ok-new.field-0.value.0 value argument))) c.into_dyn_box.result.vtable c.into_dyn_box.result.value _ c.into_dyn_box.ensures.1)) (c.args.alloc, inl tt, refl))
