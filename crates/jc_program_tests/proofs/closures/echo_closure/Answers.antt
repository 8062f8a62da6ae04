use denote.Param.Object.{read_made}
use Rattle.std.proofs.Common.{Ok, refl, subst, sym}
use Rattle.jc_hooks.specs.Program.{echo_answer}
use Rattle.jc_hooks.proofs.Stated.{loads_by}
use Rattle.jc_program_tests.proofs.closures.echo_closure.Hides as hides
use Rattle.jc_program_tests.proofs.closures.echo_closure.Goals as goal

-- what the boxed closure may answer is what the closure says
pub new-requires-2-clause-answers : goal.new-requires-2-clause-answers
new-requires-2-clause-answers g c =
    loads_by _ echo_answer
    (λ alloc key l met. (subst (λ (P : Type 0). P) (read_made g.dyn-1.0 _ (hides.at-1-1 g.dyn-1.0 g.dyn-1-has) (hides.same-1-1 g.dyn-1.0 g.dyn-1-has) (Type 0) (λ j w. j.1.post w (alloc, (key, tt)) (Ok l)) c.into_dyn_box.result.vtable c.into_dyn_box.result.value _ c.into_dyn_box.ensures.1) met).1)
    c.args.alloc
    (λ key. subst (λ (P : Type 0). P) (sym (read_made g.dyn-1.0 _ (hides.at-1-1 g.dyn-1.0 g.dyn-1-has) (hides.same-1-1 g.dyn-1.0 g.dyn-1-has) (Type 0) (λ j w. j.1.post w (c.args.alloc, (record { ref_ptr = (0, 0); now = key }, tt)) (Ok (echo_answer key))) c.into_dyn_box.result.vtable c.into_dyn_box.result.value _ c.into_dyn_box.ensures.1)) (c.args.alloc, refl))
