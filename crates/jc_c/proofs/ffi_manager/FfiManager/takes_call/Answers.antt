use Rattle.std.proofs.Common.{ℕ, List, sym, ap, ◌∙◌}
use Rattle.std.specs.List.{list_all}
use Rattle.jc_c.specs.Desks.{is_taken}
use Rattle.jc_c.specs.Seated.{desk_of}
use Rattle.jc_c.proofs.Taking.{all_mapped}
use Rattle.jc_c.proofs.ffi_manager.FfiManager.takes_call.Goals as goal

pub returns-in-PutAll : goal.returns-in-PutAll
returns-in-PutAll c =
    rw c.in-PutAll.is
    (c.takes_pairs.ensures
    ∙ ap (list_all (λ p. is_taken (desk_of c.args.id c.args.self.now) p.1)) c.pairs.ensures.same
    ∙ sym (all_mapped (is_taken (desk_of c.args.id c.args.self.now)) (λ (p : List ℕ × List ℕ). p.1) c.in-PutAll.pairs))
