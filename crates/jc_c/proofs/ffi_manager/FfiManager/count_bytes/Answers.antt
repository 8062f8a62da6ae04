use Rattle.std.proofs.Common.{ℕ, ◌+◌, ◌-◌, Option, sym, ap, ◌∙◌, arith}
use Rattle.jc_model.specs.Places.{at_place}
use Rattle.jc_c.specs.Parts.{or_before}
use Rattle.jc_c.specs.Seated.{Seated}
use Rattle.jc_c.proofs.Sizes.{all_numbered}
use Rattle.jc_c.proofs.ffi_manager.FfiManager.count_bytes.Goals as goal

pub returns-in-Some-clause-bytes : goal.returns-in-Some-clause-bytes
returns-in-Some-clause-bytes c =
    let there = rw (ap (λ (s : Seated). s.caches) c.self.view_is, c.new-id.ensures) at c.in-Some.ensures in
    let all = all_numbered (1 + (c.in-Some.config.now.capacity - 1)) (at_place c.args.self.now.caches c.args.id) c.in-Some.config.now (sym there) (omega arith) (rw c.new-id.ensures at c.size_of_rows.ensures.numbers) in
    (rw c.new-id.ensures at c.size_of_rows.ensures.size) ∙ ap (or_before c.args.bytes.now) all
