use Rattle.std.proofs.Common.{◌≡◌, ◌≤◌, ℕ, ◌+◌, ◌-◌, ap, ◌∙◌, arith}
use Rattle.std.proofs.lemmas.Bool.Decides.{nat_tests}
use Rattle.jc_model.specs.Places.{at_place}
use Rattle.jc_c.specs.Bytes.{bytes_numbered}
use Rattle.jc_c.proofs.ffi_manager.FfiManager.size_of_rows.Goals as goal

pub returns-clause-size : goal.returns-clause-size
returns-clause-size c =
    let test = c.rows-test.false in
    let over : c.args.capacity ≤ c.rows.number = grind (arith, nat_tests, test) in
    let least = c.rows.invariant.least in
    let within = c.rows.invariant.within in
    let is : c.rows.number ≡ 1 + (c.args.capacity - 1) = omega (arith, over, least, within) in
    c.rows.invariant.counted ∙ ap (λ (n : ℕ). bytes_numbered n (at_place c.args.self.now.caches c.args.id)) is
