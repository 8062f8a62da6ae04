use Rattle.std.proofs.Common.{◌≡◌, ℕ, map, sym, ◌∙◌, arith}
use Rattle.jc_locked.specs.Accounts.{times}
use Rattle.jc_locked.proofs.Comparing.{below_next}
use Rattle.jc_locked.proofs.auditing.are_once.Goals as goal

pub loop-number-preserved : goal.loop-number-preserved
loop-number-preserved g c =
    let one : c.count_of.result ≡ 1 = omega (arith, c.if-count_of-ne1.false) in
    below_next (λ (n : ℕ). times n (map g.S.Logged.log c.args.logs.now) ≡ 1) c.loop-number.number c.loop-number.invariant (sym c.count_of.ensures ∙ one)
