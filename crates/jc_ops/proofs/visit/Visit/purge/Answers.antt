use Rattle.std.proofs.Common.{◌≡◌, true, false, sym, ◌∙◌, arith}
use Rattle.std.proofs.lemmas.Grind.{common_steps}
use Rattle.jc_ops.proofs.StateNames.{holds, purge, is_live, record_of}
use Rattle.jc_model.proofs.Rings.{row_of-without}
use Rattle.jc_ops.proofs.Going.{held_there, row_expired}
use Rattle.jc_ops.proofs.visit.Visit.purge.Goals as goal

pub returns-in_err-row-clause-live : goal.returns-in_err-row-clause-live
returns-in_err-row-clause-live g c = λ key found. grind (arith, common_steps, rw c.in_err-row.was at found)

pub returns-in_err-row-clause-progress : goal.returns-in_err-row-clause-progress
returns-in_err-row-clause-progress g c = λ key found. grind (arith, common_steps, rw c.in_err-row.was at found)

pub returns-then-is_live-clause-live : goal.returns-then-is_live-clause-live
returns-then-is_live-clause-live g c = λ key found.
    let x = rw c.in_ok-row.was at found in
    rw (x.1.found, holds) (sym c.if-is_live.true ∙ c.is_live.ensures (record_of x.0) x.1.there)

pub returns-then-is_live-clause-progress : goal.returns-then-is_live-clause-progress
returns-then-is_live-clause-progress g c = λ key found.
    let x = rw c.in_ok-row.was at found in
    let alive : is_live c.args.self.now.moment x.0 ≡ true = sym (c.is_live.ensures (record_of x.0) x.1.there) ∙ c.if-is_live.true in
    rw (x.1.found, purge, alive)

pub returns-clause-live : goal.returns-clause-live
returns-clause-live g c = λ key found.
    let x = rw c.in_ok-row.was at found in
    rw (x.1.found, holds) (sym c.if-is_live.false ∙ c.is_live.ensures (record_of x.0) x.1.there)

pub returns-clause-progress : goal.returns-clause-progress
returns-clause-progress g c = λ key found.
    let x = rw c.in_ok-row.was at found in
    let dead : is_live c.args.self.now.moment x.0 ≡ false = sym (c.is_live.ensures (record_of x.0) x.1.there) ∙ c.if-is_live.false in
    rw (x.1.found, purge, dead) (row_expired c.args.self.now.moment c.in_ok-row.row c.args.self.now c.remove_row.new.self x.0 c.remove_row.ensures.gone x.1.there (rw x.1.there at c.remove_row.ensures.told))

pub returns-clause-found : goal.returns-clause-found
returns-clause-found g c = λ key found.
    let x = rw c.in_ok-row.was at found in
    rw (← x.1.key_is, c.remove_row.ensures.gone.left, x.1.there) (row_of-without x.0.key _)

pub remove_row-requires-clause-places : goal.remove_row-requires-clause-places
remove_row-requires-clause-places g c =
    let h = held_there c.in_ok-row.row c.args.self.now.cache.cells (c.requires.there _ c.in_ok-row.was) in
    c.requires.places _ h.0 c.in_ok-row.was h.1 (sym (c.is_live.ensures h.0 h.1) ∙ c.if-is_live.false)
