use Rattle.std.proofs.Common.{◌≡◌, Some, refl, sym, ap, ◌∙◌, inr}
use Rattle.std.specs.FinMap as map
use Rattle.jc_model.specs.declared.config.Expiry.{Expiry}
use Rattle.jc_rows.proofs.Laws.{with_expiry_is}
use Rattle.jc_cuckoo.specs.Cells.{rows_in, RowAt}
use Rattle.jc_cuckoo.specs.Table.{image}
use Rattle.jc_cuckoo.proofs.Kept.{put_again}
use Rattle.jc_cuckoo.proofs.Tests.{expiries_same}
use Rattle.jc_cuckoo.proofs.Puts.{puts_same}
use Rattle.jc_cuckoo.proofs.table.CuckooRows.set_expiry.Goals as goal

pub returns-then-eq-clause-set : goal.returns-then-eq-clause-set
returns-then-eq-clause-set g c =
    let row : RowAt c.args.self.now.cells (c.args.id, c.args.key.now) (c.in-Some.at, c.in-Some.held.now) = c.in-Some.ensures in
    let same = expiries_same c.in-Some.held.now.expiry c.args.expiry (sym c.eq.ensures ∙ c.if-eq.true) in
    let stands : map.get (rows_in c.args.self.now.cells) (c.args.id, c.args.key.now) ≡ Some (c.in-Some.held.now.row, c.args.expiry) = row.holds ∙ ap (λ (e : Expiry). Some (c.in-Some.held.now.row, e)) same in
    sym (with_expiry_is (rows_in c.args.self.now.cells) (c.args.id, c.args.key.now) c.in-Some.held.now.row c.in-Some.held.now.expiry c.args.expiry row.holds ∙ put_again _ _ _ stands)

pub returns-then-eq-clause-touches : goal.returns-then-eq-clause-touches
returns-then-eq-clause-touches g c =
    let row : RowAt c.args.self.now.cells (c.args.id, c.args.key.now) (c.in-Some.at, c.in-Some.held.now) = c.in-Some.ensures in
    let same = expiries_same c.in-Some.held.now.expiry c.args.expiry (sym c.eq.ensures ∙ c.if-eq.true) in
    record {
      images = inr (refl, refl);
      puts = puts_same (rows_in c.args.self.now.cells) (image c.args.self.now) (c.args.id, c.args.key.now) c.in-Some.held.now.row c.args.expiry c.slots-slots.ensures.shows (row.holds ∙ ap (λ (e : Expiry). Some (c.in-Some.held.now.row, e)) same);
      shows = c.slots-slots.ensures.shows;
      work = refl;
      placer = refl;
    }
