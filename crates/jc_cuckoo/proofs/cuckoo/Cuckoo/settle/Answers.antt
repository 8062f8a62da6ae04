use Rattle.std.proofs.Common.{ℕ, ◌*◌, ◌<◌, Some, refl, sym, ap, ◌∙◌, subst, arith}
use Rattle.std.specs.FinMap as map
use Rattle.std.proofs.lemmas.List.{get_or-set_same}
use Rattle.jc_rows.specs.Rows.{RowMap}
use Rattle.jc_cuckoo.specs.declared.held.Work.{Work}
use Rattle.jc_cuckoo.specs.Cells.{cell, held_place, held_row}
use Rattle.jc_rows.specs.Images.{Image}
use Rattle.jc_cuckoo.specs.Images.{CoversImage}
use Rattle.jc_cuckoo.specs.Table.{image}
use Rattle.jc_cuckoo.proofs.Covers.{told_last}
use Rattle.jc_cuckoo.proofs.cuckoo.Cuckoo.settle.Goals as goal

pub returns-in-Some-clause-settled : goal.returns-in-Some-clause-settled
returns-in-Some-clause-settled g c =
    let e = rw (← c.self-in-Some.view_is) at c.displace-gap.ensures.images in
    let rows = rw (← c.self-in-Some.view_is) at c.displace-gap.ensures.rows in
    let same = rw (← c.self-in-Some.view_is) at c.displace-gap.ensures.placer in
    let room = rw (← c.self-in-Some.view_is) at c.displace-gap.ensures.room in
    let buckets = c.fill.ensures.follows.buckets ∙ same.1 in
    let moves = ap (λ (w : Work). w.moves) c.fill.ensures.follows.work in
    let wide = c.self-in-Some.invariant.0.sound.wide in
    let low = c.displace-gap.ensures.slot in
    rw (← c.self.view_is) (λ t. record {
      rows = c.fill.ensures.rows ∙ ap (λ (m : RowMap). map.insert m (held_place c.args.held) (held_row c.args.held)) rows;
      room = c.fill.ensures.room ∙ room;
      placer = c.fill.ensures.follows.placer ∙ same.0;
      buckets = buckets;
      placed = (
        c.displace-gap.result.0,
        record {
          above = omega arith;
          below = subst (λ (n : ℕ). c.displace-gap.result.0 < 4 * n) (sym buckets) low;
          held = c.args.held;
          is = ap (λ l. cell l c.displace-gap.result.0) c.fill.ensures.cells ∙ get_or-set_same c.self-in-Some.inside.cells.items c.displace-gap.result.0 (Some c.args.held) _ (let b = same.1 in omega arith);
          at = refl;
        },
      );
      few = (let m = c.displace-gap.ensures.moves in omega arith);
      images = record {
        way = e.way;
        images = told_last _ _ _ e.way _ e.images c.fill.ensures.follows.images;
        count = e.count ∙ sym moves;
        kept = e.kept;
        covers = subst (λ (x : Image). CoversImage x (image c.fill.new.self)) (sym e.last) c.fill.ensures.covers;
        shows = c.fill.ensures.follows.shows;
      };
    })
