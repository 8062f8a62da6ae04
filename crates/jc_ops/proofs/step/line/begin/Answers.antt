use Rattle.jc_ops.proofs.Names.{◌≡◌, ◌<◌, ◌+◌, if◌then◌else◌, told_on, sym, ◌∙◌, ap, subst, arith, Some, is_some, Item, Run, StepWaits, find_row, purge, step, waits_first, progress_in}
use Rattle.jc_model.proofs.Purge.{purged_row, purge-again, step-purged}
use Rattle.jc_ops.proofs.VisitLaws.{same_on}
use Rattle.jc_ops.specs.Supply.{most_told_in}
use Rattle.jc_ops.proofs.Goes.{row_is_there, most_is}
use Rattle.jc_ops.proofs.Lined.{room_fits, begins_ended, begins_waiting}
use Rattle.jc_ops.proofs.step.line.begin.Goals as goal

pub line_of-requires : goal.line_of-requires
line_of-requires g c = record { row = c.purge-row.ensures.found _ c.requires.row }

pub returns : goal.returns
returns g c =
    let v = c.args.visit.now in
    let w = c.purge-row.new.self in
    let call = c.args.call.now in
    let gone = c.purge-row.ensures in
    let covered = c.requires.covered in
    let config = gone.spends.same.config in
    let there = gone.live _ c.requires.row in
    let is = gone.progress _ c.requires.row in
    let has = row_is_there call.key w.cache c.purge-row.result (gone.found _ c.requires.row) in
    let most : most_told_in v call ≡ told_on (is_some c.purge-row.result) call.op + (if is_some c.purge-row.result then 0 else 1) = rw (← there) (most_is _ _) in
    let before = λ (x : Item) (at : find_row call.key (progress_in w) ≡ Some x). purged_row v.cache.config v.moment call.key (progress_in v) x (ap (find_row call.key) (sym is) ∙ at) in
    let purged : purge v.cache.config v.moment call.key (progress_in w) ≡ progress_in w =
    ap (purge v.cache.config v.moment call.key) is ∙ (purge-again v.cache.config v.moment call.key (progress_in v) ∙ sym is) in
    let same = ap (step v.cache.config v.moment call) is ∙ step-purged v.cache.config v.moment call (progress_in v) in
    record {
      ready = record {
        row = gone.found _ c.requires.row;
        places = λ listens. omega (arith, c.line_of.ensures.told, most, gone.spends.places, c.requires.places (rw config at listens));
        told = rw config covered.told;
        room = rw c.line_of.ensures.line (room_fits call.op (find_row call.key (progress_in w)) _ v.cache.config.writer _ _ has covered.stored
            (λ adding. let some : 0 < v.spare = c.requires.room (rw there at adding) in omega (arith, gone.spends.room, some)));
      };
      copy = covered.copy;
      asks = λ q asks. subst (λ (run : Run). StepWaits v.cache.config (progress_in w) q (waits_first v.moment call) run) same
          (begins_waiting v.cache.config v.moment call.key call.op (progress_in w) _ c.line_of.ensures.line c.purge-row.result has _ _ (cc) q purged asks
          (λ invokes x at. covered.entry invokes x (before x at)));
      ends = λ asks. rw (config, gone.spends.same.moment) (sym same ∙
          begins_ended v.cache.config v.moment call.key call.op (progress_in w) _ c.line_of.ensures.line c.purge-row.result has _ _ (cc) _ _ purged asks covered.stored
          (λ shows x at. covered.shown shows x (before x at)));
      waits = record { same = gone.spends.same; room = omega (arith, gone.spends.room); places = omega (arith, most, gone.spends.places) };
      spends = λ x rest. record {
        same = same_on v w x gone.spends.same rest.same;
        room = omega (arith, gone.spends.room, rest.room);
        places = omega (arith, most, c.line_of.ensures.told, gone.spends.places, rest.places);
      };
    }
