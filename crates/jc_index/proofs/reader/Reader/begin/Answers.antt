use Rattle.std.proofs.Common.{rules, ◌∙◌, get_or}
use Rattle.jc_index.proofs.Comparing.{begun_first, begun_next, begun_as, long_set, stacked_next}
use Rattle.jc_index.proofs.reader.Reader.begin.Goals as goal

pub loop-i-init : goal.loop-i-init
loop-i-init g c =
    let me = c.args.self.now.seat.me.0 in (
      search rules,
      long_set c.args.versions.now 0 c.begin_one.result,
      begun_as c.begin_one.new.self.seat.me.0 me _ _ (begun_first (get_or c.args.stripes.now 0 0) c.begin_one.result _ me c.begin_one.ensures.view c.requires.rests)
          (stacked_next c.args.stripes.now c.args.versions.now 0 c.begin_one.result c.requires.alike c.requires.some),
    )

pub loop-i-preserved : goal.loop-i-preserved
loop-i-preserved g c =
    let me = c.args.self.now.seat.me.0 in
    let it = c.begin_one-in-loop-i in (
      it.ensures.same ∙ c.loop-i.invariant.0,
      long_set c.loop-i.versions c.loop-i.i it.result ∙ c.loop-i.invariant.1,
      begun_as it.new.self.seat.me.0 me _ _ (begun_next (get_or c.args.stripes.now c.loop-i.i 0) it.result _ c.loop-i.self.seat.me.0 me _ it.ensures.view c.loop-i.invariant.2)
          (stacked_next c.args.stripes.now c.loop-i.versions c.loop-i.i it.result (c.loop-i.invariant.1 ∙ c.requires.alike) c.loop-i-test.true),
    )
