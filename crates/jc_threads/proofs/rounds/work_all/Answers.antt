use Rattle.std.proofs.Common.{◌≡◌, length, sym, ◌∙◌, arith}
use Rattle.std.proofs.lemmas.Option.{slice_get_within, get_or_from_slice_get}
use Rattle.jc_threads.proofs.Gathered.{worked_as}
use Rattle.jc_threads.proofs.rounds.work_all.Goals as goal

pub returns : goal.returns
returns g c = record {
  counted = omega (arith, c.in_ok-results.ensures.len, c.in_ok-results.results.ok.0, c.args.crew.ok.0);
  each = λ worker share result at at'.
      let crew = c.args.crew.items in
      let k = (c.in_ok-results.ensures.each worker result (omega (arith, slice_get_within crew worker share at))).1 in
      let counted : c.len-workers.result ≡ length crew = omega (arith, c.len-workers.ensures, c.args.crew.ok.0) in
      worked_as g.N.Name.stated c.len-workers.result (length crew) k.job share _ result counted (sym (k.job_is share) ∙ get_or_from_slice_get crew worker share share at)
      (get_or_from_slice_get c.in_ok-results.results.items worker result result at') k.call.met;
}
