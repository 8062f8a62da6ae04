use Rattle.std.proofs.Common.{vec_len, arith, rules, subst, sym, ◌∙◌}
use Rattle.std.specs.Io.KnownBytes.{Consumes}
use Rattle.jc_cli.specs.Meters.{most_reads}
use Rattle.jc_cli.proofs.Known.{reads_more}
use Rattle.jc_cli.proofs.Meters.{one_added}
use Rattle.jc_cli.proofs.input.read_bytes.Goals as goal

pub returns-in-Err-clause-reads : goal.returns-in-Err-clause-reads
returns-in-Err-clause-reads g c = one_added (vec_len c.loop-n.bytes) most_reads _ _ _ c.loop-n.invariant.reads c.read.ensures.reads (omega (arith, c.loop-n.invariant.most))

pub returns-then-n-eq0-clause-reads : goal.returns-then-n-eq0-clause-reads
returns-then-n-eq0-clause-reads g c = one_added (vec_len c.loop-n.bytes) most_reads _ _ _ c.loop-n.invariant.reads c.read.ensures.reads (omega (arith, c.loop-n.invariant.most))

pub returns-then-n-len-clause-reads : goal.returns-then-n-len-clause-reads
returns-then-n-len-clause-reads g c = one_added (vec_len c.loop-n.bytes) most_reads _ _ _ c.loop-n.invariant.reads c.read.ensures.reads (omega (arith, c.loop-n.invariant.most))

pub returns-in_err-extend_from_slice-clause-reads : goal.returns-in_err-extend_from_slice-clause-reads
returns-in_err-extend_from_slice-clause-reads g c = one_added (vec_len c.loop-n.bytes) most_reads _ _ _ c.loop-n.invariant.reads c.read.ensures.reads (omega (arith, c.loop-n.invariant.most))

pub loop-n-preserved : goal.loop-n-preserved
loop-n-preserved g c = record {
  most = search rules;
  reads = one_added (vec_len c.loop-n.bytes) (vec_len c.extend_from_slice.new.self) _ _ _ c.loop-n.invariant.reads c.read.ensures.reads (search (rules, arith));
  unfailed = c.in-Ok.ensures.failures ∙ c.loop-n.invariant.unfailed;
  front = subst (Consumes (g.R.Read.remaining c.args.reader.now.inner) (g.R.Read.remaining c.read.new.self.inner)) (sym c.in_ok-extend_from_slice.ensures.items) (reads_more _ _ _ _ _ c.loop-n.invariant.front c.in-Ok.ensures.bytes.0);
}
