use Rattle.std.proofs.Common.{◌≡◌, ◌≤◌, ◌-◌, vec_len}
use Rattle.std.specs.Io.KnownBytes.{Consumes}
use Rattle.jc_model.specs.Limits.{text_bytes}
use Rattle.jc_cli.specs.Meters.{AddsAtMost}
use Rattle.jc_cli.proofs.input.read_bytes.Given as goal

abbrev pub invariant-loop-n : goal.invariant-loop-n
invariant-loop-n g l = record {
  most : vec_len l.bytes ≤ text_bytes;
  reads : AddsAtMost (vec_len l.bytes) l.initial.reader.reads l.reader.reads;
  unfailed : l.reader.failures ≡ l.initial.reader.failures;
  front : Consumes (g.R.Read.remaining l.initial.reader.inner) (g.R.Read.remaining l.reader.inner) l.bytes.items;
}

abbrev pub decreases-loop-n : goal.decreases-loop-n
decreases-loop-n g l = text_bytes - vec_len l.bytes
