use Rattle.std.proofs.Common.{◌∙◌, refl, ap, Ok, Err, string_bytes}
use Rattle.std.proofs.lemmas.Result.{err_from_is_err_and}
use Rattle.jc_runner.proofs.Named.{config_at, lines_at}
use Rattle.jc_runner.proofs.files.check.check_files.Goals as goal

pub returns-in_err-read-clause-ends : goal.returns-in_err-read-clause-ends
returns-in_err-read-clause-ends g c =
    let p = err_from_is_err_and c.from_residual.result c.from_residual.ensures.1 in
    record {
      before = g.D.Disk.asked c.configured_from.new.disk;
      between = c.configured_from.new.input;
      read = Err c.in_err-read.field-0.0;
      reads = config_at g.D.File.Read.remaining g.I.Read.remaining (g.D.Disk.asked c.args.files.now.disk) (g.D.Disk.asked c.configured_from.new.disk) c.args.input.now c.configured_from.new.input c.configured_from.new.config (g.D.Disk.holds c.args.files.now.disk) _ _ (Err c.in_err-read.field-0.0) c.as_str-path.ensures.value c.in_err-read.ensures.ends;
      goes_on = (p.1 ∙ ap (λ e. Err e) p.2, refl, refl, refl);
    }

pub returns-in_err-configuration-clause-ends : goal.returns-in_err-configuration-clause-ends
returns-in_err-configuration-clause-ends g c =
    let p = err_from_is_err_and c.from_residual-in_err-configuration.result c.from_residual-in_err-configuration.ensures.1 in
    record {
      before = g.D.Disk.asked c.configured_from.new.disk;
      between = c.configured_from.new.input;
      read = Ok c.in_ok-read.read;
      reads = config_at g.D.File.Read.remaining g.I.Read.remaining (g.D.Disk.asked c.args.files.now.disk) (g.D.Disk.asked c.configured_from.new.disk) c.args.input.now c.configured_from.new.input c.configured_from.new.config (g.D.Disk.holds c.args.files.now.disk) _ _ (Ok c.in_ok-read.read) c.as_str-path.ensures.value c.in_ok-read.ensures.ends;
      goes_on = rw (← c.in_err-configuration.ensures.same) (p.1 ∙ ap (λ e. Err e) p.2, refl, refl, refl);
    }

pub returns-in_default-clause-ends : goal.returns-in_default-clause-ends
returns-in_default-clause-ends g c = record {
  before = g.D.Disk.asked c.configured_from.new.disk;
  between = c.configured_from.new.input;
  read = Ok c.in_ok-read.read;
  reads = config_at g.D.File.Read.remaining g.I.Read.remaining (g.D.Disk.asked c.args.files.now.disk) (g.D.Disk.asked c.configured_from.new.disk) c.args.input.now c.configured_from.new.input c.configured_from.new.config (g.D.Disk.holds c.args.files.now.disk) _ _ (Ok c.in_ok-read.read) c.as_str-path.ensures.value c.in_ok-read.ensures.ends;
  goes_on = rw (← c.in_ok-configuration.ensures.same) (Ok tt, refl, rw c.in_default.is (refl, refl, refl, refl));
}

pub returns-in-Ok-clause-ends : goal.returns-in-Ok-clause-ends
returns-in-Ok-clause-ends g c = record {
  before = g.D.Disk.asked c.configured_from.new.disk;
  between = c.configured_from.new.input;
  read = Ok c.in_ok-read.read;
  reads = rw c.check_from.ensures.config (config_at g.D.File.Read.remaining g.I.Read.remaining (g.D.Disk.asked c.args.files.now.disk) (g.D.Disk.asked c.configured_from.new.disk) c.args.input.now c.configured_from.new.input c.configured_from.new.config (g.D.Disk.holds c.args.files.now.disk) _ _ (Ok c.in_ok-read.read) c.as_str-path.ensures.value c.in_ok-read.ensures.ends);
  goes_on = rw (← c.in_ok-configuration.ensures.same) (Ok tt, refl, rw c.in-Some.is (lines_at g.D.File.Read.remaining g.I.Read.remaining (g.D.Disk.asked c.configured_from.new.disk) (g.D.Disk.asked c.check_from.new.files.disk) c.configured_from.new.input c.check_from.new.input c.check_from.new.files.opened.script (g.D.Disk.holds c.configured_from.new.disk) (g.D.Disk.holds c.args.files.now.disk) c.args.check.now.strict c.in_ok-configuration.configuration.settings _ _ (Ok tt) c.as_str-path-2.ensures.value (c.configured_from.ensures.same (string_bytes c.in-Some.path)) c.in-Ok.ensures.ends));
}

pub returns-clause-ends : goal.returns-clause-ends
returns-clause-ends g c = record {
  before = g.D.Disk.asked c.configured_from.new.disk;
  between = c.configured_from.new.input;
  read = Ok c.in_ok-read.read;
  reads = rw c.check_from.ensures.config (config_at g.D.File.Read.remaining g.I.Read.remaining (g.D.Disk.asked c.args.files.now.disk) (g.D.Disk.asked c.configured_from.new.disk) c.args.input.now c.configured_from.new.input c.configured_from.new.config (g.D.Disk.holds c.args.files.now.disk) _ _ (Ok c.in_ok-read.read) c.as_str-path.ensures.value c.in_ok-read.ensures.ends);
  goes_on = rw (← c.in_ok-configuration.ensures.same) (Err c.in-Err.fault, refl, rw c.in-Some.is (lines_at g.D.File.Read.remaining g.I.Read.remaining (g.D.Disk.asked c.configured_from.new.disk) (g.D.Disk.asked c.check_from.new.files.disk) c.configured_from.new.input c.check_from.new.input c.check_from.new.files.opened.script (g.D.Disk.holds c.configured_from.new.disk) (g.D.Disk.holds c.args.files.now.disk) c.args.check.now.strict c.in_ok-configuration.configuration.settings _ _ (Err c.in-Err.fault) c.as_str-path-2.ensures.value (c.configured_from.ensures.same (string_bytes c.in-Some.path)) c.in-Err.ensures.ends));
}
