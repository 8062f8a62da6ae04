use Rattle.std.proofs.Common.{◌∙◌, refl, ap, Ok, Err, string_bytes}
use Rattle.std.proofs.lemmas.Result.{err_from_is_err_and}
use Rattle.jc_runner.proofs.Named.{keeps_same, config_at, script_held}
use Rattle.jc_runner.proofs.files.run_files.Goals as goal

pub returns-in_err-read-clause-ends : goal.returns-in_err-read-clause-ends
returns-in_err-read-clause-ends g c =
    let p = err_from_is_err_and c.from_residual.result c.from_residual.ensures.1 in
    record {
      before = g.D.Disk.asked c.configured_from.new.disk;
      between = c.configured_from.new.input;
      read = Err c.in_err-read.field-0.0;
      reads = config_at g.D.File.Read.remaining g.I.Read.remaining (g.D.Disk.asked c.args.files.now.disk) (g.D.Disk.asked c.configured_from.new.disk) c.args.standard.now.input c.configured_from.new.input c.configured_from.new.config (g.D.Disk.holds c.args.files.now.disk) _ _ (Err c.in_err-read.field-0.0) c.as_str-path.ensures.value c.in_err-read.ensures.ends;
      goes_on = (p.1 ∙ ap (λ e. Err e) p.2, refl, refl, refl, keeps_same _);
    }

pub returns-in_err-configuration-clause-ends : goal.returns-in_err-configuration-clause-ends
returns-in_err-configuration-clause-ends g c =
    let p = err_from_is_err_and c.from_residual-in_err-configuration.result c.from_residual-in_err-configuration.ensures.1 in
    record {
      before = g.D.Disk.asked c.configured_from.new.disk;
      between = c.configured_from.new.input;
      read = Ok c.in_ok-read.read;
      reads = config_at g.D.File.Read.remaining g.I.Read.remaining (g.D.Disk.asked c.args.files.now.disk) (g.D.Disk.asked c.configured_from.new.disk) c.args.standard.now.input c.configured_from.new.input c.configured_from.new.config (g.D.Disk.holds c.args.files.now.disk) _ _ (Ok c.in_ok-read.read) c.as_str-path.ensures.value c.in_ok-read.ensures.ends;
      goes_on = rw (← c.in_err-configuration.ensures.same) (p.1 ∙ ap (λ e. Err e) p.2, refl, refl, refl, keeps_same _);
    }

pub returns-in-Ok-clause-ends : goal.returns-in-Ok-clause-ends
returns-in-Ok-clause-ends g c = record {
  before = g.D.Disk.asked c.configured_from.new.disk;
  between = c.configured_from.new.input;
  read = Ok c.in_ok-read.read;
  reads = rw c.scripted_from.ensures.config (config_at g.D.File.Read.remaining g.I.Read.remaining (g.D.Disk.asked c.args.files.now.disk) (g.D.Disk.asked c.configured_from.new.disk) c.args.standard.now.input c.configured_from.new.input c.configured_from.new.config (g.D.Disk.holds c.args.files.now.disk) _ _ (Ok c.in_ok-read.read) c.as_str-path.ensures.value c.in_ok-read.ensures.ends);
  goes_on = rw (← c.in_ok-configuration.ensures.same) (
    Ok tt,
    refl,
    script_held g.D.File.Read.remaining g.I.Read.remaining (g.D.Disk.asked c.configured_from.new.disk) (g.D.Disk.asked c.scripted_from.new.files.disk) c.configured_from.new.input c.scripted_from.new.standard.input c.scripted_from.new.files.opened.script g.O.Write.contents c.args.run.now.serial c.args.run.now.strict c.args.run.now.format c.in_ok-configuration.configuration c.args.standard.now.output c.scripted_from.new.standard.output _ _ (string_bytes c.args.run.now.script) (Ok tt)
        (c.configured_from.ensures.same (string_bytes c.args.run.now.script)) c.in-Ok.ensures.ends,
  );
}

pub returns-in-Err-clause-ends : goal.returns-in-Err-clause-ends
returns-in-Err-clause-ends g c = record {
  before = g.D.Disk.asked c.configured_from.new.disk;
  between = c.configured_from.new.input;
  read = Ok c.in_ok-read.read;
  reads = rw c.scripted_from.ensures.config (config_at g.D.File.Read.remaining g.I.Read.remaining (g.D.Disk.asked c.args.files.now.disk) (g.D.Disk.asked c.configured_from.new.disk) c.args.standard.now.input c.configured_from.new.input c.configured_from.new.config (g.D.Disk.holds c.args.files.now.disk) _ _ (Ok c.in_ok-read.read) c.as_str-path.ensures.value c.in_ok-read.ensures.ends);
  goes_on = rw (← c.in_ok-configuration.ensures.same) (
    Err c.in-Err.fault,
    refl,
    script_held g.D.File.Read.remaining g.I.Read.remaining (g.D.Disk.asked c.configured_from.new.disk) (g.D.Disk.asked c.scripted_from.new.files.disk) c.configured_from.new.input c.scripted_from.new.standard.input c.scripted_from.new.files.opened.script g.O.Write.contents c.args.run.now.serial c.args.run.now.strict c.args.run.now.format c.in_ok-configuration.configuration c.args.standard.now.output c.scripted_from.new.standard.output _ _ (string_bytes c.args.run.now.script) (Err c.in-Err.fault)
        (c.configured_from.ensures.same (string_bytes c.args.run.now.script)) c.in-Err.ensures.ends,
  );
}
