use Rattle.std.proofs.Common.{ap₂}
use Rattle.jc_ops.proofs.Names.{arith, refl, sym, ◌∙◌, ap, find_row, ended, loaded_by, is_written, progress_in}
use Rattle.jc_ops.proofs.Goes.{row_is_there}
use Rattle.jc_ops.proofs.Lined.{room_loaded, writer_failed, writer_agreed, loader_failed, loader_gave}
use Rattle.jc_ops.proofs.step.line.answer_line.Goals as goal

pub end-requires : goal.end-requires
end-requires g c =
    let ready = c.requires.ready in
    let gave = (ready.covered.loaded c.in-Loaded.field-0 (ap loaded_by c.in-Loaded.is)).stored c.requires.invoke in
    record {
      ready = record {
        row = ready.row;
        places = λ listens. omega (arith, c.line_of-line.ensures.told, ready.places listens);
        told = ready.covered.told;
        room = λ absent stores some. room_loaded _ c.args.call.now.op c.in-Loaded.field-0 c.args.supply.values.stored c.args.visit.now.spare
            (rw c.in-Loaded.is at ready.room) c.requires.invoke gave absent some;
      };
    }

pub returns-in-Loaded-clause-next : goal.returns-in-Loaded-clause-next
returns-in-Loaded-clause-next g c =
    let v = c.args.visit.now in
    let call = c.args.call.now in
    let gave = c.requires.ready.covered.loaded c.in-Loaded.field-0 (ap loaded_by c.in-Loaded.is) in
    rw c.in-Loaded.is (loader_gave v.cache.config v.moment call.key call.op (progress_in v) _ c.line_of-line.ensures.line c.requires.ready.waits.waits c.in-Loaded.field-0 _
    c.args.supply.values.shown c.in-Load.is (gave.stored c.requires.invoke) (gave.shown c.requires.invoke) ∙ c.end.ensures.run)

pub returns-in_default-answer-clause-next : goal.returns-in_default-answer-clause-next
returns-in_default-answer-clause-next g c =
    let v = c.args.visit.now in
    let call = c.args.call.now in
    let has = row_is_there call.key v.cache c.args.supply.row c.requires.ready.row ∙ sym c.is_some.ensures in
    loader_failed v.cache.config v.moment call.key call.op (progress_in v) _ c.line_of-line.ensures.line c.requires.ready.waits.waits c.args.answer.now c.in-Load.is
    c.in_default-answer.not-Loaded ∙ sym (ap₂ ended (c.count.ensures.progress (find_row call.key (progress_in v)) has) c.fault.ensures)

pub returns-in-Written-clause-next : goal.returns-in-Written-clause-next
returns-in-Written-clause-next g c =
    let v = c.args.visit.now in
    let call = c.args.call.now in
    let gave = c.requires.ready.covered.written (ap is_written c.in-Written.is) refl in
    rw c.in-Written.is (writer_agreed v.cache.config v.moment call.key call.op (progress_in v) _ c.line_of-line.ensures.line c.args.supply.row
    (row_is_there call.key v.cache c.args.supply.row c.requires.ready.row) c.args.supply.values.shown c.and.result
    (rw c.take.ensures.value at c.and.ensures) _ c.requires.invoke c.requires.ready.waits.waits c.in_default.not-Load gave.stored gave.shown ∙ c.end-in-Written.ensures.run)

pub returns-in_default-answer-2-clause-next : goal.returns-in_default-answer-2-clause-next
returns-in_default-answer-2-clause-next g c =
    let v = c.args.visit.now in
    let call = c.args.call.now in
    writer_failed v.cache.config v.moment call.key call.op (progress_in v) _ c.line_of-line.ensures.line c.requires.ready.waits.waits c.args.answer.now c.requires.invoke
    c.in_default.not-Load c.in_default-answer-2.not-Written ∙ ap (ended (progress_in v)) (sym c.fault-in_default-answer-2.ensures)
