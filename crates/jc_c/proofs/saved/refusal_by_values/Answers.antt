use Rattle.std.proofs.Common.{◌∙◌, arith}
use Rattle.jc_save.specs.Restoring.{cache_of, restored}
use Rattle.jc_c.proofs.Restoring.{lacks_longer, longer_told, refused_longer}
use Rattle.jc_c.proofs.saved.refusal_by_values.Goals as goal

pub returns-then-is_longer-clause-refused : goal.returns-then-is_longer-clause-refused
returns-then-is_longer-clause-refused c =
    let longer = longer_told c.args.most c.in-Ok.saved c.items.result.now c.has_longer-is_longer.result (omega (arith, c.if-most-ge-VALUE_BYTES.false)) c.has_longer-is_longer.ensures c.items.ensures in
    refused_longer c.args.most (restored c.args.name c.args.bytes.now) (cache_of c.in-Ok.saved) c.because.result c.in-Ok.ensures.exact (longer ∙ c.if-is_longer.true) c.because.ensures

pub returns-else-is_longer-clause-within : goal.returns-else-is_longer-clause-within
returns-else-is_longer-clause-within c = λ _.
    let longer = longer_told c.args.most c.in-Ok.saved c.items.result.now c.has_longer-is_longer.result (omega (arith, c.if-most-ge-VALUE_BYTES.false)) c.has_longer-is_longer.ensures c.items.ensures in
    lacks_longer c.args.most (restored c.args.name c.args.bytes.now) (cache_of c.in-Ok.saved) c.in-Ok.ensures.exact (longer ∙ c.if-is_longer.false)
