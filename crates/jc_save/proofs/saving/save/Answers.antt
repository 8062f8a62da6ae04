use Rattle.std.proofs.Common.{◌≡◌, ℕ, ◌++◌, length, take, drop, ap, ◌∙◌, arith}
use Rattle.std.proofs.Math.Seq.{take-append_seam}
use Rattle.jc_save.specs.Restoring.{state_of}
use Rattle.jc_save.specs.Spelling.{saved}
use Rattle.jc_save.proofs.Placing.{put_whole}
use Rattle.jc_save.proofs.saving.save.Goals as goal

pub returns-in-Ok-clause-made : goal.returns-in-Ok-clause-made
returns-in-Ok-clause-made c =
    let all = saved c.args.cache.now.config (state_of c.args.cache.now) in
    let room : length c.deref_mut.result.now ≡ length all = omega (arith, c.deref_mut.ensures.len, c.in-Ok.ensures.len, c.save_into-length.ensures.length, c.in-Ok.bytes.ok.0) in
    let written : c.save_into.new.out ≡ all = c.save_into.ensures.out ∙ put_whole all c.deref_mut.result.now room in
    let len : c.in-Ok.bytes.len ≡ length all = omega (arith, c.in-Ok.ensures.len, c.save_into-length.ensures.length) in
    rw written (ap (λ (n : ℕ). take n (all ++ drop (length all) c.in-Ok.bytes.items)) len ∙ take-append_seam all (drop (length all) c.in-Ok.bytes.items))
