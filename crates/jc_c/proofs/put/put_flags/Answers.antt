use Rattle.std.proofs.Common.{Bool, List, map, refl, sym, ap, ◌∙◌, arith}
use Rattle.std.proofs.lemmas.List.{take_all}
use Rattle.jc_save.specs.Placing.{put_at}
use Rattle.jc_save.specs.Spelling.{flag}
use Rattle.jc_c.proofs.Putting.{put_none, flags_then}
use Rattle.jc_c.proofs.put.put_flags.Goals as goal

pub loop-is_set-init : goal.loop-is_set-init
loop-is_set-init c = record { place = refl; out = sym (put_none 0 c.args.out.now) }

pub loop-is_set-preserved : goal.loop-is_set-preserved
loop-is_set-preserved c = record {
  place = omega (arith, c.put-at.ensures.place, c.loop-is_set.invariant.place);
  out = rw (c.put-at.ensures.out, c.loop-is_set.invariant.out, c.loop-is_set.invariant.place, c.byte_of.ensures) (flags_then c.args.flags.now c.loop-is_set.is_set-index _ c.args.out.now c.loop-is_set-test.true);
}

pub returns-clause-out : goal.returns-clause-out
returns-clause-out c =
    c.loop-is_set.invariant.out
    ∙ ap (λ (t : List Bool). put_at 0 (map flag t) c.args.out.now) (take_all c.loop-is_set.is_set-index c.args.flags.now c.loop-is_set-test.false)
