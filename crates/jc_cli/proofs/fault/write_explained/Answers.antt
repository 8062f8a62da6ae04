use Rattle.std.proofs.Common.{Bool, true, false, codes}
use Rattle.std.specs.Bool.{OnTrue}
use Rattle.jc_cli.proofs.Known.{writes_more}
use Rattle.jc_cli.proofs.fault.write_explained.Goals as goal

weaker : (b : Bool) (P Q : Type 0) → (P → Q) → OnTrue b P → OnTrue b Q
weaker true P Q f h = f h
weaker false P Q f h = h

-- the three texts are written one after the other
pub returns-clause-told : goal.returns-clause-told
returns-clause-told g c =
    weaker c.write_lines.result _ _
    (λ lines. writes_more _ _ _ (codes "jcache: ") _ c.if-not-write_name.ensures.told (writes_more _ _ _ _ _ c.if-not-write_fault.ensures.told lines)) c.write_lines.ensures.told
