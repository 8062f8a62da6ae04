use Rattle.std.proofs.Common.{◌≡◌, ◌-◌, ◌+◌, length, take, drop, arith, length-drop, eq-eqb}
use Rattle.std.proofs.Math.Seq.{take-length}
use Rattle.std.proofs.lemmas.Bool.{eqb-true}
use Rattle.jc_script.proofs.Cuts.{cut_here, uncut}
use Rattle.jc_script.proofs.script.first_piece.Goals as goal

pub returns-in-Some-clause-cut : goal.returns-in-Some-clause-cut
returns-in-Some-clause-cut c =
    let bytes = c.args.bytes.now in
    let i = c.in-Some.i in
    let found = c.in-Some.ensures in
    let all : take (length bytes - (i + 1)) (drop (i + 1) bytes) ≡ drop (i + 1) bytes = rw (← length-drop (i + 1) bytes) (take-length (drop (i + 1) bytes)) in
    rw all (cut_here bytes i found.0.high (λ k h is. found.0.before k (omega arith) h (eq-eqb _ 10 is)) (eqb-true _ 10 found.1))

pub returns-in-None-clause-cut : goal.returns-in-None-clause-cut
returns-in-None-clause-cut c = uncut c.args.bytes.now (λ k h is. c.in-None.ensures k (omega arith) h (eq-eqb _ 10 is))
