use Rattle.std.proofs.Common.{◌≡◌, ◌≤◌, ◌+◌, ◌∷◌, [], ◌∙◌, ap, sym, length, arith, rules, false, refl}
use Rattle.std.proofs.lemmas.Result.{err_from_is_err_and}
use Rattle.std.specs.List.{slice_split}
use Rattle.jc_script.specs.Script.{is_feed, lines, lines_from, pieces_after}
use Rattle.jc_model.specs.Runs.{Lives, opened_from}
use Rattle.jc_script.specs.Live.{lives_in, after_line, manages}
use Rattle.jc_script.specs.declared.line.Line.{Line}
use Rattle.jc_script.specs.declared.line.Line.TheVariants.{Call, Create, Destroy}
use Rattle.jc_script.proofs.Lines.{with_front, passes, goes_on, ends, is_done, fewer, all_from, room}
use Rattle.jc_script.proofs.Existing.{lines_named}
use Rattle.jc_script.proofs.script.read_script.Goals.{then-manages+in_ok-live-2, else-manages}
use Rattle.jc_script.proofs.script.read_script.Goals as goal

pub returns-in_err-line-clause-read : goal.returns-in_err-line-clause-read
returns-in_err-line-clause-read c =
    let p = err_from_is_err_and c.from_residual-in_err-line.result c.from_residual-in_err-line.ensures.1 in
    let cut : pieces_after c.loop-left.left ≡ c.first_piece.result.0.now ∷ pieces_after c.first_piece.result.1 = rw c.in-Some.is c.first_piece.ensures.cut in
    rw (p.1, p.2) (ends c.in_err-line.field-0.0 (lives_in c.loop-left.live) c.loop-left.lines.items (c.loop-left.number + 1) (pieces_after c.loop-left.left) (pieces_after c.first_piece.result.1) c.first_piece.result.0.now (lines c.args.settings.now c.args.bytes.now) cut (search rules) (c.loop-left.invariant.exact ∙ all_from c.args.settings.now c.args.bytes.now c.if-bytes-gt-TEXT_BYTES.false) c.in_err-line.ensures)

unmanaged : (lives : Lives) (line : Line) → manages line ≡ false → lives ≡ after_line lives line
unmanaged lives (Call l) e = refl
unmanaged lives (Create session c) e = absurd (cc)
unmanaged lives (Destroy session id) e = absurd (cc)

pub loop-left-preserved-in-Continue-branch-4 : goal.loop-left-preserved-in-Continue-branch-4
loop-left-preserved-in-Continue-branch-4 c =
    let followed : lives_in c.if-manages.live ≡ after_line (lives_in c.loop-left.live) c.in_ok-line.line = elim c.if-manages.branch [ then-manages+in_ok-live-2 w ↦ ap lives_in w.live-is ∙ w.in_ok-live-2.ensures | else-manages w ↦ ap lives_in w.live-is ∙ unmanaged (lives_in c.loop-left.live) c.in_ok-line.line (sym w.if-manages.ensures) ] in
    let cut : pieces_after c.loop-left.left ≡ c.first_piece.result.0.now ∷ pieces_after c.first_piece.result.1 = rw c.in-Some.is c.first_piece.ensures.cut in
    let before : c.loop-left.number + (length c.in-Some.rest.now + 1) ≤ length c.args.bytes.now + 1 = rw c.in-Some.is at c.loop-left.invariant.few in
    let less = fewer c.first_piece.result.1 (length c.in-Some.rest.now) c.first_piece.ensures.shorter in
    record {
      few = omega (arith, before, less);
      exact = rw (c.in_ok-push.ensures.items, followed) (goes_on (lives_in c.loop-left.live) c.loop-left.lines.items (c.loop-left.number + 1) (pieces_after c.loop-left.left) (pieces_after c.first_piece.result.1) c.first_piece.result.0.now c.in_ok-line.line _ cut (search rules) c.in_ok-line.ensures c.loop-left.invariant.exact);
    }

pub loop-left-smaller-in-Continue-branch-4 : goal.loop-left-smaller-in-Continue-branch-4
loop-left-smaller-in-Continue-branch-4 c =
    let less = fewer c.first_piece.result.1 (length c.in-Some.rest.now) c.first_piece.ensures.shorter in
    let before : room c.loop-left.left ≡ length c.in-Some.rest.now + 1 = ap room c.in-Some.is in
    omega (arith, less, before)

pub loop-left-preserved : goal.loop-left-preserved
loop-left-preserved c =
    let cut : pieces_after c.loop-left.left ≡ c.first_piece.result.0.now ∷ pieces_after c.first_piece.result.1 = rw c.in-Some.is c.first_piece.ensures.cut in
    let before : c.loop-left.number + (length c.in-Some.rest.now + 1) ≤ length c.args.bytes.now + 1 = rw c.in-Some.is at c.loop-left.invariant.few in
    let less = fewer c.first_piece.result.1 (length c.in-Some.rest.now) c.first_piece.ensures.shorter in
    record {
      few = omega (arith, before, less);
      exact = passes (lives_in c.loop-left.live) c.loop-left.lines.items (c.loop-left.number + 1) (pieces_after c.loop-left.left) (pieces_after c.first_piece.result.1) c.first_piece.result.0.now _ cut (search rules) c.loop-left.invariant.exact;
    }

pub returns-clause-read : goal.returns-clause-read
returns-clause-read c =
    let so_far : with_front c.loop-left.lines.items (lines_from (lives_in c.loop-left.live) (c.loop-left.number + 1) []) ≡ lines_from (opened_from 0 c.args.settings.now) 1 (slice_split is_feed c.args.bytes.now) = rw c.in_default.is at c.loop-left.invariant.exact in
    is_done (lives_in c.loop-left.live) c.loop-left.lines.items (c.loop-left.number + 1) (lines c.args.settings.now c.args.bytes.now) (so_far ∙ all_from c.args.settings.now c.args.bytes.now c.if-bytes-gt-TEXT_BYTES.false)

pub returns-clause-named : goal.returns-clause-named
returns-clause-named c = lines_named c.args.settings.now c.args.bytes.now c.loop-left.lines.items (returns-clause-read c)
