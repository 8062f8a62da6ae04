-- A whole trace: its length, and how many lines it has.
use Rattle.std.proofs.Common.{◌≡◌, ℕ, ◌+◌, ◌<◌, ◌≤◌, List, length, Result, Ok, Err, IfOk, refl, ap, arith, lt-ltb, le-ltb, count_by}
use Rattle.std.proofs.lemmas.List.Splits.{length-slice_split}
use Rattle.std.proofs.lemmas.Grind.{common_steps}
use Rattle.std.specs.List.{slice_split}
use Rattle.jc_model.specs.Limits.{text_bytes}
use Rattle.jc_replay.specs.declared.fault.ReplayFault.TheVariants.{TooLong}
use Rattle.jc_replay.specs.Trace.{ends_trace_line, keys_from, trace_keys}
use Rattle.jc_replay.proofs.Lines.{Lines, texts}

pub too_long : (trace : List ℕ) → text_bytes < length trace → trace_keys trace ≡ Err TooLong
unfolding trace_keys
too_long trace more = rw (lt-ltb text_bytes (length trace) more) refl

pub fits : (trace : List ℕ) → length trace ≤ text_bytes → trace_keys trace ≡ keys_from 1 (slice_split ends_trace_line trace)
unfolding trace_keys
fits trace few = rw (le-ltb text_bytes (length trace) few) refl

pub whole : (trace : List ℕ) (lent lines : Lines) → length trace ≤ text_bytes → lent ≡ lines → texts lines ≡ slice_split ends_trace_line trace → trace_keys trace ≡ keys_from 1 (texts lent)
whole trace lent lines few same cut = rw (same, cut) (fits trace few)

pub few_lines : (trace : List ℕ) (lent lines : Lines) → length trace ≤ text_bytes → lent ≡ lines → texts lines ≡ slice_split ends_trace_line trace → length lent ≤ text_bytes + 1
few_lines trace lent lines few same cut =
    let parts : length (slice_split ends_trace_line trace) ≡ count_by ends_trace_line trace + 1 = length-slice_split ends_trace_line trace in
    let as_many : length (texts lines) ≡ length (slice_split ends_trace_line trace) = ap length cut in
    grind (arith, common_steps, parts, as_many, same)

pub lower : {T E : Type 0} (size : T → ℕ) (r : Result T E) (a b : ℕ) → a ≤ b → IfOk r (λ v. size v ≤ a) → IfOk r (λ v. size v ≤ b)
lower size (Ok v) a b le h = omega (arith, le, h)
lower size (Err e) a b le h = tt
