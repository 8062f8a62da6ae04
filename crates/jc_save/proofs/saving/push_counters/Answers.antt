use Rattle.std.proofs.Common.{◌≡◌, List, ◌++◌, ℕ, append_assoc}
use Rattle.jc_save.specs.Spelling.{counters}
use Rattle.jc_save.proofs.saving.push_counters.Goals as goal

five : (p a b c d e : List ℕ) → ((((p ++ a) ++ b) ++ c) ++ d) ++ e ≡ p ++ ((((a ++ b) ++ c) ++ d) ++ e)
five p a b c d e = simp append_assoc

pub returns-clause-bytes : goal.returns-clause-bytes
unfolding counters
returns-clause-bytes c =
    rw (c.push-5.ensures.bytes, c.push-4.ensures.bytes, c.push-3.ensures.bytes, c.push-2.ensures.bytes, c.push.ensures.bytes, c.to_le_bytes.ensures, c.to_le_bytes-2.ensures, c.to_le_bytes-3.ensures, c.to_le_bytes-4.ensures, c.to_le_bytes-5.ensures)
    (five c.args.piece.now _ _ _ _ _)
