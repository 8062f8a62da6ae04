-- Counts that go round after the greatest u64, so that what was added to one is always seen in full.
use Rattle.std.specs.Prelude.{◌≡◌, ℕ, zero, suc, ◌+◌, ◌≤◌, ◌==◌, Bool, if◌then◌else◌}
use Rattle.jc_model.specs.Limits.{text_bytes}

abbrev pub next_count : ℕ → ℕ
next_count n = if n == 18446744073709551615 then 0 else n + 1

abbrev pub next_count_if : Bool → ℕ → ℕ
next_count_if failed n = if failed then next_count n else n

-- after so many more
abbrev pub count_after : ℕ → ℕ → ℕ
count_after zero n = n
count_after (suc k) n = next_count (count_after k n)

-- to read a text to its end, where each read but the last gives a byte
abbrev pub most_reads : ℕ
most_reads = text_bytes + 1

-- at most so many were added
abbrev pub AddsAtMost : ℕ → ℕ → ℕ → Type 0
AddsAtMost most old new = (k : ℕ) × (k ≤ most) × (new ≡ count_after k old)
