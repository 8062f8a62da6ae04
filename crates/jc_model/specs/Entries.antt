-- How one entry of a transcript changes.
use Rattle.std.specs.Prelude.{◌≡◌, ℕ, List, slice_get, slice_set, Some}
use Rattle.jc_model.specs.declared.call.Answer.{Answer}
use Rattle.jc_model.specs.declared.call.Notice.{Notice}
use Rattle.jc_model.specs.declared.event.End.{End}
use Rattle.jc_model.specs.declared.event.Entry.{Entry}
use Rattle.jc_model.specs.Legal.{History, with_answer}

-- nothing is new but the entry at this place, which is this one
abbrev pub SetsEntry : ℕ → Entry → History → History → Type 0
SetsEntry place entry old new = new ≡ record old { entries = slice_set old.entries place entry }

-- nothing is new but that the call at this place has this answer too
abbrev pub AddsAnswer : ℕ → Answer → History → History → Type 0
AddsAnswer place answer old new =
    (e : Entry) → slice_get old.entries place ≡ Some e → SetsEntry place (with_answer answer e) old new

-- nothing is new but that it no longer has its last answer
abbrev pub TakesAnswer : ℕ → History → History → Type 0
TakesAnswer place old new =
    (e : Entry) (a : Answer) → slice_get old.entries place ≡ Some (with_answer a e) → SetsEntry place e old new

-- nothing is new but what was told of it
abbrev pub SetsTold : ℕ → List Notice → History → History → Type 0
SetsTold place told old new =
    (e : Entry) → slice_get old.entries place ≡ Some e → SetsEntry place (record e { told = told }) old new

-- nothing is new but how it ended
abbrev pub SetsEnd : ℕ → End → History → History → Type 0
SetsEnd place end old new =
    (e : Entry) → slice_get old.entries place ≡ Some e → SetsEntry place (record e { end = end }) old new
