-- What a change makes of a history.
use Rattle.std.specs.Prelude.{◌-◌, length, take}
use Rattle.jc_model.specs.declared.call.Reply.{Reply}
use Rattle.jc_model.specs.declared.event.Entry.{Entry}
use Rattle.jc_model.specs.declared.event.Outcome.TheVariants.{Step as Stepped}
use Rattle.jc_model.specs.declared.event.Step.TheVariants.{Done}
use Rattle.jc_model.specs.Legal.{History, with_outcome}
use Rattle.jc_engine.specs.Recording.{blank_of, with_entry, with_entry_at, with_life}
use Rattle.jc_engine.specs.declared.journal.change.Change.{Change}
use Rattle.jc_engine.specs.declared.journal.change.Change.TheVariants.{Entered, Waits, Replied, Written, Lived, Unlived}
use Rattle.jc_engine.specs.declared.journal.change.CallHeader.{CallHeader}

-- the entry of a call that has begun
abbrev pub begun_entry : CallHeader → Entry
begun_entry begun = blank_of begun.origin begun.call.value

-- and where it had its reply at once
abbrev pub replied_at_once : CallHeader → Reply → Entry
replied_at_once begun reply = with_outcome (Stepped (Done reply)) (begun_entry begun)

-- the last life gone
abbrev pub without_life : History → History
without_life h = record h { lives = take (length h.lives - 1) h.lives }

abbrev pub changed : Change → History → History
changed (Entered entry) h = with_entry entry.value h
changed (Waits begun) h = with_entry (begun_entry begun.value) h
changed (Replied begun reply) h = with_entry (replied_at_once begun.value reply.value) h
changed (Written place entry) h = with_entry_at place entry.value h
changed (Lived id config) h = with_life id config.value h
changed Unlived h = without_life h
