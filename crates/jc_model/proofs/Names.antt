-- The names of specs and of std that many proofs need.
pub use Rattle.std.proofs.Common.{Bool, IsTrue, List, None, Option, Result, Some, [], ap, append-nil, append_assoc, ap₂, arith, drop, eqb, false, if◌then◌else◌, leb, length, length-append, map, not, refl, replicate, rules, slice_index_or, subst, suc}
pub use Rattle.std.proofs.Common.{sym, take, true, zero, zero-le, ℕ, ◌*◌, ◌++◌, ◌+◌, ◌-◌, ◌<◌, ◌||◌, ◌∙◌, ◌∷◌, ◌≡◌, ◌≢◌, ◌≤◌}
pub use Rattle.std.proofs.Math.Seq.{take-append_seam, take-length}
pub use Rattle.std.proofs.lemmas.Bool.Decides.{nat_tests}
pub use Rattle.std.proofs.lemmas.Grind.{common_steps}
pub use Rattle.std.proofs.lemmas.List.{drop-replicate}
pub use Rattle.std.proofs.lemmas.List.Elements.{All-cons, All-contains_itself, All-head, All-map, All-nil, All-push, All-tail, All-weaker}
pub use Rattle.std.proofs.lemmas.Option.{slice_get_read, slice_get_past}
pub use Rattle.std.proofs.lemmas.Slice.Eq.{bytes_eq-Decides}
pub use Rattle.std.specs.List.{All, Contains, filter, list_any}
pub use Rattle.std.specs.Option.{option_eq, option_map, option_or}
pub use Rattle.std.specs.Prelude.{MatchOption, is_some, slice_get, slice_set, sum, ⊤, ◌&&◌, ◌==◌}
pub use Rattle.std.specs.Str.{IsUtf8, bytes_eq}
pub use Rattle.jc_model.specs.declared.call.Answer.{Answer}
pub use Rattle.jc_model.specs.declared.call.Call.{Call}
pub use Rattle.jc_model.specs.declared.call.Call.TheVariants.{Clear, ClearStats, Entries, GetAll, InvokeAll, LoadAll, PutAll, RemoveAll, RemoveKeys, Stats}
pub use Rattle.jc_model.specs.declared.call.KeyCall.{KeyCall}
pub use Rattle.jc_model.specs.declared.call.Notice.{Notice}
pub use Rattle.jc_model.specs.declared.call.Op.{Op}
pub use Rattle.jc_model.specs.declared.call.Reply.{Reply}
pub use Rattle.jc_model.specs.declared.call.Reply.TheVariants.{Counted, Done, Fault, Found, Listed, Results, Truth}
pub use Rattle.jc_model.specs.declared.call.Request.{Request}
pub use Rattle.jc_model.specs.declared.call.Verdict.{Verdict}
pub use Rattle.jc_model.specs.declared.config.CacheConfig.{CacheConfig}
pub use Rattle.jc_model.specs.declared.event.Cause.{Cause}
pub use Rattle.jc_model.specs.declared.event.Cause.TheVariants.{NoSuchCache, NoSuchProcessor, WrongAnswer}
pub use Rattle.jc_model.specs.declared.event.CreateRefusal.{CreateRefusal}
pub use Rattle.jc_model.specs.declared.event.End.{End}
pub use Rattle.jc_model.specs.declared.event.End.TheVariants.{Replied, Waiting}
pub use Rattle.jc_model.specs.declared.event.Entry.{Entry}
pub use Rattle.jc_model.specs.declared.event.Event.{Event}
pub use Rattle.jc_model.specs.declared.event.Life.{Life}
pub use Rattle.jc_model.specs.declared.event.Outcome.{Outcome}
pub use Rattle.jc_model.specs.declared.event.Outcome.TheVariants.{CreateRefused, Created, Destroyed, GivenUp, Refused}
pub use Rattle.jc_model.specs.declared.table.Change.{Change}
pub use Rattle.jc_model.specs.Bulk.{Sum, empty_sum, same_op}
pub use Rattle.jc_model.specs.Changes.{Progress, access, begun, create, create_by_put, expire, find_row, hit, notify, purge, store, with_room}
pub use Rattle.jc_model.specs.Everywhere.{AtEach, Goes, IsOf, Within, asks_loader, may_load}
pub use Rattle.jc_model.specs.Key.{IsKey, bytes_of, first_words, padded}
pub use Rattle.jc_model.specs.Legal.{Fits, History, InOrder, IsLegalEntry, IsLegalFrom, IsTold, Stands, Tells, accepted_in, at_first, config_of, end_by, entries_of, is_waiting, lives_with, numbered_lives, on_open, played, recorded, told_in}
pub use Rattle.jc_model.specs.Legal.{told_now, was_given_up, with_answer, with_outcome}
pub use Rattle.jc_model.specs.Limits.{key_bytes, key_words}
pub use Rattle.jc_model.specs.Lists.{distinct, same_pair}
pub use Rattle.jc_model.specs.Places.{none_before, there, all_there, at_place}
pub use Rattle.jc_model.specs.Refusals.{member_of, refusal_beside}
pub use Rattle.jc_model.specs.Run.{Awaited, Run, and_then, answered, awaits, ended, fits, load, load_for, process, resume, waiting}
pub use Rattle.jc_model.specs.Runs.{CountUp, IsRun, Lives, ManagerEvent, CacheEvent, Standing, Status, answer_in, answer_of, answer_to, answer_to_create, answer_to_destroy, answers, begins, busy, changed_by, create_refusal, creates, destroyed_by}
pub use Rattle.jc_model.specs.Runs.{destroys, for_memory, fresh, gives_up, has_processor, idle, ids_given, is_refused, left, lives_after, lives_by, lives_in_end, members_of, moved, moved_by, opened, opened_from, manager_event, put_moved, refuse_last, reply_of}
pub use Rattle.jc_model.specs.Runs.{on_cache, shown, standing_of}
pub use Rattle.jc_model.specs.Solo.{LifeInRun, accepted_by, after_call, answers_first, played_calls, own_calls, events_of, gives_up_first, events_heard, standing_left, life_in_run, life_with, outcomes_by, outcomes_from, reaches, seen_of, solo, standing_from}
pub use Rattle.jc_model.specs.Solo.{status_at_end, status_at_start}
pub use Rattle.jc_model.specs.Sound.{HasDistinctKeys, IsSound, LacksKey, Throughout, WaitsAt}
pub use Rattle.jc_model.specs.State.{Item, State, before_stop, first_state, from_stop, is_live, passed, row_of, stops_at, turned, with_row, without, live}
pub use Rattle.jc_model.specs.Step.{act_absent, act_live, acted, by_ask, by_loader, by_processor, by_writer, carried, changed, counted, ended_by, expecting, failed_by, live_in, on_row, step}
pub use Rattle.jc_model.specs.Table.{absent_line, absent_verdict, decided, expected_by, invoked_by, live_line, live_verdict, otherwise, value_of}
pub use Rattle.jc_model.specs.Whole.{Plan, after_key, asked_by, at_once, carried_out, each, key_call, many, one, other_plan, plan, told_first, touch_each, whole}
