-- The names that most proofs here cite, passed on from one place. Declares nothing.
pub use Rattle.std.specs.HashMap.{get}
pub use Rattle.std.specs.HashSet.{HashSet, contains}
pub use Rattle.std.specs.Map.{lookup}
pub use Rattle.std.proofs.lemmas.Bool.{cases_eq, cases_lt}
pub use Rattle.std.proofs.lemmas.Bool.Decides.{nat_tests}
pub use Rattle.std.proofs.lemmas.Grind.{common_steps}
pub use Rattle.std.proofs.lemmas.List.{length-map, length_push, map-append, map-set, nil_from_length, set-append_left, set-get_or, set_at}
pub use Rattle.std.proofs.lemmas.List.Sums.{sum_by-append, sum_by-cons}
pub use Rattle.std.proofs.lemmas.Option.{get_or_from_slice_get, slice_get_read}
pub use Rattle.std.proofs.lemmas.Result.{IfOk-weaker, on_err_weaker, on_ok_weaker}
pub use Rattle.std.proofs.lemmas.Slice.Eq.{bytes_eq-Decides}
pub use Rattle.jc_model.specs.declared.call.Answer.{Answer}
pub use Rattle.jc_model.specs.declared.call.Call.{Call}
pub use Rattle.jc_model.specs.declared.call.Notice.{Notice}
pub use Rattle.jc_model.specs.declared.call.Request.{Request}
pub use Rattle.jc_model.specs.declared.config.CacheConfig.{CacheConfig}
pub use Rattle.jc_model.specs.declared.config.Expiry.{Expiry}
pub use Rattle.jc_model.specs.declared.event.Cause.{Cause}
pub use Rattle.jc_model.specs.declared.event.Cause.TheVariants.{NoSuchCache, OutOfMemory, WrongAnswer}
pub use Rattle.jc_model.specs.declared.event.Entry.{Entry}
pub use Rattle.jc_model.specs.declared.event.Event.{Event}
pub use Rattle.jc_model.specs.declared.event.Event.TheVariants.{Answer as Answered, Begin, Create, Destroy, GiveUp}
pub use Rattle.jc_model.specs.declared.event.Outcome.{Outcome}
pub use Rattle.jc_model.specs.declared.event.Outcome.TheVariants.{Created, Destroyed, GivenUp, Refused, Step as Stepped}
pub use Rattle.jc_model.specs.Changes.{Progress}
pub use Rattle.jc_model.specs.Legal.{History, Tells, at_first, numbered_lives, on_open, recorded, with_answer, with_outcome}
pub use Rattle.jc_model.specs.Limits.{most_caches, most_ids, most_rows_together}
pub use Rattle.jc_model.specs.Places.{all_there, at_place, named_from, none_before, there}
pub use Rattle.jc_model.specs.Run.{Awaited, Run, and_then, answered, awaited_by, fits, for_tell, resume, told_by, waiting}
pub use Rattle.jc_model.specs.Runs.{Lives, CacheEvent, Standing, Status, answer_in, answer_of, answer_to, answer_to_destroy, answers, begins, create_refusal, for_memory, fresh, gives_up, idle, is_refused, lives_after, lives_by, moved, opened, opened_from, put_moved, refuse_last, reply_of, on_cache, shown, standing_of, members_of}
pub use Rattle.jc_model.specs.Solo.{state_in}
pub use Rattle.jc_model.specs.Sound.{HasDistinctKeys, IsSound as IsCacheSound, LacksKey}
pub use Rattle.jc_model.specs.State.{Item, State, row_of}
pub use Rattle.jc_model.specs.Suspended.{Wait, key_run, many, many as many_keys, one, one as one_key, run_of, standing_by, telling}
pub use Rattle.jc_model.specs.Whole.{Plan, carried_out, each, told_first}
pub use Rattle.jc_model.proofs.Leads.{IsRunTo, Leads, alone_in, leads_last}
pub use Rattle.jc_model.proofs.Lives.{at_other, at_same}
pub use Rattle.jc_rows.proofs.Laws.{get-empty, get-removed_absent, get-removed_other, get-removed_same, len-empty, len-removed, same_rows}
pub use Rattle.jc_rows.specs.Rows.{RowMap}
pub use Rattle.jc_model.proofs.Members.{allowed, at_place_map, named_map}
pub use Rattle.jc_model.specs.Members.{id_named}
pub use Rattle.jc_ops.specs.Kept.{Housed, IsTied, Kept, item_of, items_of, progress_of}
pub use Rattle.jc_ops.specs.Noted.{Noted}
pub use Rattle.jc_ops.specs.Tied.{SameElsewhere, Tied}
pub use Rattle.jc_bulk.specs.Calls.{IsSuspended, WaitsOn, wait_run}
pub use Rattle.jc_bulk.specs.Waits.{Waits}
pub use Rattle.jc_engine.specs.declared.turn.EngineStep.{EngineStep}
pub use Rattle.jc_engine.specs.declared.turn.EngineStep.TheVariants.{Asked}
pub use Rattle.jc_engine.specs.declared.turn.Turn.TheVariants.{Idle, Telling, Waiting}
pub use Rattle.jc_engine.specs.declared.open.OpenRefusal.TheVariants.{IdsSpent, TooManyCaches, TotalCapacity}
pub use Rattle.jc_engine.specs.Advances.{ChangesOne, ClosedAt, FitsAt, is_open_in, of_abandon, of_start, outcome_of}
pub use Rattle.jc_engine.specs.Caches.{Cache, expiry_in, fresh_cache, fresh_from, holds_in, id_of, lives_of, names_of, status_of}
pub use Rattle.jc_engine.specs.Opening.{AreNames, MayCome, fresh_slot}
pub use Rattle.jc_engine.specs.Managed.{Slot, Abandons, FitsTurn, IsManaged, LeavesNotices, Moves, NeverTells, Settled, WaitsThere, cache_in, is_step, is_telling, step_of, tells, turn_in}
pub use Rattle.jc_engine.specs.Opening.{capacities, is_taken, names_in, open_refusal, open_refusal_for, open_refusal_from, refusal_at, refusal_from}
pub use Rattle.jc_engine.specs.Sound.{IsAt, NoneFrom, caches_in, places_of}
pub use Rattle.jc_engine.specs.Watching.{ShowsStates, expiry_at, states_of}
pub use Rattle.jc_model.specs.Refusals.{Member, refusal_beside, member_of, rows_of}
