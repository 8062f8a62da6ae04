-- The names from below and from this crate's specs that the proofs read.
pub use Rattle.jc_model.specs.declared.call.Answer.{Answer}
pub use Rattle.jc_model.specs.declared.call.KeyCall.{KeyCall}
pub use Rattle.jc_model.specs.declared.call.Reply.{Reply}
pub use Rattle.jc_model.specs.declared.call.Request.{Request}
pub use Rattle.jc_model.specs.declared.config.CacheConfig.{CacheConfig}
pub use Rattle.jc_model.specs.State.{Item, State, passed, stops_at, before_stop, from_stop, turned, row_of, with_row, is_live, after_access}
pub use Rattle.jc_model.specs.Changes.{Progress, hit, access}
pub use Rattle.jc_model.specs.Run.{Run, ended, Awaited, and_then, resume, awaited_by}
pub use Rattle.jc_model.specs.Sound.{LacksKey, HasDistinctKeys, Throughout}
pub use Rattle.jc_model.specs.Bulk.{Sum, empty_sum, with_key, ends_call, put_each, remove_each}
pub use Rattle.jc_model.specs.Step.{step}
pub use Rattle.jc_model.specs.Suspended.{KeyWait, key_run}
pub use Rattle.jc_model.specs.Whole.{after_key, each, touch_each, contents}
pub use Rattle.jc_ops.specs.Kept.{items_of, record_of, IsRow}
pub use Rattle.jc_ops.specs.Visited.{Visited, IsSameVisit, IsUnchanged, SpendsAtMost, HasPlacesIn, progress_in}
pub use Rattle.jc_ops.specs.Stepped.{StepsTo, StepWaits, IsWaiting, WaitsIn, step_run, answer_run}
pub use Rattle.jc_ops.specs.Supply.{Covers, HasRoom, adds}
pub use Rattle.jc_ops.specs.Lines.{most_told}
pub use Rattle.jc_bulk.specs.declared.bulk.Ahead.{Ahead}
pub use Rattle.jc_bulk.specs.declared.bulk.Provided.{Provided}
pub use Rattle.jc_bulk.specs.declared.call_sum.CallSum.{CallSum}
pub use Rattle.jc_bulk.specs.Calls.{WaitsOn, IsSuspendedIn, wait_run, plan_in, call_run}
pub use Rattle.jc_bulk.specs.Ahead.{IsAheadOf, AreCoveredIn, AreReady, HasRoomFrom, places_ahead, ahead_run, calls_ahead, waits_of}
pub use Rattle.jc_bulk.specs.Provided.{calls_in, keys_in, AreCovered, IsReady}
pub use Rattle.jc_bulk.specs.Tallied.{UsesRoomForOne, sum_of}
