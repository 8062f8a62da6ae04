-- The names of other crates and of this crate's specs that many proofs need.
pub use Rattle.std.proofs.Common.{◌≡◌, ℕ, arith, Bool, true, false, List, ◌<◌, ◌≤◌, ◌+◌, if◌then◌else◌, [], sym, ◌∙◌, ap, subst, refl, rules}
pub use Rattle.std.proofs.lemmas.Grind.{common_steps}
pub use Rattle.std.specs.Prelude.{Option, Some, None, is_some}
pub use Rattle.jc_model.specs.declared.call.Answer.{Answer}
pub use Rattle.jc_model.specs.declared.call.KeyCall.{KeyCall}
pub use Rattle.jc_model.specs.declared.call.Op.{Op}
pub use Rattle.jc_model.specs.declared.call.Request.{Request}
pub use Rattle.jc_model.specs.declared.config.CacheConfig.{CacheConfig}
pub use Rattle.jc_model.specs.declared.table.Change.TheVariants.{Put}
pub use Rattle.jc_model.specs.declared.table.TableLine.{TableLine}
pub use Rattle.jc_model.specs.Changes.{Progress, find_row, purge, removal}
pub use Rattle.jc_model.specs.Run.{Run, waiting, resume, is_written, loaded_by, verdict_of, ended}
pub use Rattle.jc_model.specs.State.{Item, row_of}
pub use Rattle.jc_model.specs.Step.{live_in, ended_by, step}
pub use Rattle.jc_model.specs.Suspended.{KeyWait, key_run}
pub use Rattle.jc_model.specs.Table.{value_of, absent_line}
pub use Rattle.jc_ops.specs.Kept.{Kept, items_of, FoundRow}
pub use Rattle.jc_ops.specs.Noted.{HasPlaces}
pub use Rattle.jc_ops.specs.Visited.{Visited, SpendsAtMost, progress_in, has_live_in}
pub use Rattle.jc_ops.specs.Given.{given_by, loaded_in, verdict_in}
pub use Rattle.jc_ops.specs.Lines.{asks_writer, is_shown, line_at, is_invoke, shows, told_of, told_on, first_request, told_by, most_told}
pub use Rattle.jc_ops.specs.Stepped.{StepWaits, IsWaiting, WaitsIn, waits_first, step_run, answer_run}
pub use Rattle.jc_ops.specs.Verdicts.{stores_by, hands_by, verdict_line, act_on, judged_on}
