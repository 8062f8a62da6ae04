-- The words of the manager's contracts that a program of one's own may cite.
pub use Rattle.jc_model.specs.Run.{is_answer_to}
pub use Rattle.jc_model.specs.Runs.{answer_to, lives_after}
