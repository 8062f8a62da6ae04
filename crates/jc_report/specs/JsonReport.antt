-- The report as JSON, an object a line: the script's lines in their order, then the lives in order of id.
use Rattle.std.specs.Prelude.{ℕ, List, ◌++◌}
use Rattle.jc_model.specs.Legal.{History}
use Rattle.jc_script.specs.declared.managed.Managed.{Managed}
use Rattle.jc_report.specs.declared.line_numbers.NumberedLine.{NumberedLine}
use Rattle.jc_report.specs.Lines.{lines_json}
use Rattle.jc_report.specs.Totals.{lives_json}

-- the first life that a line creates gets this id
abbrev pub json : ℕ → List NumberedLine → History → List Managed → List ℕ
json first outline h managed = lines_json h.lives first outline h.entries managed ++ lives_json h.lives h.entries
