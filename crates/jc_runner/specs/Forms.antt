-- The forms of a report.
use Rattle.std.specs.Prelude.{◌≡◌, ℕ, List, length}
use Rattle.jc_report.specs.declared.line_numbers.NumberedLine.{NumberedLine}
use Rattle.jc_report.specs.Outline.{outline_of}
use Rattle.jc_report.specs.JsonReport.{json}
use Rattle.jc_model.specs.declared.config.CacheConfig.{CacheConfig}
use Rattle.jc_model.specs.declared.event.Entry.{Entry}
use Rattle.jc_model.specs.Legal.{History, entries_of}
use Rattle.jc_script.specs.declared.line.Line.{Line}
use Rattle.jc_script.specs.declared.managed.Managed.{Managed}
use Rattle.jc_script.specs.Managing.{lives_of_script, managed_of}
use Rattle.jc_report.specs.Report as report
use Rattle.jc_cli.specs.declared.run.Format.{Format}
use Rattle.jc_cli.specs.declared.run.Format.TheVariants as format
use Rattle.jc_runner.specs.Alone.{alone}
use Rattle.jc_runner.specs.declared.form.Form.{Form}
use Rattle.jc_runner.specs.declared.form.Form.TheVariants as form

-- as JSON the lines are told by their numbers in the script
abbrev pub form_of : Format → List ℕ → List Line → Form
form_of format.Text bytes all = form.Text
form_of format.Json bytes all = form.Json (outline_of bytes all)

-- the report of a transcript, of a manager that was opened with so many caches
abbrev pub report_in : Form → ℕ → History → List Managed → List ℕ
report_in form.Text first h managed = report.text h managed
report_in (form.Json outline) first h managed = json first outline h managed

-- these lives, and of each these entries
pub record Has (entries : ℕ → List Entry) (caches : List CacheConfig) (all : List Line) (h : History) : Type 0 where
  pub lives : h.lives ≡ lives_of_script caches all
  pub each : (id : ℕ) → entries_of id h.entries ≡ entries id

-- a text that is a report of these entries of each life as JSON; which of two lives' entries came first it does not tell
pub record IsJson (outline : List NumberedLine) (entries : ℕ → List Entry) (caches : List CacheConfig) (all : List Line) (text : List ℕ) : Type 0 where
  pub transcript : History
  pub has : Has entries caches all transcript
  pub told : text ≡ json (length caches) outline transcript (managed_of caches all)

-- a text that is the report of each life alone, in that form, by the entries of each, and of the manager's lines
abbrev pub IsToldIn : Form → (ℕ → List Entry) → List CacheConfig → List Line → List ℕ → Type 0
IsToldIn form.Text entries caches all text = text ≡ alone entries caches all
IsToldIn (form.Json outline) entries caches all text = IsJson outline entries caches all text
