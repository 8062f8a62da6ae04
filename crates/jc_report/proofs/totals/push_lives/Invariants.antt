use Rattle.std.proofs.Common.{◌≡◌, ◌++◌, drop, string_bytes}
use Rattle.jc_report.specs.Totals.{lives_json, CanBeMadeAgain}
use Rattle.jc_report.proofs.totals.push_lives.Given as goal

-- the lives so far, and then what is left, are all
abbrev pub invariant-loop-life : goal.invariant-loop-life
invariant-loop-life l = record {
  made : CanBeMadeAgain (drop l.life-index l.lives) l.entries;
  told : string_bytes l.text ++ lives_json (drop l.life-index l.lives) l.entries ≡ string_bytes l.initial.text ++ lives_json l.lives l.entries;
}
