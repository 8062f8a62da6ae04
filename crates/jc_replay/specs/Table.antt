-- The table of a replay.
use Rattle.std.specs.Prelude.{ℕ, ◌*◌, ◌/◌, ◌%◌, max, List, ◌++◌, Result, Ok, Err, codes, decimal}
use Rattle.std.specs.List.{flat_map}
use Rattle.jc_replay.specs.declared.fault.ReplayFault.{ReplayFault}
use Rattle.jc_replay.specs.declared.ratio.HitRatio.{HitRatio}
use Rattle.jc_replay.specs.Hits.{replay_ratios}

abbrev pub number_cell : ℕ → List ℕ
number_cell n = decimal n ++ codes " "

-- hundredths of a percent, rounded down; of no lookups 0
abbrev pub hundredths : HitRatio → ℕ
hundredths r = r.hits * 10000 / max r.lookups 1

-- percent with two decimals
abbrev pub percent_text : ℕ → List ℕ
percent_text n = decimal (n / 100) ++ codes "." ++ decimal (n / 10 % 10) ++ decimal (n % 10)

abbrev pub line_text : HitRatio → List ℕ
line_text r = number_cell r.capacity ++ number_cell r.lookups ++ number_cell r.hits ++ percent_text (hundredths r) ++ codes "\n"

abbrev pub table_text : List HitRatio → List ℕ
table_text ratios = codes "capacity lookups hits percent\n" ++ flat_map line_text ratios

-- the table of what was counted
abbrev pub as_table : Result (List HitRatio) ReplayFault → Result (List ℕ) ReplayFault
as_table (Ok ratios) = Ok (table_text ratios)
as_table (Err fault) = Err fault

abbrev pub replay_table : List ℕ → List ℕ → Result (List ℕ) ReplayFault
replay_table trace capacities = as_table (replay_ratios trace capacities)
