-- The table of a replay as JSON.
use Rattle.std.specs.Prelude.{ℕ, ◌/◌, ◌%◌, ◌-◌, ◌==◌, if◌then◌else◌, List, ◌++◌, Result, Ok, Err, codes, decimal}
use Rattle.std.specs.List.{flat_map}
use Rattle.jc_replay.specs.declared.fault.ReplayFault.{ReplayFault}
use Rattle.jc_replay.specs.declared.ratio.HitRatio.{HitRatio}
use Rattle.jc_replay.specs.Hits.{replay_ratios}
use Rattle.jc_replay.specs.Table.{hundredths}

-- so many ten thousandths, with four decimals
abbrev pub four_decimals : ℕ → List ℕ
four_decimals n =
    decimal (n / 10000) ++ (codes "." ++ (decimal (n / 1000 % 10) ++ (decimal (n / 100 % 10) ++ (decimal (n / 10 % 10) ++ decimal (n % 10)))))

-- hits by lookups, rounded down; of no lookups none
abbrev pub ratio_text : HitRatio → List ℕ
ratio_text r = if r.lookups == 0 then codes "null" else four_decimals (hundredths r)

abbrev pub in_braces : List ℕ → List ℕ
in_braces row = codes "{" ++ (row ++ (codes "}" ++ codes "\n"))

abbrev pub row_text : HitRatio → ℕ → List ℕ → List ℕ
row_text r misses hit_ratio =
    codes "\"capacity\":" ++ (decimal r.capacity ++ (codes ",\"lookups\":" ++ (decimal r.lookups ++ (codes ",\"hits\":" ++ (decimal r.hits ++
    (codes ",\"misses\":" ++ (decimal misses ++ (codes ",\"hit_ratio\":" ++ hit_ratio))))))))

abbrev pub json_line : HitRatio → List ℕ
json_line r = in_braces (row_text r (r.lookups - r.hits) (ratio_text r))

abbrev pub json_table : List HitRatio → List ℕ
json_table ratios = flat_map json_line ratios

-- the table of what was counted
abbrev pub as_json : Result (List HitRatio) ReplayFault → Result (List ℕ) ReplayFault
as_json (Ok ratios) = Ok (json_table ratios)
as_json (Err fault) = Err fault

abbrev pub replay_json : List ℕ → List ℕ → Result (List ℕ) ReplayFault
replay_json trace capacities = as_json (replay_ratios trace capacities)
