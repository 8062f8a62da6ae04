-- Tables that follow one another.
use Rattle.std.specs.Prelude.{◌≡◌, List, map, take, length, All}
use Rattle.atomic_table.specs.Seated.{TableId}
use Rattle.atomic_table.specs.declared.shared.Seat.{Seat}
use Rattle.jc_index.specs.declared.board.View.{View}
use Rattle.jc_index.specs.declared.writer.Retired.{Retired}
use Rattle.jc_index.specs.Stripes.{Front}

-- the tables of these seats
abbrev pub tables : {L : Type 0} → List (Seat (Unit {0}) (View L)) → List TableId
tables seats = map (λ s. s.table_id) seats

-- the table and the front of each writer
abbrev pub outgrown : {L : Type 0} → List (Retired L) → List (TableId × Front)
outgrown writers = map (λ w. (w.seat.table_id, w.seat.me.0.front)) writers

-- their tables
abbrev pub outgrown_tables : {L : Type 0} → List (Retired L) → List TableId
outgrown_tables writers = map (λ p. p.0) (outgrown writers)

-- its front begins this one
abbrev pub IsEarlier : Front → TableId × Front → Type 0
IsEarlier front p = take (length p.1) front ≡ p.1

-- and so do all of theirs
abbrev pub AreEarlier : {L : Type 0} → Front → List (Retired L) → Type 0
AreEarlier front writers = All (IsEarlier front) (outgrown writers)
