-- Readers among tables that follow one another.
use Rattle.jc_index.specs.Seats.{HasSameTable, IsShared, StripesSeat}
use Rattle.jc_index.specs.declared.keeper.Keeper.{Keeper}
use Rattle.jc_index.specs.declared.member.Member.{Member}
use Rattle.jc_index.specs.declared.writer.StripeWriter.{StripeWriter}

-- it follows this keeper, and has just met this writer
abbrev pub IsMemberOf : {L : Type 0} → Keeper (StripesSeat L) → StripeWriter L → Member L → Type 0
IsMemberOf keeper writer member =
    HasSameTable keeper.seat member.follower.seat × IsShared writer.seat member.reader.seat × HasSameTable writer.seat member.reader.seat
