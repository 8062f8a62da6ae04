use Rattle.std.proofs.Common.{map, arith}
use Rattle.jc_locked.specs.Accounts.{calls_of, own_of}
use Rattle.jc_locked.proofs.Comparing.{own_beyond, part_first, agree_from}
use Rattle.jc_locked.proofs.auditing.first_difference.Goals as goal

pub returns-in-Some-least_from : goal.returns-in-Some-least_from
returns-in-Some-least_from g c =
    let logs = map g.S.Logged.log c.args.logs.now in
    let s = c.in-Some-least_from.session in
    record {
      parts = part_first (calls_of s c.args.entries.now) (own_of s logs) c.in-Some-least_from.ensures.1 (own_beyond c.args.given logs c.requires.below s c.in-Some-least_from.ensures.0);
      least = λ n lt. agree_from c.args.given c.loop-session.session c.args.entries.now logs c.requires.below (omega (arith, c.loop-session-test.false)) c.loop-session.invariant n (λ from. c.in-Some-least_from.ensures.2 n from lt);
    }

pub returns-in-None : goal.returns-in-None
returns-in-None g c = λ n.
    agree_from c.args.given c.loop-session.session c.args.entries.now (map g.S.Logged.log c.args.logs.now) c.requires.below (omega (arith, c.loop-session-test.false)) c.loop-session.invariant n (λ from. c.in-None.ensures n from)
