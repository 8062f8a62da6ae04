use Rattle.std.proofs.Common.{inl}
use Rattle.jc_locked.proofs.Showing.{surely_met}
use Rattle.jc_shared.proofs.session.Session.contains.Goals as goal

pub returns-in-Sure-clause-told : goal.returns-in-Sure-clause-told
returns-in-Sure-clause-told g c =
    let looked = c.contains_key.ensures in
    inl
    (record {
      met = surely_met c.args.self.now.pass.met c.contains_key.new.self.pass.met c.contains_key.result c.in-Sure.holds c.in-Sure.is looked.unmet looked.met;
      stayed = looked.stays c.in-Sure.holds c.in-Sure.is;
      seen = looked.sure c.in-Sure.holds c.in-Sure.is;
    })
