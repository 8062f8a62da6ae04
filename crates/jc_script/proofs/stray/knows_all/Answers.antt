use Rattle.std.proofs.Common.{◌∙◌}
use Rattle.jc_script.specs.Members.{has_member}
use Rattle.jc_script.proofs.MemberPieces.{known_keys}
use Rattle.jc_script.proofs.stray.knows_all.Goals as goal

pub returns : goal.returns
returns c = c.has_known_keys.ensures ∙ known_keys (has_member c.args.op.now) c.args.members.now.entries
