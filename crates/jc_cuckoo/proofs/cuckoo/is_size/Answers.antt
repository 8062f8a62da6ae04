use Rattle.std.proofs.Common.{sym, ◌∙◌, arith}
use Rattle.jc_place.proofs.Other.{size_most}
use Rattle.jc_cuckoo.proofs.Size.{sized, size_power, size_least}
use Rattle.jc_cuckoo.proofs.cuckoo.is_size.Goals as goal

pub returns-then-buckets-lt2-clause-none : goal.returns-then-buckets-lt2-clause-none
returns-then-buckets-lt2-clause-none c = λ t size. (let least = size_least c.args.buckets size in omega arith)

pub returns-then-buckets-gt-MOST_BUCKETS-clause-none : goal.returns-then-buckets-gt-MOST_BUCKETS-clause-none
returns-then-buckets-gt-MOST_BUCKETS-clause-none c = λ t size. (let most = size_most c.args.buckets size in omega arith)

pub returns-clause-size : goal.returns-clause-size
returns-clause-size c = λ t. sized c.args.buckets (sym c.is_power_of_two.ensures ∙ t) c.if-buckets-lt2.false c.if-buckets-gt-MOST_BUCKETS.false

pub returns-clause-none : goal.returns-clause-none
returns-clause-none c = λ t size. (let power = sym c.is_power_of_two.ensures ∙ t in let is = size_power c.args.buckets size in cc)
