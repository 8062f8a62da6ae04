use Rattle.std.proofs.Common.{rules, ◌≡◌, ◌-◌, ◌*◌, ◌++◌, ℕ, length, suc, take, replicate, arith, ap, ◌∙◌}
use Rattle.std.specs.Vec.{vec_len}
use Rattle.std.proofs.lemmas.List.{take_all}
use Rattle.jc_index.specs.StripeLayout.{versions_at}
use Rattle.jc_index.specs.Layout.{bucket_words, table_words}
use Rattle.jc_index.proofs.fill.blank.Goals as goal

pub returns : goal.returns
returns c =
    let words = c.in_ok-words.words in
    let versions : words.items ≡ versions_at c.args.start = search rules in
    let kept : take (table_words c.args.buckets) words.items ≡ words.items = take_all (table_words c.args.buckets) words.items (omega (arith, ap length versions)) in
    let more : table_words c.args.buckets - vec_len words ≡ suc (bucket_words * c.args.buckets) = omega (arith, c.in_ok-words.ensures.len) in
    c.in_ok-resize.ensures.items ∙ (λ i. (kept ∙ versions) i ++ replicate {A = ℕ} (more i) 0)
