use Rattle.jc_core_tests.proofs.wearing.a_version_that_is_worn_out_leaves_its_stripe_unsure.Given as goal

abbrev pub ghosts-first_other : goal.ghosts-first_other
ghosts-first_other g a = record { name = a.words.name }
