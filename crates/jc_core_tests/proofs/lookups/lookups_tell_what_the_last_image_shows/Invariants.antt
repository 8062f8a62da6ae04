use Rattle.jc_core_tests.proofs.lookups.lookups_tell_what_the_last_image_shows.Given as goal

abbrev pub ghosts-first_other_named : goal.ghosts-first_other_named
ghosts-first_other_named g a = record { name = a.words.name }
