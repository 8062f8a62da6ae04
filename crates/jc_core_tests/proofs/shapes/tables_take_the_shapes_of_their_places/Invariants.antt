use Rattle.jc_core_tests.proofs.shapes.tables_take_the_shapes_of_their_places.Given as goal

abbrev pub ghosts-filled_in_words : goal.ghosts-filled_in_words
ghosts-filled_in_words g a = record { name = a.words.name }
