use Rattle.jc_locked.specs.Stated.{stated_by_hand}
use Rattle.jc_core_tests.proofs.by_hand.observe.Given as goal

abbrev pub ghosts-named-A-Name : goal.ghosts-named-A-Name
ghosts-named-A-Name g a = record {
  configs = a.twins.left.configs;
  stated = stated_by_hand a.twins.left.shared;
  index = a.twins.left.index;
}

abbrev pub ghosts-named-B-Name : goal.ghosts-named-B-Name
ghosts-named-B-Name g a = record {
  configs = a.twins.right.configs;
  stated = stated_by_hand a.twins.right.shared;
  index = a.twins.right.index;
}
