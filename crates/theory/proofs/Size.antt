-- Terms of the same size: the numbers of members, relations and events agree.
use mathlib.Core.Path.{◌≡◌}
use mathlib.Core.Bool.{true, ◌&&◌}
use lib.Dec.{eqb}
use borrow.Author.Tests.{eqb-true}
use Rattle.sets.proofs.Finite.{and_left, and_right}
use Rattle.theory.specs.Terms.{Terms, same_size}

module _ (T U : Terms) (z : same_size T U ≡ true) where
  pub same_members : T.members ≡ U.members
  same_members = eqb-true T.members U.members (and_left (eqb T.members U.members) _ z)

  rest_same : eqb T.relations U.relations && eqb T.events U.events ≡ true
  rest_same = and_right (eqb T.members U.members) _ z

  pub same_relations : T.relations ≡ U.relations
  same_relations = eqb-true T.relations U.relations (and_left (eqb T.relations U.relations) _ rest_same)

  pub same_events : T.events ≡ U.events
  same_events = eqb-true T.events U.events (and_right (eqb T.relations U.relations) _ rest_same)
