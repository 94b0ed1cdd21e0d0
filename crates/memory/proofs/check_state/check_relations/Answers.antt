-- The relations are the first part of the words.
use Rattle.std.proofs.Common.{arith}
use mathlib.Core.Path.{◌∙◌}
use Rattle.memory.specs.Layout.{terms_of, relation_at}
use Rattle.memory.specs.Checks.{good_relations}
use Rattle.theory.specs.Fit.{Good}
use Rattle.memory.proofs.Accepted.{good}
use Rattle.memory.proofs.StateTests.{part_length, blocks_part}
use Rattle.memory.proofs.check_state.check_relations.Goals as goal

pub blocks_fit-requires : goal.blocks_fit-requires
blocks_fit-requires c =
    let g : Good (terms_of c.args.terms.now) = good _ c.requires.0 in
    (part_length c.args.edges.now 0 1024 (omega arith), omega arith, omega arith)

pub returns : goal.returns
unfolding good_relations
returns c =
    c.blocks_fit.ensures
    ∙ blocks_part c.args.edges.now 0 1024 16 relation_at (omega arith) (λ k a. omega arith) c.members.ensures.value c.relations.ensures.value
