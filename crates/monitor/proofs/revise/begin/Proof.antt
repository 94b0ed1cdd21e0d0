-- `monitor::revise::begin` meets its contract.
use borrow.Author.Rules.{rules}
use native.Mathlib.Omega.{arith}
use Prim.Native.Nat.{ℕ}
use mathlib.Core.Path.{◌≡◌, ap, ◌∙◌}
use lib.ListN.{length, replicate, length-set, length-replicate}
use Rattle.memory.specs.Layout.{own_words}
use Rattle.deciding.specs.private.Rows.{table_words}
use Rattle.deciding.proofs.Parts as parts
use Rattle.deciding.proofs.Starting as starting
use Rattle.monitor.proofs.revise.begin.Statement.{statement}
use Rattle.monitor.proofs.revise.begin.Tie as tie

-- The function's entry, from where the second own words are cleared.
abbrev start : tie.After-clear → tie.Start
start k = k.before.before.before.before.before.before.before.before.before.before

zeros : (k : tie.After-clear) → k.clear.new.words ≡ replicate own_words 0
zeros k = k.clear.ensures ∙ ap (λ (n : ℕ). replicate n 0) (start k).requires.1.2

start-tables-requires : tie.Need-start_tables-requires
start-tables-requires c κs =
    let k = c in
    let i = start k.before.before.before.before.before.before.before.before in
    let x = i.args in (
      i.requires.0,
      (
        (i.requires.1.0, i.requires.1.1, length-set k.clear.new.words table_words _ ∙ ap length (zeros k.before.before.before.before.before.before.before.before) ∙ length-replicate {A = ℕ} own_words 0, search rules),
        parts.begun_apart x.relations.now x.own.now i.requires.0.0 i.requires.1.0 (zeros k.before.before.before.before.before.before.before.before),
      ),
    )

start-shared-requires : tie.Need-start_shared-requires
start-shared-requires c κs =
    let k = c in
    let i = start k.before.before.before.before.before.before.before in
    let x = i.args in (
      i.requires.0,
      (
        (i.requires.1.0, i.requires.1.1, length-set k.clear.new.words table_words _ ∙ ap length (zeros k.before.before.before.before.before.before.before) ∙ length-replicate {A = ℕ} own_words 0, omega arith),
        parts.begun_apart x.relations.now x.own.now i.requires.0.0 i.requires.1.0 (zeros k.before.before.before.before.before.before.before),
      ),
    )

same_length : tie.Need-shape_of-second-then-are_brief
same_length c =
    let t = c in
    let k = t in
    t.start_tables.auto.second ∙ length-set k.clear.new.words table_words _ ∙ k.clear.auto.words

same-length-2 : tie.Need-shape_of-second-else-are_brief
same-length-2 c =
    let t = c in
    let k = t in
    t.start_shared.auto.second ∙ length-set k.clear.new.words table_words _ ∙ k.clear.auto.words

returns : tie.Need-returns-then-are_brief
returns c = let t = c in starting.begun_all (start t.before.before.before.before.before.before.before.before.before.before.before.before.before).requires.0.0 _ t.start_tables.ensures

returns-2 : tie.Need-returns-else-are_brief
returns-2 c = let t = c in starting.begun_all (start t.before.before.before.before.before.before.before.before.before.before.before).requires.0.0 _ t.start_shared.ensures

pub begin_spec : {M : Type 1} → statement M
begin_spec =
    tie.close
    (tie.spec
    (λ c κs. search rules)
    (λ c. search rules)
    (λ c. search rules)
    (λ c κs. search rules)
    (λ c. search rules)
    (λ c. search rules)
    start-tables-requires
    (λ c. search rules)
    start-shared-requires
    same_length
    returns
    same-length-2
    returns-2)
