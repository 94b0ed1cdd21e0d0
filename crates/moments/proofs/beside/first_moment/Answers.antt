use Rattle.std.proofs.Common.{◌≡◌, ◌≤◌, List, [], ◌++◌, ℕ, true, length, take, drop, replicate, refl, ap}
use mathlib.Core.Path.{◌∙◌}
use mathlib.Core.List.{append-nil}
use lib.ListN.{length-replicate}
use lib.Seq.{length-take-le, take_at}
use borrow.Rule.Slice.PartMut.{put_mid}
use Rattle.theory.specs.Tables.{opening}
use Rattle.memory.specs.Layout.{terms_words, relation_words, own_words, terms_of, state_of, words_of}
use Rattle.memory.specs.Checks.{good_memory, good_relations}
use Rattle.memory.specs.TableIndex.{Indexed}
use Rattle.deciding.specs.private.Moving.{Movable, Becomes, since_moved}
use Rattle.deciding.proofs.Parts.{cleared_apart, opened_apart}
use Rattle.moments.proofs.beside.first_moment.Goals as goal

-- The relations of a bank, and its own words, that are cleared.
module _ (terms index relations own zs : List ℕ) (lr : relation_words ≤ length relations) (lo : own_words ≤ length own) (g : good_relations (terms_of terms) relations ≡ true)
    (cleared : zs ≡ replicate (length (take own_words own)) 0) where
  zeros : zs ≡ replicate own_words 0
  zeros = cleared ∙ ap (λ (n : ℕ). replicate n 0) (length-take-le own_words own lo)

  zeros-long : length zs ≡ own_words
  zeros-long = ap length zeros ∙ length-replicate {A = ℕ} own_words 0

  lent : take own_words (put_mid 0 own_words own zs) ≡ zs
  lent = take_at zs (drop own_words own) own_words zeros-long

  lent-long : length (take own_words (put_mid 0 own_words own zs)) ≡ own_words
  lent-long = ap length lent ∙ zeros-long

  ready : terms_words ≤ length terms → good_memory terms ≡ true → Indexed (terms_of terms) index →
      Movable terms index (take relation_words relations ++ take own_words (put_mid 0 own_words own zs))
  ready l m i = record { long_terms = l; good = m; indexed = i; state = _; rest = []; has = cleared_apart (terms_of terms) relations lr g (lent ∙ zeros) }

  -- The words at moment 0.
  opened : (o : List ℕ) → length o ≡ length (take own_words (put_mid 0 own_words own zs)) →
      Becomes terms since_moved (take relation_words relations ++ take own_words (put_mid 0 own_words own zs)) (take relation_words relations ++ o) →
      take relation_words relations ++ put_mid 0 own_words (put_mid 0 own_words own zs) o
      ≡ words_of (terms_of terms) (opening (terms_of terms) (state_of relations).now.edge) ++ drop own_words own
  unfolding opening
  opened o long moved =
      opened_apart (take relation_words relations) own zs o zeros-long (long ∙ lent-long)
      ((moved.each _ [] (cleared_apart (terms_of terms) relations lr g (lent ∙ zeros))).words ∙ append-nil (words_of (terms_of terms) (opening (terms_of terms) (state_of relations).now.edge)))

pub move_since-requires : goal.move_since-requires
move_since-requires c =
    let x = c.args in
    let t = c.requires.terms_words_in_bounds in
    let l = c.requires.relation_words_in_bounds in
    let zs = c.clear.new.words in
    (ready x.terms.now x.index.now x.relations.now x.own.now zs l.0 l.1 l.2 c.clear.ensures t.0 t.1 t.2, length-take-le relation_words x.relations.now l.0, lent-long x.terms.now x.index.now x.relations.now x.own.now zs l.0 l.1 l.2 c.clear.ensures, refl)

pub open_shared-requires : goal.open_shared-requires
open_shared-requires c =
    let x = c.args in
    let t = c.requires.terms_words_in_bounds in
    let l = c.requires.relation_words_in_bounds in
    let zs = c.clear.new.words in
    (ready x.terms.now x.index.now x.relations.now x.own.now zs l.0 l.1 l.2 c.clear.ensures t.0 t.1 t.2, length-take-le relation_words x.relations.now l.0, lent-long x.terms.now x.index.now x.relations.now x.own.now zs l.0 l.1 l.2 c.clear.ensures, refl)

pub returns-then-are_brief : goal.returns-then-are_brief
returns-then-are_brief c =
    let x = c.args in
    let l = c.requires.relation_words_in_bounds in
    opened x.terms.now x.index.now x.relations.now x.own.now c.clear.new.words l.0 l.1 l.2 c.clear.ensures c.move_since.new.own c.move_since.auto.own c.move_since.ensures

pub returns-else-are_brief : goal.returns-else-are_brief
returns-else-are_brief c =
    let x = c.args in
    let l = c.requires.relation_words_in_bounds in
    opened x.terms.now x.index.now x.relations.now x.own.now c.clear.new.words l.0 l.1 l.2 c.clear.ensures c.open_shared.new.own c.open_shared.auto.own c.open_shared.ensures
