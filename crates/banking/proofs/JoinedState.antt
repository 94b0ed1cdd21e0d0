-- A bank's state out of the relations and its own words, and back.
use Prim.Native.Nat.{ℕ, ◌+◌, ◌/◌, ◌%◌, ◌≤◌, ◌<◌}
use native.Mathlib.Omega.{arith}
use mathlib.Core.Path.{◌≡◌, sym, ap, ap₂, subst, fun_ext, ◌∙◌}
use mathlib.Core.Bool.{true, cond}
use mathlib.Core.List.{List, [], ◌++◌, append-nil}
use lib.Dec.{ltb}
use lib.ListN.{length, get_or, take, drop, length-append, length-drop, take-append-drop, drop_of_length-le, get_or-append}
use lib.Seq.{ext_get_or, get_or-take, length-take-le, take_at, drop_at}
use borrow.Author.Tests.{lt-ltb, ltb-true}
use Rattle.sets.specs.Sets.{bit}
use Rattle.sets.proofs.Finite.{and_under, all_cong}
use Rattle.theory.specs.Terms.{Terms}
use Rattle.theory.specs.Moment.{Relations}
use Rattle.theory.specs.Tables.{State}
use Rattle.memory.specs.Layout.{state_words, relation_words, block_words, relation_at, state_of, row, word_at, words_of, own_words, joined}
use Rattle.memory.specs.Checks.{fits, good_relations}
use Rattle.memory.proofs.Row.{get_d_tabulate}
use Rattle.memory.proofs.Words.{length_words, word_relation, relation-words}

pub joined_long : (relations own : List ℕ) → relation_words ≤ length relations → own_words ≤ length own → length (joined relations own) ≡ state_words
joined_long relations own r o =
    length-append (take relation_words relations) (take own_words own) ∙ ap₂ ◌+◌ (length-take-le relation_words relations r) (length-take-le own_words own o)

-- The words of a state, apart and joined again, where further words stand behind each part; and where the relations
-- stay.
pub joined_back : (w x y u : List ℕ) → length w ≡ state_words → take relation_words x ≡ take relation_words w →
    joined (take relation_words x ++ y) (drop relation_words w ++ u) ≡ w
joined_back w x y u long e =
    ap₂ ◌++◌
    (ap (λ (l : List ℕ). take relation_words (l ++ y)) e ∙ take_at (take relation_words w) y relation_words (length-take-le relation_words w (omega arith)))
    (take_at (drop relation_words w) u own_words (length-drop relation_words w ∙ omega arith))
    ∙ take-append-drop relation_words w

pub joined_kept : (w r u : List ℕ) → length w ≡ state_words → take relation_words r ≡ take relation_words w → joined r (drop relation_words w ++ u) ≡ w
joined_kept w r u long e =
    ap₂ ◌++◌ e (take_at (drop relation_words w) u own_words (length-drop relation_words w ∙ omega arith)) ∙ take-append-drop relation_words w

-- The words of the relations go by the edges alone.
pub relations_alike : (T : Terms) (S S' : State) → S.now.edge ≡ S'.now.edge → take relation_words (words_of T S) ≡ take relation_words (words_of T S')
unfolding words_of word_at
relations_alike T S S' e =
    ext_get_or 0 (take relation_words (words_of T S)) (take relation_words (words_of T S'))
    (size S ∙ sym (size S'))
    (λ i l. let il : i < relation_words = subst (λ (n : ℕ). i < n) (size S) l in
    word S i il ∙ ap (λ (R : Relations). cond (ltb (i / block_words) T.relations) (row T.members (R (i / block_words)) (i % block_words)) 0) e ∙ sym (word S' i il))
  where
    size : (X : State) → length (take relation_words (words_of T X)) ≡ relation_words
    size X = length-take-le relation_words (words_of T X) (omega (arith, length_words T X))

    word : (X : State) (i : ℕ) → i < relation_words →
        get_or (take relation_words (words_of T X)) i 0 ≡ cond (ltb (i / block_words) T.relations) (row T.members (X.now.edge (i / block_words)) (i % block_words)) 0
    word X i l =
        get_or-take relation_words (words_of T X) i 0 l ∙ get_d_tabulate state_words (word_at T X) i (omega arith) ∙ rw (lt-ltb i relation_words l)

pub nothing_further : (m : List ℕ) → length m ≡ state_words → drop state_words m ≡ []
nothing_further m l = drop_of_length-le m {i = state_words} (omega arith)

pub words_alone : (w m : List ℕ) → length m ≡ state_words → w ++ drop state_words m ≡ w
words_alone w m l = ap (λ (x : List ℕ). w ++ x) (nothing_further m l) ∙ append-nil w

-- A part replaced before further words: its length and what is behind.
pub part_long : (x l : List ℕ) (n : ℕ) → length x ≡ n → n ≤ length l → length (x ++ drop n l) ≡ length l
part_long x l n e h = length-append x (drop n l) ∙ omega (arith, e, length-drop n l)

pub part_further : (x l : List ℕ) (n : ℕ) → length x ≡ n → drop n (x ++ drop n l) ≡ drop n l
part_further x l n e = drop_at x (drop n l) n e

pub front_long : (w : List ℕ) → length w ≡ state_words → length (take relation_words w) ≡ relation_words
front_long w e = length-take-le relation_words w (omega (arith, e))

pub back_long : (w : List ℕ) → length w ≡ state_words → length (drop relation_words w) ≡ own_words
back_long w e = length-drop relation_words w ∙ omega (arith, e)

-- ---- the relations that stand there

word_joined : (r o : List ℕ) → relation_words ≤ length r → (i : ℕ) → i < relation_words → get_or (joined r o) i 0 ≡ get_or r i 0
word_joined r o l i h =
    get_or-append (take relation_words r) (take own_words o) 0 i (omega (arith, length-take-le relation_words r l)) ∙ get_or-take relation_words r i 0 h

pub edges_joined : (r o : List ℕ) → relation_words ≤ length r → (state_of (joined r o)).now.edge ≡ (state_of r).now.edge
unfolding state_of
edges_joined r o l = fun_ext (λ k. fun_ext (λ a. fun_ext (λ b.
    and_under (ltb k 16) _ _ (λ kl. and_under (ltb a 64) _ _ (λ al.
    ap (λ (x : ℕ). bit x b) (word_joined r o l (relation_at k a) (let p = ltb-true k 16 kl in let q = ltb-true a 64 al in omega arith)))))))

pub good_joined : (T : Terms) (r o : List ℕ) → relation_words ≤ length r → good_relations T (joined r o) ≡ good_relations T r
unfolding good_relations
good_joined T r o l =
    all_cong 16 (λ k kl. all_cong 64 (λ a al. ap (fits T.members (ltb k T.relations) a) (word_joined r o l (relation_at k a) (omega arith))))

-- Relations that keep the layout are the words of a state that has them.
pub relations_words : (T : Terms) (r : List ℕ) → relation_words ≤ length r → good_relations T r ≡ true → (S : State) → S.now.edge ≡ (state_of r).now.edge →
    take relation_words r ≡ take relation_words (words_of T S)
relations_words T r l g S e =
    ext_get_or 0 (take relation_words r) (take relation_words (words_of T S)) (size ∙ sym size')
    (λ i h. let il : i < relation_words = subst (λ (n : ℕ). i < n) size h in
    get_or-take relation_words r i 0 il ∙ here i il ∙ sym (get_or-take relation_words (words_of T S) i 0 il))
  where
    size : length (take relation_words r) ≡ relation_words
    size = length-take-le relation_words r l

    size' : length (take relation_words (words_of T S)) ≡ relation_words
    size' = length-take-le relation_words (words_of T S) (omega (arith, length_words T S))

    here : (i : ℕ) → i < relation_words → get_or r i 0 ≡ get_or (words_of T S) i 0
    here i il =
        let k : ℕ = i / 64 in
        let a : ℕ = i % 64 in
        let kl : k < 16 = omega arith in
        let al : a < 64 = omega arith in
        let split : relation_at k a ≡ i = omega arith in
        subst (λ (n : ℕ). get_or r n 0 ≡ get_or (words_of T S) n 0) split
        (relation-words T r g k a kl al
        ∙ ap (λ (R : Relations). cond (ltb k T.relations) (row T.members (R k) a) 0) (sym e)
        ∙ sym (word_relation T S k a kl al))
