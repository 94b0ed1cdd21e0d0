-- `monitor::revise::start_turn` meets its contract.
use borrow.Author.Rules.{rules}
use Prim.Native.Nat.{ℕ, ◌+◌, ◌*◌, ◌≤◌, ◌<◌}
use native.Mathlib.Omega.{arith}
use mathlib.Core.Path.{◌≡◌, sym, ap, subst, ◌∙◌}
use mathlib.Core.Bool.{true}
use mathlib.Core.List.{List, ◌++◌}
use lib.ListN.{length, get_or, take, drop, length-append}
use Rattle.theory.specs.Formula.{is_past}
use Rattle.theory.specs.Terms.{formula, first_same}
use Rattle.memory.specs.Layout.{relation_words, own_words, terms_of}
use Rattle.memory.specs.TableIndex.{index_table}
use Rattle.deciding.specs.private.Moving.{put}
use Rattle.deciding.specs.private.Starting.{Revising, Begun}
use Rattle.deciding.proofs.MomentSteps as moves
use Rattle.deciding.proofs.Parts as parts
use Rattle.deciding.proofs.Starting as starting
use Rattle.monitor.proofs.revise.start_turn.Statement.{statement}
use Rattle.monitor.proofs.revise.start_turn.Tie as tie

-- The laws of a turn, where k is the class that was looked up.
module _ {old before new index : List ℕ} (relations own : List ℕ) (r : Revising old before (relations ++ own) new index) (long : length relations ≡ relation_words)
    (n k : ℕ) (nl : n < (terms_of new).entries) (e : k ≡ first_same (terms_of old) (formula (terms_of new) n)) (p : is_past ((terms_of new).entry n).op ≡ true)
    (kl : k < (terms_of old).entries)
  where
    lower : first_same (terms_of old) (formula (terms_of new) n) < (terms_of old).entries
    lower = subst (λ (j : ℕ). j < (terms_of old).entries) e kl

    fits : 64 * index_table (get_or before k 0) + 64 ≤ length own
    fits = subst (λ (j : ℕ). 64 * index_table (get_or before j 0) + 64 ≤ length own) (sym e) (omega (arith, starting.old_fits r n nl p lower, length-append relations own, long))

    begins : {rest : List ℕ} (second : List ℕ) {second' : List ℕ} → Begun old (relations ++ own) new n rest (relations ++ second) →
        second' ≡ put (64 * index_table (get_or index n 0)) (take 64 (drop (64 * index_table (get_or before k 0)) own)) second →
        Begun old (relations ++ own) new (n + 1) rest (relations ++ second')
    begins second has q =
        starting.start_taken r n nl p lower has
        (parts.table_behind relations own long second (64 * index_table (get_or before (first_same (terms_of old) (formula (terms_of new) n)) 0)) (64 * index_table (get_or index n 0))
        (q ∙ ap (λ (j : ℕ). put (64 * index_table (get_or index n 0)) (take 64 (drop (64 * index_table (get_or before j 0)) own)) second) e))

    second_fits : {rest : List ℕ} (second : List ℕ) → Begun old (relations ++ own) new n rest (relations ++ second) → length second ≡ own_words →
        64 * index_table (get_or index n 0) + 64 ≤ length second
    second_fits second has size = subst (λ (m : ℕ). 64 * index_table (get_or index n 0) + 64 ≤ m) (sym size) (moves.own_fits (starting.begun_movable r n has) n nl p)

-- The function's entry, from where the class is known.
abbrev start : tie.After-word-k → tie.Start
start c = c.before.before.before.before.before.before.before.before.before.before.before.before

-- The class.
class : (c : tie.After-word-k) → let x = (start c).args in c.word-k.result ≡ first_same (terms_of x.old.now) (formula (terms_of x.new.now) x.n)
class c = c.word-k.ensures.0 ∙ (start c).requires.0.1.here _ (start c).requires.1.1.0.0

-- An old entry has the formula.
abbrev found : tie.Then-k-entries → tie.After-word-k
found c = c.before.before

found-lower : (c : tie.Then-k-entries) → (found c).word-k.result < (terms_of (start (found c)).args.old.now).entries
found-lower c = omega (arith, c.if-k-entries.true, c.entries.ensures.0)

-- And the entry is past-time.
abbrev looked : tie.After-is_past → tie.Then-k-entries
looked c = c.before.before

past_is : (c : tie.After-is_past) → c.is_past.result ≡ is_past ((terms_of (start (found (looked c))).args.new.now).entry (start (found (looked c))).args.n).op
past_is c = c.is_past.ensures ∙ ap is_past c.op_of.ensures.0

returns : tie.Need-returns-then-is_past
returns c =
    let k = c in
    let t = k in
    let o = t in
    let i = start (found o.before.before.before.before.before.before.before) in
    let x = i.args in
    let p = sym (past_is t.before.before.before.before.before) ∙ t.if-is_past.true in
    let r = i.requires.0.0 in
    let nl = i.requires.1.1.0.0 in
    let has = i.requires.1.1.1.0 in
    let has' = begins x.relations.now x.own.now r i.requires.1.0.0 x.n _ nl (class (found o.before.before.before.before.before.before.before)) p (found-lower o.before.before.before.before.before.before.before) x.second.now has k.take_table.ensures in
    (has', (starting.start_memo r x.n nl has has' i.requires.1.1.1.1.0 i.requires.1.1.1.1.1, i.requires.1.1.1.1.1))

returns-2 : tie.Need-returns-else-is_past
returns-2 c =
    let o = c in
    let i = start (found o.before.before.before) in
    let p = sym (past_is c.before) ∙ c.if-is_past.false in
    (starting.start_none i.requires.0.0 i.args.n i.requires.1.1.0.0 p i.requires.1.1.1.0, i.requires.1.1.1.1)

returns-3 : tie.Need-returns-else-k-entries
returns-3 c =
    let s = c in
    let o = s in
    let w = o in
    let i = start w.before.before.before.before.before.before.before.before.before.before.before.before.before.before.before in
    let le : (terms_of i.args.old.now).entries ≤ w.word-k.result = omega (arith, o.if-k-entries.false, o.entries.ensures.0) in (
      starting.start_anew i.requires.0.0 i.args.n i.requires.1.1.0.0
          (subst (λ (j : ℕ). (terms_of i.args.old.now).entries ≤ j) (class w.before.before.before.before.before.before.before.before.before.before.before.before.before.before.before) le) i.requires.1.1.1.0 s.since_turn.ensures.0,
      s.since_turn.ensures.1,
    )

take-table-requires : tie.Need-take_table-requires
take-table-requires c κs =
    let t = c in
    let o = t in
    let i = start (found o.before.before.before.before) in
    let x = i.args in
    let p = sym (past_is t.before.before) ∙ t.if-is_past.true in (
      fits x.relations.now x.own.now i.requires.0.0 i.requires.1.0.0 x.n _ i.requires.1.1.0.0 (class (found o.before.before.before.before)) p (found-lower o.before.before.before.before),
      second_fits x.relations.now x.own.now i.requires.0.0 i.requires.1.0.0 x.n _ i.requires.1.1.0.0 (class (found o.before.before.before.before)) p (found-lower o.before.before.before.before)
          x.second.now i.requires.1.1.1.0 i.requires.1.0.2,
    )

since-turn-requires : tie.Need-since_turn-requires
since-turn-requires c κs =
    let i = c in
    ((starting.begun_movable i.requires.0.0 i.args.n i.requires.1.1.1.0, i.requires.1.0.0, i.requires.1.0.2), (i.requires.1.1.0, i.requires.1.1.1.1))

pub start_turn_spec : {M : Type 1} → statement M
start_turn_spec =
    tie.close
    (tie.spec
    (λ c κs. search rules)
    (λ c κs. search rules)
    (λ c κs. search rules)
    (λ c κs. search rules)
    take-table-requires
    since-turn-requires
    (λ c. search rules)
    returns
    returns-2
    (λ c. search rules)
    (λ c. search rules)
    (λ c. search rules)
    (λ c. search rules)
    returns-3)
