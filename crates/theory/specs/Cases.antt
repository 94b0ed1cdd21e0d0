-- The marked cases of docs/SCOPE.md: one table of calls and the keeper's answers, and what is marked as holding
-- always, or with where it holds.
use Rattle.std.specs.Prelude.{ℕ, ◌-◌, ◌<◌, ◌≡◌, ◌↔◌, List, [], ◌∷◌, Bool, true, false, cond, ◌&&◌, eqb, get_or, replicate}
use Rattle.theory.specs.Formula.{Entry}
use Rattle.theory.specs.Formula.Formula.{top, var, neg, prev, since, bind, at}
use Rattle.theory.specs.Meaning.{Record, from_first, Assignment, holds}
use Rattle.theory.specs.Terms.{Terms, Effect}
use Rattle.theory.specs.Moment.{Relations, affect_all}
use Rattle.theory.specs.Keeper.{Call, Answer, keeper}
use Rattle.theory.specs.Limits.{scratch_words}
use Rattle.theory.specs.Keeper.Verdict.{grant, deny}
use Rattle.theory.specs.Keeper.Answer.{decided}

abbrev pub line : ℕ → ℕ → ℕ → Entry
line o a b = record { op = o; a = a; b = b; c = 0 }

abbrev pub reaching : (x f g : ℕ) → Entry
reaching x f g = record { op = 10; a = x; b = f; c = g }

abbrev pub counting : (l f k : ℕ) → Entry
counting l f k = record { op = 11; a = l; b = f; c = k }

abbrev pub requests : ℕ → ℕ → ℕ → Call
requests j u v = record { look = false; event = j; from = u; to = v; scratch = scratch_words }

abbrev pub looks : ℕ → ℕ → ℕ → Call
looks j u v = record { look = true; event = j; from = u; to = v; scratch = scratch_words }

abbrev pub yes : Answer
yes = decided grant

abbrev pub no : Answer
no = decided deny

-- ---- the preset terms, whole: relation 0 is own; events are 0 share, 1 withdraw, 2 load

unfoldable pub preset : Terms
preset = record {
  members = 3;
  relations = 1;
  events = 3;
  entries = 9;
  entry = λ n. get_or (
      line 1 1 0 ∷ line 4 1 0 ∷ line 4 2 0 ∷ line 2 2 0 ∷ line 7 3 1 ∷ line 5 0 4 ∷ line 9 0 5 ∷ line 8 1 6 ∷ line 0 0 0 ∷ []
      ) n (line 0 0 0);
  policy = λ j. get_or (8 ∷ 8 ∷ 7 ∷ []) j 0;
  effects = λ j. [];
  kept = λ j. false;
}

-- G 0 0 2.
unfoldable pub own : Relations
own k a b = eqb k 0 && eqb a 0 && eqb b 2

-- ---- whoever I once shared with: events are 0 share, always granted; 1 goes one such step to the target, 2 two steps

unfoldable pub circle : Terms
circle = record {
  members = 3;
  relations = 1;
  events = 3;
  entries = 7;
  entry = λ n. get_or (
      line 0 0 0 ∷ line 1 1 0 ∷ line 4 1 1 ∷ line 7 0 2 ∷ line 1 0 0 ∷ reaching 1 3 4 ∷ reaching 1 3 5 ∷ []
      ) n (line 0 0 0);
  policy = λ j. get_or (0 ∷ 5 ∷ 6 ∷ []) j 0;
  effects = λ j. [];
  kept = λ j. false;
}

-- ---- the table

-- Terms, calls from the preset's first edges, and the answers to them.
pub record Case : Type 0 where
  pub terms : Terms
  pub calls : List Call
  pub answers : List Answer

abbrev pub case : Terms → List Call → List Answer → Case
case T cs xs = record { terms = T; calls = cs; answers = xs }

-- Three members, one relation, n entries of which the first is top, two events: event 0 is always granted and has the
-- effects fs, event 1 goes by the last entry.
abbrev pub small : (n : ℕ) → List Entry → List Effect → Terms
small n es fs = record {
  members = 3;
  relations = 1;
  events = 2;
  entries = n;
  entry = λ k. get_or (line 0 0 0 ∷ es) k (line 0 0 0);
  policy = λ j. cond (eqb j 1) (n - 1) 0;
  effects = λ j. cond (eqb j 0) fs [];
  kept = λ j. false;
}

-- The same, where event 1 has the effects fs too and its denied requests are kept. Label 2 is
-- event 1, label 4 event 1 denied.
abbrev pub keeping : (n : ℕ) → List Entry → List Effect → Terms
keeping n es fs = record {
  members = 3;
  relations = 1;
  events = 2;
  entries = n;
  entry = λ k. get_or (line 0 0 0 ∷ es) k (line 0 0 0);
  policy = λ j. cond (eqb j 1) (n - 1) 0;
  effects = λ j. fs;
  kept = λ j. eqb j 1;
}

abbrev pub effect : (adds : Bool) → (relation : ℕ) → (back : Bool) → Effect
effect adds k back = record { adds = adds; relation = k; back = back }

abbrev pub adds : Effect
adds = effect true 0 false

abbrev pub dels : Effect
dels = effect false 0 false

-- Event 1 looked at for all initiators and targets.
abbrev pub everywhere : List Call
everywhere = looks 1 0 0 ∷ looks 1 0 1 ∷ looks 1 0 2 ∷ looks 1 1 0 ∷ looks 1 1 1 ∷ looks 1 1 2 ∷ looks 1 2 0 ∷ looks 1 2 1 ∷ looks 1 2 2 ∷ []

abbrev pub always : List Answer
always = replicate 9 yes

unfoldable pub cases : List Case
cases =
    -- Fresh preset terms: load 1 2 is denied.
    case preset (looks 2 1 2 ∷ []) (no ∷ [])
    -- After share 0 1: granted.
    ∷ case preset (requests 0 0 1 ∷ looks 2 1 2 ∷ []) (yes ∷ yes ∷ [])
    -- After share 0 1, withdraw 0 1: denied.
    ∷ case preset (requests 0 0 1 ∷ requests 1 0 1 ∷ looks 2 1 2 ∷ []) (yes ∷ yes ∷ no ∷ [])
    -- After share 2 1 alone: denied.
    ∷ case preset (requests 0 2 1 ∷ looks 2 1 2 ∷ []) (yes ∷ no ∷ [])
    -- prev of top fails at moment 0, and holds after one grant.
    ∷ case (small 2 (line 6 0 0 ∷ []) []) everywhere (replicate 9 no)
    ∷ case (small 2 (line 6 0 0 ∷ []) []) (requests 0 0 1 ∷ everywhere) (yes ∷ always)
    -- since(not top, top) holds at moments 0, 1 and 2.
    ∷ case (small 3 (line 2 0 0 ∷ line 7 1 0 ∷ []) []) everywhere always
    ∷ case (small 3 (line 2 0 0 ∷ line 7 1 0 ∷ []) []) (requests 0 0 1 ∷ everywhere) (yes ∷ always)
    ∷ case (small 3 (line 2 0 0 ∷ line 7 1 0 ∷ []) []) (requests 0 0 1 ∷ requests 0 1 1 ∷ everywhere) (yes ∷ yes ∷ always)
    -- var 0 holds where initiator and target are the same member.
    ∷ case (small 2 (line 1 0 0 ∷ []) []) everywhere (yes ∷ no ∷ no ∷ no ∷ yes ∷ no ∷ no ∷ no ∷ yes ∷ [])
    -- bind 1 of var 1 always holds.
    ∷ case (small 3 (line 1 1 0 ∷ line 8 1 1 ∷ []) []) everywhere always
    -- bind 1, at 0, bind 1, at 1, var 0 holds.
    ∷ case (small 6 (line 1 0 0 ∷ line 9 1 1 ∷ line 8 1 2 ∷ line 9 0 3 ∷ line 8 1 4 ∷ []) []) everywhere always
    -- Effects add then del leave the edge absent, del then add present, where it was absent before
    -- (1 to 2) and present (0 to 2).
    ∷ case (small 3 (line 1 0 0 ∷ line 4 0 1 ∷ []) (adds ∷ dels ∷ [])) (requests 0 1 2 ∷ looks 1 1 2 ∷ []) (yes ∷ no ∷ [])
    ∷ case (small 3 (line 1 0 0 ∷ line 4 0 1 ∷ []) (adds ∷ dels ∷ [])) (looks 1 0 2 ∷ requests 0 0 2 ∷ looks 1 0 2 ∷ []) (yes ∷ yes ∷ no ∷ [])
    ∷ case (small 3 (line 1 0 0 ∷ line 4 0 1 ∷ []) (dels ∷ adds ∷ [])) (looks 1 1 2 ∷ requests 0 1 2 ∷ looks 1 1 2 ∷ []) (no ∷ yes ∷ yes ∷ [])
    ∷ case (small 3 (line 1 0 0 ∷ line 4 0 1 ∷ []) (dels ∷ adds ∷ [])) (requests 0 0 2 ∷ looks 1 0 2 ∷ []) (yes ∷ yes ∷ [])
    -- Whoever I once shared with: nobody at first; after share 0 1 it is 1 for 0, and not 0 for 1.
    ∷ case circle (looks 1 0 1 ∷ requests 0 0 1 ∷ looks 1 0 1 ∷ looks 1 1 0 ∷ looks 1 0 2 ∷ []) (no ∷ yes ∷ yes ∷ no ∷ no ∷ [])
    -- After share 0 1, share 1 2 it still is; 2 is two such steps from 0, and 1 is not.
    ∷ case circle (requests 0 0 1 ∷ requests 0 1 2 ∷ looks 1 0 1 ∷ looks 1 0 2 ∷ looks 2 0 2 ∷ looks 2 0 1 ∷ []) (yes ∷ yes ∷ yes ∷ no ∷ yes ∷ no ∷ [])
    -- At least one that 0 owns: at first it is 2; member 1 owns nobody.
    ∷ case (small 2 (counting 0 0 1 ∷ []) []) (looks 1 0 1 ∷ looks 1 1 0 ∷ []) (yes ∷ no ∷ [])
    -- At least two: not before a second is added.
    ∷ case (small 2 (counting 0 0 2 ∷ []) (adds ∷ [])) (looks 1 0 1 ∷ requests 0 0 1 ∷ looks 1 0 1 ∷ []) (no ∷ yes ∷ yes ∷ [])
    -- At least three: one that is added again counts once; the member itself is a third.
    ∷ case (small 2 (counting 0 0 3 ∷ []) (adds ∷ [])) (requests 0 0 1 ∷ requests 0 0 1 ∷ looks 1 0 1 ∷ requests 0 0 0 ∷ looks 1 0 1 ∷ []) (yes ∷ yes ∷ no ∷ yes ∷ yes ∷ [])
    -- At least four of three members: never.
    ∷ case (small 2 (counting 0 0 4 ∷ []) (adds ∷ [])) (requests 0 0 1 ∷ requests 0 0 0 ∷ looks 1 0 1 ∷ []) (yes ∷ yes ∷ no ∷ [])
    -- At least one, and at least two, that are the target.
    ∷ case (small 3 (line 1 0 0 ∷ counting 0 1 1 ∷ []) (adds ∷ [])) (looks 1 0 1 ∷ requests 0 0 1 ∷ looks 1 0 1 ∷ []) (no ∷ yes ∷ yes ∷ [])
    ∷ case (small 3 (line 1 0 0 ∷ counting 0 1 2 ∷ []) (adds ∷ [])) (requests 0 0 1 ∷ looks 1 0 1 ∷ []) (yes ∷ no ∷ [])
    -- A denied request makes a moment where its event is kept, and none where it is not; a look makes none either way.
    ∷ case (small 2 (line 6 0 0 ∷ []) []) (requests 1 0 1 ∷ looks 1 0 1 ∷ []) (no ∷ no ∷ [])
    ∷ case (keeping 2 (line 6 0 0 ∷ []) []) (looks 1 0 1 ∷ looks 1 0 1 ∷ requests 1 0 1 ∷ looks 1 0 1 ∷ []) (no ∷ no ∷ no ∷ yes ∷ [])
    -- The event edge of that moment is from initiator to target under the label of event 1 denied,
    -- and not under that of event 1.
    ∷ case (keeping 3 (line 1 0 0 ∷ line 4 4 1 ∷ []) []) (requests 1 0 1 ∷ looks 1 0 1 ∷ looks 1 0 2 ∷ looks 1 1 0 ∷ []) (no ∷ yes ∷ no ∷ no ∷ [])
    ∷ case (keeping 2 (line 4 2 0 ∷ []) []) (requests 1 0 1 ∷ looks 1 0 1 ∷ []) (no ∷ no ∷ [])
    -- It has no effects.
    ∷ case (keeping 3 (line 1 0 0 ∷ line 4 0 1 ∷ []) (adds ∷ [])) (requests 1 1 2 ∷ looks 1 1 2 ∷ requests 0 1 2 ∷ looks 1 1 2 ∷ []) (no ∷ no ∷ yes ∷ yes ∷ [])
    -- At least one try ever: denied at first, then granted; a try by another counts for that one.
    ∷ case (keeping 3 (counting 4 0 1 ∷ line 7 0 1 ∷ []) []) (requests 1 0 1 ∷ requests 1 1 2 ∷ requests 0 2 2 ∷ looks 1 0 1 ∷ looks 1 1 0 ∷ looks 1 2 0 ∷ []) (no ∷ no ∷ yes ∷ yes ∷ yes ∷ no ∷ [])
    ∷ []

-- The keeper's answers to the calls of each case, and those that the table has.
unfoldable pub kept_answers : List Case → List (List Answer)
kept_answers [] = []
kept_answers (c ∷ cs) = (keeper c.terms own c.calls).0 ∷ kept_answers cs

unfoldable pub expected : List Case → List (List Answer)
expected [] = []
expected (c ∷ cs) = c.answers ∷ expected cs

-- ---- always, and where
-- The same cases at any moment of any record, at any member, under any assignment; each entry starts at moment 0.

pub record Anywhere (N : ℕ) (γ : Record) (i : ℕ) (g : Assignment) (m : ℕ) : Type 0 where
  -- prev of top: at each moment but the first.
  pub prev_top : (t : ℕ) → (holds N from_first γ (prev t top) i g m ≡ true) ↔ (0 < i)
  -- since(not top, top): at every moment.
  pub since_top : (t : ℕ) → holds N from_first γ (since t (neg top) top) i g m ≡ true
  -- var 0: at the target, and nowhere else.
  pub var_target : (holds N from_first γ (var 0) i g m ≡ true) ↔ (m ≡ g 0)
  -- bind 1 of var 1: always.
  pub bind_var : holds N from_first γ (bind 1 (var 1)) i g m ≡ true
  -- bind 1, at 0, bind 1, at 1, var 0: always.
  pub bind_again : holds N from_first γ (bind 1 (at 0 (bind 1 (at 1 (var 0))))) i g m ≡ true

-- ---- effects: the same two cases for every relation, direction and pair of ends, whatever the relations were

pub record AnyEnds (R : Relations) (k : ℕ) (back : Bool) (u v : ℕ) : Type 0 where
  -- Effects add then del leave the edge absent.
  pub add_del :
      affect_all u v (effect true k back ∷ effect false k back ∷ []) R k (cond back v u) (cond back u v) ≡ false
  -- del then add leave it present.
  pub del_add :
      affect_all u v (effect false k back ∷ effect true k back ∷ []) R k (cond back v u) (cond back u v) ≡ true
