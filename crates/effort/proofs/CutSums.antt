-- Products that are cut, the sets of variables, and one turn of each loop.
use Prim.Native.Nat.{ℕ, ◌+◌, ◌-◌, ◌*◌, ◌^◌, ◌<◌, ◌≤◌}
use native.Mathlib.Nat.{mul-le-mul}
use native.Mathlib.Numerals.{add-one}
use native.Mathlib.Omega.{arith}
use mathlib.Core.Path.{◌≡◌, refl, sym, ap, ap₂, ◌∙◌}
use mathlib.Core.Bool.{Bool, true, false, cond, ◌&&◌}
use mathlib.Core.List.{List}
use lib.Dec.{eqb, ltb}
use lib.ListN.{get_or, set}
use borrow.Author.Tests.{lt-ltb, le-ltb, ltb-false}
use Rattle.sets.specs.Sets.{bit, pack}
use Rattle.sets.proofs.Pack.{pack_bit, pack_cong}
use Rattle.theory.specs.Formula.{Entry, Operand, first_operand, second_operand, third_operand, is_past}
use Rattle.theory.specs.Limits.{max_entries}
use Rattle.theory.specs.Terms.{Terms}
use Rattle.memory.specs.Layout.{terms_of}
use Rattle.memory.specs.TableIndex.{in_free}
use Rattle.effort.specs.Effort.{smaller, most, cut, set_of, sets_of, is_one, rows_of, calls_of, asked_of, more, more_if, is_entry, more_of, policies, Count, rows_at, calls_after, asked_after, turn, count_after, total, memo_rows, brief, effort}

pub cut_le : (x : ℕ) → cut x ≤ most
unfolding smaller
cut_le x = go (ltb most x) refl
  where
    go : (b : Bool) → ltb most x ≡ b → cond b most x ≤ most
    go true e = omega arith
    go false e = ltb-false most x e

-- A product of members and a number that is cut fits a word.
pub product_fits : (n x : ℕ) → n < 65536 → x ≤ most → n * x < 2 ^ 64
product_fits n x l m = let few : n ≤ 65535 = omega arith in let p = mul-le-mul few m in omega arith

-- A set by its bits.
pub set_is : (s op a f g h : ℕ) → s < 2 ^ 64 → ((x : ℕ) → bit s x ≡ in_free op a f g h x) → set_of op a f g h ≡ cond (is_past op && eqb s 0) 1 s
unfolding set_of
set_is s op a f g h l e = let q : s ≡ pack 64 (in_free op a f g h) = sym (pack_bit 64 s l) ∙ pack_cong 64 (λ b _. e b) in rw (← q)

-- ---- a turn of each loop

pub one_policy : (T : Terms) (n k : ℕ) (w v : List ℕ) → w ≡ policies T n → k ≡ T.policy n → v ≡ more k 1 w → v ≡ policies T (n + 1)
unfolding policies
one_policy T n k w v e p q = q ∙ ap₂ (λ (i : ℕ) (u : List ℕ). more i 1 u) p e ∙ ap (policies T) (sym (add-one n))

pub one_set : (T : Terms) (n : ℕ) (w : List ℕ) (op a f g h s : ℕ) → w ≡ sets_of T n → op ≡ (T.entry n).op → a ≡ (T.entry n).a → f ≡ get_or w a 0 →
    g ≡ get_or w (T.entry n).b 0 → h ≡ get_or w (T.entry n).c 0 → s ≡ set_of op a f g h → set w n s ≡ sets_of T (n + 1)
unfolding sets_of
one_set T n w op a f g h s e eo ea ef eg eh es = rw (add-one n, ← e, ← eo, ← ea, es, ef, eg, eh)

pub to_operands : (e : Entry) (op a b c x : ℕ) (k l m : Operand) (p q r : Bool) (w w₁ w₂ w₃ : List ℕ) → op ≡ e.op → a ≡ e.a → b ≡ e.b → c ≡ e.c →
    k ≡ first_operand op → l ≡ second_operand op → m ≡ third_operand op → p ≡ is_entry k → q ≡ is_entry l → r ≡ is_entry m →
    w₁ ≡ more_if p a x w → w₂ ≡ more_if q b x w₁ → w₃ ≡ more_if r c x w₂ → w₃ ≡ more_of e x w
unfolding more_of
to_operands e op a b c x k l m p q r w w₁ w₂ w₃ eo ea eb ec ek el em ep eq er e₁ e₂ e₃ =
    rw (e₃, e₂, e₁, ep, eq, er, ek, el, em, eo, ea, eb, ec)

abbrev pub counted : (calls asked : List ℕ) → (rows : ℕ) → Count
counted calls asked rows = record { calls = calls; asked = asked; rows = rows }

module _ (T : Terms) (sets : List ℕ) (limit : ℕ) where
  pub turned : (calls asked calls' asked' : List ℕ) (p n op q rows k works x y : ℕ) (one : Bool) → n ≡ T.members → op ≡ (T.entry p).op → one ≡ is_one sets p →
      q ≡ get_or asked p 0 → rows ≡ rows_of op one q limit → k ≡ get_or calls p 0 → works ≡ smaller k rows → x ≡ calls_of n op one works rows →
      y ≡ asked_of n op one works rows → calls' ≡ more_of (T.entry p) x calls → asked' ≡ more_of (T.entry p) y asked →
      (rows ≡ rows_at T sets limit asked p) × (calls' ≡ calls_after T sets limit calls asked p) × (asked' ≡ asked_after T sets limit calls asked p)
  turned calls asked calls' asked' p n op q rows k works x y one en eo e₁ eq er ek ew ex ey ec ea =
      (rw (er, eq, e₁, eo), rw (ec, ex, ew, ek, er, eq, e₁, eo, en), rw (ea, ey, ew, ek, er, eq, e₁, eo, en))

  pub no_turn : (calls asked : List ℕ) → calls ≡ policies T T.events → asked ≡ policies T T.events → counted calls asked 0 ≡ count_after T sets limit 0
  unfolding count_after
  no_turn calls asked ec ea = ap₂ (λ (x y : List ℕ). counted x y 0) ec ea

  pub one_turn : (i p rows rows' r : ℕ) (calls asked calls' asked' : List ℕ) → counted calls asked rows ≡ count_after T sets limit i → p ≡ T.entries - (i + 1) →
      r ≡ rows_at T sets limit asked p → calls' ≡ calls_after T sets limit calls asked p → asked' ≡ asked_after T sets limit calls asked p →
      rows' ≡ cut (rows + r) → counted calls' asked' rows' ≡ count_after T sets limit (i + 1)
  unfolding count_after
  one_turn i p rows rows' r calls asked calls' asked' e q er ec ea ew =
      let t : counted calls' asked' rows' ≡ turn T sets limit (counted calls asked rows) p = (rw (ec, ea, ew, er)) in
      t
      ∙ ap₂ (λ (k : Count) (j : ℕ). turn T sets limit k j) e (q ∙ ap (λ (j : ℕ). T.entries - j) (add-one i))
      ∙ ap (count_after T sets limit) (sym (add-one i))

  pub all_turns : (i rows : ℕ) (calls asked : List ℕ) → counted calls asked rows ≡ count_after T sets limit i → i ≡ T.entries → rows ≡ total T sets limit
  unfolding total
  all_turns i rows calls asked e q = ap (λ (k : Count). k.rows) e ∙ ap (λ (j : ℕ). (count_after T sets limit j).rows) q

-- ---- the bound

module _ (w : List ℕ) where
  abbrev T : Terms
  T = terms_of w

  pub too_many : max_entries < T.entries → most ≡ effort w
  unfolding effort
  too_many l = rw (lt-ltb max_entries T.entries l)

  pub so_few : (sets : List ℕ) (plain : ℕ) → T.entries ≤ max_entries → T.entries < 10 → sets ≡ sets_of T T.entries → plain ≡ total T sets most → plain ≡ effort w
  unfolding effort
  so_few sets plain l k es ep = rw (le-ltb max_entries T.entries l, lt-ltb T.entries 10 k, ep, es)

  pub more_than_few : (sets : List ℕ) (plain shared n b s r : ℕ) → T.entries ≤ max_entries → 10 ≤ T.entries → sets ≡ sets_of T T.entries →
      plain ≡ total T sets most → n ≡ T.members → shared ≡ total T sets (memo_rows n) → b ≡ brief n → s ≡ cut (shared + b) → r ≡ smaller plain s → r ≡ effort w
  unfolding effort
  more_than_few sets plain shared n b s r l k es ep en eh eb ec er =
      rw (le-ltb max_entries T.entries l, le-ltb T.entries 10 k, er, ec, eb, eh, en, ep, es)
