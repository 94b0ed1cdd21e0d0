-- What agreement says of the table of a past-time entry (docs/SCOPE.md, Memory), for no free variable, one, and two.
-- The three are one law over the columns, `table-says`: the bit at the place of a member and an assignment says
-- whether the entry holds there.
use Prim.Native.Nat.{ℕ, zero, suc, ◌+◌, ◌-◌, ◌*◌, ◌/◌, ◌%◌, ◌≤◌, ◌<◌}
use native.Mathlib.Omega.{arith}
use mathlib.Core.Path.{◌≡◌, refl, sym, ap, ap₂, ◌∙◌}
use mathlib.Core.List.{List, [], ◌∷◌}
use mathlib.Core.Bool.{Bool, true, false, cond, ◌||◌, false≢true}
use lib.Dec.{eqb}
use lib.ListN.{get_or}
use borrow.Author.Tests.{eqb-true, eqb-false, eq-eqb, ne_eqb, lt-ltb}
use Rattle.sets.specs.Sets.{bit}
use Rattle.theory.specs.Formula.{Formula, number, is_past, free, those, or_target, columns}
use Rattle.theory.specs.Meaning.{Starts, Assignment, assign, alone}
use Rattle.theory.specs.Columns.{columns_fit, word_for, bit_for, inside, standing}
use Rattle.theory.specs.Terms.{Terms, formula, tables}
use Rattle.theory.specs.Moment.{Moment}
use Rattle.theory.specs.Keeper.{record_of, last, keeper_holds, keep_steps}
use Rattle.theory.specs.Fit.{Good}
use Rattle.memory.specs.Layout.{table_at, terms_of}
use Rattle.memory.specs.Outcome.{opens}
use Rattle.memory.specs.Outcome.Outcome.{passed}
use Rattle.calls.specs.Agreement.{LentStep, fed_steps, serve_steps, Agrees, opened_book, opened}
use Rattle.theory.proofs.Unfolding.{number_lt}
use Rattle.theory.proofs.Places.{Among, among_assign, among_alone, those_none, closed_columns, inside_bit, inside_word, place_member, place_inside, place_standing}
use Rattle.theory.proofs.Good.{small, column_free}
use Rattle.theory.proofs.Record.{coincidence}
use Rattle.theory.proofs.Past.{past_is}
use Rattle.memory.proofs.Accepted.{good}
use Rattle.calls.proofs.Demand.{run, playing_agrees, opened_playing}

-- ---- the columns, from the free variables

-- The first that has p.
those_first : (p : ℕ → Bool) (n k x : ℕ) → k ≤ x → x < k + n → p x ≡ true → ((j : ℕ) → k ≤ j → j < x → p j ≡ false) →
    those n k p ≡ x ∷ those (k + n - suc x) (suc x) p
unfolding those
those_first p zero k x lo hi e none = absurd (omega arith)
those_first p (suc n) k x lo hi e none = go (eqb k x) refl (λ l. those_first p n (suc k) x l (omega arith) e (λ j jl. none j (omega arith)))
  where
    here : k ≡ x → n ≡ k + suc n - suc x
    here z = omega arith

    size : suc k + n ≡ k + suc n
    size = omega arith

    go : (c : Bool) → eqb k x ≡ c → (suc k ≤ x → those n (suc k) p ≡ x ∷ those (suc k + n - suc x) (suc x) p) →
        cond (p k) (k ∷ those n (suc k) p) (those n (suc k) p) ≡ x ∷ those (k + suc n - suc x) (suc x) p
    go true q ih =
        let z : k ≡ x = eqb-true k x q in
        rw (ap p z ∙ e) (ap₂ (λ i r. i ∷ those r (suc i) p) z (here z))
    go false q ih =
        let z : k ≡ x → ⊥ = eqb-false k x q in
        rw (none k (omega arith) (omega arith)) (ih (omega arith) ∙ ap (λ r. x ∷ those (r - suc x) (suc x) p) size)

one_column : (f : Formula) (x : ℕ) → ((z : ℕ) → free f z ≡ true → z < 16) → ((z : ℕ) → free f z ≡ eqb z x) → columns f ≡ x ∷ []
one_column f x below_16 is =
    let other : (z : ℕ) → (z ≡ x → ⊥) → free f z ≡ false = λ z d. is z ∙ ne_eqb z x d in
    let at_x : free f x ≡ true = is x ∙ eq-eqb x x refl in
    ap or_target (those_first (free f) 16 0 x (omega arith) (below_16 x at_x) at_x (λ j _ jl. other j (λ e. omega arith))
    ∙ ap (λ xs. x ∷ xs) (those_none (free f) (16 - suc x) (suc x) (λ z zl _. other z (λ e. omega arith))))

two_columns : (f : Formula) (x y : ℕ) → x < y → ((z : ℕ) → free f z ≡ true → z < 16) → ((z : ℕ) → free f z ≡ (eqb z x || eqb z y)) → columns f ≡ x ∷ y ∷ []
two_columns f x y xy below_16 is =
    let other : (z : ℕ) → (z ≡ x → ⊥) → (z ≡ y → ⊥) → free f z ≡ false = λ z d e. is z ∙ ap₂ ◌||◌ (ne_eqb z x d) (ne_eqb z y e) in
    let at_x : free f x ≡ true = is x ∙ ap (λ b. b || eqb x y) (eq-eqb x x refl) in
    let at_y : free f y ≡ true = is y ∙ ap₂ ◌||◌ (ne_eqb y x (λ e. omega arith)) (eq-eqb y y refl) in
    let yl : y < 16 = below_16 y at_y in
    let after : ℕ = suc x + (16 - suc x) - suc y in
    ap or_target (those_first (free f) 16 0 x (omega arith) (omega arith) at_x (λ j _ jl. other j (λ e. omega arith) (λ e. omega arith))
    ∙ ap (λ xs. x ∷ xs) (those_first (free f) (16 - suc x) (suc x) y xy (omega arith) at_y (λ j jl jy. other j (λ e. omega arith) (λ e. omega arith)))
    ∙ ap (λ xs. x ∷ y ∷ xs) (those_none (free f) after (suc y) (λ z zl _. other z (λ e. omega arith) (λ e. omega arith))))

-- ---- what the bits say

module _ (T : Terms) (fine : Good T) (s : Starts) (m₀ m : List ℕ) (Ms : List Moment) (h : Agrees T s m₀ m Ms)
    (n : ℕ) (l : n < T.entries) (p : is_past (T.entry n).op ≡ true)
  where
    -- Over the columns: the bit at the place of a and g says whether the entry holds at a under g.
    pub table-says : (g : Assignment) (a : ℕ) → Among T.members g → a < T.members →
        bit (get_or m (table_at (number T.entry n) (word_for (columns (formula T n)) g a)) 0) (bit_for (columns (formula T n)) g)
        ≡ keeper_holds T s Ms n g a
    table-says g a w al =
        let t : ℕ = number T.entry n in
        let cs : List ℕ = columns (formula T n) in
        let i : ℕ = word_for cs g a in
        let k : ℕ = bit_for cs g in
        let tl : t < tables T = number_lt T.entry n T.entries l p in
        let fit : columns_fit T.members cs ≡ true = (fine.entry n l).columns-fit p in
        let within : inside T.members cs i k ≡ true = place_inside T.members g w a al cs fit in
        h.tables t i k (omega (arith, fine.few_tables)) (inside_word T.members fine.few_members cs i k fit within)
        (inside_bit T.members fine.few_members cs i k within)
        ∙ rw (past_is T n l p, lt-ltb t (tables T) tl, within)
        (ap (keeper_holds T s Ms n (standing (formula T n) i k)) (place_member T.members g w a al cs fit)
        ∙ coincidence T.members s (record_of T Ms) (formula T n) (last Ms) (standing (formula T n) i k) g a
        (λ x q. place_standing T.members g w a al cs fit x (column_free T fine n l x q)))

    one_said : (x : ℕ) → columns (formula T n) ≡ x ∷ [] → (a b : ℕ) → a < T.members → b < T.members →
        bit (get_or m (table_at (number T.entry n) a) 0) b ≡ keeper_holds T s Ms n (alone x b) a
    one_said x e a b al bl =
        ap₂ (λ i k. bit (get_or m (table_at (number T.entry n) i) 0) k) (sym (rw e)) (sym (rw (e, eq-eqb x x refl)))
        ∙ table-says (alone x b) a (among_alone T.members x b bl) al

    -- No free variable: each bit b of word a says whether the entry holds at a.
    pub says_of_none : ((z : ℕ) → free (formula T n) z ≡ false) →
        (a b : ℕ) → a < T.members → b < T.members → (g : Assignment) →
        bit (get_or m (table_at (number T.entry n) a) 0) b ≡ keeper_holds T s Ms n g a
    says_of_none none a b al bl g =
        one_said 0 (closed_columns (formula T n) (λ x _. none x)) a b al bl
        ∙ coincidence T.members s (record_of T Ms) (formula T n) (last Ms) (alone 0 b) g a (λ x q. absurd (false≢true (sym (none x) ∙ q)))

    -- One, x: bit b of word a says whether the entry holds at a with x standing for b.
    pub says_of_one : (x : ℕ) → ((z : ℕ) → free (formula T n) z ≡ eqb z x) →
        (a b : ℕ) → a < T.members → b < T.members →
        bit (get_or m (table_at (number T.entry n) a) 0) b ≡ keeper_holds T s Ms n (alone x b) a
    says_of_one x is = one_said x (one_column (formula T n) x (small T fine n l) is)

    -- Two, x and y, the lower-numbered first: bit 16 × (b mod 4) + c of word 4a + b / 4 says whether the entry holds at
    -- a with x and y standing for b and c. Good terms with such an entry have at most 16 members.
    pub says_of_two : (x y : ℕ) → x < y → ((z : ℕ) → free (formula T n) z ≡ (eqb z x || eqb z y)) →
        (a b c : ℕ) → a < T.members → b < T.members → c < T.members →
        bit (get_or m (table_at (number T.entry n) (4 * a + b / 4)) 0) (16 * (b % 4) + c) ≡ keeper_holds T s Ms n (assign (alone y c) x b) a
    says_of_two x y xy is a b c al bl cl =
        let e : columns (formula T n) ≡ x ∷ y ∷ [] = two_columns (formula T n) x y xy (small T fine n l) is in
        ap₂ (λ i k. bit (get_or m (table_at (number T.entry n) i) 0) k)
        (sym (rw (e, eq-eqb x x refl))) (sym (rw (e, eq-eqb x x refl, ne_eqb y x (λ z. omega arith), eq-eqb y y refl)))
        ∙ table-says (assign (alone y c) x b) a (among_assign T.members (alone y c) x b (among_alone T.members y c cl) bl) al

-- The last of every run: for all memory that opens, and all lists of requests, looks, set lists and new terms over it,
-- with the keeper of `demand_3_steps`.
pub steps_say_of_two : (terms state : List ℕ) → opens terms state ≡ passed → (ss : List LentStep) →
    let T = terms_of (serve_steps (opened terms state) ss).1.terms in
    let m = (serve_steps (opened terms state) ss).1.state in
    let byKeeper = (keep_steps (opened_book terms state) (fed_steps ss)).1 in
    (n : ℕ) → n < T.entries → is_past (T.entry n).op ≡ true →
    (x y : ℕ) → x < y → ((z : ℕ) → free (formula T n) z ≡ (eqb z x || eqb z y)) →
    (a b c : ℕ) → a < T.members → b < T.members → c < T.members →
    bit (get_or m (table_at (number T.entry n) (4 * a + b / 4)) 0) (16 * (b % 4) + c)
    ≡ keeper_holds T byKeeper.start byKeeper.moments n (assign (alone y c) x b) a
steps_say_of_two terms state e ss =
    let r = (run ss (opened_book terms state) (opened terms state) (opened_playing terms state e)).1 in
    says_of_two _ (good _ r.good-memory) _ _ _ _ (playing_agrees _ _ r)
