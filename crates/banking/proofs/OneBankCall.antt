-- One call of a bank over memory that holds what both records say: the answer is the keeper's, and the memory holds
-- what the records then say.
use Prim.Native.Nat.{ℕ, ◌≤◌}
use native.Mathlib.Omega.{arith}
use mathlib.Core.Path.{◌≡◌, refl, sym, ap, ap₂, subst, fun_ext, ◌∙◌}
use mathlib.Core.Bool.{Bool, true, false, cond, not, ◌&&◌, ◌||◌, true≢false, and-false}
use mathlib.Core.List.{List, [], ◌∷◌, ◌++◌, append-nil}
use lib.Dec.{ltb}
use lib.ListN.{length, drop}
use borrow.Author.Tests.{le-ltb}
use Rattle.sets.proofs.Finite.{and_left, and_right}
use Rattle.theory.specs.Meaning.{Starts}
use Rattle.theory.specs.Terms.{Terms}
use Rattle.theory.specs.Limits.{scratch_words}
use Rattle.theory.specs.Moment.{Moment}
use Rattle.theory.specs.Keeper.{Call, Answer, last_moment, keep}
use Rattle.theory.specs.Keeper.Verdict.{grant, deny}
use Rattle.theory.specs.Keeper.Answer.{decided, refused}
use Rattle.theory.specs.Tables.{made, advance}
use Rattle.theory.specs.Fit.{Good}
use Rattle.memory.specs.Layout.{terms_words, state_words, relation_words, own_words, joined, terms_of, state_of, words_of}
use Rattle.memory.specs.Checks.{good_memory, Inside}
use Rattle.calls.specs.Monitor.{answer, granted, moves}
use Rattle.calls.specs.Agreement.{fed}
use Rattle.theory.proofs.CallByTests.{unnamed, answered, counted, made_by, judged, granted as grantedBy}
use Rattle.theory.proofs.RunInvariant.{advance_kept}
use Rattle.calls.proofs.MemoryInvariant.{Held, held_words}
use Rattle.calls.proofs.OneCall.{step}
use Rattle.banking.specs.Banks.{Bank, other, quiet, as_seen, Records, judge_bank, keep_bank}
use Rattle.banking.specs.Banking.{bank_answer, relations_after, own_after, other_after}
use Rattle.banking.specs.BankRefused.{LongBanks}
use Rattle.banking.specs.BankRuns.{Lent, LentBankCall, fed_bank, gives_in, of_banks, lent_to, leaves_in}
use Rattle.banking.proofs.Lengths.{not_short}
use Rattle.banking.proofs.BothBanks.{by_bank, of_own, of_other, of_both, seen_own, seen_other, seen_none}
use Rattle.banking.proofs.JoinedState.{joined_long, words_alone}
use Rattle.banking.proofs.BankAnswers.{relations_kept, own_kept, other_kept}
use Rattle.banking.proofs.Moved.{moment_made, moved-other, joined_own, joined_other, made_within, relations_long, own_long, other_long, relations_further, own_further, other_further}

-- ---- the keeper's call, by what it answers

counted_moves : (T : Terms) (c : Call) (g : Bool) → counted T c g ≡ (not c.look && moves (T.kept c.event) (answered T c g))
counted_moves T c g = go (ltb c.scratch scratch_words) (unnamed T c) c.look g (T.kept c.event)
  where
    go : (s u l g k : Bool) →
        (not s && (not u && (not l && (g || k)))) ≡ (not l && moves k (cond s (refused 6 0) (cond u (refused 9 0) (cond g (decided grant) (decided deny)))))
    go true u true g k = refl
    go true u false g k = refl
    go false true true g k = refl
    go false true false g k = refl
    go false false true g k = refl
    go false false false true k = refl
    go false false false false k = refl

counted_granted : (T : Terms) (c : Call) (g : Bool) → counted T c g ≡ true → granted (answered T c g) ≡ g
counted_granted T c g e = go (ltb c.scratch scratch_words) (unnamed T c) c.look g (T.kept c.event) e
  where
    go : (s u l g k : Bool) → (not s && (not u && (not l && (g || k)))) ≡ true →
        granted (cond s (refused 6 0) (cond u (refused 9 0) (cond g (decided grant) (decided deny)))) ≡ g
    go true u l g k e = absurd (true≢false (sym e))
    go false true l g k e = absurd (true≢false (sym e))
    go false false l true k e = refl
    go false false l false k e = refl

-- ---- the invariant

module _ (terms : List ℕ) (long_terms : terms_words ≤ length terms) (fine : Good (terms_of terms)) (good_terms : good_memory terms ≡ true)
    (s₀ : Bank → Starts) (W₀ : Lent)
  where
    abbrev T : Terms
    T = terms_of terms

    abbrev base : Bank → List ℕ
    base d = joined W₀.relations (W₀.own d)

    -- Each bank's state holds what its record says; the memory was lent long enough, and nothing behind it is touched.
    pub record Stands (W : Lent) (L : Records) : Type 0 where
      pub bank : (d : Bank) → Held T (s₀ d) fine (base d) (joined W.relations (W.own d)) (L d)
      pub lent : relation_words ≤ length W₀.relations
      pub own_lent : (d : Bank) → own_words ≤ length (W₀.own d)
      pub long : length W.relations ≡ length W₀.relations
      pub own_long : (d : Bank) → length (W.own d) ≡ length (W₀.own d)
      pub further : drop relation_words W.relations ≡ drop relation_words W₀.relations
      pub own_further : (d : Bank) → drop own_words (W.own d) ≡ drop own_words (W₀.own d)

    module _ (W : Lent) (L : Records) (h : Stands W L) where
      pub relations_now : relation_words ≤ length W.relations
      relations_now = omega (arith, h.lent, h.long)

      own_now : (d : Bank) → own_words ≤ length (W.own d)
      own_now d = omega (arith, h.own_lent d, h.own_long d)

      pub long_now : (b : Bank) → LongBanks W.relations (W.own b) (W.own (other b))
      long_now b = record { relations_long = relations_now; own_long = own_now b; other_long = own_now (other b) }

    module _ (W : Lent) (L : Records) (h : Stands W L) (c : LentBankCall) where
      abbrev b : Bank
      b = c.bank

      abbrev own : List ℕ
      own = W.own b

      abbrev beside : List ℕ
      beside = W.own (other b)

      abbrev m : Bank → List ℕ
      m d = joined W.relations (W.own d)

      abbrev j : ℕ
      j = c.call.event

      abbrev u : ℕ
      u = c.call.from

      abbrev v : ℕ
      v = c.call.to

      size : (d : Bank) → length (m d) ≡ state_words
      size d = joined_long W.relations (W.own d) (relations_now W L h) (own_now W L h d)

      base_size : (d : Bank) → length (base d) ≡ state_words
      base_size d = joined_long W₀.relations (W₀.own d) h.lent (h.own_lent d)

      -- The answer over the bank's state alone.
      abbrev single : Answer
      single = answer terms (m b) c.call.scratch j u v

      given_is : gives_in terms W c ≡ cond (ltb (length c.other_scratch) scratch_words) (refused 6 0) single
      unfolding bank_answer answer
      given_is =
          rw (
            le-ltb (length terms) terms_words long_terms,
            not_short W.relations own beside (long_now W L h b),
            le-ltb (length (m b)) state_words (omega (arith, size b)),
            good_terms,
            (h.bank b).good,
            (h.bank (other b)).good,
          ) (go (ltb (length c.call.scratch) scratch_words) (ltb (length c.other_scratch) scratch_words) _)
        where
          go : (s t : Bool) (x : Answer) → cond (s || t) (refused 6 0) x ≡ cond t (refused 6 0) (cond s (refused 6 0) x)
          go true true x = refl
          go true false x = refl
          go false t x = refl

      abbrev InStep : Type 0
      InStep = (gives_in terms W c ≡ (keep_bank T s₀ L (fed_bank c)).0) × Stands (leaves_in terms W c) (keep_bank T s₀ L (fed_bank c)).1

      -- ---- what a request leaves

      abbrev after : Lent
      after = lent_to b
          (relations_after terms W.relations own beside c.call.scratch c.other_scratch j u v)
          (own_after terms W.relations own beside c.call.scratch c.other_scratch j u v)
          (other_after terms W.relations own beside c.call.scratch c.other_scratch j u v)

      -- Lengths and further words, whatever it makes.
      stands_after : (K : Records) → ((d : Bank) → Held T (s₀ d) fine (base d) (joined after.relations (after.own d)) (K d)) → Stands after K
      stands_after K held = record {
        bank = held;
        lent = h.lent;
        own_lent = h.own_lent;
        long = relations_long terms W.relations own beside c.call.scratch c.other_scratch j u v (relations_now W L h) ∙ h.long;
        own_long = by_bank b (λ d. length (after.own d) ≡ length (W₀.own d))
            (ap length (of_own b _ _) ∙ own_long terms W.relations own beside c.call.scratch c.other_scratch j u v (own_now W L h b) ∙ h.own_long b)
            (ap length (of_other b _ _) ∙ other_long terms W.relations own beside c.call.scratch c.other_scratch j u v (own_now W L h (other b)) ∙ h.own_long (other b));
        further = relations_further terms W.relations own beside c.call.scratch c.other_scratch j u v ∙ h.further;
        own_further = by_bank b (λ d. drop own_words (after.own d) ≡ drop own_words (W₀.own d))
            (ap (drop own_words) (of_own b _ _) ∙ own_further terms W.relations own beside c.call.scratch c.other_scratch j u v ∙ h.own_further b)
            (ap (drop own_words) (of_other b _ _) ∙ other_further terms W.relations own beside c.call.scratch c.other_scratch j u v ∙ h.own_further (other b));
      }

      -- ---- no moment is made

      abbrev moving : Bool
      moving = not c.call.look && moves (T.kept j) (gives_in terms W c)

      -- Each bank's state is as before.
      unmoved : moves (T.kept j) (gives_in terms W c) ≡ false → (d : Bank) → joined after.relations (after.own d) ≡ m d
      unmoved e d =
          ap₂ joined (sym (relations_kept terms W.relations own beside c.call.scratch c.other_scratch j u v e))
          (ap₂ (λ (x y : List ℕ). of_banks b x y d) (sym (own_kept terms W.relations own beside c.call.scratch c.other_scratch j u v e))
          (sym (other_kept terms W.relations own beside c.call.scratch c.other_scratch j u v e)) ∙ of_both b W.own d)

      stays : moving ≡ false → Stands (leaves_in terms W c) L
      stays e = go c.call.look (moves (T.kept j) (gives_in terms W c)) refl e
        where
          go : (l k : Bool) → moves (T.kept j) (gives_in terms W c) ≡ k → (not l && k) ≡ false → Stands (cond l W after) L
          go true k q z = h
          go false true q z = absurd (true≢false z)
          go false false q z = stands_after L (λ d. rw (unmoved q d) (h.bank d))

      still : (x : Answer) → gives_in terms W c ≡ x → judge_bank T s₀ L (fed_bank c) ≡ (x, []) → moving ≡ false → InStep
      unfolding keep_bank
      still x e k z = (
        e ∙ ap (λ (r : Answer × List Moment). r.0) (sym k),
        subst (Stands (leaves_in terms W c)) (sym (fun_ext (λ d. rw (k, seen_none d b, append-nil (L d))))) (stays z),
      )

      -- ---- the other bank's scratch is long enough

      module _ (t : ltb (length c.other_scratch) scratch_words ≡ false) where
        abbrev cl : Call
        cl = fed c.call

        abbrev g : Bool
        g = grantedBy T (s₀ b) (L b) cl

        given_single : gives_in terms W c ≡ single
        given_single = given_is ∙ rw t

        single_answered : single ≡ answered T cl g
        unfolding keep
        single_answered =
            (step terms long_terms fine good_terms (s₀ b) (base b) (m b) (omega (arith, base_size b)) (L b) (h.bank b) c.call).0
            ∙ ap (λ (r : Answer × List Moment). r.0) (judged T (s₀ b) (L b) cl)

        moving-is : moving ≡ counted T cl g
        moving-is = ap (λ (a : Answer). not c.call.look && moves (T.kept j) a) (given_single ∙ single_answered) ∙ sym (counted_moves T cl g)

        quietly : moving ≡ false → InStep
        quietly z =
            still (answered T cl g) (given_single ∙ single_answered)
            (rw t (judged T (s₀ b) (L b) cl ∙ rw (sym moving-is ∙ z))) z

        module _ (z : moving ≡ true) where
          is_request : c.call.look ≡ false
          is_request = go c.call.look (and_left (not c.call.look) _ z)
            where
              go : (l : Bool) → not l ≡ true → l ≡ false
              go true e = absurd (true≢false (sym e))
              go false e = refl

          moves_given : moves (T.kept j) (gives_in terms W c) ≡ true
          moves_given = and_right (not c.call.look) _ z

          is-counted : counted T cl g ≡ true
          is-counted = sym moving-is ∙ z

          abbrev M : Moment
          M = moment_made terms W.relations own beside c.call.scratch c.other_scratch j u v

          made-is : made_by T (last_moment (L b)) cl g ≡ M
          made-is =
              ap₂ (λ (N : Moment) (x : Bool). made T N x j u v) (sym (h.bank b).kept.now)
              (sym (ap granted (given_single ∙ single_answered) ∙ counted_granted T cl g is-counted))

          judge-is : judge_bank T s₀ L (fed_bank c) ≡ (answered T cl g, M ∷ [])
          judge-is =
              rw t (judged T (s₀ b) (L b) cl ∙ rw is-counted (ap (λ (N : Moment). (answered T cl g, N ∷ [])) made-is))

          inside : Inside T M
          inside = made_within terms W.relations own beside c.call.scratch c.other_scratch j u v moves_given

          -- A state that is moved on to a moment holds it.
          held_on : (d : Bank) (N : Moment) → Inside T N → Held T (s₀ d) fine (base d) (words_of T (advance T (state_of (m d)) N)) (L d ++ (N ∷ []))
          unfolding advance
          held_on d N i =
              subst (λ (x : List ℕ). Held T (s₀ d) fine (base d) x (L d ++ (N ∷ []))) (words_alone (words_of T (advance T (state_of (m d)) N)) (m d) (size d))
              (held_words T (s₀ d) fine (base d) (m d) (omega (arith, base_size d)) (h.bank d).long (h.bank d).further (advance T (state_of (m d)) N) (L d ++ (N ∷ []))
              (advance_kept T fine (s₀ d) (state_of (m d)) (L d) (h.bank d).kept N) i)

          own_is : joined after.relations (after.own b) ≡ words_of T (advance T (state_of (m b)) M)
          own_is = ap (joined after.relations) (of_own b _ _) ∙ joined_own terms W.relations own beside c.call.scratch c.other_scratch j u v moves_given

          other-is : joined after.relations (after.own (other b)) ≡ words_of T (advance T (state_of (m (other b))) (quiet M))
          other-is =
              ap (joined after.relations) (of_other b _ _) ∙ joined_other terms W.relations own beside c.call.scratch c.other_scratch j u v moves_given
              ∙ moved-other terms W.relations own beside c.call.scratch c.other_scratch j u v moves_given

          abbrev longer : Records
          longer d = L d ++ as_seen d b (M ∷ [])

          stands_longer : Stands (leaves_in terms W c) longer
          stands_longer = subst (λ (l : Bool). Stands (cond l W after) longer) (sym is_request)
              (stands_after longer
              (by_bank b (λ d. Held T (s₀ d) fine (base d) (joined after.relations (after.own d)) (longer d))
              (rw (own_is, seen_own b (M ∷ [])) (held_on b M inside))
              (rw (other-is, seen_other b (M ∷ [])) (held_on (other b) (quiet M) (record { edges = inside.edges; event = tt })))))

          onward : InStep
          unfolding keep_bank
          onward = (
            given_single ∙ single_answered ∙ ap (λ (r : Answer × List Moment). r.0) (sym judge-is),
            subst (λ (r : Answer × List Moment). Stands (leaves_in terms W c) (λ d. L d ++ as_seen d b r.1)) (sym judge-is) stands_longer,
          )

        by_moving : (k : Bool) → moving ≡ k → InStep
        by_moving true z = onward z
        by_moving false z = quietly z

      -- The keeper's answer, and the invariant again.
      pub bank_step : InStep
      bank_step = go (ltb (length c.other_scratch) scratch_words) refl
        where
          go : (t : Bool) → ltb (length c.other_scratch) scratch_words ≡ t → InStep
          go true t =
              let e : gives_in terms W c ≡ refused 6 0 = given_is ∙ rw t in
              still (refused 6 0) e (rw t) (ap (λ (a : Answer). not c.call.look && moves (T.kept j) a) e ∙ and-false (not c.call.look))
          go false t = by_moving t moving refl
