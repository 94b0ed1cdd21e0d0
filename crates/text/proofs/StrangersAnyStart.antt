-- Strangers have no say, for two runs that begin at moment 0, whatever files they went through since: each goes on from
-- a file whose record began at moment 0 with the same terms, and kept them.
use Prim.Native.Nat.{ℕ, suc, ◌+◌, ◌≤◌}
use mathlib.Core.Path.{◌≡◌, refl, sym, ap, subst, ◌∙◌}
use mathlib.Core.List.{List, [], ◌∷◌, ◌++◌}
use lib.ListN.{length, get_or}
use lib.Seq.{get_or-append-add}
use Rattle.theory.specs.Meaning.{from_first}
use Rattle.theory.specs.Terms.{Terms}
use Rattle.theory.specs.Moment.{Relations, Moment, first}
use Rattle.theory.specs.Keeper.{Call, Answer, Book, Step, keep, keep_all, keep_steps, keeper}
use Rattle.theory.specs.Strangers.{Circle, WithoutReach, Separate, AgreeWithin, Inside, Paired}
use Rattle.theory.specs.Fit.{Good}
use Rattle.theory.proofs.Strangers.{strangers}
use Rattle.memory.specs.Layout.{terms_words, state_words}
use Rattle.calls.specs.Agreement.{LentStep, KeepsTerms, fed_calls, serve_steps}
use Rattle.calls.proofs.Demand.{calls_on, keep_calls, fed_kept, keeper_good}
use Rattle.text.specs.Recorded.{loaded, Recorded}
use Rattle.text.proofs.Demand.{demand_3, playing}

answers_long : (T : Terms) (Ms : List Moment) (cs : List Call) → length (keep_all T from_first Ms cs).0 ≡ length cs
unfolding keep_all
answers_long T Ms [] = refl
answers_long T Ms (c ∷ cs) = ap suc (answers_long T (keep T from_first Ms c).1 cs)

-- The keeper's answers to the calls ds after cs, at their places in the whole list.
later_answer : (T : Terms) (R : Relations) (cs ds : List Call) (a₀ : Answer) (n : ℕ) →
    get_or (keep_all T from_first (keeper T R cs).1 ds).0 n a₀ ≡ get_or (keeper T R (cs ++ ds)).0 (length cs + n) a₀
later_answer T R cs ds a₀ n =
    sym (get_or-append-add (keeper T R cs).0 (keep_all T from_first (keeper T R cs).1 ds).0 n a₀)
    ∙ ap (λ k. get_or ((keeper T R cs).0 ++ (keep_all T from_first (keeper T R cs).1 ds).0) (k + n) a₀) (answers_long T (first R ∷ []) cs)
    ∙ ap (λ (x : List Answer × List Moment). get_or x.0 (length cs + n) a₀) (sym (calls_on T from_first (first R ∷ []) cs ds))

-- What the keeper holds who began with the terms T and first relations R and was fed the calls cs.
abbrev book_after : Terms → Relations → List Call → Book
book_after T R cs = record { terms = T; start = from_first; moments = (keeper T R cs).1 }

-- The answers of a run that goes on from a file with such a record.
resumed_answers : (T : Terms) (R : Relations) (cs : List Call) (text : List ℕ) → Recorded text (book_after T R cs) →
    (terms state : List ℕ) → terms_words ≤ length terms → state_words ≤ length state → (ss : List LentStep) → KeepsTerms ss →
    (serve_steps (loaded text terms state) ss).0 ≡ (keep_all T from_first (keeper T R cs).1 (fed_calls ss)).0
resumed_answers T R cs text has terms state tl sl ss keeps =
    let B : Book = book_after T R cs in
    (demand_3 text B has terms state tl sl ss).0
    ∙ ap (λ (xs : List Step). (keep_steps B xs).0) (fed_kept ss keeps)
    ∙ ap (λ (k : List Answer × Book). k.0) (keep_calls B (fed_calls ss))

-- cs and cs' are the calls that were made before the files were written, by monitors that began at moment 0; none, for
-- a run that begins with an old file.
module _ (T : Terms) (without : WithoutReach T) (S : Circle) (R Q : Relations) (agree : AgreeWithin T S R Q) (cs cs' : List Call) (text text' : List ℕ)
    (has : Recorded text (book_after T R cs)) (has' : Recorded text' (book_after T Q cs'))
    (terms terms' state state' : List ℕ) (tl : terms_words ≤ length terms) (tl' : terms_words ≤ length terms')
    (sl : state_words ≤ length state) (sl' : state_words ≤ length state') (ss ss' : List LentStep) (keeps : KeepsTerms ss) (keeps' : KeepsTerms ss') (c₀ : Call) (a₀ : Answer)
  where
    good : Good T
    good = keeper_good (book_after T R cs) (loaded text terms state) (playing has terms state tl sl)

    -- The premises speak of the whole runs, with what was called before the files were written; the answers are
    -- those of what is called after.
    pub strangers_any_start :
        Separate T S (keeper T R (cs ++ fed_calls ss)).1 → Separate T S (keeper T Q (cs' ++ fed_calls ss')).1 →
        Paired T S (first R ∷ []) (first Q ∷ []) (cs ++ fed_calls ss) (cs' ++ fed_calls ss') →
        (n n' : ℕ) → length cs + n ≡ length cs' + n' → Inside S (get_or (fed_calls ss) n c₀) →
        get_or (serve_steps (loaded text terms state) ss).0 n a₀ ≡ get_or (serve_steps (loaded text' terms' state') ss').0 n' a₀
    strangers_any_start p q pair n n' place i =
        ap (λ xs. get_or xs n a₀) (resumed_answers T R cs text has terms state tl sl ss keeps)
        ∙ later_answer T R cs (fed_calls ss) a₀ n
        ∙ strangers T good without S c₀ a₀ R Q agree (cs ++ fed_calls ss) (cs' ++ fed_calls ss') p q pair (length cs + n)
        (subst (Inside S) (sym (get_or-append-add cs (fed_calls ss) n c₀)) i)
        ∙ ap (λ k. get_or (keeper T Q (cs' ++ fed_calls ss')).0 k a₀) place
        ∙ sym (later_answer T Q cs' (fed_calls ss') a₀ n')
        ∙ ap (λ xs. get_or xs n' a₀) (sym (resumed_answers T Q cs' text' has' terms' state' tl' sl' ss' keeps'))
