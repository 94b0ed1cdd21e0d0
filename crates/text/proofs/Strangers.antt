-- Strangers have no say, over lent memory: two runs as in demand 3 that differ only outside a circle answer every call
-- inside it alike (docs/SCOPE.md, Strangers).
use Prim.Native.Nat.{ℕ, ◌≤◌}
use mathlib.Core.Path.{◌≡◌, sym, ap, subst, ◌∙◌}
use mathlib.Core.Bool.{false}
use mathlib.Core.List.{List, [], ◌∷◌}
use lib.ListN.{length, get_or}
use Rattle.theory.specs.Terms.{Terms}
use Rattle.theory.specs.Moment.{first}
use Rattle.theory.specs.Keeper.{Call, Answer, Book, Step, keep_steps, keeper}
use Rattle.theory.specs.Strangers.{Circle, WithoutReach, Separate, SeparateFirst, AgreeWithin, Inside, Paired}
use Rattle.theory.specs.Fit.{Good}
use Rattle.theory.proofs.Strangers.{strangers, strangers_first}
use Rattle.memory.specs.Layout.{terms_words, state_words}
use Rattle.calls.specs.Agreement.{LentStep, KeepsTerms, fed_calls, serve_steps}
use Rattle.calls.proofs.Demand.{keep_calls, fed_kept}
use Rattle.fields.specs.Split.{lines}
use Rattle.file.specs.File.{File}
use Rattle.file.specs.Reading.{reading}
use Rattle.file.specs.Reading.Reading.{accepted}
use Rattle.file.specs.Said.{said_lines, terms_said, edges_said}
use Rattle.file.proofs.Accepted.{accepted_good}
use Rattle.file.proofs.Said.{said}
use Rattle.text.specs.Recorded.{said_book, loaded}
use Rattle.text.specs.Recorded.Recorded.{old}
use Rattle.text.proofs.Demand.{demand_3}

-- The answers of a run that begins by reading a text of the old form, where its lines say the terms T.
keeper_answers : (text : List ℕ) (f : File) → reading text ≡ accepted f → f.stored ≡ false → (T : Terms) → terms_said (said_lines (lines text)) ≡ T →
    (terms state : List ℕ) → terms_words ≤ length terms → state_words ≤ length state → (ss : List LentStep) → KeepsTerms ss →
    (serve_steps (loaded text terms state) ss).0 ≡ (keeper T (edges_said (said_lines (lines text))) (fed_calls ss)).0
keeper_answers text f e form T says terms state tl sl ss keeps =
    (demand_3 text (said_book text) (old text f e form) terms state tl sl ss).0
    ∙ ap (λ (xs : List Step). (keep_steps (said_book text) xs).0) (fed_kept ss keeps)
    ∙ ap (λ (k : List Answer × Book). k.0) (keep_calls (said_book text) (fed_calls ss))
    ∙ ap (λ U. (keeper U (edges_said (said_lines (lines text))) (fed_calls ss)).0) says

-- Two runs as in demand 3 that begin at moment 0 with the same terms T, without reach, and keep them: each reads an
-- accepted text of the old form into lent memory that is long enough, and takes a list of steps over what reading left,
-- requests, looks and set lists, and no new terms. "The same terms" asks no more than that the lines of both texts say
-- T: how numbers are padded makes no difference, and G lines add nothing to T. They say the first relations, which
-- agree inside S, a set of members.
module _ (T : Terms) (without : WithoutReach T) (S : Circle) (text text' : List ℕ)
    (f f' : File) (is_read : reading text ≡ accepted f) (is-read' : reading text' ≡ accepted f') (form : f.stored ≡ false) (form' : f'.stored ≡ false)
    (says : terms_said (said_lines (lines text)) ≡ T) (says' : terms_said (said_lines (lines text')) ≡ T)
    (agree : AgreeWithin T S (edges_said (said_lines (lines text))) (edges_said (said_lines (lines text'))))
    (terms terms' state state' : List ℕ) (tl : terms_words ≤ length terms) (tl' : terms_words ≤ length terms')
    (sl : state_words ≤ length state) (sl' : state_words ≤ length state') (ss ss' : List LentStep) (keeps : KeepsTerms ss) (keeps' : KeepsTerms ss') (c₀ : Call) (a₀ : Answer)
  where
    good : Good T
    good = subst Good (sym (said text f is_read).terms ∙ says) (accepted_good text f is_read).good

    -- From what the keeper answers in both to what the monitor does.
    handed_on : (n : ℕ) →
        get_or (keeper T (edges_said (said_lines (lines text))) (fed_calls ss)).0 n a₀ ≡ get_or (keeper T (edges_said (said_lines (lines text'))) (fed_calls ss')).0 n a₀ →
        get_or (serve_steps (loaded text terms state) ss).0 n a₀
        ≡ get_or (serve_steps (loaded text' terms' state') ss').0 n a₀
    handed_on n e =
        ap (λ xs. get_or xs n a₀) (keeper_answers text f is_read form T says terms state tl sl ss keeps) ∙ e
        ∙ ap (λ xs. get_or xs n a₀) (sym (keeper_answers text' f' is-read' form' T says' terms' state' tl' sl' ss' keeps'))

    -- What a designer can check. No first edge joins S to the rest. At each place in the two lists of calls, the calls
    -- are the same with both ends in S, or have both ends outside S in each run, making a moment in both or in neither;
    -- each is lent enough scratch. Then every call inside S gets the same answer in both runs. That no edge ever joins
    -- S to the rest is no premise: it follows.
    pub strangers_have_no_say_first :
        SeparateFirst T S (edges_said (said_lines (lines text))) → SeparateFirst T S (edges_said (said_lines (lines text'))) →
        Paired T S (first (edges_said (said_lines (lines text))) ∷ []) (first (edges_said (said_lines (lines text'))) ∷ []) (fed_calls ss) (fed_calls ss') →
        (n : ℕ) → Inside S (get_or (fed_calls ss) n c₀) →
        get_or (serve_steps (loaded text terms state) ss).0 n a₀
        ≡ get_or (serve_steps (loaded text' terms' state') ss').0 n a₀
    strangers_have_no_say_first p q pair n i =
        handed_on n (strangers_first T good without S c₀ a₀ _ _ agree p q (fed_calls ss) (fed_calls ss') pair n i)

    -- As docs/SCOPE.md, Strangers, has it. In both runs no edge, relation or event, at any moment joins S to the rest.
    -- At each place in the two lists of calls, the calls are the same with both ends in S, or have both ends outside S
    -- in each run, making a moment in both or in neither; each is lent enough scratch. Then every call inside S,
    -- number n, gets the same answer in both runs. (A set list is its requests. Past the ends of the lists get_or gives
    -- c₀ and a₀, whatever they are.)
    pub strangers_have_no_say :
        Separate T S (keeper T (edges_said (said_lines (lines text))) (fed_calls ss)).1 →
        Separate T S (keeper T (edges_said (said_lines (lines text'))) (fed_calls ss')).1 →
        Paired T S (first (edges_said (said_lines (lines text))) ∷ []) (first (edges_said (said_lines (lines text'))) ∷ []) (fed_calls ss) (fed_calls ss') →
        (n : ℕ) → Inside S (get_or (fed_calls ss) n c₀) →
        get_or (serve_steps (loaded text terms state) ss).0 n a₀
        ≡ get_or (serve_steps (loaded text' terms' state') ss').0 n a₀
    strangers_have_no_say p q pair n i =
        handed_on n (strangers T good without S c₀ a₀ _ _ agree (fed_calls ss) (fed_calls ss') p q pair n i)
