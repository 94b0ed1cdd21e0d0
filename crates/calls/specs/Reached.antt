-- Terms, calls and answers by which `reached` says that every private function is reached.
use Rattle.std.specs.Prelude.{ℕ, ◌≡◌, List, [], ◌∷◌, ◌++◌, true, false, length, replicate}
use Rattle.theory.specs.Keeper.{Answer}
use Rattle.theory.specs.Tables.{opening}
use Rattle.theory.specs.Cases.{yes, no, own}
use Rattle.theory.specs.Limits.{scratch_words}
use Rattle.memory.specs.Layout.{terms_of, words_of}
use Rattle.memory.specs.Outcome.{opens}
use Rattle.memory.specs.Outcome.Outcome.{passed}
use Rattle.calls.specs.Monitor.{opened_state}
use Rattle.calls.specs.Agreement.{LentCall, serve_all}

-- Words of terms with three members, one relation and two events. Event 0 is always granted. Event 1 goes by the
-- last entry, is kept and has four effects: add and del, to the target and back. e is the operand of entry 17 and
-- the second one of entry 18: with e = 1 nothing that is worked out is used twice; with e = 14 entry 14 is; with e =
-- 16 binds nest over members that are walked to, both where event 1 is decided and where the table of entry 17 is
-- moved on, so that both take a memo.
unfoldable pub many_terms : (e : ℕ) → List ℕ
many_terms e =
    3 ∷ 1 ∷ 2 ∷ 20
    -- top; var 0; var 1.
    ∷ 0 ∷ 0 ∷ 0 ∷ 0
    ∷ 1 ∷ 0 ∷ 0 ∷ 0
    ∷ 1 ∷ 1 ∷ 0 ∷ 0
    -- 3: event 0 goes from here to the target; 4: to at least one that is the target; 5: 3 since 4; 6: prev of
    -- top; 7: a since over the since.
    ∷ 4 ∷ 1 ∷ 1 ∷ 0
    ∷ 11 ∷ 1 ∷ 1 ∷ 1
    ∷ 7 ∷ 3 ∷ 4 ∷ 0
    ∷ 6 ∷ 0 ∷ 0 ∷ 0
    ∷ 7 ∷ 6 ∷ 5 ∷ 0
    -- 11: here is variable 1, and 7 holds.
    ∷ 2 ∷ 2 ∷ 0 ∷ 0
    ∷ 2 ∷ 7 ∷ 0 ∷ 0
    ∷ 3 ∷ 8 ∷ 9 ∷ 0
    ∷ 2 ∷ 10 ∷ 0 ∷ 0
    -- 14: event 0 came to the target from here, where 11 holds.
    ∷ 5 ∷ 1 ∷ 11 ∷ 0
    ∷ 9 ∷ 0 ∷ 12 ∷ 0
    ∷ 8 ∷ 1 ∷ 13 ∷ 0
    -- 16: event 0 goes from here to where 14 holds.
    ∷ 4 ∷ 1 ∷ 14 ∷ 0
    ∷ 8 ∷ 2 ∷ 15 ∷ 0
    -- 17: prev of e; 18: 14 or e.
    ∷ 6 ∷ e ∷ 0 ∷ 0
    ∷ 3 ∷ 14 ∷ e ∷ 0
    -- 19: reaches nobody but oneself, where 18 holds.
    ∷ 10 ∷ 1 ∷ 2 ∷ 18
    ∷ (replicate 944 0 ++ (0 ∷ 19 ∷ (replicate 26 0 ++ (1 ∷ 0 ∷ 0 ∷ 2 ∷ 0 ∷ 1 ∷ 1 ∷ 0 ∷ 1 ∷ 2 ∷ 0 ∷ 0 ∷ (replicate 168 0 ++ (0 ∷ 1 ∷ replicate 14 0))))))

-- A look or a request of event j from member 0 to member 1.
abbrev pub look_at : (j : ℕ) → List ℕ → LentCall
look_at j scratch = record { look = true; event = j; from = 0; to = 1; scratch = scratch }

abbrev pub request_of : (j : ℕ) → List ℕ → LentCall
request_of j scratch = record { look = false; event = j; from = 0; to = 1; scratch = scratch }

-- Event 1 is denied at moment 0, to a look and to a request that is kept, granted where event 0 has just
-- been, and denied again after that.
abbrev pub many_calls : List ℕ → List LentCall
many_calls scratch = look_at 1 scratch ∷ request_of 1 scratch ∷ request_of 0 scratch ∷ request_of 1 scratch ∷ look_at 1 scratch ∷ []

abbrev pub many_answers : List Answer
many_answers = no ∷ no ∷ yes ∷ yes ∷ no ∷ []

-- The state's words at moment 0, with the preset's first edge.
abbrev pub many_state : (e : ℕ) → List ℕ
many_state e = words_of (terms_of (many_terms e)) (opening (terms_of (many_terms e)) own) ++ []

-- The words open, and the calls over them get these answers.
abbrev pub Reaches : (e : ℕ) → Type 0
Reaches e =
    (opens (many_terms e) (many_state e) ≡ passed)
    × ((scratch : List ℕ) → length scratch ≡ scratch_words →
    (serve_all (many_terms e) (opened_state (many_terms e) (many_state e)) (many_calls scratch)).0 ≡ many_answers)
