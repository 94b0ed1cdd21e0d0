-- Two banks that start together at moment 0 from one old file: demand 3 for each bank, the keeper fed the lines of the
-- text, and two such runs side by side.
use Prim.Native.Nat.{ℕ, ◌≤◌}
use native.Mathlib.Omega.{arith}
use mathlib.Core.Path.{◌≡◌, refl, sym, ap, subst, subst₂, ◌∙◌}
use mathlib.Core.Bool.{Bool, true, false, cond}
use mathlib.Core.List.{List}
use lib.Dec.{ltb}
use lib.ListN.{length, get_or, take}
use Rattle.theory.specs.Meaning.{Starts}
use Rattle.theory.specs.Terms.{Terms, Alike}
use Rattle.theory.specs.Moment.{Relations, Moment}
use Rattle.theory.specs.Keeper.{Answer}
use Rattle.theory.specs.Fit.{Good}
use Rattle.memory.specs.Layout.{terms_words, relation_words, own_words, joined, terms_of, words_of}
use Rattle.memory.specs.Outcome.{banks_open}
use Rattle.memory.specs.Outcome.Outcome.{passed, refused as refusedOutcome}
use Rattle.memory.proofs.Words.{length_words}
use Rattle.calls.proofs.MemoryInvariant.{Held}
use Rattle.calls.proofs.Demand.{or_false_right}
use Rattle.banking.specs.Banks.{Bank, BankStep, first_books, keep_bank_steps, Placed, OfBank}
use Rattle.banking.specs.Banks.Bank.{left, right}
use Rattle.banking.specs.BankRefused.{LongBanks}
use Rattle.banking.specs.BankRuns.{Lent, LentBankStep, fed_bank_steps, BanksInUse, serve_bank_steps, opened_banks, opened_in_use, BanksAgree}
use Rattle.banking.proofs.Lengths.{long_banks}
use Rattle.banking.proofs.JoinedState.{joined_long, nothing_further, part_further, front_long}
use Rattle.banking.proofs.Playing.{BanksPlaying, opened_playing, banks_agree}
use Rattle.banking.proofs.Isolated.{isolated}
use Rattle.banking.proofs.Demand.{run_banks}
use Rattle.file.specs.File.{File, state_said}
use Rattle.file.specs.Reading.{Reading, reading}
use Rattle.file.specs.Reading.Reading.{accepted, refused}
use Rattle.file.proofs.Said.{said}
use Rattle.reader.specs.Read.{outcome}
use Rattle.reader.specs.OldForm.{old_reading, filled_relations}
use Rattle.reader.proofs.StateMemory.{filled}
use Rattle.reader.proofs.OldForm.{old_accepted}
use Rattle.text.specs.Banks.{short_read, banks_read_gives, banks_read_terms, banks_read_relations, banks_read_own, said_books, loaded_banks}
use Rattle.text.proofs.BanksRead.{filled_like, relations_long, relations_edges, banks-open, own-filled}

done_read : (text terms relations first second : List ℕ) → banks_read_gives text terms relations first second ≡ passed →
    (short_read terms relations first second ≡ false) × ((f : File) × (old_reading text ≡ accepted f))
unfolding banks_read_gives
done_read text terms relations first second = go (short_read terms relations first second) (old_reading text)
  where
    go : (b : Bool) (r : Reading) → cond b (refusedOutcome 6 0) (outcome r) ≡ passed → (b ≡ false) × ((f : File) × (r ≡ accepted f))
    go true r e = let z : ◌≡◌ {A = ℕ} 0 1 = cc in absurd (omega arith)
    go false (accepted f) e = (refl, (f, refl))
    go false (refused i j) e = let z : ◌≡◌ {A = ℕ} 0 1 = cc in absurd (omega arith)

module _ (text terms : List ℕ) (W : Lent) (done : banks_read_gives text terms W.relations (W.own left) (W.own right) ≡ passed) where
  was_read : (short_read terms W.relations (W.own left) (W.own right) ≡ false) × ((f : File) × (old_reading text ≡ accepted f))
  was_read = done_read text terms W.relations (W.own left) (W.own right) done

  f : File
  f = was_read.1.0

  e : old_reading text ≡ accepted f
  unfolding f
  e = was_read.1.1

  lb : LongBanks W.relations (W.own left) (W.own right)
  lb = long_banks W.relations (W.own left) (W.own right) (or_false_right (ltb (length terms) terms_words) _ was_read.0)

  own_lent : (d : Bank) → own_words ≤ length (W.own d)
  own_lent left = lb.own_long
  own_lent right = lb.other_long

  r : reading text ≡ accepted f
  r = (old_accepted text f e).0

  -- The memory that is opened.
  abbrev m : List ℕ
  m = filled f terms

  abbrev X : Lent
  X = record { relations = filled_relations W.relations (accepted f); own = W.own }

  size : length X.relations ≡ length W.relations
  size = relations_long text f r terms W.relations lb.relations_long

  opens : banks_open m X.relations (X.own left) (X.own right) ≡ passed
  opens = banks-open text f r terms W.relations lb.relations_long (W.own left) (W.own right) lb.own_long lb.other_long

  -- Opened, it is the memory that reading leaves.
  loaded_terms : m ≡ (loaded_banks text terms W).terms
  unfolding banks_read_terms
  loaded_terms = rw (was_read.0, e)

  loaded_relations : X.relations ≡ (loaded_banks text terms W).lent.relations
  unfolding banks_read_relations
  loaded_relations = rw (was_read.0, e)

  loaded_own : (d : Bank) → (opened_banks m X).own d ≡ (loaded_banks text terms W).lent.own d
  unfolding banks_read_own
  loaded_own d = rw (was_read.0, e)
      (own-filled text f r terms W.relations lb.relations_long (W.own left) (W.own right) lb.own_long lb.other_long (W.own d) (own_lent d))

  -- And holds moment 0 of what the text says.
  opened : BanksPlaying (first_books f.terms f.edges) (opened_in_use m X)
  opened =
      let p : BanksPlaying (first_books (terms_of m) f.edges) (opened_in_use m X) =
      subst (λ (R : Relations). BanksPlaying (first_books (terms_of m) R) (opened_in_use m X)) (relations_edges text f r terms W.relations lb.relations_long) (opened_playing m X opens) in
      record { like = filled_like text f r terms W.relations lb.relations_long; long = p.long; good-memory = p.good-memory; stands = p.stands }

  held : (T : Terms) (s : Starts) (fine : Good T) (d : Bank) (w : List ℕ) (Ms : List Moment) →
      Held T s fine (joined X.relations (X.own d)) w Ms → Held T s fine (joined W.relations (W.own d)) w Ms
  held T s fine d w Ms h =
      let x = joined_long X.relations (X.own d) (omega (arith, size, lb.relations_long)) (own_lent d) in
      let y = joined_long W.relations (W.own d) lb.relations_long (own_lent d) in
      record {
        long = h.long ∙ x ∙ sym y;
        further = h.further ∙ nothing_further (joined X.relations (X.own d)) x ∙ sym (nothing_further (joined W.relations (W.own d)) y);
        good = h.good;
        kept = h.kept;
      }

  lent : BanksPlaying (first_books f.terms f.edges) (record { terms = m; lent = opened_banks m X; before = W })
  lent =
      let w = words_of f.terms (state_said f) in
      let s = opened.stands in
      record {
        like = opened.like;
        long = opened.long;
        good-memory = opened.good-memory;
        stands = record {
          bank = λ d. held _ _ _ d _ _ (s.bank d);
          lent = lb.relations_long;
          own_lent = own_lent;
          long = s.long ∙ size;
          own_long = s.own_long;
          further = s.further ∙ part_further (take relation_words w) W.relations relation_words (front_long w (length_words f.terms (state_said f)));
          own_further = s.own_further;
        };
      }

  playing : BanksPlaying (said_books text) (loaded_banks text terms W)
  playing =
      let s = said text f r in
      let books : first_books f.terms f.edges ≡ said_books text = λ i. first_books (sym s.terms i) (λ k a b. sym (s.edges k a b) i) in
      let memory : ◌≡◌ {A = BanksInUse} (record { terms = m; lent = opened_banks m X; before = W }) (loaded_banks text terms W) =
      λ i. record { terms = loaded_terms i; lent = record { relations = loaded_relations i; own = λ d. loaded_own d i }; before = W } in
      subst₂ BanksPlaying books memory lent

  -- Demand 3 for each bank goes on from there, over any list of steps: the answers are those of the keeper of two
  -- records, who is fed the lines of the text.
  pub demand_3_banks_old : (ss : List LentBankStep) →
      let after = serve_bank_steps (loaded_banks text terms W) ss in
      let byKeeper = keep_bank_steps (said_books text) (fed_bank_steps ss) in
      (after.0 ≡ byKeeper.0) × Alike byKeeper.1.terms (terms_of after.1.terms)
      × BanksAgree (terms_of after.1.terms) byKeeper.1.start after.1.before after.1.lent byKeeper.1.moments
  demand_3_banks_old ss =
      let n = run_banks ss (said_books text) (loaded_banks text terms W) playing in
      (n.0, n.1.like, banks_agree _ _ n.1)

-- Two runs from one old file, in memory of any kind: the same calls of bank b, looks too, at the same places, with
-- enough scratch, the same new terms at the same places, and at each other place a call of the other bank in each run,
-- which makes a moment in both or in neither, with equal relations after it. Then bank b gets the same answers.
pub banks_isolated_old : (text terms terms' : List ℕ) (V' W : Lent) → banks_read_gives text terms V'.relations (V'.own left) (V'.own right) ≡ passed →
    banks_read_gives text terms' W.relations (W.own left) (W.own right) ≡ passed →
    (b : Bank) (ss ts : List LentBankStep) → Placed b (said_books text) (said_books text) (fed_bank_steps ss) (fed_bank_steps ts) →
    (x₀ : BankStep) (a₀ : Answer) (n : ℕ) → OfBank b (get_or (fed_bank_steps ss) n x₀) →
    get_or (serve_bank_steps (loaded_banks text terms V') ss).0 n a₀ ≡ get_or (serve_bank_steps (loaded_banks text terms' W) ts).0 n a₀
banks_isolated_old text terms terms' V' W ev ew b ss ts p x₀ a₀ n own =
    ap (λ (xs : List Answer). get_or xs n a₀) (demand_3_banks_old text terms V' ev ss).0
    ∙ isolated b x₀ a₀ (fed_bank_steps ss) (fed_bank_steps ts) (said_books text) (said_books text) refl p n own
    ∙ sym (ap (λ (xs : List Answer). get_or xs n a₀) (demand_3_banks_old text terms' W ew ts).0)
