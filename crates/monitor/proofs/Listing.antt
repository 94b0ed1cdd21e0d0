-- The loop of a set list, with no program and no memory in it: what holds of the index, the count, the records and what
-- is left of the memory at the loop's head, that a turn keeps it, and what it says at the end. It is over what an
-- answer is (`ask`) and what it leaves (`after`).
use mathlib.Core.Path.{◌≡◌, refl, sym, ap, ◌∙◌}
use Prim.Native.Nat.{ℕ, suc, ◌+◌, ◌<◌, ◌≤◌}
use native.Mathlib.Nat.{zero-add, add-zero, add_assoc}
use native.Mathlib.Omega.{arith}
use mathlib.Core.Bool.{Bool, true, false, cond}
use mathlib.Core.List.{List, [], ◌∷◌, ◌++◌, append-nil}
use lib.Dec.{eqb, lit≤}
use lib.ListN.{length, get_or, set, length-append, length-set}
use Rattle.theory.specs.Keeper.{Answer}
use Rattle.calls.specs.Monitor.{granted}
use Rattle.calls.specs.SetList.{answer_number, filled, gain_of, blank}
use Rattle.calls.specs.declared.Record.{Record}
use Rattle.monitor.proofs.Records.{put_answer}

-- ---- one element between two lists

elem_is : (xs : List Record) (z d : Record) (zs : List Record) → get_or (xs ++ (z ∷ zs)) (length xs) d ≡ z
elem_is [] z d zs = refl
elem_is (x ∷ xs) z d zs = elem_is xs z d zs

more_done : (xs : List Record) (y : Record) (zs : List Record) → xs ++ (y ∷ zs) ≡ (xs ++ (y ∷ [])) ++ zs
more_done [] y zs = refl
more_done (x ∷ xs) y zs = ap (λ (l : List Record). x ∷ l) (more_done xs y zs)

set_is : (xs : List Record) (z y : Record) (zs : List Record) → set (xs ++ (z ∷ zs)) (length xs) y ≡ (xs ++ (y ∷ [])) ++ zs
set_is [] z y zs = refl
set_is (x ∷ xs) z y zs = ap (λ (l : List Record). x ∷ l) (set_is xs z y zs)

none : (xs : List Record) → length xs ≡ 0 → xs ≡ []
none [] e = refl
none (x ∷ xs) e = absurd (no (length xs) e)
  where
    no : (k : ℕ) → suc k ≡ 0 → ⊥
    no k p = omega (arith, p)

-- ---- numbers

gain_small : (r : ℕ) → gain_of r ≤ 1
unfolding gain_of
gain_small r = at (eqb r 1)
  where
    at : (t : Bool) → cond t 1 0 ≤ 1
    at true = lit≤ tt
    at false = lit≤ tt

-- ---- requests one after another

-- The records at the end, how many were granted, and what is left of the memory.
pub record Ran (Mem : Type 0) : Type 0 where
  pub records : List Record
  pub grants : ℕ
  pub mem : Mem

module _ {Mem : Type 0} (ask : Mem → Record → Answer) (after : Mem → Record → Mem) where
  abbrev gain : Mem → Record → ℕ
  gain m r = cond (granted (ask m r)) 1 0

  unfoldable pub each : Mem → List Record → Ran Mem
  each m [] = record { records = []; grants = 0; mem = m }
  each m (r ∷ rs) =
      let later = each (after m r) rs in
      record { records = filled r (ask m r) ∷ later.records; grants = gain m r + later.grants; mem = later.mem }

  -- One record more.
  abbrev more : Ran Mem → Record → Ran Mem
  more X z = record { records = X.records ++ (filled z (ask X.mem z) ∷ []); grants = X.grants + gain X.mem z; mem = after X.mem z }

  each_more : (m : Mem) (rs : List Record) (z : Record) → each m (rs ++ (z ∷ [])) ≡ more (each m rs) z
  unfolding each
  each_more m [] z =
      ap (λ (k : ℕ). record { records = filled z (ask m z) ∷ []; grants = k; mem = after m z }) (add-zero (gain m z) ∙ sym (zero-add (gain m z)))
  each_more m (r ∷ rs) z =
      let later : Ran Mem = each (after m r) rs in
      ap (λ (X : Ran Mem). record { records = filled r (ask m r) ∷ X.records; grants = gain m r + X.grants; mem = X.mem }) (each_more (after m r) rs z)
      ∙ ap (λ (k : ℕ). record { records = filled r (ask m r) ∷ (more later z).records; grants = k; mem = (more later z).mem })
      (sym (add_assoc (gain m r) later.grants (gain later.mem z)))

  -- ---- the loop, from the records ys₀ and the memory m₀; `Kept` is what else it keeps of the memory
  module _ (ys₀ : List Record) (m₀ : Mem) (Kept : Mem → Type 0) where
    -- Where i records are answered: g were granted, ys are the records, m is what is left of the memory.
    pub record Facts (i g : ℕ) (ys : List Record) (m : Mem) : Type 0 where
      pub before : List Record
      pub done : List Record
      pub rest : List Record
      pub whole : ys₀ ≡ before ++ rest
      pub parts : ys ≡ done ++ rest
      pub passed : length before ≡ i
      pub place : length done ≡ i
      pub size : length ys ≡ length ys₀
      pub small : g ≤ i
      pub run : record { records = done; grants = g; mem = m } ≡ each m₀ before
      pub kept : Kept m

    pub begins : Kept m₀ → Facts 0 0 ys₀ m₀
    unfolding each
    begins k = record {
      before = [];
      done = [];
      rest = ys₀;
      whole = refl;
      parts = refl;
      passed = refl;
      place = refl;
      size = refl;
      small = lit≤ tt;
      run = refl;
      kept = k;
    }

    module _ (one_granted : (m : Mem) (r : Record) → gain_of (answer_number (ask m r)) ≡ gain m r) (i g : ℕ) (ys : List Record) (m : Mem) (r : ℕ) (m' : Mem)
        (said : r ≡ answer_number (ask m (get_or ys i blank))) (left : m' ≡ after m (get_or ys i blank)) (kept' : Kept m')
      where
        abbrev ys' : List Record
        ys' = set ys i (put_answer (get_or ys i blank) r)

        turn_in : (F : Facts i g ys m) (rest : List Record) → F.rest ≡ rest → i < length ys → Facts (i + 1) (g + gain_of r) ys' m'
        turn_in F [] none_left l = absurd (no (ap length F.parts ∙ length-append F.done F.rest) (ap length none_left) F.place l)
          where
            no : length ys ≡ length F.done + length F.rest → length F.rest ≡ 0 → length F.done ≡ i → i < length ys → ⊥
            no p q k l = omega (arith, p, q, k, l)
        turn_in F (z ∷ rest) more_left l = record {
          before = F.before ++ (z ∷ []);
          done = F.done ++ (put_answer z r ∷ []);
          rest = rest;
          whole = F.whole ∙ ap (λ (l : List Record). F.before ++ l) more_left ∙ more_done F.before z rest;
          parts = (λ j. set (cut j) (sym F.place j) (put_answer (found j) r)) ∙ set_is F.done z (put_answer z r) rest;
          passed = length-append F.before (z ∷ []) ∙ ap (λ (k : ℕ). k + 1) F.passed;
          place = length-append F.done (put_answer z r ∷ []) ∙ ap (λ (k : ℕ). k + 1) F.place;
          size = length-set ys i (put_answer (get_or ys i blank) r) ∙ F.size;
          small = omega (arith, F.small, gain_small r);
          run = steps ∙ ap (λ (X : Ran Mem). more X z) F.run ∙ sym (each_more m₀ F.before z);
          kept = kept';
        }
          where
            cut : ys ≡ F.done ++ (z ∷ rest)
            cut = F.parts ∙ ap (λ (l : List Record). F.done ++ l) more_left

            found : get_or ys i blank ≡ z
            found = (λ j. get_or (cut j) (sym F.place j) blank) ∙ elem_is F.done z blank rest

            number : r ≡ answer_number (ask m z)
            number = said ∙ ap (λ (e : Record). answer_number (ask m e)) found

            gained : gain_of r ≡ gain m z
            gained = ap gain_of number ∙ one_granted m z

            leaves : m' ≡ after m z
            leaves = left ∙ ap (after m) found

            steps : record { records = F.done ++ (put_answer z r ∷ []); grants = g + gain_of r; mem = m' } ≡ more (record { records = F.done; grants = g; mem = m }) z
            steps = λ j. record { records = F.done ++ (put_answer z (number j) ∷ []); grants = g + gained j; mem = leaves j }

        pub turn : Facts i g ys m → i < length ys → Facts (i + 1) (g + gain_of r) ys' m'
        turn F l = turn_in F F.rest refl l

    -- ---- at the end

    -- All records were answered: what was granted, and what is left.
    pub ran : (g : ℕ) (ys : List Record) (m : Mem) → Facts (length ys₀) g ys m → record { records = ys; grants = g; mem = m } ≡ each m₀ ys₀
    ran g ys m F = ap (λ (l : List Record). record { records = l; grants = g; mem = m }) ended ∙ F.run ∙ ap (each m₀) all
      where
        zero_left : length ys ≡ length F.done + length F.rest → length F.done ≡ length ys₀ → length ys ≡ length ys₀ → length F.rest ≡ 0
        zero_left p k e = omega (arith, p, k, e)

        none_left : F.rest ≡ []
        none_left = none F.rest (zero_left (ap length F.parts ∙ length-append F.done F.rest) F.place F.size)

        all : F.before ≡ ys₀
        all = sym (F.whole ∙ ap (λ (l : List Record). F.before ++ l) none_left ∙ append-nil F.before)

        ended : ys ≡ F.done
        ended = F.parts ∙ ap (λ (l : List Record). F.done ++ l) none_left ∙ append-nil F.done
