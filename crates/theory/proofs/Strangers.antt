-- Strangers have no say: two runs over the same terms without reach, that differ only outside S, answer every call
-- inside S alike (docs/SCOPE.md, Strangers).
use Prim.Native.Nat.{ℕ, zero, suc}
use mathlib.Core.Path.{◌≡◌, refl, sym, ap, ◌∙◌}
use mathlib.Core.Logic.{◌⊎◌, inl, inr}
use mathlib.Core.List.{List, [], ◌∷◌}
use lib.ListN.{get_or}
use Rattle.sets.proofs.Finite.{not_both}
use Rattle.theory.specs.Meaning.{from_first}
use Rattle.theory.specs.Terms.{Terms}
use Rattle.theory.specs.Moment.{Relations, Moment, first}
use Rattle.theory.specs.Keeper.{Call, Answer, judge, keep, keep_all, keeper}
use Rattle.theory.specs.Strangers.{Circle, WithoutReach, Separate, SeparateFirst, AgreeWithin, Inside, SameWithin, BothOutside, Paired}
use Rattle.theory.specs.Fit.{Good}
use Rattle.theory.proofs.Separate.{separate_keep, separate_start, separate_began}
use Rattle.theory.proofs.Parallel.{Parallel, agree_first, parallel_append, parallel_outside, parallel_inside}
use Rattle.theory.proofs.Parallel.Parallel.{done, more}

module _ (T : Terms) (good : Good T) (without : WithoutReach T) (S : Circle) (c₀ : Call) (a₀ : Answer) where
  -- From any two records that agree inside S and join it to nothing else.
  strangers_from : (cs ds : List Call) (Ms Ns : List Moment) → Parallel T S Ms Ns → Separate T S Ms → Separate T S Ns → Paired T S Ms Ns cs ds →
      (n : ℕ) → Inside S (get_or cs n c₀) → get_or (keep_all T from_first Ms cs).0 n a₀ ≡ get_or (keep_all T from_first Ns ds).0 n a₀
  unfolding keep_all keep
  strangers_from [] [] Ms Ns al p q pair n i = refl
  strangers_from [] (d ∷ ds) Ms Ns al p q pair n i = absurd pair
  strangers_from (c ∷ cs) [] Ms Ns al p q pair n i = absurd pair
  strangers_from (c ∷ cs) (d ∷ ds) Ms Ns al p q pair n i =
      by pair.2 (λ new s t. strangers_from cs ds (keep T from_first Ms c).1 (keep T from_first Ns d).1
      (parallel_append T S al new) (separate_keep T S Ms c s p) (separate_keep T S Ns d t q) pair.3) n i
    where
      As : List Answer
      As = (keep_all T from_first (keep T from_first Ms c).1 cs).0

      Bs : List Answer
      Bs = (keep_all T from_first (keep T from_first Ns d).1 ds).0

      by : SameWithin S c d ⊎ BothOutside T S Ms Ns c d →
          (Parallel T S (judge T from_first Ms c).1 (judge T from_first Ns d).1 → S c.from ≡ S c.to → S d.from ≡ S d.to →
          (n : ℕ) → Inside S (get_or cs n c₀) → get_or As n a₀ ≡ get_or Bs n a₀) →
          (n : ℕ) → Inside S (get_or (c ∷ cs) n c₀) → get_or ((judge T from_first Ms c).0 ∷ As) n a₀ ≡ get_or ((judge T from_first Ns d).0 ∷ Bs) n a₀
      by (inl same) rest zero i = (parallel_inside T S Ms Ns al good without p q c d pair.0 pair.1 same).0
      by (inl same) rest (suc n) i =
          rest (parallel_inside T S Ms Ns al good without p q c d pair.0 pair.1 same).1 (same.inside.0 ∙ sym same.inside.1)
          (ap S (sym same.from) ∙ same.inside.0 ∙ sym same.inside.1 ∙ ap S same.to) n i
      by (inr out) rest zero i = absurd (not_both (S c.from) i.0 out.left.0)
      by (inr out) rest (suc n) i =
          rest (parallel_outside T S Ms Ns al c d out) (out.left.0 ∙ sym out.left.1) (out.right.0 ∙ sym out.right.1) n i

  module _ (R Q : Relations) (agree : AgreeWithin T S R Q) where
    -- What a designer can check. No first edge joins S to the rest; that none ever does follows, since the calls of the
    -- two lists have their ends on one side.
    pub strangers_first : SeparateFirst T S R → SeparateFirst T S Q → (cs ds : List Call) → Paired T S (first R ∷ []) (first Q ∷ []) cs ds →
        (n : ℕ) → Inside S (get_or cs n c₀) → get_or (keeper T R cs).0 n a₀ ≡ get_or (keeper T Q ds).0 n a₀
    strangers_first p q cs ds pair =
        strangers_from cs ds (first R ∷ []) (first Q ∷ []) (more (agree_first T S R Q agree) done) (separate_start T S R p) (separate_start T S Q q) pair

    -- As docs/SCOPE.md, Strangers, has it: in both runs no edge at any moment joins S to the rest, and the first
    -- relations inside S agree. Then call number n, a request or a look inside S, gets the same answer in both. (Past
    -- the ends of the lists get_or gives c₀ and a₀, whatever they are.)
    pub strangers : (cs ds : List Call) → Separate T S (keeper T R cs).1 → Separate T S (keeper T Q ds).1 → Paired T S (first R ∷ []) (first Q ∷ []) cs ds →
        (n : ℕ) → Inside S (get_or cs n c₀) → get_or (keeper T R cs).0 n a₀ ≡ get_or (keeper T Q ds).0 n a₀
    strangers cs ds p q = strangers_first (separate_began T S R cs p) (separate_began T S Q ds q) cs ds
