-- What the test of the lengths of two banks' memory says.
use Prim.Native.Nat.{ℕ}
use mathlib.Core.Path.{◌≡◌, refl}
use mathlib.Core.Bool.{Bool, true, false, ◌||◌, true≢false, false≢true}
use mathlib.Core.List.{List}
use lib.Dec.{ltb}
use lib.ListN.{length}
use borrow.Author.Tests.{lt-ltb, le-ltb, ltb-true, ltb-false}
use Rattle.sets.proofs.Finite.{or_left, or_right}
use Rattle.memory.specs.Layout.{relation_words, own_words}
use Rattle.memory.specs.Outcome.{short_banks}
use Rattle.banking.specs.BankRefused.{LongBanks, ShortBanks}
use Rattle.banking.specs.BankRefused.ShortBanks.{short-relations, short_own, short_other}

module _ (relations own other : List ℕ) where
  pub long_banks : short_banks relations own other ≡ false → LongBanks relations own other
  long_banks e = go (ltb (length relations) relation_words) refl (ltb (length own) own_words) refl (ltb (length other) own_words) refl e
    where
      go : (a : Bool) → ltb (length relations) relation_words ≡ a → (b : Bool) → ltb (length own) own_words ≡ b → (c : Bool) → ltb (length other) own_words ≡ c →
          (a || (b || c)) ≡ false → LongBanks relations own other
      go false a false b false c z = record { relations_long = ltb-false _ _ a; own_long = ltb-false _ _ b; other_long = ltb-false _ _ c }
      go true _ _ _ _ _ z = absurd (true≢false z)
      go false _ true _ _ _ z = absurd (true≢false z)
      go false _ false _ true _ z = absurd (true≢false z)

  pub not_short : LongBanks relations own other → short_banks relations own other ≡ false
  not_short l = rw (le-ltb (length relations) relation_words l.relations_long, le-ltb (length own) own_words l.own_long, le-ltb (length other) own_words l.other_long)

  pub why_short : short_banks relations own other ≡ true → ShortBanks relations own other
  why_short e = go (ltb (length relations) relation_words) refl (ltb (length own) own_words) refl (ltb (length other) own_words) refl e
    where
      go : (a : Bool) → ltb (length relations) relation_words ≡ a → (b : Bool) → ltb (length own) own_words ≡ b → (c : Bool) → ltb (length other) own_words ≡ c →
          (a || (b || c)) ≡ true → ShortBanks relations own other
      go true a _ _ _ _ z = short-relations (ltb-true _ _ a)
      go false _ true b _ _ z = short_own (ltb-true _ _ b)
      go false _ false _ true c z = short_other (ltb-true _ _ c)
      go false _ false _ false _ z = absurd (false≢true z)

  pub is_short : ShortBanks relations own other → short_banks relations own other ≡ true
  is_short (short-relations h) = rw (lt-ltb (length relations) relation_words h)
  is_short (short_own h) = or_right (ltb (length relations) relation_words) _ (or_left _ (ltb (length other) own_words) (lt-ltb (length own) own_words h))
  is_short (short_other h) = or_right (ltb (length relations) relation_words) _ (or_right (ltb (length own) own_words) _ (lt-ltb (length other) own_words h))
