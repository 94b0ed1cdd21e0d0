-- One bank and the other: memory and moments of both, by the bank that is called.
use mathlib.Core.Path.{◌≡◌, refl, ap}
use mathlib.Core.Bool.{true≢false}
use mathlib.Core.List.{List, [], map}
use Rattle.theory.specs.Moment.{Moment}
use Rattle.banking.specs.Banks.{Bank, other, same, quiet, as_seen}
use Rattle.banking.specs.Banks.Bank.{left, right}
use Rattle.banking.specs.BankRuns.{of_banks}

pub by_bank : (b : Bank) (P : Bank → Type 0) → P b → P (other b) → (d : Bank) → P d
by_bank left P x y left = x
by_bank left P x y right = y
by_bank right P x y left = y
by_bank right P x y right = x

pub not_own : (b : Bank) → b ≡ other b → ⊥
not_own left z = true≢false (ap (same left) z)
not_own right z = true≢false (ap (same right) z)

pub of_own : {A : Type 0} (b : Bank) (x y : A) → of_banks b x y b ≡ x
of_own left x y = refl
of_own right x y = refl

pub of_other : {A : Type 0} (b : Bank) (x y : A) → of_banks b x y (other b) ≡ y
of_other left x y = refl
of_other right x y = refl

pub of_both : {A : Type 0} (b : Bank) (f : Bank → A) (d : Bank) → of_banks b (f b) (f (other b)) d ≡ f d
of_both b f d = by_bank b (λ d. of_banks b (f b) (f (other b)) d ≡ f d) (of_own b (f b) (f (other b))) (of_other b (f b) (f (other b))) d

-- A bank has its own moments as they are, and the other bank's without their event edges.
pub seen_own : (b : Bank) (Ms : List Moment) → as_seen b b Ms ≡ Ms
seen_own left Ms = refl
seen_own right Ms = refl

pub seen_other : (b : Bank) (Ms : List Moment) → as_seen (other b) b Ms ≡ map quiet Ms
seen_other left Ms = refl
seen_other right Ms = refl

pub seen_beside : (b : Bank) (Ms : List Moment) → as_seen b (other b) Ms ≡ map quiet Ms
seen_beside left Ms = refl
seen_beside right Ms = refl

pub seen_none : (d b : Bank) → as_seen d b [] ≡ []
seen_none d b = by_bank b (λ d. as_seen d b [] ≡ []) (seen_own b []) (seen_other b []) d
