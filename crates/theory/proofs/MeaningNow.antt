-- Laws of the meaning at the present moment: what it reads, and when it is the meaning over the record.
use Prim.Native.Nat.{ℕ, ◌<◌}
use mathlib.Core.Path.{◌≡◌, refl, ap, ap₂, ◌∙◌}
use mathlib.Core.Bool.{Bool, true, not, ◌&&◌, ◌||◌}
use lib.Dec.{leb}
use mathlib.Core.List.{List}
use Rattle.sets.proofs.Finite.{any_cong, count_cong}
use Rattle.theory.specs.Formula.{Formula, free, columns}
use Rattle.theory.specs.Formula.Formula.{top, var, neg, or, out, into, prev, since, bind, at, reach, many}
use Rattle.theory.specs.Meaning.{Graph, Record, Starts, Assignment, assign, alone, holds}
use Rattle.theory.specs.Columns.{columns_fit, inside, word_for, bit_for, standing, member}
use Rattle.theory.specs.Tables.{Tables, recalled, holds_now}
use Rattle.theory.proofs.Unfolding.{Visible, table_of}
use Rattle.theory.proofs.Record.{coincidence}
use Rattle.theory.proofs.Places.{In, Among, among_assign, among_alone, place_member, place_inside, place_standing}

-- Two relations agree on the members.
abbrev pub Same : ℕ → (ℕ → ℕ → Bool) → (ℕ → ℕ → Bool) → Type 0
Same N p q = (a b : ℕ) → a < N → b < N → p a b ≡ q a b

-- Two tables with these columns agree at the places of members.
abbrev pub SameAt : ℕ → List ℕ → (ℕ → ℕ → Bool) → (ℕ → ℕ → Bool) → Type 0
SameAt N cs p q = (i k : ℕ) → inside N cs i k ≡ true → p i k ≡ q i k

-- A table's columns fit, and two tables agree there.
pub record SameTable (N : ℕ) (X Y : Tables) (φ : Formula) : Type 0 where
  pub fit : columns_fit N (columns φ) ≡ true
  pub bits : SameAt N (columns φ) (X (table_of φ)) (Y (table_of φ))

module _ (N : ℕ) (G H : Graph) (X Y : Tables) (same : (l : ℕ) → Same N (G l) (H l)) where
  like : (φ : Formula) → SameTable N X Y φ → (g : Assignment) (m : ℕ) → Among N g → m < N →
      recalled X (table_of φ) (columns φ) g m ≡ recalled Y (table_of φ) (columns φ) g m
  like φ v g m w l = v.bits (word_for (columns φ) g m) (bit_for (columns φ) g) (place_inside N g w m l (columns φ) v.fit)

  -- Only the edges between members count, and the bits at members of those tables that are read.
  pub now_cong : (f : Formula) (g : Assignment) (m : ℕ) → Among N g → m < N →
      Visible (SameTable N X Y) f → holds_now N G X f g m ≡ holds_now N H Y f g m
  unfolding holds_now
  now_cong top g m w l v = refl
  now_cong (var x) g m w l v = refl
  now_cong (neg f) g m w l v = ap not (now_cong f g m w l v)
  now_cong (or f h) g m w l v = ap₂ ◌||◌ (now_cong f g m w l v.0) (now_cong h g m w l v.1)
  now_cong (out r f) g m w l v = any_cong N (λ k kl. ap₂ ◌&&◌ (same r m k l kl) (now_cong f g k w kl v))
  now_cong (into r f) g m w l v = any_cong N (λ k kl. ap₂ ◌&&◌ (same r k m kl l) (now_cong f g k w kl v))
  now_cong (prev t f) g m w l v = like (prev t f) v g m w l
  now_cong (since t f h) g m w l v = like (since t f h) v g m w l
  now_cong (bind x f) g m w l v = now_cong f (assign g x m) m (among_assign N g x m w l) l v
  now_cong (at x f) g m w l v = now_cong f g (g x) w (w x) v
  now_cong (reach x f h) g m w l v =
      any_cong N (λ k kl. ap₂ ◌&&◌ (now_cong f (alone x k) m (among_alone N x k kl) l v.0) (now_cong h g k w kl v.1))
  now_cong (many r f c) g m w l v =
      ap (leb c) (count_cong N (λ k kl. ap₂ ◌&&◌ (same r m k l kl) (now_cong f g k w kl v)))

-- A past-time formula's table is right at moment i: it has room for its columns, they are its free
-- variables, and its bits are its meaning.
pub record Right (N : ℕ) (s : Starts) (γ : Record) (i : ℕ) (X : Tables) (φ : Formula) : Type 0 where
  pub fit : columns_fit N (columns φ) ≡ true
  pub all : (x : ℕ) → free φ x ≡ true → In x (columns φ)
  pub bits : SameAt N (columns φ) (X (table_of φ)) (λ a b. holds N s γ φ i (standing φ a b) (member φ a))

-- The one law of a table's bits, over the number of free variables: at the place of m and g they say what
-- the formula means at m under g.
pub right_says : (N : ℕ) (s : Starts) (γ : Record) (i : ℕ) (X : Tables) (φ : Formula) → Right N s γ i X φ → (g : Assignment) (m : ℕ) → Among N g → m < N →
    recalled X (table_of φ) (columns φ) g m ≡ holds N s γ φ i g m
right_says N s γ i X φ r g m w l =
    r.bits (word_for (columns φ) g m) (bit_for (columns φ) g) (place_inside N g w m l (columns φ) r.fit)
    ∙ ap (holds N s γ φ i (standing φ (word_for (columns φ) g m) (bit_for (columns φ) g))) (place_member N g w m l (columns φ) r.fit)
    ∙ coincidence N s γ φ i (standing φ (word_for (columns φ) g m) (bit_for (columns φ) g)) g m
    (λ x q. place_standing N g w m l (columns φ) r.fit x (r.all x q))

module _ (N : ℕ) (G : Graph) (X : Tables) (s : Starts) (γ : Record) (i : ℕ) (same : (l : ℕ) → Same N (G l) (γ i l)) where
  -- Where the tables that are read are right, so is the meaning.
  pub now_holds : (f : Formula) (g : Assignment) (m : ℕ) → Among N g → m < N → Visible (Right N s γ i X) f →
      holds_now N G X f g m ≡ holds N s γ f i g m
  unfolding holds_now holds
  now_holds top g m w l v = refl
  now_holds (var x) g m w l v = refl
  now_holds (neg f) g m w l v = ap not (now_holds f g m w l v)
  now_holds (or f h) g m w l v = ap₂ ◌||◌ (now_holds f g m w l v.0) (now_holds h g m w l v.1)
  now_holds (out r f) g m w l v = any_cong N (λ k kl. ap₂ ◌&&◌ (same r m k l kl) (now_holds f g k w kl v))
  now_holds (into r f) g m w l v = any_cong N (λ k kl. ap₂ ◌&&◌ (same r k m kl l) (now_holds f g k w kl v))
  now_holds (prev t f) g m w l v = right_says N s γ i X (prev t f) v g m w l
  now_holds (since t f h) g m w l v = right_says N s γ i X (since t f h) v g m w l
  now_holds (bind x f) g m w l v = now_holds f (assign g x m) m (among_assign N g x m w l) l v
  now_holds (at x f) g m w l v = now_holds f g (g x) w (w x) v
  now_holds (reach x f h) g m w l v =
      any_cong N (λ k kl. ap₂ ◌&&◌ (now_holds f (alone x k) m (among_alone N x k kl) l v.0) (now_holds h g k w kl v.1))
  now_holds (many r f c) g m w l v =
      ap (leb c) (count_cong N (λ k kl. ap₂ ◌&&◌ (same r m k l kl) (now_holds f g k w kl v)))
