-- The classes that are filled in for any words, good terms or not. Where both terms are good, they are the first old
-- entries with the same fully spelled-out formulas (`classed`, proofs/Filling).
use Rattle.std.specs.Prelude.{ℕ, zero, suc, cond, List, eqb, ltb, get_or, set, replicate}
use Rattle.theory.specs.Formula.{lowest}
use Rattle.theory.specs.Limits.{max_entries}
use Rattle.theory.specs.Terms.{Terms}
use Rattle.memory.specs.Layout.{terms_of}
use Rattle.classes.specs.private.Keys.{key_of}

-- The number of entries that the terms say, or the most that there may be.
abbrev pub counted : List ℕ → ℕ
counted terms = let n = (terms_of terms).entries in cond (ltb max_entries n) max_entries n

-- The first key below limit that is this one, or limit.
abbrev pub found : (keys : List ℕ) (limit key : ℕ) → ℕ
found keys limit key = lowest limit (λ j. eqb (get_or keys j 0) key)

-- The key of entry n by classes in a list.
abbrev pub key_by : Terms → (classes : List ℕ) → ℕ → ℕ
key_by T w n = key_of (λ x. get_or w x 0) (T.entry n)

-- Two lists after the classes and keys of the first n entries among themselves are filled in. An entry that is the same
-- as none below it is the first of its class.
unfoldable pub own_filled : Terms → ℕ → (w ks : List ℕ) → List ℕ × List ℕ
own_filled T zero w ks = (w, ks)
own_filled T (suc n) w ks =
    let p = own_filled T n w ks in
    let key = key_by T p.0 n in
    (set p.0 n (found p.1 n key), set p.1 n key)

-- A list after the classes of the first n entries among those with the keys ks are filled in.
unfoldable pub filled : Terms → (ks : List ℕ) (limit : ℕ) → ℕ → List ℕ → List ℕ
filled U ks limit zero w = w
filled U ks limit (suc n) w = let v = filled U ks limit n w in set v n (found ks limit (key_by U v n))

unfoldable pub classes_of : (old new : List ℕ) → (before : List ℕ) → List ℕ
classes_of old new before =
    filled (terms_of new) (own_filled (terms_of old) (counted old) (replicate max_entries 0) (replicate max_entries 0)).1 (counted old) (counted new) before
