use Rattle.std.proofs.Common.{◌≡◌, ℕ, ◌+◌, ◌-◌, ◌≤◌, List, ◌++◌, length, take, drop, rules}
use Rattle.std.proofs.Common.{sym, ap, ◌∙◌, subst, le_refl, drop_at, length-take-le}
use Rattle.std.proofs.lemmas.Slice.{take-put_mid_below}
use Rattle.std.proofs.KnownBytes.{Consumes-trans}
use Rattle.std.specs.Io.KnownBytes.{Consumes}
use borrow.Rule.Slice.PartMut.{put_mid, post_of}
use lib.Seq.{take-add, take-append-le}
use Rattle.system.proofs.read_front.Goals as goal

-- what was read so far, and then the n bytes of one more read
take-put_mid : (a k n : ℕ) (xs ys : List ℕ) → a ≤ length xs → n ≤ length ys
    → take (a + n) (put_mid a k xs ys) ≡ take a xs ++ take n ys
take-put_mid a k n xs ys within fits =
    let all = put_mid a k xs ys in
    let after = post_of a k xs in
    let front = take-put_mid_below _ _ _ _ _ (le_refl _) within in
    let part = drop_at (take a xs) (ys ++ after) a (length-take-le a xs within) in
    let back = ap (take n) part ∙ take-append-le n ys after fits in
    take-add a n all ∙ ap (λ l. l ++ take n (drop a all)) front ∙ ap (λ l. take a xs ++ l) back

pub loop-done-preserved : goal.loop-done-preserved
loop-done-preserved g c =
    let room = length c.loop-done.buf - c.loop-done.done in
    let read = c.in-Ok.ensures in
    let before = c.loop-done.invariant in
    let so_far = take-put_mid _ room _ _ c.read.new.buf before.0 read.bound.0 in
    (search rules, subst (Consumes _ _) (sym so_far) (Consumes-trans _ _ _ _ _ before.1 read.bytes.0))
