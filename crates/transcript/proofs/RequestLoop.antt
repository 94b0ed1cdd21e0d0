-- The loop over the lines of requests: what has been put so far and what is left to print are together the whole.
use Prim.Native.Nat.{ℕ, ◌+◌, ◌*◌, ◌≤◌}
use mathlib.Core.Path.{◌≡◌, refl, sym, ap, ◌∙◌}
use mathlib.Core.List.{List, [], ◌++◌, append-nil, append_assoc}
use native.Mathlib.Omega.{arith}
use lib.ListN.{length}
use Rattle.theory.specs.Keeper.{Answer}
use Rattle.theory.specs.Keeper.Answer.{refused}
use Rattle.fields.specs.private.Put.{Put}
use Rattle.fields.specs.Split.{lines, split}
use Rattle.fields.specs.Split.Lines.{done, cut, line}
use Rattle.fields.specs.private.Lines.{LineTaken}
use Rattle.fields.proofs.Output.{put_none, put_then}
use Rattle.transcript.specs.Transcript.{asked, answer_line}
use Rattle.transcript.specs.Served.{scratch, line_answer, line_state, served}
use Rattle.transcript.proofs.Lines.{line_small, line_short}

-- Line n begins the rest t; the state is the one that the lines before it left, and at is the next place of the output.
pub record RequestsSoFar (terms before requests output state out room t : List ℕ) (n at : ℕ) : Type 0 where
  pub blank : room ≡ scratch
  pub few : n + length t ≤ length requests + 1
  pub near : at ≤ 15 * n
  pub bytes : List ℕ
  pub put : Put output out 0 at bytes
  pub whole : served terms before 1 (lines requests) ≡ bytes ++ served terms state n (lines t)

pub going_start : (terms state requests out : List ℕ) → RequestsSoFar terms state requests out state out scratch requests 1 0
going_start terms state requests out = record {
  blank = refl;
  few = omega arith;
  near = omega arith;
  bytes = [];
  put = put_none out 0;
  whole = refl;
}

served_line : (terms state t b rest : List ℕ) (n : ℕ) → lines t ≡ line b (lines rest) →
    served terms state n (lines t)
    ≡ answer_line n (line_answer terms state (asked (split 9 b))) ++ served terms (line_state terms state (asked (split 9 b))) (n + 1) (lines rest)
unfolding served
served_line terms state t b rest n h = rw h refl

served_cut : (terms state t : List ℕ) (n : ℕ) → lines t ≡ cut t → served terms state n (lines t) ≡ answer_line n (refused 1 0)
unfolding served
served_cut terms state t n h = rw h refl

served_done : (terms state t : List ℕ) (n : ℕ) → lines t ≡ done → served terms state n (lines t) ≡ []
unfolding served
served_done terms state t n h = rw h refl

module _ {terms before requests output state out room t : List ℕ} {n at : ℕ} (g : RequestsSoFar terms before requests output state out room t n at) where
  -- A line that ends in a line feed.
  pub going_next : {state' out' room' b rest : List ℕ} {at' : ℕ} {a : Answer} → LineTaken t b rest →
      a ≡ line_answer terms state (asked (split 9 b)) → state' ≡ line_state terms state (asked (split 9 b)) → room' ≡ scratch →
      Put out out' at at' (answer_line n a) →
      RequestsSoFar terms before requests output state' out' room' rest (n + 1) at'
  going_next {state'} {out'} {room'} {b} {rest} {at'} {a} l x y z w =
      let s : length (answer_line n a) ≤ 15 = rw x (line_short n _ (line_small terms state _)) in
      record {
        blank = z;
        few = omega (arith, g.few, l.shorter);
        near = omega (arith, g.near, w.next);
        bytes = g.bytes ++ answer_line n a;
        put = put_then g.put w;
        whole =
            g.whole
            ∙ ap (λ (l : List ℕ). g.bytes ++ l) (rw (x, y) (served_line terms state t b rest n l.first))
            ∙ sym (append_assoc g.bytes (answer_line n a) _);
      }

  -- A last one that does not.
  pub going_cut : {out' : List ℕ} {at' : ℕ} → lines t ≡ cut t →
      Put out out' at at' (answer_line n (refused 1 0)) → Put output out' 0 at' (served terms before 1 (lines requests))
  going_cut h w = rw (g.whole, served_cut terms state t n h) (put_then g.put w)

  -- Nothing is left.
  pub going_done : lines t ≡ done → Put output out 0 at (served terms before 1 (lines requests))
  going_done h = rw (g.whole, served_done terms state t n h, append-nil g.bytes) g.put
