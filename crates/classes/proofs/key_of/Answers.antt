use Prim.Native.Nat.{ℕ}
use mathlib.Core.Path.{◌≡◌, ap, ap₂, ◌∙◌}
use lib.ListN.{get_or}
use Rattle.theory.specs.Formula.{Entry, Operand, first_operand, second_operand, third_operand}
use Rattle.memory.specs.Layout.{terms_of}
use Rattle.classes.specs.private.Keys.{normal, packed, key_of}
use Rattle.classes.proofs.key_of.Goals as goal

-- What one operand counts for, from what was read: k is the kind that operator op has there.
one : (f : ℕ → ℕ) (kind : ℕ → Operand) (k : Operand) (op o x x' r : ℕ) → k ≡ kind op → op ≡ o → x ≡ x' → r ≡ normal k f x → r ≡ normal (kind o) f x'
one f kind k op o x x' r ek eo ex er = er ∙ ap (λ (z : Operand). normal z f x) (ek ∙ ap kind eo) ∙ ap (normal (kind o) f) ex

together : (f : ℕ → ℕ) (e : Entry) (op a b c : ℕ) → op ≡ e.op → a ≡ normal (first_operand e.op) f e.a → b ≡ normal (second_operand e.op) f e.b →
    c ≡ normal (third_operand e.op) f e.c → packed op a b c ≡ key_of f e
unfolding key_of
together f e op a b c eo ea eb ec =
    ap₂ (λ (x y : ℕ). packed x y b c) eo ea ∙ ap₂ (λ (x y : ℕ). packed e.op (normal (first_operand e.op) f e.a) x y) eb ec

pub returns : goal.returns
returns c =
    let a = c.args in
    let eo = c.op_of-op.ensures.value in
    let ks = c.operands_of-kinds in
    together (λ x. get_or a.classes.now x 0) ((terms_of a.terms.now).entry a.n) _ _ _ _ eo
    (one _ first_operand _ _ _ _ _ _ ks.ensures.first_value eo c.first_of-x.ensures.value (c.normal_of-a.ensures.by_index _ c.word.ensures.value))
    (one _ second_operand _ _ _ _ _ _ ks.ensures.second_value eo c.second_of-y.ensures.value (c.normal_of-b.ensures.by_index _ c.word-2.ensures.value))
    (one _ third_operand _ _ _ _ _ _ ks.ensures.third_value eo c.third_of-z.ensures.value (c.normal_of-c.ensures.by_index _ c.word-3.ensures.value))
