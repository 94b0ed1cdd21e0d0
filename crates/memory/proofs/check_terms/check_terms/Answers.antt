-- The tests, part by part: each later part needs what the earlier ones have found.
use Rattle.std.proofs.Common.{◌≡◌, true, ◌&&◌}
use mathlib.Core.Path.{sym, ap₂, subst, ◌∙◌}
use Rattle.sets.proofs.Finite.{and_left}
use Rattle.theory.specs.Fit.{every}
use Rattle.memory.specs.Layout.{terms_of}
use Rattle.memory.specs.TableIndex.{Masked}
use Rattle.memory.proofs.TermsTests.{head_fails, scan_fails, scan_passes, few_entries, few_events}
use Rattle.memory.proofs.check_terms.check_terms.Goals as goal
use Rattle.memory.proofs.check_terms.check_terms.Goals.{then-head_fits, else-head_fits}

pub scan-requires : goal.scan-requires
scan-requires c = (few_entries _ (sym c.head_fits.ensures ∙ c.if-head_fits.true), c.requires.1, c.requires.2, c.requires.0)

pub policies_fit-requires : goal.policies_fit-requires
unfolding every
policies_fit-requires c = elim c.if-head_fits.branch [
  | then-head_fits w ↦
      let passed : w.scan.result ≡ true = cc in
      (and_left _ _ (sym w.scan.ensures.value ∙ passed), subst (Masked (terms_of c.args.terms.now)) (sym w.masks-is) (w.scan.ensures.indexed passed).1)
  | else-head_fits w ↦ absurd (cc)
]

pub rest_blank-requires : goal.rest_blank-requires
rest_blank-requires c = elim c.if-head_fits.branch [
  | then-head_fits w ↦
      let head = sym c.head_fits.ensures ∙ w.if-head_fits.true in
      (c.requires.0, few_entries _ head, few_events _ head)
  | else-head_fits w ↦ absurd (cc)
]

pub returns-then-scan-clause-value : goal.returns-then-scan-clause-value
returns-then-scan-clause-value c = elim c.if-head_fits.branch [
  | then-head_fits w ↦
      let passed : w.scan.result ≡ true = cc in
      ap₂ ◌&&◌ c.policies_fit.ensures (ap₂ ◌&&◌ c.effects_fit.ensures (ap₂ ◌&&◌ c.rest_blank.ensures c.marks_fit.ensures))
      ∙ sym (scan_passes _ (sym c.head_fits.ensures ∙ w.if-head_fits.true) (sym w.scan.ensures.value ∙ passed))
  | else-head_fits w ↦ absurd (cc)
]

pub returns-else-scan-clause-value : goal.returns-else-scan-clause-value
returns-else-scan-clause-value c = elim c.if-head_fits.branch [
  | then-head_fits w ↦
      c.if-scan.false ∙ sym (scan_fails _ (sym c.head_fits.ensures ∙ w.if-head_fits.true) (sym w.scan.ensures.value ∙ sym w.value-is ∙ c.if-scan.false))
  | else-head_fits w ↦ c.if-scan.false ∙ sym (head_fails _ (sym c.head_fits.ensures ∙ w.if-head_fits.false))
]
