-- What the first line that is taken from a text says of its form.
use Prim.Native.Nat.{ℕ}
use mathlib.Core.Path.{◌≡◌}
use mathlib.Core.Bool.{false}
use mathlib.Core.List.{List}
use Rattle.std.specs.Prelude.{MatchOption, Some, None}
use Rattle.std.specs.declared.option.Option.{Option}
use Rattle.std.specs.Option.{option_flatten}
use denote.Ref.{Bor}
use Rattle.fields.specs.Split.{split, lines}
use Rattle.fields.specs.Split.Lines.{done}
use Rattle.fields.specs.private.Lines.{LineTaken, CutTaken}
use Rattle.file.specs.Line.{parsed}
use Rattle.file.specs.Said.{form_in}
use Rattle.file.specs.declared.line.Line.{Line}
use Rattle.reader.specs.OldForm.{begins_stored}
use Rattle.reader.proofs.OldForm.{begins_none, begins_cut, begins_line}

module _ (t rest : List ℕ) where
  -- One step taken, and what is left of it where an end with no line feed counts as none.
  abbrev Stepped : Option (Option (Bor (List ℕ))) → Type 0
  Stepped o = MatchOption o (lines t ≡ done) (λ i. MatchOption i (CutTaken t rest) (λ l. LineTaken t l.now rest))

  pub none_taken : (o : Option (Option (Bor (List ℕ)))) → Stepped o → option_flatten o ≡ None → false ≡ begins_stored t
  none_taken None h e = begins_none t h
  none_taken (Some None) h e = begins_cut t h.last
  none_taken (Some (Some l)) h e = absurd cc

  pub line_taken : (o : Option (Option (Bor (List ℕ)))) → Stepped o → (b : Bor (List ℕ)) → option_flatten o ≡ Some b
      → (l : Line) → l ≡ parsed (split 9 b.now) → form_in l false ≡ begins_stored t
  line_taken None h b e l q = absurd cc
  line_taken (Some None) h b e l q = absurd cc
  line_taken (Some (Some x)) h b e l q = begins_line t x.now rest h.first l (let z : x ≡ b = cc in rw z q)
