-- Terms that are alike are written and stored alike.
use Prim.Native.Nat.{ℕ, ◌+◌, ◌*◌, ◌/◌, ◌%◌}
use native.Mathlib.Omega.{arith}
use mathlib.Core.Path.{◌≡◌, ap, ap₂, fun_ext, ◌∙◌}
use mathlib.Core.Bool.{Bool, cond, ◌&&◌}
use lib.Dec.{ltb}
use borrow.Author.Tests.{ltb-true}
use Rattle.sets.proofs.Finite.{and_under}
use Rattle.theory.specs.Formula.{columns}
use Rattle.theory.proofs.Past.{past-entry}
use Rattle.file.specs.File.{has_two, pair_table}
use mathlib.Core.List.{List, [], ◌∷◌, ◌++◌}
use Rattle.theory.specs.Terms.{Terms, formula, tables, past_entry, Alike}
use Rattle.theory.specs.Moment.{Relations}
use Rattle.theory.specs.Tables.{State}
use Rattle.theory.proofs.AlikeTerms.{met, met-is, same_number, same_formula, same_past}
use Rattle.file.specs.Writing.{listed, effect_lines, bit_at, all_lines, event_edge_line, stored_lines, printed_all, written, stored}
use Rattle.file.specs.declared.line.Line.{Line}
use Rattle.file.specs.declared.line.Line.TheVariants.{Members, Labels, Entry, Policy, Edge, Form, TableBit, PairBit, Mark}
use Rattle.file.proofs.LinesAppended.{listed_agree}

module _ (T U : Terms) (a : Alike T U) where
  lines_met : (R : Relations) → all_lines T R ≡ all_lines (met T U) R
  unfolding all_lines
  lines_met R = λ d. Members T.members ∷ Labels T.relations T.events
      ∷ (listed_agree T.entries _ _ (λ n l d. Entry n (a.entry n l d).op (a.entry n l d).a (a.entry n l d).b (a.entry n l d).c ∷ []) d
      ++ (listed_agree T.events _ _ (λ j l d. Policy j (a.policy j l d) ∷ []) d
      ++ (listed_agree T.events _ _ (λ j l d. cond (a.kept j l d) (Mark j ∷ []) []) d
      ++ (listed_agree T.events _ _ (λ j l d. effect_lines j (a.effects j l d)) d
      ++ listed 65536 (bit_at Edge R)))))

  lines_alike : (R : Relations) → all_lines T R ≡ all_lines U R
  lines_alike R = lines_met R ∙ ap (λ X. all_lines X R) (met-is T U a)

  pub written_alike : (R : Relations) → written T R ≡ written U R
  unfolding written
  written_alike R = ap printed_all (lines_alike R)

  pair_met : (t : ℕ) → pair_table T t ≡ pair_table (met T U) t
  pair_met t =
      and_under (ltb t (tables T)) _ _ (λ l.
      ap (λ φ. has_two (columns φ)) (same_formula T U a (past_entry T t) (past-entry T t (ltb-true t (tables T) l)).exists ∙ ap (formula (met T U)) (same_past T U a t)))
      ∙ ap (λ (n : ℕ). ltb t n && has_two (columns (formula (met T U) (past_entry (met T U) t)))) (same_number T U a T.entries (omega arith))

  pair_alike : (t : ℕ) → pair_table T t ≡ pair_table U t
  pair_alike t = pair_met t ∙ ap (λ (X : Terms). pair_table X t) (met-is T U a)

  pub stored_alike : (S : State) → stored T S ≡ stored U S
  unfolding stored stored_lines
  stored_alike S =
      ap₂ (λ (ls : List Line) (says : ℕ → ℕ → ℕ → Line). printed_all (Form 2 ∷ (ls ++ (listed 131072 (bit_at says S.table) ++ event_edge_line S.now.event))))
      (lines_alike S.now.edge) (fun_ext (λ t. fun_ext (λ i. fun_ext (λ k. ap (λ (c : Bool). cond c (PairBit t (i / 4) (4 * (i % 4) + k / 16) (k % 16)) (TableBit t i k)) (pair_alike t)))))
