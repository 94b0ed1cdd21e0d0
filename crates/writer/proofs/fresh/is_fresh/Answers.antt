-- The copy opens, and is compared word by word.
use Rattle.std.proofs.Common.{take, ap, sym}
use mathlib.Core.Path.{◌∙◌}
use lib.Seq.{length-take-le}
use Rattle.std.proofs.lemmas.Slice.Eq.{slice_eq-Decides}
use Rattle.std.proofs.lemmas.Bool.Decides.{Decides-eqb}
use Rattle.calls.specs.Monitor.{opened_state}
use Rattle.memory.specs.Layout.{state_words}
use Rattle.memory.proofs.Outcomes.{passed_checked}
use Rattle.writer.proofs.FreshStart.{same_words, opened_long, fresh-is}
use Rattle.writer.proofs.fresh.is_fresh.Goals as goal

pub slice_bounds-copy_from_slice-end-2 : goal.slice_bounds-copy_from_slice-end-2
slice_bounds-copy_from_slice-end-2 c = sym (length-take-le _ _ (passed_checked _ _ c.requires).long_state)

pub copy_from_slice-requires : goal.copy_from_slice-requires
copy_from_slice-requires c = sym (length-take-le _ _ (passed_checked _ _ c.requires).long_state)

pub returns : goal.returns
returns c =
    let o = c.open.ensures.state_after ∙ ap (opened_state _) c.copy_from_slice.ensures.after in
    let s = (passed_checked _ _ c.requires).long_state in
    fresh-is _ _ c.requires _ _ o
    (same_words state_words c.args.state.now c.open.new.state _ s (opened_long _ _ c.requires _ o)
    (slice_eq-Decides Decides-eqb (take state_words c.args.state.now) c.open.new.state _ c.eq.ensures))
