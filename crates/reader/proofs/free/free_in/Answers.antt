use Rattle.memory.proofs.FreeSets.{free_entry}
use Rattle.reader.proofs.free.free_in.Goals as goal

pub returns-in-Entry : goal.returns-in-Entry
returns-in-Entry c =
    rw c.in-Entry.is
    (rw (c.set_at.ensures, c.set_at-in-Entry.ensures, c.set_at-in-Entry-2.ensures) at (free_entry _ _ _ _ _ _ c.free_of.ensures))
