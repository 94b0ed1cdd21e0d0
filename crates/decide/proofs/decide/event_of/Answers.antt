use Rattle.memory.proofs.Accepted.{good}
use Rattle.decide.proofs.decide.event_of.Goals as goal

pub labelled-requires : goal.labelled-requires
labelled-requires c =
    rw c.events.ensures.value ((good _ c.args.present.now.ready.good).few_events)
