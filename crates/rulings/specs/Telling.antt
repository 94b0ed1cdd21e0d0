-- What the keeper tells of an entry over its book, each past-time entry judged from its own start.
use Rattle.std.specs.Prelude.{ℕ, cond, not}
use Rattle.theory.specs.Keeper.{Book, target, keeper_holds}
use Rattle.memory.specs.Outcome.{askable}
use Rattle.calls.specs.Telling.{Telling, paired}
use Rattle.calls.specs.Telling.Telling.{holds, fails, refused}

unfoldable pub keeper_tells : Book → (n u v : ℕ) → Telling
keeper_tells B n u v =
    cond (not (askable B.terms n)) (refused 14 0)
    (cond (not (paired B.terms u v)) (refused 9 0)
    (cond (keeper_holds B.terms B.start B.moments n (target v) u) holds fails))
