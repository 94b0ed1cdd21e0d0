-- The version of the archive as one number: major, minor and patch, three digits each for the last two.
use Rattle.std.specs.Prelude.{ℕ, ◌+◌, ◌*◌}

abbrev pub version : ℕ
version = 0 * 1000000 + 15 * 1000 + 0
