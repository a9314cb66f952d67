-- The archive's version, 0.12.0, as one number.
use Rattle.std.specs.Prelude.{ℕ, ◌+◌, ◌*◌}

abbrev pub version_number : ℕ
version_number = 0 * 1000000 + 12 * 1000 + 0
