-- Numbers as a WAV file writes them, the low byte first; a byte past the end counts as 0. Definitions only.
use Rattle.std.specs.Prelude.{ℕ, ◌+◌, ◌*◌, List, get_or}

-- the number that two bytes from place `at` on stand for
unfoldable pub two_at : List ℕ → ℕ → ℕ
two_at bytes at = get_or bytes at 0 + 256 * get_or bytes (at + 1) 0

-- the number that four bytes from place `at` on stand for
unfoldable pub four_at : List ℕ → ℕ → ℕ
unfolding two_at
four_at bytes at = two_at bytes at + 65536 * two_at bytes (at + 2)
