-- What `keep` leaves: of the first `held` bytes those behind the first `used`, moved to the front. Where the buffer holds fewer than
-- `held`, or more are used than are held, nothing is kept and no byte is changed.
use Rattle.std.specs.Prelude.{ℕ, ◌-◌, Bool, ◌&&◌, List, ◌++◌, leb, length, take, drop, if◌then◌else◌}

-- whether the numbers fit a buffer of this length
unfoldable pub keeps : ℕ → ℕ → ℕ → Bool
keeps size used held = leb held size && leb used held

-- how many bytes are kept
unfoldable pub kept_count : ℕ → ℕ → ℕ → ℕ
kept_count size used held = if keeps size used held then held - used else 0

-- the buffer's bytes then: the kept ones in front, and the places behind them as they were
unfoldable pub kept : List ℕ → ℕ → ℕ → List ℕ
kept bytes used held =
    if keeps (length bytes) used held then take (held - used) (drop used bytes) ++ drop (held - used) bytes else bytes
