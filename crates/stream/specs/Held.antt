-- What a buffer holds: the front of its bytes.
use Rattle.std.specs.Prelude.{ℕ, List, take}
use Rattle.stream.specs.declared.Buffer.{Buffer}

abbrev pub holding : Buffer → List ℕ
holding buffer = take buffer.held buffer.bytes.now
