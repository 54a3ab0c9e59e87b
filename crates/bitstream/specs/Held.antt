-- A reader and a writer that hold their bytes. From document 01, "Bits": "The reader over the frame holds its bytes and a position."
-- What is read and written stands in `Fields` of the crate `bits`. `at_last x l` is the borrow x, of the same bytes in memory,
-- with the bytes l in them.
use Rattle.std.specs.Prelude.{ℕ, List}
use denote.Ref.{Bor, MutBor, at_last}
use Rattle.laws.specs.Answers.{Told}
use Rattle.bits.specs.Fields.{read_at, write_at}
use Rattle.bitstream.specs.declared.reader.BitReader.{BitReader}
use Rattle.bitstream.specs.declared.writer.BitWriter.{BitWriter}

-- a reader at the first bit
unfoldable pub reader_over : Bor (List ℕ) → BitReader
reader_over bytes = record { bytes = bytes; position = 0 }

-- what a read gives back, and the reader after it: the same bytes, at the position after the read
unfoldable pub read_by : BitReader → ℕ → Told ℕ × BitReader
read_by reader count =
    let found = read_at reader.bytes.now reader.position count in
    (found.answer, record { bytes = reader.bytes; position = found.position })

-- a writer at the first bit
unfoldable pub writer_over : MutBor (List ℕ) → BitWriter
writer_over bytes = record { bytes = bytes; position = 0 }

-- what a write gives back, and the writer after it: the same borrow with the bytes after the write, at the position after it
unfoldable pub write_by : BitWriter → ℕ → ℕ → Told Unit × BitWriter
write_by writer value count =
    let wrote = write_at writer.bytes.now writer.position value count in
    (wrote.answer, record { bytes = at_last writer.bytes wrote.bytes; position = wrote.position })
