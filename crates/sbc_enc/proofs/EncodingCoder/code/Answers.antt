-- What `code` answers is what the encode call says of it.
use Rattle.std.proofs.Common.{sym, refl, arith, length}
use Rattle.codec.specs.Answers.{progress_of}
use Rattle.sbc_enc.proofs.Fitting.{told-within}
use Rattle.sbc_enc.proofs.EncodingCoder.code.Goals as goal

pub shared_ref_as_front-write_all : goal.shared_ref_as_front-write_all
shared_ref_as_front-write_all g c =
    let me = c.args.self.now in
    let fits = told-within me.encoder c.encode.new.self.encoder c.args.raw.now (length me.samples) me.frames c.encode.new.self.frames _ c.in_ok-progress.ensures in
    omega (arith, fits.1)

pub overflow_mul-result : goal.overflow_mul-result
overflow_mul-result g c =
    let me = c.args.self.now in
    let fits = told-within me.encoder c.encode.new.self.encoder c.args.raw.now (length me.samples) me.frames c.encode.new.self.frames _ c.in_ok-progress.ensures in
    omega (arith, fits.0)

pub returns-clause-within : goal.returns-clause-within
returns-clause-within g c =
    let me = c.args.self.now in
    (told-within me.encoder c.encode.new.self.encoder c.args.raw.now (length me.samples) me.frames c.encode.new.self.frames _ c.in_ok-progress.ensures).0

pub returns-clause-coded : goal.returns-clause-coded
unfolding progress_of
returns-clause-coded g c = (c.in_ok-progress.progress.consumed, c.in_ok-progress.progress.produced, refl, sym c.in_ok-progress.ensures)
