-- What `code` answers is what the decode call says of it.
use Rattle.std.proofs.Common.{sym, arith}
use Rattle.codec.specs.Answers.{progress_of}
use Rattle.sbc_dec.proofs.Fitting.{told-fits}
use Rattle.sbc_dec.proofs.DecodingCoder.code.Goals as goal

pub shared_ref_as_front-write_samples : goal.shared_ref_as_front-write_samples
shared_ref_as_front-write_samples g c =
    let me = c.args.self.now in
    let fits = told-fits me.decoder c.decode.new.self c.args.bytes.now me.samples c.decode.new.output _ c.in_ok-progress.ensures in
    omega (arith, fits.1)

pub returns-clause-within : goal.returns-clause-within
returns-clause-within g c =
    let me = c.args.self.now in
    (told-fits me.decoder c.decode.new.self c.args.bytes.now me.samples c.decode.new.output _ c.in_ok-progress.ensures).0

pub returns-clause-coded : goal.returns-clause-coded
unfolding progress_of
returns-clause-coded g c = (c.in_ok-progress.progress.produced, sym c.in_ok-progress.ensures)
