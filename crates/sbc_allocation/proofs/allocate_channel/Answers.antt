-- `sbc_allocation::allocate_channel` meets its contract: the needs lent to `share_bits` are the channel's, and the row is taken
-- of its answer.
-- Assumes nothing.
use mathlib.Core.Path.{◌≡◌, refl, sym, ap, ◌∙◌}
use mathlib.Core.List.{List, ◌++◌, map}
use Prim.Native.Nat.{ℕ, ◌-◌, min}
use native.Mathlib.Omega.{arith}
use borrow.Author.Rules.{rules}
use lib.ListN.{length, get_or, take, replicate, length-map}
use Rattle.sbc_parameters.specs.declared.SbcParameters.{SbcParameters}
use Rattle.sbc_allocation.specs.Entries.{entries}
use lib.Seq.{length-take-le}
use Rattle.sbc_share.specs.Share.{share}
use Rattle.sbc_share.specs.Raised.{lowered}
use Rattle.sbc_allocation.specs.Allocate.{channel_needs, table_row}
use Rattle.sbc_share.proofs.Sharing.{length-share}
use Rattle.sbc_allocation.proofs.Tables.{take-at-least, needs-none, share-none, row-alone, first-entries}
use Rattle.sbc_allocation.proofs.allocate_channel.Goals as goal

-- the part that is lent: the channel's needs, 32 higher
module _
    (p : SbcParameters)
    (factors needs : List ℕ)
    (used : ℕ)
    (used_is : used ≡ min p.subbands 8)
    (needs_long : length needs ≡ 8)
    (needs_are : map lowered (take (min p.subbands 8) needs) ≡ channel_needs p factors)
  where
    abbrev bits : List ℕ
    bits = share (channel_needs p factors) p.bitpool

    part_long : length (take used needs) ≡ used
    part_long = length-take-le used needs (omega arith)

    part_is : map lowered (take used needs) ≡ channel_needs p factors
    part_is = ap (λ (n : ℕ). map lowered (take n needs)) used_is ∙ needs_are

    bits_are : length bits ≡ used
    bits_are =
        length-share (channel_needs p factors) p.bitpool ∙ ap length (sym part_is) ∙ length-map (take used needs) lowered ∙ part_long

    row_is : (shared : List ℕ) (bitpool : ℕ) → length shared ≡ 16 → bitpool ≡ p.bitpool
        → shared ≡ share (map lowered (take used needs)) bitpool ++ replicate (16 - length (take used needs)) 0
        → entries 8 (λ i. get_or shared i 0) ≡ table_row bits
    row_is shared bitpool long same is =
        let padded : shared ≡ bits ++ replicate (16 - used) 0 = rw (part_is, part_long, same) at is in
        first-entries shared long ∙ ap (λ (l : List ℕ). take 8 l) padded ∙ row-alone bits used bits_are (omega arith)

pub returns-then-subbands-eq0 : goal.returns-then-subbands-eq0
unfolding table_row
returns-then-subbands-eq0 c =
    let p = c.args.parameters in
    rw (needs-none p c.args.scale_factors (omega (arith, c.used_subbands-subbands.ensures)), share-none p.bitpool) refl

pub share_bits-bits-requires : goal.share_bits-bits-requires
share_bits-bits-requires c =
    let needs = c.channel_needs-raised in
    let used = c.used_subbands-subbands in
    let long : length needs.result ≡ 8 = search rules in
    let part = part_long c.args.parameters c.args.scale_factors needs.result used.result used.ensures long needs.ensures.all in (
      omega (arith, part),
      omega (arith, part),
      omega arith,
      take-at-least 16 used.result needs.result (omega arith) (λ i h. needs.ensures.least i (omega arith)),
    )

pub returns : goal.returns
returns c =
    let p = c.args.parameters in
    let needs_long : length c.channel_needs-raised.result ≡ 8 = search rules in
    let bits_long : length c.share_bits-bits.result ≡ 16 = search rules in
    c.row_of.ensures
    ∙ row_is p c.args.scale_factors c.channel_needs-raised.result c.used_subbands-subbands.result c.used_subbands-subbands.ensures needs_long
    c.channel_needs-raised.ensures.all c.share_bits-bits.result c.from.result bits_long c.from.ensures c.share_bits-bits.ensures
