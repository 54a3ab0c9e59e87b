-- `sbc_allocation::allocate_channels` meets its contract: the needs lent to `share_bits` are those of both channels, left before right, and
-- the rows are taken apart of its answer in the same order.
-- Assumes nothing.
use mathlib.Core.Path.{◌≡◌, refl, sym, ap, ap₂, ◌∙◌}
use mathlib.Core.List.{List, [], ◌∷◌, ◌++◌, map}
use Prim.Native.Nat.{ℕ, ◌-◌, ◌*◌, ◌/◌, ◌%◌, ◌≤◌, ◌<◌, min}
use native.Mathlib.Omega.{arith}
use borrow.Author.Rules.{rules}
use lib.ListN.{length, get_or, take, replicate, length-map}
use Rattle.sbc_parameters.specs.declared.SbcParameters.{SbcParameters}
use Rattle.sbc_allocation.specs.Entries.{entries}
use lib.IntN.{ℤ}
use lib.Seq.{length-take-le}
use Rattle.sbc_share.specs.Share.{share}
use Rattle.sbc_share.specs.Raised.{lowered}
use Rattle.sbc_allocation.specs.Allocate.{channel_needs, left_first, channel_row, rows_together, table_row}
use Rattle.sbc_share.proofs.Sharing.{length-share}
use Rattle.sbc_allocation.proofs.Rows.{length-left_first}
use Rattle.sbc_allocation.proofs.Tables.{AtLeast, needs-none, share-none, take-at-least, left_first-at-least, take-left_first}
use Rattle.sbc_allocation.proofs.Tables.{map-left_first, row-channel, left-entries, right-entries, both-entries}
use Rattle.sbc_allocation.proofs.allocate_channels.Goals as goal

-- the code's needs of a channel: as many as it uses are the channel's, 32 higher
record NeedsOf (p : SbcParameters) (used : ℕ) (factors needs : List ℕ) : Type 0 where
  eight : used ≤ 8
  long : length needs ≡ 8
  lower : map lowered (take used needs) ≡ channel_needs p factors
  low : (i : ℕ) → i < used → 16 ≤ get_or needs i 0

needs_of : (p : SbcParameters) (used : ℕ) (factors needs : List ℕ) → used ≡ min p.subbands 8 → length needs ≡ 8
    → map lowered (take (min p.subbands 8) needs) ≡ channel_needs p factors → ((i : ℕ) → i < min p.subbands 8 → 16 ≤ get_or needs i 0)
    → NeedsOf p used factors needs
needs_of p used factors needs is long all least =
    record {
      eight = omega arith;
      long = long;
      lower = ap (λ (n : ℕ). map lowered (take n needs)) is ∙ all;
      low = λ i h. least i (omega arith);
    }

-- the part that is lent: the needs of both channels, 32 higher
module _ {p : SbcParameters} {used : ℕ} {fl fr left right : List ℕ} (wl : NeedsOf p used fl left) (wr : NeedsOf p used fr right) where
  abbrev both : List ℕ
  both = entries 16 (λ i. get_or (get_or (left ∷ right ∷ []) (i % 2) []) (i / 2) 0)

  abbrev part : List ℕ
  part = take (2 * used) both

  abbrev needs : List ℤ
  needs = left_first (channel_needs p fl) (channel_needs p fr)

  split : part ≡ left_first (take used left) (take used right)
  split =
      ap (λ (l : List ℕ). take (2 * used) l) (both-entries left right wl.long wr.long)
      ∙ take-left_first used (2 * used) left right (omega arith) (wl.long ∙ sym wr.long)

  left-part : length (take used left) ≡ used
  left-part = length-take-le used left (omega (arith, wl.long, wl.eight))

  right-part : length (take used right) ≡ used
  right-part = length-take-le used right (omega (arith, wr.long, wr.eight))

  part_long : length part ≡ 2 * used
  part_long = ap length split ∙ omega (arith, length-left_first used (take used left) (take used right) left-part right-part)

  part_is : map lowered part ≡ needs
  part_is = ap (map lowered) split ∙ map-left_first lowered (take used left) (take used right) ∙ ap₂ left_first wl.lower wr.lower

  part_at_least : AtLeast 16 part
  part_at_least =
      rw split
      (left_first-at-least 16 (take used left) (take used right)
      (take-at-least 16 used left (omega (arith, wl.long, wl.eight)) wl.low)
      (take-at-least 16 used right (omega (arith, wr.long, wr.eight)) wr.low))

  bits_are : (bitpool : ℕ) → length (share needs bitpool) ≡ 2 * used
  bits_are bitpool = length-share needs bitpool ∙ ap length (sym part_is) ∙ length-map part lowered ∙ part_long

  row_is : (shared : List ℕ) (bitpool : ℕ) → shared ≡ share (map lowered part) bitpool ++ replicate (16 - length part) 0
      → (channel : ℕ) → channel_row channel shared ≡ table_row (channel_row channel (share needs bitpool))
  row_is shared bitpool is channel =
      let padded : shared ≡ share needs bitpool ++ replicate (16 - 2 * used) 0 = rw (part_is, part_long) at is in
      ap (channel_row channel) padded
      ∙ row-channel channel used (2 * used) (share needs bitpool) (omega arith) (bits_are bitpool) wl.eight

pub returns-then-subbands-eq0 : goal.returns-then-subbands-eq0
unfolding rows_together table_row left_first channel_row
returns-then-subbands-eq0 c =
    let p = c.args.parameters in
    rw (needs-none p (get_or c.args.scale_factors 0 []) (omega (arith, c.used_subbands-subbands.ensures)), share-none p.bitpool) refl

pub share_bits-bits-requires : goal.share_bits-bits-requires
share_bits-bits-requires c =
    let used = c.used_subbands-subbands in
    let left_long : length c.channel_needs-left.result ≡ 8 = search rules in
    let right_long : length c.channel_needs-right.result ≡ 8 = search rules in
    let wl = needs_of c.args.parameters used.result _ _ used.ensures left_long c.channel_needs-left.ensures.all c.channel_needs-left.ensures.least in
    let wr = needs_of c.args.parameters used.result _ _ used.ensures right_long c.channel_needs-right.ensures.all c.channel_needs-right.ensures.least in
    let len = part_long wl wr in
    rw c.both_channels-raised.ensures (omega (arith, len), omega (arith, len, wl.eight), omega arith, part_at_least wl wr)

pub returns : goal.returns
unfolding rows_together
returns c =
    let used = c.used_subbands-subbands in
    let left_long : length c.channel_needs-left.result ≡ 8 = search rules in
    let right_long : length c.channel_needs-right.result ≡ 8 = search rules in
    let bits_long : length c.share_bits-bits.result ≡ 16 = search rules in
    let wl = needs_of c.args.parameters used.result _ _ used.ensures left_long c.channel_needs-left.ensures.all c.channel_needs-left.ensures.least in
    let wr = needs_of c.args.parameters used.result _ _ used.ensures right_long c.channel_needs-right.ensures.all c.channel_needs-right.ensures.least in
    let row = row_is wl wr c.share_bits-bits.result c.args.parameters.bitpool
    (rw (c.both_channels-raised.ensures, c.from.ensures) at c.share_bits-bits.ensures) in
    ap₂ (λ (l r : List ℕ). l ∷ r ∷ [])
    (c.row_of.ensures ∙ left-entries c.share_bits-bits.result bits_long ∙ row 0)
    (c.row_of-2.ensures ∙ right-entries c.share_bits-bits.result bits_long ∙ row 1)
