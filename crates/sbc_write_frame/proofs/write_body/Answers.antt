-- `sbc_write_frame::write_body` meets its contract: the parts are written one behind the other, and fill the body but for fewer than
-- eight bits.
-- Assumes nothing.
use Prim.Native.Nat.{ℕ, ◌-◌, ◌≤◌}
use mathlib.Core.Path.{◌≡◌, ap, ap₂, ◌∙◌}
use mathlib.Core.Bool.{Bool}
use mathlib.Core.List.{List, [], ◌∷◌, ◌++◌}
use native.Mathlib.Omega.{arith}
use lib.ListN.{length, get_or}
use Rattle.std.proofs.Common.{rules}
use Rattle.sbc_parameters.specs.declared.SbcParameters.{SbcParameters}
use Rattle.sbc_parameters.specs.Sizes.{frame_length}
use Rattle.sbc_allocation.specs.Allocate.{allocate, allocation_table}
use Rattle.sbc_allocation.proofs.Rows.{table-16}
use Rattle.sbc_frame.specs.Layout.{filled}
use Rattle.sbc_frame.specs.Arrays.{entry}
use Rattle.sbc_frame.proofs.Sizes.{row-sizes}
use Rattle.sbc_write.specs.Writing.{bits_in}
use Rattle.sbc_write_frame.specs.Framing.{coding_bits}
use Rattle.sbc_write_frame.proofs.Parts.{others_is, flags-room, left-room, right-room, values-room, all-wrote, filled-but}
use Rattle.sbc_write_frame.proofs.write_body.Goals as goal

-- the bits by both channels' factors, one row after the other, are those by the two rows together
by_both : (p : SbcParameters) (rows table : List (List ℕ)) → table ≡ allocation_table p (get_or rows 0 [] ∷ get_or rows 1 [] ∷ [])
    → table ≡ allocation_table p rows
unfolding allocation_table allocate
by_both p rows table e = e

-- no subband has more than 16 bits
widths_16 : (p : SbcParameters) (factors table : List (List ℕ)) → table ≡ allocation_table p factors
    → (c s : ℕ) → entry (get_or table c []) s ≤ 16
widths_16 p factors table e c s = rw e (table-16 p factors c s)

pub shared_ref_as_front-put_row : goal.shared_ref_as_front-put_row
shared_ref_as_front-put_row c = omega (arith, c.join_count-joins.ensures.0, (row-sizes _ c.args.accepted.is_accepted).joins-high)

pub shared_ref_as_front-put_row-2 : goal.shared_ref_as_front-put_row-2
shared_ref_as_front-put_row-2 c = omega (arith, c.from-subbands.ensures, (row-sizes _ c.args.accepted.is_accepted).subbands-high)

pub put_row-requires-clause-room : goal.put_row-requires-clause-room
put_row-requires-clause-room c =
    let flags : length c.args.coding.now.flags ≡ 8 = search rules in
    let long = ap (λ r. length r.now) c.new-writer.ensures.same_bytes in
    flags-room c.args.accepted c.args.coding.now flags _ c.requires c.new-writer.result c.new-writer.ensures.counted long _
    c.join_count-joins.ensures.0

pub put_row-requires-2-clause-room : goal.put_row-requires-2-clause-room
put_row-requires-2-clause-room c =
    let flags : length c.args.coding.now.flags ≡ 8 = search rules in
    let long = ap (λ r. length r.now) c.new-writer.ensures.same_bytes in
    left-room c.args.accepted c.args.coding.now flags _ c.requires c.new-writer.result c.new-writer.ensures.counted long _
    c.join_count-joins.ensures.0 _ c.put_row.ensures _ c.from-subbands.ensures

pub put_row-requires-3-clause-room : goal.put_row-requires-3-clause-room
put_row-requires-3-clause-room c =
    let flags : length c.args.coding.now.flags ≡ 8 = search rules in
    let long = ap (λ r. length r.now) c.new-writer.ensures.same_bytes in
    let others = others_is c.args.accepted.set _ _ c.from-subbands.ensures (c.from.ensures ∙ c.channels.ensures) in
    right-room c.args.accepted c.args.coding.now flags _ c.requires c.new-writer.result c.new-writer.ensures.counted long _
    c.join_count-joins.ensures.0 _ c.put_row.ensures _ c.from-subbands.ensures _ c.put_row-2.ensures _ others

pub invariant_of-quantizations : goal.invariant_of-quantizations
invariant_of-quantizations c =
    let both = by_both c.args.accepted.set c.args.coding.now.factors.rows _ c.allocate-widths.ensures in
    let factors = c.args.coding.now.factors in
    record { widths_within = widths_16 c.args.accepted.set factors.rows _ both _; factors_within = factors.within _ }

pub invariant_of-quantizations-2 : goal.invariant_of-quantizations-2
invariant_of-quantizations-2 c =
    let both = by_both c.args.accepted.set c.args.coding.now.factors.rows _ c.allocate-widths.ensures in
    let factors = c.args.coding.now.factors in
    record { widths_within = widths_16 c.args.accepted.set factors.rows _ both _; factors_within = factors.within _ }

pub put_values-requires : goal.put_values-requires
put_values-requires c =
    let both = by_both c.args.accepted.set c.args.coding.now.factors.rows _ c.allocate-widths.ensures in
    let flags : length c.args.coding.now.flags ≡ 8 = search rules in
    let long = ap (λ r. length r.now) c.new-writer.ensures.same_bytes in
    let others = others_is c.args.accepted.set _ _ c.from-subbands.ensures (c.from.ensures ∙ c.channels.ensures) in
    let room =
    values-room c.args.accepted c.args.coding.now flags _ c.requires c.new-writer.result c.new-writer.ensures.counted long _
    c.join_count-joins.ensures.0 _ c.put_row.ensures _ c.from-subbands.ensures _ c.put_row-2.ensures _ others _ c.put_row-3.ensures _
    both _ c.from-2.ensures
    in
    record { room = room }

pub finish-requires : goal.finish-requires
finish-requires c =
    let both = by_both c.args.accepted.set c.args.coding.now.factors.rows _ c.allocate-widths.ensures in
    let flags : length c.args.coding.now.flags ≡ 8 = search rules in
    let long = ap (λ r. length r.now) c.new-writer.ensures.same_bytes in
    let others = others_is c.args.accepted.set _ _ c.from-subbands.ensures (c.from.ensures ∙ c.channels.ensures) in
    let full =
    filled-but c.args.accepted c.args.coding.now flags _ c.requires c.new-writer.result c.new-writer.ensures.counted long _
    c.join_count-joins.ensures.0 _ c.put_row.ensures _ c.from-subbands.ensures _ c.put_row-2.ensures _ others _ c.put_row-3.ensures _
    both _ c.from-2.ensures _ c.put_values.ensures
    in
    record { room = full.0; last = full.1 }

pub returns : goal.returns
returns c =
    let both = by_both c.args.accepted.set c.args.coding.now.factors.rows _ c.allocate-widths.ensures in
    let k = c.args.coding.now in
    let p : SbcParameters = c.args.accepted.set in
    let flags : length k.flags ≡ 8 = search rules in
    let long = ap (λ r. length r.now) c.new-writer.ensures.same_bytes in
    let others = others_is p _ _ c.from-subbands.ensures (c.from.ensures ∙ c.channels.ensures) in
    let all =
    all-wrote c.args.accepted c.args.coding.now flags _ c.requires c.new-writer.result c.new-writer.ensures.counted long _
    c.join_count-joins.ensures.0 _ c.put_row.ensures _ c.from-subbands.ensures _ c.put_row-2.ensures _ others _ c.put_row-3.ensures _
    both _ c.from-2.ensures _ c.put_values.ensures
    in
    let bits : bits_in c.put_values.new.self ≡ coding_bits p k.flags k.factors.rows k.samples =
    all.written ∙ ap (λ (l : List Bool). l ++ coding_bits p k.flags k.factors.rows k.samples) c.new-writer.ensures.written
    in
    let size : length c.put_values.new.self.bytes.now ≡ frame_length p - 4 = omega (arith, all.same_length, long, c.requires) in
    let done : c.finish.new.self.bytes.now ≡ filled (frame_length p - 4) (coding_bits p k.flags k.factors.rows k.samples) =
    ap (λ r. r.now) c.finish.ensures.whole ∙ ap₂ filled size bits
    in
    let same : c.finish.new.self.bytes.ghost_name ≡ c.new-writer.result.bytes.ghost_name =
    ap (λ r. r.ghost_name) c.finish.ensures.whole ∙ ap (λ r. r.ghost_name) all.same_bytes
    in
    let lent = ap (λ r. r.ghost_name) c.new-writer.ensures.same_bytes in
    grind arith
