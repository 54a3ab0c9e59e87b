-- `sbc_modulate::modulate` meets its contract: the row with its sign put on, divided and clamped. The sign is on the row when it is
-- divided. Assumes nothing.
use Prim.Native.Nat.{◌^◌, ◌≤◌}
use mathlib.Core.Path.{◌≡◌, ◌∙◌, sym, ap, ap₂, subst}
use lib.Dec.{lit<}
use lib.IntN.{ℤ, pos, nat_abs, ◌*ℤ◌}
use lib.ListN.{get_or}
use mir.Syntax.{w32, w64}
use mir.Val.{SFits, to_z, of_z}
use mir.Facts.{to_z-of_z}
use Rattle.laws.specs.Integers.{floor_div, clamp_z}
use Rattle.laws.proofs.Abs.{read_back}
use Rattle.sbc_modulate.specs.Fold.{row_sign, row_source, row_value}
use Rattle.sbc_modulate.proofs.Rows.{row-sign-small}
use Rattle.sbc_filterbank.proofs.Words.{read-entry, read-within, read-divided, signed-fits}
use Rattle.sbc_modulate.proofs.modulate.Goals as goal

pub returns : goal.returns
unfolding row_value
returns g c =
    let y = c.row_sign-sign.result in
    let z = get_or c.args.rows.now c.row_source-source.result (pos 0) in
    let sign : to_z w64 (of_z w64 y) ≡ row_sign g.B.Bank.SUBBANDS c.args.r =
    read_back w64 c.row_sign-sign.type_inv ∙ c.row_sign-sign.ensures in
    let row : to_z w64 (of_z w64 z) ≡ get_or c.args.rows.now (row_source g.B.Bank.SUBBANDS c.args.r) (pos 0) =
    read-entry w64 c.args.rows.now c.requires.1 (lit< tt) _ ∙ ap (λ k. get_or c.args.rows.now k (pos 0)) c.row_source-source.ensures in
    let fits : SFits w64 (to_z w64 (of_z w64 y) *ℤ to_z w64 (of_z w64 z)) =
    signed-fits w64 (to_z w64 (of_z w64 y)) (to_z w64 (of_z w64 z))
    (subst (λ (v : ℤ). nat_abs v ≤ 1) (sym sign) (row-sign-small g.B.Bank.SUBBANDS c.args.r))
    (read-within w64 c.args.rows.now c.requires.1 (lit< tt) c.row_source-source.result) (lit< tt) in
    to_z-of_z {w = w32} (record { sfits = c.clamp_i32.type_inv }) ∙ c.clamp_i32.ensures
    ∙ ap (clamp_z w32) (read-divided w64 _ (2 ^ 30) fits)
    ∙ ap₂ (λ (u v : ℤ). clamp_z w32 (floor_div (u *ℤ v) (2 ^ 30))) sign row
