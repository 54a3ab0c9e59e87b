-- `sbc_write_frame::write_frame` meets its contract: the header's bytes, then the body, then the checksum, which does not look at its
-- own byte.
-- Assumes nothing.
use Prim.Native.Nat.{ℕ, ◌+◌, ◌-◌, ◌≤◌}
use mathlib.Core.Path.{◌≡◌, sym, ap, ap₂, ◌∙◌}
use mathlib.Core.List.{List, ◌∷◌, ◌++◌}
use native.Mathlib.Omega.{arith}
use lib.ListN.{length, get_or, set, length-append, length-drop}
use lib.Seq.{set_at, length-take-le}
use borrow.Rule.Slice.PartMut.{put_mid}
use Rattle.laws.proofs.Parts.{tail-part}
use Rattle.crc8.specs.Checksum.{checksum}
use Rattle.sbc_parameters.specs.declared.SbcParameters.{SbcParameters}
use Rattle.sbc_parameters.specs.Sizes.{side_bits, frame_length}
use Rattle.sbc_parameters.specs.Header.{header}
use Rattle.sbc_parameters.proofs.Parsing.{length-header}
use Rattle.sbc_write_frame.specs.Framing.{coding_bytes}
use Rattle.sbc_frame.proofs.Written.{blind}
use Rattle.sbc_write_frame.proofs.Headed.{headed, length-headed, bodied}
use Rattle.sbc_write_frame.proofs.write_frame.Goals as goal

-- a frame has more than its header
four : (p : SbcParameters) → 4 ≤ frame_length p
unfolding frame_length
four p = omega arith

-- the header's three bytes
three : (p : SbcParameters) (h g : List ℕ) → h ≡ g → g ≡ header p → length h ≡ 3
three p h g e k = ap length (e ∙ k) ∙ length-header p

pub slice_bounds-copy_from_slice-end : goal.slice_bounds-copy_from_slice-end
slice_bounds-copy_from_slice-end c = omega (arith, four c.args.accepted.set, c.requires)

pub slice_bounds-copy_from_slice-end-2 : goal.slice_bounds-copy_from_slice-end-2
slice_bounds-copy_from_slice-end-2 c =
    let room : 3 ≤ length c.args.frame.now = omega (arith, four c.args.accepted.set, c.requires) in
    omega (arith, length-take-le 3 c.args.frame.now room)

pub copy_from_slice-requires : goal.copy_from_slice-requires
copy_from_slice-requires c =
    length-take-le 3 c.args.frame.now (omega (arith, four c.args.accepted.set, c.requires))
    ∙ sym (ap length c.header-header.ensures ∙ length-header c.args.accepted.set)

pub slice_bounds-write_body-count : goal.slice_bounds-write_body-count
slice_bounds-write_body-count c =
    let copied = c.copy_from_slice in
    let short = three c.args.accepted.set copied.new.self _ copied.ensures.after c.header-header.ensures in
    omega (
      arith,
      length-headed copied.new.self c.args.frame.now short (omega (arith, four c.args.accepted.set, c.requires)),
      four c.args.accepted.set,
      c.requires,
    )

pub slice_bounds-write_body-start : goal.slice_bounds-write_body-start
slice_bounds-write_body-start c =
    let copied = c.copy_from_slice in
    let short = three c.args.accepted.set copied.new.self _ copied.ensures.after c.header-header.ensures in
    omega (
      arith,
      length-headed copied.new.self c.args.frame.now short (omega (arith, four c.args.accepted.set, c.requires)),
      four c.args.accepted.set,
      c.requires,
    )

pub write_body-requires : goal.write_body-requires
write_body-requires c =
    let copied = c.copy_from_slice in
    let short = three c.args.accepted.set copied.new.self _ copied.ensures.after c.header-header.ensures in
    let xs : List ℕ = headed c.copy_from_slice.new.self c.args.frame.now in
    let long : length xs ≡ frame_length c.args.accepted.set =
    length-headed copied.new.self c.args.frame.now short (omega (arith, four c.args.accepted.set, c.requires)) ∙ c.requires in
    ap (λ (l : List ℕ). length l + 4) (tail-part 4 xs) ∙ omega (arith, length-drop 4 xs, long, four c.args.accepted.set)

pub bounds-frame-3 : goal.bounds-frame-3
bounds-frame-3 c =
    let h : List ℕ = c.copy_from_slice.new.self in
    let frame : List ℕ = c.args.frame.now in
    let rest : List ℕ = c.write_body.new.body in
    let back : List ℕ = put_mid 4 (length (headed h frame) - 4) (headed h frame) rest in
    let short = three c.args.accepted.set h _ c.copy_from_slice.ensures.after c.header-header.ensures in
    let long : length back ≡ length h + length (get_or frame 3 0 ∷ rest) =
    ap length (bodied h frame rest short (omega (arith, four c.args.accepted.set, c.requires))) ∙ length-append h (get_or frame 3 0 ∷ rest)
    in
    omega (arith, long, short)

pub returns : goal.returns
unfolding coding_bytes
returns c =
    let p : SbcParameters = c.args.accepted.set in
    let h : List ℕ = c.copy_from_slice.new.self in
    let frame : List ℕ = c.args.frame.now in
    let rest : List ℕ = c.write_body.new.body in
    let back : List ℕ = put_mid 4 (length (headed h frame) - 4) (headed h frame) rest in
    let short = three p h _ c.copy_from_slice.ensures.after c.header-header.ensures in
    let came-back : back ≡ header p ++ (get_or frame 3 0 ∷ rest) =
    bodied h frame rest short (omega (arith, four p, c.requires))
    ∙ ap (λ (h : List ℕ). h ++ (get_or frame 3 0 ∷ rest)) (c.copy_from_slice.ensures.after ∙ c.header-header.ensures)
    in
    let check : c.checksum.result ≡ checksum (header p ++ (0 ∷ rest)) (side_bits p) =
    c.checksum.ensures ∙ ap₂ checksum came-back c.side_bits-side_bits.ensures
    ∙ blind (header p) (get_or frame 3 0) 0 rest (side_bits p) (length-header p)
    in
    let whole : set back 3 c.checksum.result ≡ header p ++ (checksum (header p ++ (0 ∷ rest)) (side_bits p) ∷ rest) =
    ap₂ (λ (l : List ℕ) (n : ℕ). set l 3 n) came-back check
    ∙ set_at (header p) (get_or frame 3 0) rest (checksum (header p ++ (0 ∷ rest)) (side_bits p)) 3 (length-header p)
    in
    whole ∙ ap (λ (l : List ℕ). header p ++ (checksum (header p ++ (0 ∷ l)) (side_bits p) ∷ l)) c.write_body.ensures
