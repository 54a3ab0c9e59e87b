-- What is parsed: the cases of `parse`, a written header read back, and that what is parsed is accepted.
-- Assumes nothing.
use Prim.Native.Nat.{ℕ, ◌+◌, ◌*◌, ◌/◌, ◌%◌, ◌≤◌, ◌<◌}
use mathlib.Core.Path.{◌≡◌, refl, sym, ap, ◌∙◌}
use mathlib.Core.Bool.{Bool, true, false}
use mathlib.Core.List.{List, [], ◌∷◌}
use native.Mathlib.Omega.{arith}
use lib.Dec.{eqb, ltb, lit<}
use lib.ListN.{length, get_or, take, length-take}
use lib.Seq.{get_or-take}
use borrow.Author.Tests.{lt-ltb, le-ltb, ne_eqb}
use Rattle.std.specs.Prelude.{if◌then◌else◌}
use Rattle.laws.specs.Answers.{gives, refuses}
use Rattle.laws.specs.Lists.{listed, place_in}
use Rattle.laws.proofs.Tests.{place-back}
use Rattle.sbc_modes.specs.Modes.{channel_modes, allocations, mode_number, allocation_number}
use Rattle.sbc_parameters.specs.Parameters.{sample_rates, block_counts, subband_counts, is_msbc, msbc, accepted}
use Rattle.sbc_parameters.specs.Header.{frequency_index, settings_byte, header, from_settings, parse}
use Rattle.sbc_parameters.specs.declared.SbcParameters.{SbcParameters}
use Rattle.sbc_modes.specs.declared.SbcChannelMode.TheVariants.{JointStereo}
use Rattle.sbc_modes.specs.declared.SbcAllocation.TheVariants.{Snr}
use Rattle.sbc_modes.proofs.Numbers.{mode-lt, mode-back, allocation-lt, allocation-back}
use Rattle.sbc_parameters.proofs.Numbers.{frequency-lt, blocks-lt, subbands-lt}
use Rattle.sbc_parameters.proofs.Accepted.{Fields, fields, is-msbc, msbc-accepted}

-- ---- the cases
pub parse-short : (bytes : List ℕ) → length bytes < 3 → parse bytes ≡ refuses 1
unfolding parse
parse-short bytes l = rw (lt-ltb (length bytes) 3 l)

pub parse-msbc : (bytes : List ℕ) → 3 ≤ length bytes → get_or bytes 0 0 ≡ 0xAD → parse bytes ≡ gives msbc
unfolding parse
parse-msbc bytes l e = rw (le-ltb (length bytes) 3 l, e)

-- behind 9C the settings byte and the bitpool decide
pub parse-fields : (bytes : List ℕ) → 3 ≤ length bytes → get_or bytes 0 0 ≡ 0x9C
    → let p = from_settings (get_or bytes 1 0) (get_or bytes 2 0) in parse bytes ≡ (if accepted p then gives p else refuses 2)
unfolding parse
parse-fields bytes l e = rw (le-ltb (length bytes) 3 l, e)

pub parse-other : (bytes : List ℕ) → 3 ≤ length bytes → (get_or bytes 0 0 ≡ 0xAD → ⊥) → (get_or bytes 0 0 ≡ 0x9C → ⊥) → parse bytes ≡ refuses 2
unfolding parse
parse-other bytes l m n = rw (le-ltb (length bytes) 3 l, ne_eqb (get_or bytes 0 0) 0xAD m, ne_eqb (get_or bytes 0 0) 0x9C n)

pub ruleset parse_cases = (parse-short, parse-msbc, parse-fields, parse-other)

-- ---- a written header is read back
digits : (r b m a s : ℕ) → r < 4 → b < 4 → m < 4 → a < 2 → s < 2 → let n = r * 64 + b * 16 + m * 4 + a * 2 + s in
    (n / 64 ≡ r) × (n / 16 % 4 ≡ b) × (n / 4 % 4 ≡ m) × (n / 2 % 2 ≡ a) × (n % 2 ≡ s)
digits r b m a s hr hb hm ha hs = (omega arith, omega arith, omega arith, omega arith, omega arith)

rate-back : (p : SbcParameters) → listed p.sample_rate sample_rates ≡ true → get_or sample_rates (frequency_index p) 0 ≡ p.sample_rate
unfolding frequency_index
rate-back p h = place-back p.sample_rate sample_rates h

settings-back : (p : SbcParameters) → Fields p → from_settings (settings_byte p) p.bitpool ≡ p
unfolding from_settings settings_byte
settings-back p k =
    let d =
    digits (frequency_index p) (place_in p.blocks block_counts) (mode_number p.channel_mode) (allocation_number p.allocation)
    (place_in p.subbands subband_counts) (frequency-lt p) (blocks-lt p.blocks) (mode-lt p.channel_mode)
    (allocation-lt p.allocation) (subbands-lt p.subbands) in
    let rate = ap (λ n. get_or sample_rates n 0) d.0 ∙ rate-back p k.rate in
    let blocks = ap (λ n. get_or block_counts n 0) d.1 ∙ place-back p.blocks block_counts k.block in
    let mode = ap (λ n. get_or channel_modes n JointStereo) d.2 ∙ mode-back p.channel_mode in
    let allocation = ap (λ n. get_or allocations n Snr) d.3 ∙ allocation-back p.allocation in
    let subbands = ap (λ n. get_or subband_counts n 0) d.4 ∙ place-back p.subbands subband_counts k.subband in
    λ i.
    record {
      sample_rate = rate i;
      channel_mode = mode i;
      allocation = allocation i;
      blocks = blocks i;
      subbands = subbands i;
      bitpool = p.bitpool;
    }

pub length-header : (p : SbcParameters) → length (header p) ≡ 3
unfolding header
length-header p = go (is_msbc p)
  where
    go : (t : Bool) → length (if t then 0xAD ∷ 0 ∷ 0 ∷ [] else 0x9C ∷ settings_byte p ∷ p.bitpool ∷ []) ≡ 3
    go true = refl
    go false = refl

-- the first three bytes of a frame that was written for an accepted set give the set back
pub parse-header : (p : SbcParameters) → accepted p ≡ true → (bytes : List ℕ) → take 3 bytes ≡ header p → parse bytes ≡ gives p
unfolding header
parse-header p a bytes e = go (is_msbc p) refl
  where
    long : 3 ≤ length bytes
    long = omega (arith, ap length e ∙ length-header p, length-take 3 bytes)

    byte : (i : ℕ) → i < 3 → get_or bytes i 0 ≡ get_or (header p) i 0
    byte i h = sym (get_or-take 3 bytes i 0 h) ∙ ap (λ l. get_or l i 0) e

    go : (t : Bool) → is_msbc p ≡ t → parse bytes ≡ gives p
    go true m =
        let first : get_or bytes 0 0 ≡ 0xAD = byte 0 (lit< tt) ∙ rw m in
        parse-msbc bytes long first ∙ ap gives (sym (is-msbc p m a))
    go false m =
        let first : get_or bytes 0 0 ≡ 0x9C = byte 0 (lit< tt) ∙ rw m in
        let second : get_or bytes 1 0 ≡ settings_byte p = byte 1 (lit< tt) ∙ rw m in
        let third : get_or bytes 2 0 ≡ p.bitpool = byte 2 (lit< tt) ∙ rw m in
        parse-fields bytes long first ∙ rw (second, third, settings-back p (fields p m a), a)

-- ---- what is parsed is accepted
pub parsed-accepted : (bytes : List ℕ) (p : SbcParameters) → parse bytes ≡ gives p → accepted p ≡ true
unfolding parse
parsed-accepted bytes p e = short (ltb (length bytes) 3) refl
  where
    q : SbcParameters
    q = from_settings (get_or bytes 1 0) (get_or bytes 2 0)

    last : (t : Bool) → accepted q ≡ t → (if t then gives q else refuses 2) ≡ gives p → accepted p ≡ true
    last true a h = let s : q ≡ p = cc in rw s at a
    last false a h = let z : ◌≡◌ {A = ℕ} 0 1 = cc in absurd (omega arith)

    fourth : (t : Bool) → (if t then (if accepted q then gives q else refuses 2) else refuses 2) ≡ gives p → accepted p ≡ true
    fourth true h = last (accepted q) refl h
    fourth false h = let z : ◌≡◌ {A = ℕ} 0 1 = cc in absurd (omega arith)

    third : (t : Bool) → (if t then gives msbc else if eqb (get_or bytes 0 0) 0x9C then (if accepted q then gives q else refuses 2) else refuses 2) ≡ gives p
        → accepted p ≡ true
    third true h = let s : msbc ≡ p = cc in rw s at msbc-accepted
    third false h = fourth (eqb (get_or bytes 0 0) 0x9C) h

    short : (t : Bool) → ltb (length bytes) 3 ≡ t → accepted p ≡ true
    short true l = let z : ◌≡◌ {A = ℕ} 0 1 = cc (rw l at e) in absurd (omega arith)
    short false l = third (eqb (get_or bytes 0 0) 0xAD) (rw l at e)
