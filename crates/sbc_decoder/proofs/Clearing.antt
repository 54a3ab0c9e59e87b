-- A filterbank's history as created.
-- Assumes nothing.
use mathlib.Core.Path.{◌≡◌, refl, ap₂}
use mathlib.Core.List.{List, [], ◌∷◌}
use lib.IntN.{ℤ, pos}
use lib.ListN.{replicate}
use Rattle.sbc_filterbank.specs.declared.synthesis.Synthesis.{Synthesis}
use Rattle.sbc_frame.specs.Channels.{no_synthesis}
use Rattle.sbc_decoder.specs.Decode.{cleared}

pub silent : (h : Synthesis) → h.values ≡ replicate 160 (pos 0) → h.newest ≡ 0 → h ≡ no_synthesis
unfolding no_synthesis
silent h e n = ap₂ (λ (xs : List ℤ) k. record { values = xs; newest = k }) e n

pub cleared-is : cleared ≡ no_synthesis ∷ no_synthesis ∷ []
unfolding cleared
cleared-is = refl

pub ruleset clearing = (silent, cleared-is)
