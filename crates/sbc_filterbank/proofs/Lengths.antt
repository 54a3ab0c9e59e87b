-- The lengths of what the definitions give: S outputs a block; vectors of 2 S numbers; a ring that keeps its length.
-- Assumes nothing.
use Prim.Native.Nat.{ℕ, ◌*◌}
use mathlib.Core.Path.{◌≡◌}
use mathlib.Core.List.{List}
use lib.ListN.{length}
use lib.IntN.{ℤ}
use Rattle.laws.proofs.Lists.{length-build}
use Rattle.laws.proofs.Arrays.{length-overwrite}
use Rattle.sbc_filterbank.specs.Analysis.{analysis_outputs}
use Rattle.sbc_filterbank.specs.Synthesis.{modulated, synthesis_outputs}
use Rattle.sbc_filterbank.specs.Ring.{ring_pushed}

-- ---- analysis
pub length-analysis : (S : ℕ) (X : List ℤ) → length (analysis_outputs S X) ≡ S
unfolding analysis_outputs
length-analysis S X = length-build S _

-- ---- synthesis
pub length-modulated : (S : ℕ) (s : List ℤ) → length (modulated S s) ≡ 2 * S
unfolding modulated
length-modulated S s = length-build (2 * S) _

pub length-synthesis : (S : ℕ) (vs : List (List ℤ)) → length (synthesis_outputs S vs) ≡ S
unfolding synthesis_outputs
length-synthesis S vs = length-build S _

-- ---- the ring
pub length-ring-pushed : (S : ℕ) (v values : List ℤ) (newest : ℕ) → length (ring_pushed S v values newest) ≡ length values
unfolding ring_pushed
length-ring-pushed S v values newest = length-overwrite _ _ values (2 * S)
