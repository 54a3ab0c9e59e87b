-- The channels of a frame analyzed, one after the other: the histories after those so far, and the samples of these.
-- Assumes nothing.
use Prim.Native.Nat.{ℕ, ◌+◌, ◌*◌, ◌≤◌, ◌<◌}
use mathlib.Core.Path.{◌≡◌, refl, sym, ap, ◌∙◌}
use mathlib.Core.List.{List}
use native.Mathlib.Decide.{ℕ_discrete}
use native.Mathlib.Omega.{arith}
use lib.ListN.{length, get_or, set, replicate, get_or-replicate}
use lib.Seq.{get_or-set_same, get_or-set_other}
use lib.IntN.{ℤ, pos}
use Rattle.std.specs.Prelude.{map, ltb, if◌then◌else◌}
use Rattle.laws.specs.Lists.{build}
use Rattle.std.proofs.lemmas.List.{map-set, get_or-map, length-map}
use Rattle.sbc_filterbank.specs.declared.analysis.Analysis.{Analysis}
use Rattle.sbc_filterbank.proofs.ByChannel.{replaced, length-replaced, not-replaced, next_replaced}
use Rattle.sbc_frame.specs.declared.blocks.Blocks.{Blocks}
use Rattle.sbc_frame.specs.Arrays.{rows_of, no_samples, samples_array}
use Rattle.sbc_frame.specs.Channels.{pcm_in, no_analysis, analyze_blocks, analysis_after}

-- ---- the histories: of k blocks of S samples, of C channels
module _ (k S C : ℕ) (H : List (List ℤ)) (input : List ℤ) where
  -- that of channel c after the frame
  abbrev pub history_after : ℕ → List ℤ
  history_after c = analysis_after k S (get_or H c no_analysis) (pcm_in C c (k * S) input)

  -- and its samples
  abbrev pub samples_of : ℕ → List (List ℤ)
  samples_of c = samples_array k (analyze_blocks k S (get_or H c no_analysis) (pcm_in C c (k * S) input))

  module _ (n : ℕ) (hs : List Analysis) (d : Analysis) (e : map (λ a. a.history) hs ≡ replaced history_after no_analysis H n)
      (there : n < 2) where
    -- the next channel's is as it was
    pub history-there : (get_or hs n d).history ≡ get_or H n no_analysis
    history-there =
        let two = sym (length-map hs (λ (a : Analysis). a.history)) ∙ ap length e ∙ length-replaced history_after no_analysis H n in
        sym (get_or-map (λ (a : Analysis). a.history) hs n d no_analysis (omega (arith, two)))
        ∙ ap (λ (l : List (List ℤ)). get_or l n no_analysis) e ∙ not-replaced history_after no_analysis H n there

    -- and is moved where it stands
    pub channel-moved : (y : Analysis) → y.history ≡ analysis_after k S (get_or hs n d).history (pcm_in C n (k * S) input)
        → map (λ a. a.history) (set hs n y) ≡ replaced history_after no_analysis H (n + 1)
    channel-moved y q =
        map-set (λ (a : Analysis). a.history) hs n y
        ∙ next_replaced history_after no_analysis H n (map (λ a. a.history) hs) y.history e
        (q ∙ ap (λ (X : List ℤ). analysis_after k S X (pcm_in C n (k * S) input)) history-there)

  -- in the end all are
  pub all-moved : (n : ℕ) (hs : List (List ℤ)) → n ≡ C → hs ≡ replaced history_after no_analysis H n
      → hs ≡ build 2 (λ c. if ltb c C then history_after c else get_or H c no_analysis)
  unfolding replaced
  all-moved n hs q e = e ∙ ap (replaced history_after no_analysis H) q

-- ---- the samples: zeros, and one channel more
pub silent_at : (c : ℕ) → c < 2 → rows_of (replicate 2 (record { rows = replicate 16 (replicate 8 (pos 0)) })) c ≡ no_samples
unfolding no_samples
silent_at c h = ap (λ (b : Blocks). b.rows) (get_or-replicate 2 c _ _ h)

module _ (n : ℕ) (xs : List Blocks) (r : Blocks) where
  pub rows-before : (g : ℕ → List (List ℤ)) → n < length xs → ((c : ℕ) → c < n → rows_of xs c ≡ g c) → r.rows ≡ g n
      → (c : ℕ) → c < n + 1 → rows_of (set xs n r) c ≡ g c
  rows-before g h before here c l = go (ℕ_discrete c n)
    where
      go : Dec (c ≡ n) → rows_of (set xs n r) c ≡ g c
      go (yes e) = rw e (ap (λ (b : Blocks). b.rows) (get_or-set_same xs n r _ h) ∙ here)
      go (no ne) = ap (λ (b : Blocks). b.rows) (get_or-set_other xs n c r _ ne) ∙ before c (omega arith)

  pub rows-behind : (z : List (List ℤ)) → ((c : ℕ) → n ≤ c → c < 2 → rows_of xs c ≡ z) → (c : ℕ) → n + 1 ≤ c → c < 2
      → rows_of (set xs n r) c ≡ z
  rows-behind z behind c h l =
      ap (λ (b : Blocks). b.rows) (get_or-set_other xs n c r _ (λ e. omega arith)) ∙ behind c (omega arith) l
