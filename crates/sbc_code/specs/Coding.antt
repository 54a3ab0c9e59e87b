-- What the code of the encoder codes of a frame, for the contracts of its inner functions alone: by channel, the scale
-- factors in rows of eight, and the samples in 16 rows of eight, a row for each block. No call of a user's cites this.
-- From document 01, "Quantizing" and "Joint stereo".
use Rattle.std.specs.Prelude.{ℕ, ◌<◌, ◌≡◌, List, [], eqb, get_or, replicate, ℤ, if◌then◌else◌}
use Rattle.laws.specs.Bits.{digit}
use Rattle.laws.specs.Lists.{build}
use Rattle.sbc_parameters.specs.Parameters.{channels}
use Rattle.sbc_parameters.specs.Sizes.{join_count}
use Rattle.sbc_parameters.specs.declared.SbcParameters.{SbcParameters}
use Rattle.sbc_frame.specs.Encoding.{sample_at, factor_of, is_joined, coded_at}
use Rattle.sbc_frame.specs.Arrays.{entry, rows_of, SamplesIn, with_flagged}
use Rattle.sbc_factors.specs.Factors.{factors_in}
use Rattle.sbc_join.specs.Joining.{joined_samples, join_row, picked_row}
use Rattle.sbc_frame.specs.declared.blocks.Blocks.{Blocks}
use Rattle.sbc_frame.specs.declared.CodedFrame.{CodedFrame}

-- what is coded: join flags, and by channel scale factors and samples
pub record Coded : Type 0 where
  pub flags : List ℕ
  pub factors : List (List ℕ)
  pub samples : List Blocks

-- what a coding holds
abbrev pub coded : CodedFrame → Coded
coded k = record { flags = k.flags; factors = k.factors.rows; samples = k.samples }

-- the scale factors of both channels, whose samples have n blocks
unfoldable pub factor_rows : ℕ → (ℕ → List (List ℤ)) → List (List ℕ)
factor_rows n samples = build 2 (λ c. factors_in n (samples c))

-- the joined scale factors where a flag is set
unfoldable pub picked_rows : List ℕ → List (List ℕ) → List (List ℕ) → List (List ℕ)
picked_rows flags plain joined = build 2 (λ c. picked_row 0 flags (get_or plain c []) (get_or joined c []))

-- the joined samples where a flag is set, in n blocks of both channels
unfoldable pub picked_samples : ℕ → List ℕ → (ℕ → List (List ℤ)) → (ℕ → List (List ℤ)) → List Blocks
picked_samples n flags plain joined = build 2 (λ c. record { rows = with_flagged n flags (sample_at (joined c)) (plain c) })

-- the channels as they are
unfoldable pub plain_coding : SbcParameters → List Blocks → Coded
plain_coding p samples = record { flags = replicate 8 0; factors = factor_rows p.blocks (rows_of samples); samples = samples }

-- the flags by the scale factors of the channels and of their sums and differences
abbrev pub join_flags : SbcParameters → (ℕ → List (List ℤ)) → List ℕ
join_flags p samples = join_row p.subbands (factor_rows p.blocks samples) (factor_rows p.blocks (joined_samples samples))

-- sums in place of the left channel and differences in place of the right where a flag is set
unfoldable pub joint_coding : SbcParameters → List Blocks → Coded
joint_coding p samples =
    let plain = rows_of samples in
    let joined = joined_samples plain in
    let flags = join_flags p plain in
    record {
      flags = flags;
      factors = picked_rows flags (factor_rows p.blocks plain) (factor_rows p.blocks joined);
      samples = picked_samples p.blocks flags plain joined;
    }

-- what is coded of a frame whose channels have these samples
unfoldable pub coding_of : SbcParameters → List Blocks → Coded
coding_of p samples = if eqb (join_count p) 0 then plain_coding p samples else joint_coding p samples

-- what is coded of a frame with these samples of its channels: join flags, scale factors and samples
pub record CodingIn (p : SbcParameters) (samples : ℕ → List (List ℤ)) (k : Coded) : Type 0 where
  pub flag_is : (s : ℕ) → s < 8 → entry k.flags s ≡ digit (is_joined p samples s)
  pub factor_is : (c s : ℕ) → c < channels p → s < 8 → entry (get_or k.factors c []) s ≡ factor_of p (λ b. coded_at p samples b c s)
  pub sample_is : (b c s : ℕ) → b < p.blocks → c < channels p → s < 8 → sample_at (rows_of k.samples c) b s ≡ coded_at p samples b c s

-- the samples that the channels have, in an array by channel
abbrev pub ChannelsIn : SbcParameters → (ℕ → List (List ℤ)) → List Blocks → Type 0
ChannelsIn p samples xs = (c : ℕ) → c < channels p → SamplesIn p.blocks (samples c) (rows_of xs c)
