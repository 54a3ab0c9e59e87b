-- The chains over pairs of samples, beside the measures that go by places.
mod Chains
