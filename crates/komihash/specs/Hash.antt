-- The hash of a message, as one pass over its padded words.
use Rattle.std.specs.Prelude.{ℕ, Bool, true, false, List, [], ◌∷◌}
use Rattle.komihash.specs.Rounds.{Lanes, seed_pair, lanes, block_round, join, pair_round, closing}
use Rattle.komihash.specs.Padding.{padded_words}

-- while three or more words are left, two go to a pair round; the closing takes the rest
abbrev pub hash_from_pair : ℕ × ℕ → List ℕ → ℕ
hash_from_pair s (w0 ∷ w1 ∷ w ∷ ws) = hash_from_pair (pair_round s w0 w1) (w ∷ ws)
hash_from_pair s ws = closing s ws

-- while nine or more words are left, eight go to a block round; then the lanes are joined
abbrev pub hash_from_lanes : ℕ → Lanes → Bool → List ℕ → ℕ
hash_from_lanes v s had_block (w0 ∷ w1 ∷ w2 ∷ w3 ∷ w4 ∷ w5 ∷ w6 ∷ w7 ∷ w ∷ ws) =
    hash_from_lanes v (block_round v s (w0 ∷ w1 ∷ w2 ∷ w3 ∷ w4 ∷ w5 ∷ w6 ∷ w7 ∷ [])) true (w ∷ ws)
hash_from_lanes v s had_block ws = hash_from_pair (join had_block s) ws

-- the hash of a message with a seed in version v, which is 4 or 5
unfoldable pub komi : ℕ → ℕ → List ℕ → ℕ
komi v seed m = hash_from_lanes v (lanes (seed_pair seed)) false (padded_words v m)
