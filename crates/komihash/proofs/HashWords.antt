-- Lanes and hashes are words: each is a sum modulo 2 ^ 64, or one xored with the low half of a
-- product.
use Rattle.std.proofs.Common.{ℕ, ◌^◌, ◌<◌, Bool, true, List, [], ◌∷◌, arith, bit_xor}
use Rattle.std.proofs.lemmas.Nat.{xor_lt}
use Rattle.komihash.specs.Hash.{komi, hash_from_pair, hash_from_lanes}
use Rattle.komihash.specs.Padding.{padded_words}
use Rattle.komihash.specs.Rounds.{Lanes, low, plus, mix, seed_pair, lanes, block_round}
use Rattle.komihash.specs.Rounds.{block_round_by, in_order, join, pair_round, closing}
use Rattle.komihash.specs.Internals.{block_lanes}
use Rattle.komihash.specs.Words.{AreWords}

-- a sum xor a low half is a word
mixed-lt : (a b p : ℕ) → bit_xor (plus a b) (low p) < 2 ^ 64
mixed-lt a b p = xor_lt 64 (plus a b) (low p) (omega arith) (omega arith)

-- ---- lanes

pub AreWords-seed_pair : (seed : ℕ) → AreWords (in_order (lanes (seed_pair seed)))
unfolding mix
AreWords-seed_pair seed = search (arith, xor_lt 64, mixed-lt)

pub AreWords-block_lanes : (v : ℕ) (s : Lanes) (ws : List ℕ) → AreWords (in_order s)
    → AreWords (in_order (block_lanes v s ws))
unfolding block_round_by
AreWords-block_lanes v s (w0 ∷ w1 ∷ w2 ∷ w3 ∷ w4 ∷ w5 ∷ w6 ∷ w7 ∷ ws) words =
    AreWords-block_lanes v (block_round v s (w0 ∷ w1 ∷ w2 ∷ w3 ∷ w4 ∷ w5 ∷ w6 ∷ w7 ∷ [])) ws
    (search (arith, mixed-lt))
AreWords-block_lanes v s ws words = words

-- ---- hashes

closing-lt : (s : ℕ × ℕ) (ws : List ℕ) → closing s ws < 2 ^ 64
unfolding mix
closing-lt s (p ∷ []) = mixed-lt _ _ _
closing-lt s (w ∷ p ∷ []) = mixed-lt _ _ _
closing-lt s ws = omega arith

hash_from_pair-lt : (s : ℕ × ℕ) (ws : List ℕ) → hash_from_pair s ws < 2 ^ 64
hash_from_pair-lt s (w0 ∷ w1 ∷ w ∷ ws) = hash_from_pair-lt (pair_round s w0 w1) (w ∷ ws)
hash_from_pair-lt s ws = closing-lt s ws

hash_from_lanes-lt : (v : ℕ) (s : Lanes) (had_block : Bool) (ws : List ℕ)
    → hash_from_lanes v s had_block ws < 2 ^ 64
hash_from_lanes-lt v s had_block (w0 ∷ w1 ∷ w2 ∷ w3 ∷ w4 ∷ w5 ∷ w6 ∷ w7 ∷ w ∷ ws) =
    let block = w0 ∷ w1 ∷ w2 ∷ w3 ∷ w4 ∷ w5 ∷ w6 ∷ w7 ∷ [] in
    hash_from_lanes-lt v (block_round v s block) true (w ∷ ws)
hash_from_lanes-lt v s had_block ws = hash_from_pair-lt (join had_block s) ws

-- a hash is a word
pub komi-lt : (v seed : ℕ) (m : List ℕ) → komi v seed m < 2 ^ 64
unfolding komi
komi-lt v seed m = hash_from_lanes-lt v (lanes (seed_pair seed)) _ (padded_words v m)
