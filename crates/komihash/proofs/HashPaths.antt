-- The hash of a message: what its rounds make of the words, then its hash by its length, in a form
-- for each path of `src/hash.rt`.
use Rattle.std.proofs.Common.{◌≡◌, ℕ, zero, suc, ◌+◌, ◌-◌, ◌*◌, ◌/◌, ◌%◌, ◌<◌, ◌≤◌, true, false}
use Rattle.std.proofs.Common.{List, [], ◌∷◌, ◌++◌, length, take, drop, refl, arith, drop-drop}
use Rattle.std.proofs.Common.{eqb-true, slice_index}
use Rattle.std.proofs.lemmas.Grind.{elements}
use native.Mathlib.Numerals.{unary_clauses}
use Rattle.komihash.specs.Rounds.{Lanes, lanes, seed_pair, block_round, pair_round, join, closing}
use Rattle.komihash.specs.Hash.{hash_from_pair, hash_from_lanes, komi}
use Rattle.komihash.specs.Internals.{packed_words, whole_words, after_eights, final_word}
use Rattle.komihash.specs.Internals.{padding_or_zero, block_lanes, after_blocks}
use Rattle.komihash.specs.Words.{word_of}
use Rattle.komihash.specs.Padding.{padding_byte}
use Rattle.komihash.proofs.Blocks.{after_eights-whole_words, length-after_blocks}
use Rattle.komihash.proofs.PaddedWords.{padded_words-by_tail, final_word-whole}
use Rattle.komihash.proofs.WholeWords.{length-whole_words, whole_words-few}

-- a pair round takes two words that are followed by the final word
pub hash_from_pair_two : (s : ℕ × ℕ) (ws : List ℕ) (at final : ℕ) → at + 2 ≤ length ws
    → hash_from_pair s (drop at ws ++ final ∷ [])
    ≡ hash_from_pair (pair_round s (slice_index ws at) (slice_index ws (at + 1)))
    (drop (at + 2) ws ++ final ∷ [])
hash_from_pair_two s (w0 ∷ w1 ∷ []) zero final le = refl
hash_from_pair_two s (w0 ∷ w1 ∷ w ∷ ws) zero final le = refl
hash_from_pair_two s (w ∷ ws) (suc at) final le =
    simp unary_clauses (simp unary_clauses at (hash_from_pair_two s ws at final (omega arith)))
hash_from_pair_two s ws at final le = absurd (omega arith)

-- ---- lanes and blocks

-- fewer than eight words and the final word make no block
hash_from_lanes-without_block : (v : ℕ) (s : Lanes) (ws : List ℕ) (final : ℕ) → length ws < 8
    → hash_from_lanes v s false (ws ++ final ∷ [])
    ≡ hash_from_pair (join false s) (ws ++ final ∷ [])
hash_from_lanes-without_block v s (w0 ∷ w1 ∷ w2 ∷ w3 ∷ w4 ∷ w5 ∷ w6 ∷ w7 ∷ ws) final lt =
    absurd (omega arith)
hash_from_lanes-without_block v s ws final lt = refl

-- once a block was absorbed, the blocks that follow are absorbed, and then what is left is hashed
hash_from_lanes-after_block : (v : ℕ) (s : Lanes) (ws : List ℕ) (final : ℕ)
    → hash_from_lanes v s true (ws ++ final ∷ [])
    ≡ hash_from_pair (join true (block_lanes v s ws)) (after_eights ws ++ final ∷ [])
hash_from_lanes-after_block v s (w0 ∷ w1 ∷ w2 ∷ w3 ∷ w4 ∷ w5 ∷ w6 ∷ w7 ∷ w ∷ ws) final =
    let block = w0 ∷ w1 ∷ w2 ∷ w3 ∷ w4 ∷ w5 ∷ w6 ∷ w7 ∷ [] in
    let more = hash_from_lanes-after_block v (block_round v s block) (w ∷ ws) final in
    grind (arith, drop-drop (8 * (length (w ∷ ws) / 8)) 8 (block ++ w ∷ ws), more)
hash_from_lanes-after_block v s ws final = refl

-- eight words or more and the final word make a block, so `had_block` makes no difference
hash_from_lanes-first_block : (v : ℕ) (s : Lanes) (ws : List ℕ) (final : ℕ) → 8 ≤ length ws
    → hash_from_lanes v s false (ws ++ final ∷ []) ≡ hash_from_lanes v s true (ws ++ final ∷ [])
hash_from_lanes-first_block v s (w0 ∷ w1 ∷ w2 ∷ w3 ∷ w4 ∷ w5 ∷ w6 ∷ w7 ∷ []) final le = refl
hash_from_lanes-first_block v s (w0 ∷ w1 ∷ w2 ∷ w3 ∷ w4 ∷ w5 ∷ w6 ∷ w7 ∷ w ∷ ws) final le = refl
hash_from_lanes-first_block v s ws final le = absurd (omega arith)

-- ---- the hash of a message, by its length

module _ (v seed : ℕ) (m : List ℕ) where
  abbrev pair : ℕ × ℕ
  pair = seed_pair seed

  abbrev final : ℕ
  final = final_word m (padding_byte v m)

  -- the hash of fewer than 64 bytes, which have no block
  pub komi-few : length m < 64
      → komi v seed m
      ≡ hash_from_pair pair (whole_words m ++ final_word m (padding_or_zero v m) ∷ [])
  unfolding komi
  komi-few lt =
      rw (padded_words-by_tail v m)
      (hash_from_lanes-without_block v (lanes pair) (whole_words m) _
      (omega (arith, length-whole_words m)))

  -- the hash of 1 to 63 bytes, whose final word has a padding byte, as `hash_of_words` needs it
  pub komi-few_nonempty : 1 ≤ length m → length m < 64
      → komi v seed m ≡ hash_from_pair pair (whole_words m ++ final ∷ [])
  komi-few_nonempty some lt = grind (arith, komi-few)

  -- the hash of 64 bytes or more, as `hash_of_one_block` and `hash_of_blocks` need it: whole blocks
  -- first, and then the bytes after them
  pub komi-long : 64 ≤ length m
      → komi v seed m ≡ hash_from_pair (join true (block_lanes v (lanes pair) (whole_words m)))
      (whole_words (after_blocks m) ++ final ∷ [])
  unfolding komi
  komi-long le =
      let first = hash_from_lanes-first_block v (lanes pair) (whole_words m) final in
      let rest = hash_from_lanes-after_block v (lanes pair) (whole_words m) final in
      grind (arith, first, rest, padded_words-by_tail, after_eights-whole_words, length-whole_words)

  -- for `hash_of_partial_word`
  pub komi-partial_word : 1 ≤ length m → length m < 8
      → komi v seed m ≡ closing pair (word_of (m ++ padding_byte v m ∷ []) ∷ [])
  unfolding packed_words
  komi-partial_word some lt = grind (arith, komi-few_nonempty)

  -- for `hash_of_one_word`
  pub komi-one_word : 8 ≤ length m → length m < 16
      → komi v seed m ≡ closing pair (word_of (take 8 m) ∷ final ∷ [])
  unfolding packed_words
  komi-one_word le lt =
      let count : length m / 8 ≡ 1 = omega arith in grind (arith, komi-few_nonempty)

  -- for `hash_of_16_bytes`, and for the test `zero_and_more`
  pub komi-two_words : 16 ≤ length m → length m < 24
      → komi v seed m
      ≡ closing (pair_round pair (word_of (take 8 m)) (word_of (take 8 (drop 8 m)))) (final ∷ [])
  unfolding packed_words
  komi-two_words le lt =
      let count : length m / 8 ≡ 2 = omega arith in grind (arith, komi-few_nonempty, drop-drop)

-- for `hash_of_blocks`, where no whole word is left
pub komi-blocks : (v seed : ℕ) (m : List ℕ) → 64 ≤ length m → length m % 64 < 8
    → komi v seed m
    ≡ closing (join true (block_lanes v (lanes (seed_pair seed)) (whole_words m)))
    (final_word m (padding_byte v m) ∷ [])
komi-blocks v seed m le lt = grind (arith, whole_words-few, length-after_blocks, komi-long)

-- where a whole word is left after the blocks, it is the message's last one
pub last_word-after_blocks : (m : List ℕ) → 0 < length (whole_words (after_blocks m))
    → slice_index (whole_words m) (length m / 8 - 1)
    ≡ slice_index (whole_words (after_blocks m)) (length (whole_words (after_blocks m)) - 1)
last_word-after_blocks m some =
    let words = after_eights-whole_words m in grind (arith, elements, words, length-whole_words)

-- for the message of no bytes
pub komi-empty : (v seed : ℕ) (m : List ℕ) → length m ≡ 0
    → komi v seed m ≡ closing (seed_pair seed) (0 ∷ [])
unfolding komi
komi-empty v seed m none = grind arith

-- ---- two versions: they pad with the same byte after a byte below 128

pub komi-same_below_64 : (seed : ℕ) (m : List ℕ) → length m < 64
    → slice_index m (length m - 1) < 128 → komi 4 seed m ≡ komi 5 seed m
komi-same_below_64 seed m few low = grind (arith, komi-few)

-- what the proofs of `src/hash.rt` need
pub ruleset hash_laws = (
  komi-empty,
  komi-partial_word,
  komi-one_word,
  komi-two_words,
  final_word-whole,
  komi-few_nonempty,
  komi-long,
  last_word-after_blocks,
  komi-blocks,
  length-whole_words,
  eqb-true,
)
