-- Whole blocks of a message: the lanes after them, and the bytes after them.
use Rattle.std.proofs.Common.{◌≡◌, ℕ, ◌+◌, ◌-◌, ◌*◌, ◌/◌, ◌%◌, ◌<◌, ◌≤◌, List, [], ◌∷◌, ◌++◌}
use Rattle.std.proofs.Common.{length, take, drop, refl, ap, arith, ◌∙◌, sym}
use Rattle.std.proofs.lemmas.List.{length-drop, take-append-drop, drop-drop, drop_at, append_assoc}
use Rattle.std.proofs.lemmas.Grind.{elements}
use Rattle.komihash.specs.Rounds.{Lanes, block_round}
use Rattle.komihash.specs.Internals.{whole_words, after_eights, block_lanes, after_blocks}
use Rattle.komihash.proofs.WholeWords.{whole_words-append, length-whole_words}

-- ---- the lanes

-- of a block of words and more words after it, the block is absorbed first
block_lanes-round : (v : ℕ) (l : Lanes) (ws us : List ℕ) → length ws ≡ 8
    → block_lanes v l (ws ++ us) ≡ block_lanes v (block_round v l ws) us
block_lanes-round v l (w0 ∷ w1 ∷ w2 ∷ w3 ∷ w4 ∷ w5 ∷ w6 ∷ w7 ∷ []) us e = refl
block_lanes-round v l ws us e = absurd (omega arith)

-- fewer than eight words, or 64 bytes, have no block
block_lanes-few_words : (v : ℕ) (l : Lanes) (ws : List ℕ) → length ws < 8 → block_lanes v l ws ≡ l
block_lanes-few_words v l (w0 ∷ w1 ∷ w2 ∷ w3 ∷ w4 ∷ w5 ∷ w6 ∷ w7 ∷ ws) lt = absurd (omega arith)
block_lanes-few_words v l ws lt = refl

pub block_lanes-few_bytes : (v : ℕ) (l : Lanes) (xs : List ℕ) → length xs < 64
    → block_lanes v l (whole_words xs) ≡ l
block_lanes-few_bytes v l xs lt =
    block_lanes-few_words v l (whole_words xs) (omega (arith, length-whole_words xs))

-- ---- the bytes

-- fewer than 64 bytes all stand after the blocks; of more, those after the first block decide
pub after_blocks-few : (xs : List ℕ) → length xs < 64 → after_blocks xs ≡ xs
after_blocks-few xs lt = ap (λ k. drop k xs) {y = 0} (omega arith)

pub after_blocks-more : (xs : List ℕ) → 64 ≤ length xs → after_blocks xs ≡ after_blocks (drop 64 xs)
after_blocks-more xs le =
    let whole = length (drop 64 xs) - length (drop 64 xs) % 64 in
    ap (λ k. drop k xs) (omega (arith, length-drop 64 xs)) ∙ sym (drop-drop whole 64 xs)

pub length-after_blocks : (m : List ℕ) → length (after_blocks m) ≡ length m % 64
length-after_blocks m = omega (arith, length-drop (length m - length m % 64) m)

-- ---- both, from after the first block on

-- from lanes l, the bytes `rest` lead where xs and then `bytes` lead from the lanes `before`
pub record SameBlocks (v : ℕ) (before : Lanes) (xs bytes : List ℕ) (l : Lanes) (rest : List ℕ)
    : Type 0 where
  pub lanes : block_lanes v before (whole_words (xs ++ bytes)) ≡ block_lanes v l (whole_words rest)
  pub left : after_blocks (xs ++ bytes) ≡ after_blocks rest

-- k bytes complete the block of those before them
pub completed : (v : ℕ) (l : Lanes) (xs bytes : List ℕ) (k : ℕ) → length xs + k ≡ 64
    → k ≤ length bytes
    → SameBlocks v l xs bytes (block_round v l (whole_words (xs ++ take k bytes))) (drop k bytes)
completed v l xs bytes k full enough =
    let block = xs ++ take k bytes in
    let cut : xs ++ bytes ≡ block ++ drop k bytes = rw (append_assoc, take-append-drop) refl in
    let all = whole_words-append block (drop k bytes) 8 in
    let end = drop_at block (drop k bytes) 64 in
    grind (arith, elements, cut, all, end, block_lanes-round, after_blocks-more, length-whole_words)

-- of a message, the first block is absorbed first
pub block_lanes-more : (v : ℕ) (l : Lanes) (xs : List ℕ) → 64 ≤ length xs
    → block_lanes v l (whole_words xs)
    ≡ block_lanes v (block_round v l (whole_words (take 64 xs))) (whole_words (drop 64 xs))
block_lanes-more v l xs le = (completed v l [] xs 64 refl le).lanes

-- ---- the words after them, and the bytes after their last word

-- a stream's last partial word is the message's, which `answer-joined` needs
pub after_eights-after_blocks : (m : List ℕ) → after_eights (after_blocks m) ≡ after_eights m
after_eights-after_blocks m = grind (arith, elements)

pub after_eights-whole_words : (m : List ℕ)
    → after_eights (whole_words m) ≡ whole_words (after_blocks m)
after_eights-whole_words m =
    let n = length m - length m % 64 in
    let cut = whole_words-append (take n m) (after_blocks m) (8 * (length m / 64)) in
    grind (arith, elements, cut, length-whole_words)

-- what absorbing one block needs, and what it needs that no block is left
pub ruleset one_block = (block_lanes-more, after_blocks-more)

pub ruleset no_block = (after_blocks-few, length-after_blocks)
