-- How the code reads and stores what the other definitions speak of. An auditor may skip this file:
-- no public contract cites it. Private contracts do, and lemmas prove that both say the same.
-- A stream's state shows pending bytes through `pending_bytes`. It needs no trust: if it were
-- wrong, what `finish` promises, which is `komi` of all bytes written, would have no proof.
use Rattle.std.specs.Prelude.{ℕ, zero, suc, Bool, ◌≡◌, ◌-◌, ◌*◌, ◌/◌, ◌%◌, ◌^◌, ◌<◌, ◌≤◌, bit_xor}
use Rattle.std.specs.Int.{from_le_bytes, w64}
use Rattle.std.specs.Int.Bits.{xor_assoc, xor_self, xor_zero_l}
use Rattle.std.proofs.Common.{ap, ◌∙◌, sym}
use Rattle.std.specs.Prelude.{List, [], ◌∷◌, ◌++◌, length, take, drop, get_or, slice_index}
use Rattle.komihash.specs.Padding.{KeepsTopBit, padding_byte}
use Rattle.komihash.specs.Rounds.{Lanes, block_round}
use Rattle.komihash.specs.Stream.{end_after_blocks}
use Rattle.komihash.specs.Words.{word_of, all_bytes}
use Rattle.komihash.specs.declared.rounds.XoredPair.{XoredPair}

-- ---- a message: its whole words, the bytes after them, and its whole blocks

-- the n words that store these bytes, with zeros after them
unfoldable pub packed_words : ℕ → List ℕ → List ℕ
packed_words zero bytes = []
packed_words (suc n) bytes = word_of (take 8 bytes) ∷ packed_words n (drop 8 bytes)

-- the words of each eight bytes, without the fewer than eight at the end
abbrev pub whole_words : List ℕ → List ℕ
whole_words bytes = packed_words (length bytes / 8) bytes

-- the word at an index of chunks of eight bytes
abbrev pub chunk_word : List (List ℕ) → ℕ → ℕ
chunk_word chunks k = from_le_bytes w64 (get_or chunks k [])

-- the items after the last group of eight: of bytes, those after the last whole word; of words,
-- those after the last block
abbrev pub after_eights : List ℕ → List ℕ
after_eights xs = drop (8 * (length xs / 8)) xs

-- the byte that ends a message in version v: the padding byte, or 0 where the message is empty
abbrev pub padding_or_zero : ℕ → List ℕ → ℕ
padding_or_zero v [] = 0
padding_or_zero v (b ∷ m) = padding_byte v (b ∷ m)

-- r is the index of a word's highest byte that is not 0, counted from the lowest byte
pub record IsHighestByte (word r : ℕ) : Type 0 where
  pub place : r < 8
  pub some : 0 < word / 2 ^ (8 * r)
  pub last : word / 2 ^ (8 * r) < 256

-- the word of the bytes after the last whole word and of the byte that ends them
abbrev pub final_word : List ℕ → ℕ → ℕ
final_word m end = word_of (after_eights m ++ end ∷ [])

-- the lanes after a block round on each whole block of the words
abbrev pub block_lanes : ℕ → Lanes → List ℕ → Lanes
block_lanes v s (w0 ∷ w1 ∷ w2 ∷ w3 ∷ w4 ∷ w5 ∷ w6 ∷ w7 ∷ ws) =
    block_lanes v (block_round v s (w0 ∷ w1 ∷ w2 ∷ w3 ∷ w4 ∷ w5 ∷ w6 ∷ w7 ∷ [])) ws
block_lanes v s ws = s

-- the bytes after the last whole block
abbrev pub after_blocks : List ℕ → List ℕ
after_blocks m = drop (length m - length m % 64) m

-- the byte that ends a stream's tail: the padding byte of the pending bytes, or the byte after the
-- blocks if none is pending
abbrev pub tail_end : ℕ → List ℕ → Bool → Bool → ℕ
tail_end v (b ∷ m) had_block top_bit = padding_byte v (b ∷ m)
tail_end v [] had_block top_bit = end_after_blocks had_block top_bit

-- ---- a pair

-- the pair (a, e) of what the code stores: a xor e, and e
abbrev pub pair_of : XoredPair → ℕ × ℕ
pair_of p = (bit_xor p.e p.low, p.e)

-- ---- pending bytes: in eight words, with zeros after the last byte

-- the first bytes of those that words store
abbrev pub pending_bytes : List ℕ → ℕ → List ℕ
pending_bytes ws len = take len (all_bytes ws)

-- what is true of the fields that store pending bytes
pub record ArePending (ws : List ℕ) (len : ℕ) : Type 0 where
  pub few : len < 64
  pub count : length (pending_bytes ws len) ≡ len
  pub words : ws ≡ packed_words 8 (pending_bytes ws len)

-- the word at index k of those that store these bytes
abbrev pub packed_word : List ℕ → ℕ → ℕ
packed_word bytes k = word_of (take 8 (drop (8 * k) bytes))

-- of eight words, all but those from index `gap` on and below `gap_end` store these bytes: `gap` is
-- 3 and `gap_end` is 4 if word 3 alone is still missing
pub record PacksBut (ws bytes : List ℕ) (gap gap_end : ℕ) : Type 0 where
  pub size : length ws ≡ 8
  pub words : (k : ℕ) → k < 8 → (gap ≤ k → gap_end ≤ k) → get_or ws k 0 ≡ packed_word bytes k

-- ---- a saved text

-- the first four bytes may begin a text of version v
pub record IsHead (v : ℕ) (bytes : List ℕ) : Type 0 where
  pub version : slice_index bytes 0 ≡ v
  pub had_block : slice_index bytes 1 < 2
  pub top_bit : slice_index bytes 2 ≤ slice_index bytes 1
  pub top_bit_version : 0 < slice_index bytes 2 → KeepsTopBit v
  pub few : slice_index bytes 3 < 64

-- ---- lemmas by which a struct's value gives back its fields, which have to stand in `specs`

-- xor with the same word twice cancels
pub xor_again : (c x : ℕ) → bit_xor c (bit_xor c x) ≡ x
xor_again c x = sym (xor_assoc c c x) ∙ ap (λ n. bit_xor n x) (xor_self c) ∙ xor_zero_l x
