-- Padded words read back. Their bytes are the message, the byte that ends it, which is 0 only if
-- the message is empty, and zeros. So the padding byte is the last byte that is not 0.
use Rattle.std.proofs.Common.{◌≡◌, ℕ, zero, suc, ◌+◌, ◌-◌, ◌*◌, ◌/◌, ◌%◌, ◌^◌, ◌<◌, ◌≤◌, List, []}
use Rattle.std.proofs.Common.{◌∷◌, ◌++◌, length, take, drop, get_or, replicate, refl, arith, w64}
use Rattle.std.proofs.Common.{pow_mono, drop-drop, drop_at, length-append, length-drop}
use Rattle.std.proofs.Common.{take-append-drop, take_all, pow-add, slice_index, Fits}
use Rattle.std.proofs.lemmas.Grind.{elements}
use Rattle.std.proofs.lemmas.List.{length-replicate, get_or_past}
use Rattle.std.proofs.lemmas.Simd.{Each1-from_get_or}
use Rattle.std.specs.Int.{to_le_bytes}
use Rattle.komihash.specs.Internals.{IsHighestByte, padding_or_zero}
use Rattle.komihash.specs.Padding.{ArePadded, pads_with_two, padding_after, padded_words}
use Rattle.komihash.specs.Padding.{padding_byte, padded_bytes}
use Rattle.komihash.specs.Words.{AreBytes, word_of, all_bytes}
use Rattle.komihash.proofs.AllBytes.{length-all_bytes, AreBytes-all_bytes, take-all_bytes}
use Rattle.komihash.proofs.AllBytes.{all_bytes-whole_words, packed_words-all_bytes}
use Rattle.komihash.proofs.PaddedWords.{padding_or_zero-some}
use Rattle.komihash.proofs.WholeWords.{words_of-whole}
use Rattle.komihash.proofs.WordOf.{AreBytes-append, AreBytes-take, AreBytes-drop, word_of-drop}

-- ---- bytes that end in a byte and zeros

-- zeros have no other byte
zeros-only : (k : ℕ) (xs ys : List ℕ) (b : ℕ) → replicate k 0 ≡ xs ++ b ∷ ys → b ≡ 0
zeros-only zero [] ys b is = cc
zeros-only zero (x ∷ xs) ys b is = cc
zeros-only (suc k) [] ys b is = cc
zeros-only (suc k) (x ∷ xs) ys b is = zeros-only k xs ys b (cc)

-- there is one way to end in a byte that is 0 only if none stands before it
same_end : (xs ys : List ℕ) (a b j k : ℕ) → (0 < length xs → 0 < a) → (0 < length ys → 0 < b)
    → xs ++ a ∷ replicate j 0 ≡ ys ++ b ∷ replicate k 0 → (xs ≡ ys) × (a ≡ b)
same_end [] [] a b j k some_a some_b is = grind arith
same_end [] (y ∷ ys) a b j k some_a some_b is = grind (arith, zeros-only j ys (replicate k 0) b)
same_end (x ∷ xs) [] a b j k some_a some_b is = grind (arith, zeros-only k xs (replicate j 0) a)
same_end (x ∷ xs) (y ∷ ys) a b j k some_a some_b is = grind (arith, same_end xs ys a b j k)

-- bytes whose word is 0 are zeros, and bytes whose word is a byte are this byte and zeros
word_of-zero : (xs : List ℕ) → word_of xs ≡ 0 → xs ≡ replicate (length xs) 0
word_of-zero [] is = refl
word_of-zero (x ∷ xs) is = grind (arith, word_of-zero xs)

word_of-byte : (xs : List ℕ) (k : ℕ) → length xs ≡ suc k → word_of xs < 256
    → xs ≡ word_of xs ∷ replicate k 0
word_of-byte [] k size small = absurd (omega arith)
word_of-byte (x ∷ xs) k size small = grind (arith, word_of-zero xs)

-- ---- the bytes of padded words

AreBytes-end : (b k : ℕ) → b < 256 → AreBytes (b ∷ replicate k 0)
AreBytes-end b k small i = grind (arith, elements, get_or_past {X = ℕ})

bytes_of_padded : (v : ℕ) (m : List ℕ) {ws : List ℕ} → AreBytes m → padded_words v m ≡ ws
    → all_bytes ws ≡ m ++ padding_or_zero v m ∷ replicate (7 - length m % 8) 0
bytes_of_padded v [] are is = grind arith
bytes_of_padded v (b ∷ m) are is =
    let xs = b ∷ m in
    let end = AreBytes-end (padding_byte v xs) (7 - length xs % 8) (grind arith) in
    let padded = all_bytes-whole_words (padded_bytes v xs) (AreBytes-append xs _ are end) in
    grind (arith, elements, words_of-whole, padded)

-- no two messages share their padded words
pub padded_words-same : (v : ℕ) (x y : List ℕ) → AreBytes x → AreBytes y
    → padded_words v x ≡ padded_words v y → x ≡ y
padded_words-same v x y are_x are_y same =
    grind (arith, same_end, bytes_of_padded v x are_x same, bytes_of_padded v y are_y refl)

-- ---- the highest byte of the last word that is not 0, which can only be the padding byte

module _ (v : ℕ) (ws : List ℕ) (fit : (k : ℕ) → Fits w64 (get_or ws k 0)) where
  abbrev last : ℕ
  last = get_or ws (length ws - 1) 0

  -- the bytes from index r of the last word on are a word, which is the last one shifted
  word_from : (r : ℕ) → 0 < length ws
      → word_of (drop (8 * (length ws - 1) + r) (all_bytes ws)) ≡ last / 2 ^ (8 * r)
  word_from r some =
      let i = length ws - 1 in
      let bytes = all_bytes ws in
      let from = drop (8 * i) bytes in
      let eight = take_all 8 from (omega (arith, length-drop (8 * i) bytes, length-all_bytes ws)) in
      let rest = word_of-drop r from (AreBytes-drop (8 * i) bytes (AreBytes-all_bytes ws)) in
      grind (arith, eight, take-all_bytes ws i 8, drop-drop r (8 * i) bytes)

  -- padded words whose last word is 0 are those of the empty message
  pub ArePadded-zero : ArePadded v ws → last ≡ 0 → length ws ≡ 1
  ArePadded-zero (m, are, is) none =
      let n = length m in
      let bytes = bytes_of_padded v m are is in
      let count : length ws ≡ n / 8 + 1 =
      grind (arith, length-append {A = ℕ}, length-replicate {A = ℕ}, length-all_bytes ws) in
      grind (arith, bytes, drop_at, word_from (n % 8))

  -- the message that would end below index r of the last word
  module _ {r : ℕ} (some : 0 < length ws) (is_highest : IsHighestByte last r) where
    abbrev size : ℕ
    size = 8 * (length ws - 1) + r

    abbrev message : List ℕ
    message = take size (all_bytes ws)

    split : all_bytes ws ≡ message ++ last / 2 ^ (8 * r) ∷ replicate (7 - length message % 8) 0
    split =
        let byte = word_of-byte (drop size (all_bytes ws)) (7 - r) in
        let cut = take-append-drop size (all_bytes ws) in
        grind (arith, elements, byte, cut, word_from r some, length-all_bytes ws)

    -- if the highest byte is the padding byte of what stands before it, that is the message
    pub unpadded : 0 < size → last / 2 ^ (8 * r) ≡ padding_byte v message
        → padded_words v message ≡ ws
    unpadded long is =
        let fits = packed_words-all_bytes ws (Each1-from_get_or _ ws 0 (λ k _. (fit k).fits)) in
        grind (arith, split, words_of-whole, length-all_bytes, fits)

    -- if there is a message, it can end nowhere else
    pub one_place : ArePadded v ws → (0 < size) × (last / 2 ^ (8 * r) ≡ padding_byte v message)
    one_place (m, are, is) =
        grind (arith, same_end message m, split, padding_or_zero-some, bytes_of_padded v m are is)

-- ---- what the code finds

-- the highest bit of a word tells its highest byte that is not 0
pub highest : (w bit : ℕ) → bit < 64 → 2 ^ bit ≤ w → w < 2 * 2 ^ bit → IsHighestByte w (bit / 8)
highest w bit few low high =
    grind (arith, pow_mono, pow-add)

-- byte `at` of the words is a byte of word `at / 8`
pub byte_of_words : (ws : List ℕ) (at : ℕ) → at < 8 * length ws
    → get_or (to_le_bytes w64 (get_or ws (at / 8) 0)) (at % 8) 0 ≡ get_or (all_bytes ws) at 0
byte_of_words ws at lt = grind (arith, elements, take-all_bytes ws (at / 8) 8)

-- the padding byte of the first n bytes, from the last of them
pub padding_byte_at : (v : ℕ) (ws : List ℕ) (n last : ℕ) → 0 < n → n ≤ 8 * length ws
    → last ≡ slice_index (all_bytes ws) (n - 1)
    → padding_after (pads_with_two v last) ≡ padding_byte v (take n (all_bytes ws))
padding_byte_at v ws n last some le is = grind (arith, elements, length-all_bytes)

-- what the proof of `unpad` needs
pub ruleset unpad_laws = (AreBytes-take, AreBytes-all_bytes, padded_words-same)
