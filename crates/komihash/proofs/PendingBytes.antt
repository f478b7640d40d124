-- Pending bytes, and the eight words that store them.
use Rattle.std.proofs.Common.{◌≡◌, ℕ, ◌+◌, ◌*◌, ◌<◌, ◌≤◌, List, [], ◌∷◌, ◌++◌, Fits, length, take}
use Rattle.std.proofs.Common.{drop, get_or, set, refl, ap, arith, ◌∙◌, w8, ◌-◌, ◌/◌, ◌%◌, ◌^◌}
use Rattle.std.proofs.Common.{length-append, length-drop, length-take, take_all, shr-shr}
use Rattle.std.proofs.Common.{append_assoc, take-append-drop, bit_or, slice_index}
use Rattle.std.proofs.lemmas.Grind.{elements}
use Rattle.std.proofs.lemmas.List.{drop_all, drop-append-le}
use Rattle.std.proofs.Math.Seq.{drop-append-add}
use Rattle.std.specs.Simd.{first_chunks}
use borrow.Rule.Slice.PartMut.{put_mid}
use Rattle.komihash.specs.Internals.{packed_words, pending_bytes, ArePending, PacksBut, whole_words}
use Rattle.komihash.specs.Internals.{packed_word, chunk_word}
use Rattle.komihash.specs.Words.{AreBytes, word_of}
use Rattle.komihash.proofs.AllBytes.{AreBytes-all_bytes, bytes-packed_words}
use Rattle.komihash.proofs.WholeWords.{length-packed_words, get_or-packed_words, read_words}
use Rattle.komihash.proofs.WholeWords.{packed_words-append, word_of-chunk}
use Rattle.komihash.proofs.WordOf.{AreBytes-append, AreBytes-take, AreBytes-drop, AreBytes-typed}
use Rattle.komihash.proofs.WordOf.{word_of-join, word_of-last}

-- ---- words that are stored one by one, some of them out of order or more than once

-- A word is put at index i. Then those from `next` on and below `gap_end` are missing. If i isn't
-- one of these, the word must be the one that belongs there.
pub PacksBut-put : {ws zs : List ℕ} {gap gap_end : ℕ} → PacksBut ws zs gap gap_end
    → (i next word : ℕ) → (i ≤ gap) × (next ≤ i + 1)
    → ((next ≤ i → gap_end ≤ i) → word ≡ packed_word zs i)
    → PacksBut (set ws i word) zs next gap_end
PacksBut-put but i next word within is = grind (arith, elements)

-- if no word is missing, all are stored
pub PacksBut-all : {ws zs : List ℕ} {gap gap_end : ℕ} → PacksBut ws zs gap gap_end
    → (gap < 8 → gap_end ≤ gap) → ws ≡ packed_words 8 zs
PacksBut-all but none =
    grind (arith, elements, length-packed_words, get_or-packed_words)

-- eight bytes of those that are put after others are the word at their place
pub packed_word-after : (xs bytes : List ℕ) (at from : ℕ) → length xs + from ≡ 8 * at
    → word_of (take 8 (drop from bytes)) ≡ packed_word (xs ++ bytes) at
packed_word-after xs bytes at from place = rw (← place, drop-append-add xs bytes from) refl

-- the bytes after the last whole word are read with the last eight
pub PacksBut-last : (xs bytes : List ℕ) {ws : List ℕ} {end : ℕ}
    → PacksBut ws (xs ++ bytes) (end / 8) (end / 8 + 1)
    → ((k : ℕ) → Fits w8 (get_or bytes k 0))
    → (length xs + length bytes ≡ end) × (8 ≤ length bytes) × (end < 64)
    → set ws (end / 8)
    (word_of (take 8 (drop (length bytes - 8) bytes)) / 2 ^ (56 - 8 * (end % 8)) / 2 ^ 8)
    ≡ packed_words 8 (xs ++ bytes)
PacksBut-last xs bytes {ws} {end} but typed (sum, least, few) =
    let from = length bytes - end % 8 in
    let last = word_of-last 8 from (56 - 8 * (end % 8) + 8) bytes (AreBytes-typed bytes typed) in
    let left = take_all 8 (drop from bytes) (omega (arith, length-drop from bytes)) in
    PacksBut-all (PacksBut-put but (end / 8) (end / 8 + 1) _ (omega arith)
    (λ _. rw shr-shr (grind (arith, last, packed_word-after xs bytes, left)))) (omega arith)

-- with the words of the chunks of the bytes from `from` on put there, none before `end` is missing
pub PacksBut-chunks : (xs bytes : List ℕ) {chunks : List (List ℕ)} {ws : List ℕ} {at gap_end : ℕ}
    (out : List ℕ) (from end : ℕ) → PacksBut ws (xs ++ bytes) at gap_end
    → chunks ≡ first_chunks 8 (length (drop from bytes) / 8) (drop from bytes)
    → ((k : ℕ) → k < length chunks → slice_index out k ≡ chunk_word chunks k)
    → (length chunks ≡ length (drop from bytes) / 8) × (length xs + from ≡ 8 * at)
    × (end ≡ at + length chunks) × (end ≤ 8) × (length out ≡ length chunks)
    → PacksBut (put_mid at (length chunks) ws out) (xs ++ bytes) end gap_end
PacksBut-chunks xs bytes {at = at} out from end but front words sizes = record {
  size = grind (arith, elements);
  words = λ k lt after.
      let read = word_of-chunk (length (drop from bytes) / 8) (k - at) (drop from bytes) in
      let stored = packed_word-after xs bytes k (from + 8 * (k - at)) in
      grind (arith, elements);
}

-- ---- the pending bytes, which are the first of those that words store

pub ArePending-none : ArePending (0 ∷ 0 ∷ 0 ∷ 0 ∷ 0 ∷ 0 ∷ 0 ∷ 0 ∷ []) 0
unfolding packed_words
ArePending-none = record { few = omega arith; count = refl; words = refl }

ruleset bytes_typed =
    (AreBytes-append, AreBytes-take, AreBytes-drop, AreBytes-typed, AreBytes-all_bytes)

module _ {ws : List ℕ} {len : ℕ} (are : ArePending ws len) where
  abbrev pending : List ℕ
  pending = pending_bytes ws len

  -- words that store the pending bytes and others after them
  module _ (new bytes : List ℕ) (typed : (k : ℕ) → Fits w8 (get_or bytes k 0))
      (is : new ≡ packed_words 8 (pending ++ bytes)) where
    -- if these fill no block, they are the pending bytes
    pub pending_bytes-put : len + length bytes < 64
        → pending_bytes new (len + length bytes) ≡ pending ++ bytes
    pending_bytes-put few =
        let typed_bytes : AreBytes (pending ++ bytes) = search bytes_typed in
        grind (arith, bytes-packed_words, length-append {A = ℕ})

    pub ArePending-put : len + length bytes < 64 → ArePending new (len + length bytes)
    ArePending-put few = grind (arith, pending_bytes-put few, length-append pending bytes)

    -- if these fill a block, they are its whole words
    pub whole_words-put : 64 ≤ len + length bytes
        → new ≡ whole_words (pending ++ take (64 - len) bytes)
    unfolding packed_words
    whole_words-put full =
        let front = pending ++ take (64 - len) bytes in
        let words = packed_words-append 8 0 front (drop (64 - len) bytes) in
        grind (arith, append_assoc, take-append-drop, length-append, length-take, words)

  -- the word at index i is the one of the pending bytes there
  pub get_or-pending : (i : ℕ) → i < 8 → get_or ws i 0 ≡ packed_word pending i
  get_or-pending i lt = ap (λ us. get_or us i 0) are.words ∙ get_or-packed_words 8 i pending lt

  pub AreBytes-word : (i : ℕ) → AreBytes (take 8 (drop (8 * i) pending))
  AreBytes-word i = search bytes_typed

  abbrev pub partial : List ℕ
  partial = drop (8 * (len / 8)) pending

  pub length-partial : length partial ≡ len % 8
  length-partial = omega (arith, are.count, length-drop (8 * (len / 8)) pending)

  -- the words after the partial word are 0, whatever is stored there
  pub get_or-after_partial : (k : ℕ) → len / 8 < k → k < 8 → (word : ℕ)
      → get_or (set ws (len / 8) word) k 0 ≡ 0
  get_or-after_partial k lt few word =
      grind (arith, elements, get_or-pending k, drop_all (8 * k) pending)

  -- bytes put after them change no word before the partial word
  PacksBut-before_partial : (bytes : List ℕ) (gap_end : ℕ)
      → (gap_end < 8 → len + length bytes ≤ 8 * gap_end)
      → PacksBut ws (pending ++ bytes) (len / 8) gap_end
  PacksBut-before_partial bytes gap_end room = record {
    size = omega (arith, ap length are.words, length-packed_words 8 pending);
    words = λ k few after. grind (arith, elements, get_or-pending k, drop-append-le, drop_all);
  }

  -- the partial word, with those of them that fit after it, is the word of all at its place
  packed_word-partial : (bytes : List ℕ) → AreBytes bytes
      → bit_or (get_or ws (len / 8) 0) (word_of (take 8 bytes) * 2 ^ (8 * (len % 8)) % 2 ^ 64)
      ≡ packed_word (pending ++ bytes) (len / 8)
  packed_word-partial bytes typed =
      let these = AreBytes-take 8 bytes typed in
      let word = word_of-join (take 8 partial) (take 8 bytes) (len % 8) (AreBytes-word (len / 8)) in
      grind (arith, word, get_or-pending (len / 8), length-partial, drop-append-le)

  -- with that word stored, only words after it are missing, and none that stays 0
  pub PacksBut-partial : (bytes : List ℕ) (word gap_end : ℕ) → AreBytes bytes
      → word ≡ word_of (take 8 bytes) → (gap_end < 8 → len + length bytes ≤ 8 * gap_end)
      → PacksBut
      (set ws (len / 8) (bit_or (get_or ws (len / 8) 0) (word * 2 ^ (8 * (len % 8)) % 2 ^ 64)))
      (pending ++ bytes) (len / 8 + 1) gap_end
  PacksBut-partial bytes word gap_end typed is room =
      PacksBut-put (PacksBut-before_partial bytes gap_end room) (len / 8) (len / 8 + 1) _
      (omega arith) (λ _. rw is (packed_word-partial bytes typed))

-- where none is pending, only the words of the bytes are missing
pub PacksBut-none : {ws : List ℕ} → ArePending ws 0 → (bytes : List ℕ) (gap_end : ℕ)
    → (gap_end < 8 → length bytes ≤ 8 * gap_end) → PacksBut ws bytes 0 gap_end
PacksBut-none are bytes gap_end room =
    PacksBut-before_partial are bytes gap_end (λ lt. omega (arith, room lt))

-- what the proofs of `pending.rt` need
pub ruleset pending_laws = (
  ArePending-none,
  ArePending-put,
  pending_bytes-put,
  whole_words-put,
  get_or-pending,
  read_words,
  PacksBut-last,
)
