-- Streams. The definition absorbs byte by byte, and the code in blocks: both lead to one state. It
-- stays a state of its version, and a new stream that absorbed a message answers its hash.
use Rattle.std.proofs.Common.{◌≡◌, ℕ, ◌+◌, ◌-◌, ◌%◌, ◌<◌, ◌≤◌, Bool, true, false, nat_lt, List, []}
use Rattle.std.proofs.Common.{◌∷◌, ◌++◌, length, drop, refl, arith, ◌∙◌, sym, inl, inr}
use Rattle.std.proofs.Common.{if◌then◌else◌, append_assoc, append-nil, length-append, length-drop}
use Rattle.std.proofs.Common.{get_or-drop, slice_index}
use Rattle.std.proofs.lemmas.Bool.{cases_lt}
use Rattle.std.proofs.lemmas.Bool.Decides.{nat_tests}
use Rattle.std.proofs.lemmas.Grind.{elements}
use Rattle.std.proofs.lemmas.List.{nil_from_length}
use Rattle.komihash.specs.Hash.{komi, hash_from_pair}
use Rattle.komihash.specs.Padding.{pads_with_two, padding_byte}
use Rattle.komihash.specs.Rounds.{join, closing}
use Rattle.komihash.specs.Saved.{IsTextAfter}
use Rattle.komihash.specs.Internals.{packed_words, whole_words, block_lanes, after_blocks}
use Rattle.komihash.specs.Internals.{tail_end, final_word, padding_or_zero}
use Rattle.komihash.specs.Stream.{State, IsState, HasAbsorbed, start, absorb, absorb_byte, answer}
use Rattle.komihash.specs.Stream.{tail_of, Answered}
use Rattle.komihash.specs.Words.{AreBytes}
use Rattle.komihash.proofs.Blocks.{completed, block_lanes-few_bytes}
use Rattle.komihash.proofs.Blocks.{length-after_blocks, after_eights-after_blocks}
use Rattle.komihash.proofs.HashPaths.{komi-few, komi-long}
use Rattle.komihash.proofs.HashWords.{AreWords-seed_pair, AreWords-block_lanes}
use Rattle.komihash.proofs.PaddedWords.{padded_words-by_tail}
use Rattle.komihash.proofs.WholeWords.{words_of-whole}
use Rattle.komihash.proofs.WordOf.{AreBytes-append, AreBytes-drop, AreBytes-typed}

-- ---- what is absorbed

pub absorb-nothing : (v : ℕ) (s : State) → absorb v s [] ≡ s
unfolding absorb
absorb-nothing v s = refl

-- absorbing two pieces is absorbing them joined
pub absorb-append : (v : ℕ) (s : State) (x y : List ℕ)
    → absorb v s (x ++ y) ≡ absorb v (absorb v s x) y
unfolding absorb
absorb-append v s [] y = refl
absorb-append v s (b ∷ x) y = absorb-append v (absorb_byte v s b) x y

-- the state after bytes, by the blocks that they complete
abbrev pub blocks_state : ℕ → State → List ℕ → State
blocks_state v s bytes =
    let all = s.pending ++ bytes in
    let few = nat_lt (length all) 64 in
    let last = slice_index all (length all - length all % 64 - 1) in
    record {
      lanes = block_lanes v s.lanes (whole_words all);
      pending = after_blocks all;
      had_block = if few then s.had_block else true;
      top_bit = if few then s.top_bit else pads_with_two v last;
    }

-- bytes that complete no block are appended to the pending ones
blocks_state-few : (v : ℕ) (s : State) (bytes : List ℕ) → length s.pending + length bytes < 64
    → blocks_state v s bytes ≡ record s { pending = s.pending ++ bytes }
blocks_state-few v s bytes few =
    let lanes = block_lanes-few_bytes v s.lanes (s.pending ++ bytes) in
    grind (arith, lanes, length-append {A = ℕ})

-- the byte that completes a block leaves none pending, and what follows goes on from the new lanes
absorb_byte-full : (v : ℕ) (s : State) (b : ℕ) (bytes : List ℕ) → length s.pending ≡ 63
    → ((absorb_byte v s b).pending ≡ [])
    × (blocks_state v (absorb_byte v s b) bytes ≡ blocks_state v s (b ∷ bytes))
absorb_byte-full v s b bytes full =
    let all = s.pending ++ b ∷ [] in
    let on = completed v s.lanes s.pending (b ∷ bytes) 1 in
    grind (arith, elements, on, words_of-whole 8 all)

-- byte after byte, as in the definition, leads where block after block does, as in the code
pub absorb-blocks : (v : ℕ) (s : State) (bytes : List ℕ) → length s.pending < 64
    → absorb v s bytes ≡ blocks_state v s bytes
unfolding absorb
absorb-blocks v s [] few = rw (blocks_state-few v s [] (omega arith), append-nil) refl
absorb-blocks v s (b ∷ bytes) few =
    let next = absorb-blocks v (absorb_byte v s b) bytes in
    grind (arith, nat_tests, next, absorb_byte-full, length-append {A = ℕ}, append_assoc)

-- what the proof of `complete_blocks` needs
pub ruleset blocks_completed =
    (absorb-blocks, completed, nat_tests, elements, length-append, nil_from_length)

-- absorbing bytes that fill no block only appends them
pub absorb-few : (v : ℕ) (s : State) (bytes : List ℕ) → length s.pending + length bytes < 64
    → absorb v s bytes ≡ record s { pending = s.pending ++ bytes }
absorb-few v s bytes few = grind (arith, absorb-blocks, blocks_state-few)

-- ---- it stays a state

-- a new stream's state is a state of its version, and so is the state after more bytes
pub IsState-start : (v seed : ℕ) → IsState v (start seed)
IsState-start v seed = grind (arith, AreWords-seed_pair)

pub IsState-absorb : (v : ℕ) (s : State) (bytes : List ℕ) → IsState v s → AreBytes bytes
    → IsState v (absorb v s bytes)
IsState-absorb v s bytes is are =
    let words = AreWords-block_lanes v s.lanes (whole_words (s.pending ++ bytes)) is.words in
    grind (arith, AreBytes-append, AreBytes-drop, words, absorb-blocks, length-after_blocks)

-- what the proof of a write needs
pub ruleset more_absorbed = (absorb-append, absorb-few, IsState-absorb, AreBytes-typed)

-- ---- what it answers

-- the words that an answer has left are the whole words and a final word
tail_of-words : (v : ℕ) (m : List ℕ) (had_block top_bit : Bool)
    → tail_of v m had_block top_bit
    ≡ whole_words m ++ final_word m (tail_end v m had_block top_bit) ∷ []
unfolding packed_words
tail_of-words v m had_block top_bit = grind (arith, padded_words-by_tail v m)

-- an answer is the hash from the pair of the lanes, of the whole words and the final word
pub answer-by_pair : (v : ℕ) (s : State)
    → answer v s ≡ hash_from_pair (join s.had_block s.lanes)
    (whole_words s.pending
    ++ final_word s.pending (tail_end v s.pending s.had_block s.top_bit) ∷ [])
unfolding answer
answer-by_pair v s = grind (arith, tail_of-words)

-- with pending bytes, their padding byte ends the tail
pub tail_end-pending : (v : ℕ) (m : List ℕ) (had_block top_bit : Bool) → 0 < length m
    → tail_end v m had_block top_bit ≡ padding_byte v m
tail_end-pending v m had_block top_bit some = grind arith

-- an answer with nothing pending is the closing of one word
pub answer-none : (v : ℕ) (s : State) → s.pending ≡ []
    → answer v s ≡ closing (join s.had_block s.lanes) (tail_end v [] s.had_block s.top_bit ∷ [])
unfolding answer
answer-none v s none = rw none

-- the tail of the bytes after the first n, where byte n ends a block, ends with the padding byte of
-- all of them
tail_end-drop : (v n : ℕ) (m : List ℕ) → 0 < n → n ≤ length m
    → tail_end v (drop n m) true (pads_with_two v (slice_index m (n - 1))) ≡ padding_byte v m
tail_end-drop v n m some le =
    grind (arith, length-drop, tail_end-pending, get_or-drop)

-- the answer of a new stream that absorbed a message is the message's hash
pub answer-joined : (v seed : ℕ) (m : List ℕ) → answer v (absorb v (start seed) m) ≡ komi v seed m
answer-joined v seed m =
    elim (cases_lt (length m) 64) [
      | inl lt ↦
          let end : tail_end v m false false ≡ padding_or_zero v m = grind arith in
          let hash = komi-few v seed m lt in
          rw (absorb-few v (start seed) m (omega arith))
          (answer-by_pair v (record (start seed) { pending = m }) ∙ cc)
      | inr le ↦
          let words = after_eights-after_blocks m in
          let end = tail_end-drop v (length m - length m % 64) m (omega arith) (omega arith) in
          let hash = komi-long v seed m le in
          let some : nat_lt (length m) 64 ≡ false = grind (arith) in
          rw (absorb-blocks v (start seed) m (omega arith))
          (answer-by_pair v (blocks_state v (start seed) m) ∙ rw some (cc))
    ]

-- ---- what its calls say

-- an answer is the hash of the message that the stream has absorbed
pub answered : (v : ℕ) (now : State) (result : ℕ) → result ≡ answer v now → Answered v now result
unfolding HasAbsorbed
answered v now result is = grind (arith, answer-joined)

-- equal messages lead to equal states and texts
pub HasAbsorbed-same_state : (v seed : ℕ) (s t : State) (m : List ℕ) → HasAbsorbed v seed s m
    → HasAbsorbed v seed t m → s ≡ t
unfolding HasAbsorbed
HasAbsorbed-same_state v seed s t m first second = first ∙ sym second

pub IsTextAfter-same_text : (v seed : ℕ) (m x y : List ℕ) → IsTextAfter v seed m x
    → IsTextAfter v seed m y → x ≡ y
unfolding IsTextAfter HasAbsorbed
IsTextAfter-same_text v seed m x y (s, _, first, of_s) (t, _, second, of_t) = cc
