-- The final word is at an even or an odd index, so it is the first or the second of two.
use Rattle.std.proofs.Common.{◌≡◌, ℕ, zero, suc, ◌+◌, ◌*◌, ◌/◌, ◌%◌, ◌^◌, ◌<◌, List, [], length}
use Rattle.std.proofs.Common.{take, drop, get_or, bit_or, ap, arith, take_all, get_or-take}
use Rattle.std.proofs.Common.{get_or-drop}
use Rattle.std.proofs.lemmas.List.{drop_all}
use Rattle.std.proofs.lemmas.Bool.Decides.{nat_tests}
use Rattle.std.specs.Int.Bits.{or_zero_l, or_zero_r}
use Rattle.std.specs.Simd.{first_chunks}
use Rattle.komihash.specs.Internals.{pending_bytes, ArePending, final_word, packed_word}
use Rattle.komihash.proofs.WordOf.{word_of-push}
use Rattle.komihash.proofs.WholeWords.{get_or-packed_words}
use Rattle.komihash.proofs.PendingBytes.{get_or-pending, AreBytes-word, partial, length-partial}
use Rattle.komihash.proofs.pending.Pending.last_two.Goals as goal

-- a word of two is the one at its place
word_of_two : (n i j : ℕ) (ws : List ℕ) → i < n → j < 2
    → get_or (get_or (first_chunks 2 n ws) i []) j 0 ≡ get_or ws (2 * i + j) 0
word_of_two zero i j ws lt few = absurd (omega arith)
word_of_two (suc n) zero j ws lt few = grind (arith, get_or-take {A = ℕ})
word_of_two (suc n) (suc i) j ws lt few =
    grind (arith, word_of_two n i j (drop 2 ws), get_or-drop 2 ws (2 * i + j) 0)

-- the word after the last whole word becomes the final word with the padding byte
final : {ws : List ℕ} {len : ℕ} → ArePending ws len → (padding : ℕ) → padding < 4
    → bit_or (packed_word (pending_bytes ws len) (len / 8)) (padding * 2 ^ (8 * (len % 8)) % 2 ^ 64)
    ≡ final_word (pending_bytes ws len) padding
final {ws} {len} are padding small =
    let end = word_of-push (take 8 (partial are)) (len % 8) padding (AreBytes-word are (len / 8)) in
    grind (arith, end, take_all 8 (partial are), length-partial are, are.count)

-- the words that the code takes, which begin at an even index
taken : {ws : List ℕ} {len : ℕ} → ArePending ws len → (j : ℕ) → j < 2 → length ws ≡ 8
    → get_or (get_or (first_chunks 2 (length ws / 2) ws) (len / 16 % 4) []) j 0
    ≡ packed_word (pending_bytes ws len) (2 * (len / 16 % 4) + j)
taken {ws} {len} are j few eight =
    grind (arith, word_of_two, get_or-pending are (2 * (len / 16 % 4) + j))

pub returns : goal.returns
returns g c =
    let are = c.self.invariant in
    let size = ap length c.self.view_is in
    let first = taken are 0 (omega arith) c.self.told in
    let second = taken are 1 (omega arith) c.self.told in
    let last = final are c.padding_byte.result c.padding_byte.ensures.small in
    record {
      odd = λ odd. grind (arith, nat_tests, or_zero_r, get_or-packed_words);
      even = λ even. grind (arith, nat_tests, or_zero_l, drop_all);
    }
