-- The padded words of a message are its whole words, and the word that ends them.
use Rattle.std.proofs.Common.{◌≡◌, ℕ, ◌+◌, ◌-◌, ◌*◌, ◌/◌, ◌%◌, ◌^◌, ◌<◌, ◌≤◌, Fits, w8, List, []}
use Rattle.std.proofs.Common.{◌∷◌, ◌++◌, length, take, drop, get_or, replicate, refl, arith}
use Rattle.std.proofs.Common.{append_assoc, length-append, length-drop, shr-shr, bit_or}
use Rattle.std.proofs.lemmas.List.{drop_all, length-replicate}
use Rattle.std.proofs.lemmas.Bool.Decides.{nat_tests}
use Rattle.std.proofs.lemmas.Grind.{common_steps, elements}
use Rattle.komihash.specs.Padding.{padded_words, padding_byte}
use Rattle.komihash.specs.Words.{word_of}
use Rattle.komihash.specs.Internals.{packed_words, whole_words, after_eights, final_word}
use Rattle.komihash.specs.Internals.{padding_or_zero}
use Rattle.komihash.proofs.WordOf.{AreBytes-typed, AreBytes-drop, word_of-last, word_of-push}
use Rattle.komihash.proofs.WordOf.{word_of-zeros}
use Rattle.komihash.proofs.WholeWords.{packed_words-last, words_of-whole}

-- for messages that are not empty, which `unpad` reads back
pub padding_or_zero-some : (v : ℕ) (m : List ℕ) → 0 < length m
    → (padding_or_zero v m ≡ padding_byte v m) × (0 < padding_or_zero v m)
padding_or_zero-some v m some = grind arith

-- the padded words as the code reads them
pub padded_words-by_tail : (v : ℕ) (m : List ℕ)
    → padded_words v m ≡ whole_words m ++ final_word m (padding_or_zero v m) ∷ []
unfolding packed_words
padded_words-by_tail v [] = refl
padded_words-by_tail v (b ∷ m) =
    let xs = b ∷ m in
    let end = padding_byte v xs in
    let n = length xs in
    let zeros = replicate (7 - n % 8) 0 in
    let size : length (end ∷ zeros) ≡ 8 - n % 8 = omega (arith, length-replicate {A = ℕ}) in
    let ending = packed_words-last (n / 8) xs (end ∷ zeros) in
    let order = append_assoc (after_eights xs) (end ∷ []) zeros in
    grind (arith, size, words_of-whole, ending, length-append {A = ℕ}, order, word_of-zeros)

-- the final word of at least eight bytes, as it is read with the last eight
pub final_word_many : (xs : List ℕ) (end : ℕ) → ((k : ℕ) → Fits w8 (get_or xs k 0))
    → 8 ≤ length xs → end < 4
    → final_word xs end
    ≡ bit_or (word_of (take 8 (drop (length xs - 8) xs)) / 2 ^ 1 / 2 ^ (63 - 8 * (length xs % 8)))
    (end * 2 ^ (8 * (length xs % 8)) % 2 ^ 64)
final_word_many xs end typed many small =
    let r = length xs % 8 in
    let j = 8 * (length xs / 8) in
    let are = AreBytes-typed xs typed in
    let last = word_of-last 8 j (1 + (63 - 8 * r)) xs are in
    let push = word_of-push (drop j xs) r end (AreBytes-drop j xs are) in
    let shifts = shr-shr (word_of (take 8 (drop (length xs - 8) xs))) 1 (63 - 8 * r) in
    grind (arith, shifts, last, push, length-drop {A = ℕ})

-- the final word is just the byte that ends it where no byte stands after the last whole word
pub final_word-whole : (xs : List ℕ) (end : ℕ) → length xs % 8 ≡ 0 → final_word xs end ≡ end
final_word-whole xs end whole = grind (arith, drop_all)

-- what the proof of `pad` needs
pub ruleset pad_laws = (padded_words-by_tail, elements, nat_tests, common_steps)
