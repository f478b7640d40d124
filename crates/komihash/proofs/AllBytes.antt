-- The bytes of words: how many, by index, and those of words that store bytes. Lists that are
-- written over piece by piece.
use Rattle.std.proofs.Common.{◌≡◌, ℕ, zero, suc, ◌+◌, ◌*◌, ◌/◌, ◌%◌, ◌<◌, ◌≤◌, List, [], ◌∷◌}
use Rattle.std.proofs.Common.{length, take, drop, get_or, set, refl, ap, arith, ◌∙◌, sym, take-add}
use Rattle.std.proofs.Common.{w64}
use Rattle.std.proofs.lemmas.List.{drop-drop, take-append-le}
use Rattle.std.proofs.lemmas.Slice.{take-put_mid, drop-put_mid}
use Rattle.std.proofs.Math.Nat.{div-div-eq-div-mul}
use Rattle.std.specs.Hash.{le_bytes}
use Rattle.std.specs.Int.{to_le_bytes, bytes_low_first}
use Rattle.std.specs.Simd.Lanes.{digits_l}
use Rattle.std.proofs.lemmas.Grind.{elements, common_steps}
use Rattle.komihash.specs.Internals.{packed_words, whole_words}
use Rattle.komihash.specs.Words.{AreBytes, AreWords, word_of, all_bytes}
use Rattle.komihash.proofs.WholeWords.{length-whole_words}
use Rattle.komihash.proofs.WordOf.{AreBytes-drop, word_of-take-lt}

-- the bytes that an integer of n bytes writes to a hasher
pub le_bytes-digits : (n x : ℕ) → le_bytes n x ≡ bytes_low_first 0 n x
unfolding le_bytes
le_bytes-digits n x = refl

pub length-all_bytes : (ws : List ℕ) → length (all_bytes ws) ≡ 8 * length ws
length-all_bytes [] = refl
length-all_bytes (w ∷ ws) = omega (arith, length-all_bytes ws)

pub AreBytes-all_bytes : (ws : List ℕ) → AreBytes (all_bytes ws)
AreBytes-all_bytes [] k = omega arith
AreBytes-all_bytes (w ∷ ws) (suc (suc (suc (suc (suc (suc (suc (suc k)))))))) =
    AreBytes-all_bytes ws k
AreBytes-all_bytes (w ∷ ws) k = omega arith

-- from byte 8 * i on, the bytes of words begin with those of word i
pub take-all_bytes : (ws : List ℕ) (i over : ℕ) → i < length ws → over ≤ 8
    → take over (drop (8 * i) (all_bytes ws)) ≡ take over (to_le_bytes w64 (get_or ws i 0))
take-all_bytes [] i over lt le = absurd (omega arith)
take-all_bytes (w ∷ ws) zero over lt le = take-append-le over (to_le_bytes w64 w) (all_bytes ws) le
take-all_bytes (w ∷ ws) (suc i) over lt le =
    grind (arith, drop-drop (8 * i) 8 (all_bytes (w ∷ ws)), take-all_bytes ws i over)

-- the bytes of the first words come first
pub all_bytes-take : (ws : List ℕ) (n : ℕ) → all_bytes (take n ws) ≡ take (8 * n) (all_bytes ws)
all_bytes-take [] n = grind (arith, elements)
all_bytes-take (w ∷ ws) zero = refl
all_bytes-take (w ∷ ws) (suc n) =
    grind (arith, take-add 8 (8 * n) (all_bytes (w ∷ ws)), all_bytes-take ws n)

-- the first n items of out are those of all, and the others those of old
pub record Covers (n : ℕ) (out all old : List ℕ) : Type 0 where
  pub front : take n out ≡ take n all
  pub others : drop n out ≡ drop n old

-- one more item is stored
pub Covers-next : (i x : ℕ) {out all old : List ℕ} → Covers i out all old
    → (i < length out) × (i < length all) → x ≡ get_or all i 0
    → Covers (i + 1) (set out i x) all old
Covers-next i x so (fits, some) is = grind (arith, common_steps)

-- what is read of a list into which bytes of words were put
pub ruleset written = (
  elements,
  take-append-le,
  take-all_bytes,
  take-put_mid,
  take-add,
  drop-put_mid,
  length-all_bytes,
  all_bytes-take,
)

-- a word's first digits are the bytes that it was made of
digits-word_of : (n : ℕ) (xs : List ℕ) → AreBytes xs
    → take (length xs) (digits_l 256 n (word_of (take n xs))) ≡ take n xs
digits-word_of zero xs are = grind (arith, elements)
digits-word_of (suc n) [] are = refl
digits-word_of (suc n) (x ∷ xs) are =
    grind (arith, are 0, digits-word_of n xs (λ k. are (suc k)))

take-word_of : (xs : List ℕ) → AreBytes xs
    → take (length xs) (to_le_bytes w64 (word_of (take 8 xs))) ≡ take 8 xs
take-word_of xs are =
    ap (take (length xs)) (sym (simp div-div-eq-div-mul)) ∙ digits-word_of 8 xs are

-- the words that store bytes have these bytes
pub bytes-packed_words : (n : ℕ) (xs : List ℕ) → AreBytes xs → length xs ≤ 8 * n
    → take (length xs) (all_bytes (packed_words n xs)) ≡ xs
unfolding packed_words
bytes-packed_words zero [] are le = refl
bytes-packed_words zero (x ∷ xs) are le = absurd (omega arith)
bytes-packed_words (suc n) xs are le =
    let others = bytes-packed_words n (drop 8 xs) (AreBytes-drop 8 xs are) in
    grind (arith, others, take-word_of xs are)

pub all_bytes-whole_words : (xs : List ℕ) → AreBytes xs → length xs % 8 ≡ 0
    → all_bytes (whole_words xs) ≡ xs
all_bytes-whole_words xs are whole =
    let stored = bytes-packed_words (length xs / 8) xs are in
    grind (arith, elements, length-all_bytes, length-whole_words, stored)

pub AreWords-packed_words : (n : ℕ) (xs : List ℕ) → AreBytes xs → AreWords (packed_words n xs)
unfolding packed_words
AreWords-packed_words zero xs are = tt
AreWords-packed_words (suc n) xs are =
    (word_of-take-lt 8 xs are, AreWords-packed_words n (drop 8 xs) (AreBytes-drop 8 xs are))

pub packed_words-all_bytes : (ws : List ℕ) → AreWords ws
    → packed_words (length ws) (all_bytes ws) ≡ ws
unfolding packed_words
packed_words-all_bytes [] fit = refl
packed_words-all_bytes (w ∷ ws) fit = grind (arith, packed_words-all_bytes ws fit.1)
