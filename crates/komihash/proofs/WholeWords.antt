-- The words that store bytes, and the whole words of bytes, by index and cut in two.
use Rattle.std.proofs.Common.{◌≡◌, ℕ, zero, suc, ◌+◌, ◌*◌, ◌/◌, ◌<◌, ◌≤◌, List, [], ◌∷◌, ◌++◌}
use Rattle.std.proofs.Common.{length, take, drop, get_or, refl, ap, arith, zero-add, suc-add}
use Rattle.std.proofs.lemmas.List.{length-append, length-drop, drop-drop, take-append-le}
use Rattle.std.proofs.lemmas.List.{drop-append-le, drop_all, take_all}
use Rattle.std.specs.Int.{from_le_bytes, w64}
use Rattle.std.specs.Simd.{first_chunks}
use Rattle.komihash.specs.Internals.{packed_words, whole_words}
use Rattle.komihash.specs.Words.{word_of, words_of}

-- word i of those that store bytes is the word of eight bytes from byte 8 * i on
pub get_or-packed_words : (n i : ℕ) (xs : List ℕ) → i < n
    → get_or (packed_words n xs) i 0 ≡ word_of (take 8 (drop (8 * i) xs))
unfolding packed_words
get_or-packed_words zero i xs lt = absurd (omega arith)
get_or-packed_words (suc n) zero xs lt = refl
get_or-packed_words (suc n) (suc i) xs lt =
    grind (arith, drop-drop (8 * i) 8 xs, get_or-packed_words n i (drop 8 xs))

pub length-packed_words : (n : ℕ) (xs : List ℕ) → length (packed_words n xs) ≡ n
unfolding packed_words
length-packed_words zero xs = refl
length-packed_words (suc n) xs = ap suc (length-packed_words n (drop 8 xs))

pub length-whole_words : (xs : List ℕ) → length (whole_words xs) ≡ length xs / 8
length-whole_words xs = length-packed_words (length xs / 8) xs

pub whole_words-few : (xs : List ℕ) → length xs < 8 → whole_words xs ≡ []
unfolding packed_words
whole_words-few xs lt = grind arith

pub word_of-chunk : (n i : ℕ) (xs : List ℕ) → i < n → 8 * n ≤ length xs
    → from_le_bytes w64 (get_or (first_chunks 8 n xs) i []) ≡ word_of (take 8 (drop (8 * i) xs))
word_of-chunk zero i xs lt le = absurd (omega arith)
word_of-chunk (suc n) zero xs lt le = grind arith
word_of-chunk (suc n) (suc i) xs lt le =
    grind (arith, drop-drop (8 * i) 8 xs, word_of-chunk n i (drop 8 xs))

-- what proofs that read whole words one by one need
pub ruleset read_words = (length-packed_words, get_or-packed_words, word_of-chunk)

-- bytes joined after whole words are stored as these words, and then as the words of the rest
packed_words-cut : (n k : ℕ) (xs ys : List ℕ) → 8 * n ≤ length xs
    → packed_words (n + k) (xs ++ ys) ≡ packed_words n xs ++ packed_words k (drop (8 * n) xs ++ ys)
unfolding packed_words
packed_words-cut zero k xs ys le = rw zero-add refl
packed_words-cut (suc n) k xs ys le =
    let next : 8 * suc n ≡ 8 + 8 * n = omega arith in
    let size = length-drop 8 xs in
    rw (
      suc-add,
      next,
      ← drop-drop (8 * n) 8 xs,
      take-append-le 8 xs ys (omega arith),
      drop-append-le 8 xs ys (omega arith),
    )
    (ap (λ ws. word_of (take 8 xs) ∷ ws) (packed_words-cut n k (drop 8 xs) ys (omega arith)))

pub packed_words-append : (n k : ℕ) (xs ys : List ℕ) → length xs ≡ 8 * n
    → packed_words (n + k) (xs ++ ys) ≡ packed_words n xs ++ packed_words k ys
packed_words-append n k xs ys e = grind (arith, drop_all (8 * n) xs, packed_words-cut n k xs ys)

pub whole_words-append : (xs ys : List ℕ) (k : ℕ) → length xs ≡ 8 * k
    → whole_words (xs ++ ys) ≡ whole_words xs ++ whole_words ys
whole_words-append xs ys k e =
    grind (arith, packed_words-append k (length ys / 8) xs ys, length-append xs ys)

-- the bytes after the whole words and those that are put after them are stored in one word
pub packed_words-last : (n : ℕ) (xs ys : List ℕ) → length xs / 8 ≡ n
    → length xs + length ys ≤ 8 * n + 8
    → packed_words (n + 1) (xs ++ ys) ≡ packed_words n xs ++ word_of (drop (8 * n) xs ++ ys) ∷ []
unfolding packed_words
packed_words-last n xs ys e le =
    let size = length-append (drop (8 * n) xs) ys in
    let one = take_all 8 (drop (8 * n) xs ++ ys) (omega (arith, length-drop (8 * n) xs)) in
    rw one at (packed_words-cut n 1 xs ys (omega arith))

-- if all bytes are in whole words, their words are those that store them
pub words_of-whole : (n : ℕ) (xs : List ℕ) → length xs ≡ 8 * n → words_of xs ≡ packed_words n xs
unfolding packed_words
words_of-whole zero [] e = refl
words_of-whole (suc n) (a ∷ b ∷ c ∷ d ∷ e ∷ f ∷ g ∷ h ∷ xs) is = grind (arith, words_of-whole n xs)
words_of-whole n xs e = absurd (omega arith)
