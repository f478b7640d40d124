-- Words of lists of bytes that are cut and joined.
use Rattle.std.proofs.Common.{◌≡◌, ℕ, zero, suc, ◌+◌, ◌-◌, ◌*◌, ◌/◌, ◌%◌, ◌^◌, ◌<◌, ◌≤◌, List, []}
use Rattle.std.proofs.Common.{◌∷◌, ◌++◌, length, take, drop, get_or, ap, arith, ◌∙◌, Fits, w8}
use Rattle.std.proofs.Common.{refl, replicate, length-append, take_all, get_or-drop, take_at}
use Rattle.std.proofs.Common.{drop_at, pow-add, pow_pos, bit_or}
use Rattle.std.proofs.lemmas.Grind.{elements}
use Rattle.std.proofs.lemmas.List.{get_or_past, drop-append-le}
use Rattle.std.proofs.lemmas.Nat.{shl-shr, mod-pow-add}
use Rattle.std.proofs.Math.Nat.{mul-mod_left}
use Rattle.std.specs.Int.Bits.{or_shifted_r}
use Rattle.komihash.specs.Words.{AreBytes, word_of}

-- ---- lists of bytes

-- the items of a slice of bytes are bytes, as its type says
pub AreBytes-typed : (xs : List ℕ) → ((k : ℕ) → Fits w8 (get_or xs k 0)) → AreBytes xs
AreBytes-typed xs h k = (h k).fits

AreBytes-one : (b : ℕ) → b < 256 → AreBytes (b ∷ [])
AreBytes-one b h k = grind (arith)

pub AreBytes-append : (xs ys : List ℕ) → AreBytes xs → AreBytes ys → AreBytes (xs ++ ys)
AreBytes-append xs ys h g k = grind (arith, elements)

pub AreBytes-take : (k : ℕ) (xs : List ℕ) → AreBytes xs → AreBytes (take k xs)
AreBytes-take k xs h i = grind (arith, elements, get_or_past {X = ℕ})

pub AreBytes-drop : (k : ℕ) (xs : List ℕ) → AreBytes xs → AreBytes (drop k xs)
AreBytes-drop k xs h i = rw get_or-drop (h (k + i))

-- ---- the words of two pieces

pow_byte : (n : ℕ) → 2 ^ (8 * suc n) ≡ 256 * 2 ^ (8 * n)
pow_byte n = let e : 8 * suc n ≡ 8 + 8 * n = omega arith in ap (λ k. 2 ^ k) e ∙ pow-add 2 8 (8 * n)

-- a word is the word of its first k bytes, and above it the word of the others
word_of-cut : (k : ℕ) (xs : List ℕ)
    → word_of xs ≡ word_of (drop k xs) * 2 ^ (8 * k) + word_of (take k xs)
word_of-cut zero xs = omega arith
word_of-cut (suc k) [] = omega arith
word_of-cut (suc k) (x ∷ xs) =
    omega (arith, word_of-cut k xs, ap (λ p. word_of (drop k xs) * p) (pow_byte k))

-- the word of two pieces is the first one, and the second shifted by the length of the first
word_of-append : (xs ys : List ℕ)
    → word_of (xs ++ ys) ≡ word_of ys * 2 ^ (8 * length xs) + word_of xs
word_of-append xs ys =
    grind (arith, word_of-cut (length xs) (xs ++ ys), take_at xs ys, drop_at xs ys)

-- zeros after bytes change no word
pub word_of-zeros : (xs : List ℕ) (k : ℕ) → word_of (xs ++ replicate k 0) ≡ word_of xs
word_of-zeros [] zero = refl
word_of-zeros [] (suc k) = omega (arith, word_of-zeros [] k)
word_of-zeros (x ∷ xs) k = omega (arith, word_of-zeros xs k)

pub word_of-take-lt : (k : ℕ) (xs : List ℕ) → AreBytes xs → word_of (take k xs) < 2 ^ (8 * k)
word_of-take-lt zero xs h = omega arith
word_of-take-lt (suc k) [] h = pow_pos (8 * suc k)
word_of-take-lt (suc k) (x ∷ xs) h =
    omega (arith, h 0, word_of-take-lt k xs (λ i. h (suc i)), pow_byte k)

-- a mask leaves the first bytes, and a shift to the right the others
word_of-take : (k : ℕ) (xs : List ℕ) → AreBytes xs → word_of (take k xs) ≡ word_of xs % 2 ^ (8 * k)
word_of-take k xs h = grind (arith, word_of-cut k xs, word_of-take-lt k xs h)

pub word_of-drop : (k : ℕ) (xs : List ℕ) → AreBytes xs
    → word_of (drop k xs) ≡ word_of xs / 2 ^ (8 * k)
word_of-drop k xs h = grind (arith, word_of-cut k xs, word_of-take-lt k xs h)

-- ---- bytes that a shift to the left and `|` set after others

-- a shift to the left keeps the low bits that fit
pub shl_mod : (w b c : ℕ) → w * 2 ^ b % 2 ^ (c + b) ≡ w % 2 ^ c * 2 ^ b
shl_mod w b c = simp (mod-pow-add, shl-shr, mul-mod_left) (omega arith)

-- a shift to the left and `|` set bytes after others, as far as they fit the word
pub word_of-join : (xs ys : List ℕ) (n : ℕ) → AreBytes xs → AreBytes ys → length xs ≡ n → n ≤ 8
    → bit_or (word_of xs) (word_of ys * 2 ^ (8 * n) % 2 ^ 64) ≡ word_of (xs ++ take (8 - n) ys)
word_of-join xs ys n h g size le =
    let fit = shl_mod (word_of ys) (8 * n) (8 * (8 - n)) in
    grind (arith, elements, fit, word_of-take-lt n xs h, word_of-take, word_of-append, or_shifted_r)

-- a shift to the left and `|` set one byte after others
pub word_of-push : (xs : List ℕ) (n b : ℕ) → AreBytes xs → length xs ≡ n → n < 8 → b < 256
    → bit_or (word_of xs) (b * 2 ^ (8 * n) % 2 ^ 64) ≡ word_of (xs ++ b ∷ [])
word_of-push xs n b h size few small =
    grind (arith, elements, word_of-join xs (b ∷ []) n h (AreBytes-one b small))

-- ---- bytes that are read in pieces

-- the bytes from index j on are read with the last n, and a shift drops those before
pub word_of-last : (n j s : ℕ) (xs : List ℕ) → AreBytes xs → n ≤ length xs → j ≤ length xs
    → s ≡ 8 * (j + n - length xs) → length xs ≤ j + n
    → word_of (take n (drop (length xs - n) xs)) / 2 ^ s ≡ word_of (drop j xs)
word_of-last n j s xs h many within e most =
    let last = drop (length xs - n) xs in
    let high = word_of-drop (j + n - length xs) last (AreBytes-drop (length xs - n) xs h) in
    grind (arith, elements, high)

-- four to seven bytes, and a byte b after them, are read in two pieces of four from both ends
pub word_of-two_ends : (xs : List ℕ) (b s : ℕ) → AreBytes xs → 4 ≤ length xs → length xs < 8
    → b < 256 → s ≡ 64 - 8 * length xs
    → bit_or (word_of (take 4 xs))
    (bit_or (word_of (take 4 (drop (length xs - 4) xs))) (b * 2 ^ 32 % 2 ^ 64) / 2 ^ s * 2 ^ 32
    % 2 ^ 64)
    ≡ word_of (xs ++ b ∷ [])
word_of-two_ends xs b s h least most small e =
    let k = length xs - 4 in
    let zs = xs ++ b ∷ [] in
    let are = AreBytes-append xs (b ∷ []) h (AreBytes-one b small) in
    let push = word_of-push (drop k xs) 4 b (AreBytes-drop k xs h) in
    let last = word_of-last 5 4 s zs are in
    let four_are = AreBytes-take 4 zs are in
    let join = word_of-join (take 4 zs) (drop 4 zs) 4 four_are (AreBytes-drop 4 zs are) in
    let four = take_all 4 (drop k xs) in
    grind (arith, push, last, join, four, take_all 8 zs, length-append xs (b ∷ []), drop-append-le)

-- at most three bytes are read one by one
pub word_of-few : (xs : List ℕ) → length xs < 4
    → get_or xs 0 0 + get_or xs 1 0 * 2 ^ 8 + get_or xs 2 0 * 2 ^ 16 ≡ word_of xs
word_of-few (w ∷ x ∷ y ∷ z ∷ xs) lt = absurd (omega arith)
word_of-few xs lt = omega arith
