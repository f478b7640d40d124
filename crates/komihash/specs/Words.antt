-- Bytes and words. A byte is a number below 2 ^ 8, a word a number below 2 ^ 64, and a message is a
-- list of bytes. Past the end of a list, `slice_index` gives 0.
use Rattle.std.specs.Int.{to_le_bytes, w64}
use Rattle.std.specs.List.{flat_map}
use Rattle.std.specs.Simd.Lanes.{Each1}
use Rattle.std.specs.Prelude.{ℕ, ◌+◌, ◌*◌, ◌^◌, ◌<◌, List, [], ◌∷◌, slice_index}

-- each number of a list is a byte
abbrev pub AreBytes : List ℕ → Type 0
AreBytes xs = (k : ℕ) → slice_index xs k < 256

-- each number of a list is a word. `Each1` states it of the first, the second and so on, so that
-- proofs get eight facts of eight lanes
abbrev pub AreWords : List ℕ → Type 0
AreWords ws = Each1 (λ w. w < 2 ^ 64) ws

-- the word of up to eight bytes: the sum of byte i times 256 ^ i
abbrev pub word_of : List ℕ → ℕ
word_of [] = 0
word_of (b ∷ bs) = b + 256 * word_of bs

-- the words of bytes: of each eight bytes, and of those that are left, if any
abbrev pub words_of : List ℕ → List ℕ
words_of (a ∷ b ∷ c ∷ d ∷ e ∷ f ∷ g ∷ h ∷ bs) =
    word_of (a ∷ b ∷ c ∷ d ∷ e ∷ f ∷ g ∷ h ∷ []) ∷ words_of bs
words_of [] = []
words_of bs = word_of bs ∷ []

-- the bytes of words: of each its eight digits to base 256, lowest first
abbrev pub all_bytes : List ℕ → List ℕ
all_bytes ws = flat_map (to_le_bytes w64) ws
