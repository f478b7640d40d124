-- The generator: the step that replaces a pair of words, and the bytes of its outputs.
use Rattle.std.specs.Prelude.{ℕ, zero, suc, ◌+◌, ◌*◌, ◌/◌, ◌==◌, bit_xor, if◌then◌else◌}
use Rattle.std.specs.Prelude.{List, [], ◌∷◌, take}
use Rattle.komihash.specs.Words.{all_bytes}
use Rattle.komihash.specs.Rounds.{low, high, plus}

-- the pair after a step of version v, whose first word is the step's output
unfoldable pub next : ℕ → ℕ × ℕ → ℕ × ℕ
next v pair =
    let p = pair.0 * pair.1 in
    let second = plus (plus pair.1 (high p)) 0xaaaaaaaaaaaaaaaa in
    let first =
    if v == 4
    then bit_xor (low p) second
    else plus (bit_xor (low p) (high p)) 0x5555555555555555 in
    (first, second)

-- the pair after n steps
unfoldable pub after_steps : ℕ → ℕ → ℕ × ℕ → ℕ × ℕ
after_steps v zero pair = pair
after_steps v (suc n) pair = after_steps v n (next v pair)

-- the next n outputs
unfoldable pub outputs : ℕ → ℕ → ℕ × ℕ → List ℕ
outputs v zero pair = []
outputs v (suc n) pair = (next v pair).0 ∷ outputs v n (next v pair)

-- how many steps a buffer of n bytes takes: one for each eight bytes, and one more for a remainder
abbrev pub fill_steps : ℕ → ℕ
fill_steps n = (n + 7) / 8

-- what fills a buffer of n bytes: the first n bytes of the outputs of these steps
abbrev pub fill : ℕ → ℕ × ℕ → ℕ → List ℕ
fill v pair n = take n (all_bytes (outputs v (fill_steps n) pair))

-- the pair after these steps
abbrev pub after_fill : ℕ → ℕ × ℕ → ℕ → ℕ × ℕ
after_fill v pair n = after_steps v (fill_steps n) pair
