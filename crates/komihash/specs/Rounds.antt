-- The steps of the hash: mix, seeding, lanes, block round, joining, pair round, closing. A pair is
-- (a, e), two words.
use Rattle.std.specs.Prelude.{ℕ, ◌+◌, ◌-◌, ◌*◌, ◌/◌, ◌%◌, ◌^◌, bit_and, bit_xor}
use Rattle.std.specs.Prelude.{Bool, List, [], ◌∷◌, slice_index, ◌==◌, if◌then◌else◌}

-- C1 to C8: the first 512 bits of the fractional part of π
abbrev pub fraction_of_pi : List ℕ
fraction_of_pi =
    0x243f6a8885a308d3 ∷ 0x13198a2e03707344 ∷ 0xa4093822299f31d0 ∷ 0x082efa98ec4e6c89
    ∷ 0x452821e638d01377 ∷ 0xbe5466cf34e90c6c ∷ 0xc0ac29b7c97c50dd ∷ 0x3f84d5b5b5470917 ∷ []

-- constant number k, from 1 to 8
abbrev pub constant : ℕ → ℕ
constant k = slice_index fraction_of_pi (k - 1)

-- the halves of a product of two words
abbrev pub low : ℕ → ℕ
low p = p % 2 ^ 64

abbrev pub high : ℕ → ℕ
high p = p / 2 ^ 64

-- the sum of two words, modulo 2 ^ 64
abbrev pub plus : ℕ → ℕ → ℕ
plus x y = (x + y) % 2 ^ 64

-- the pair after a mix of the factors x and y into the word e
unfoldable pub mix : ℕ → ℕ → ℕ → ℕ × ℕ
mix x y e = (bit_xor (plus e (high (x * y))) (low (x * y)), plus e (high (x * y)))

-- the two words of a seed
abbrev pub seed_words : ℕ → ℕ × ℕ
seed_words seed = (
  bit_xor (constant 1) (bit_and seed 0x5555555555555555),
  bit_xor (constant 5) (bit_and seed 0xaaaaaaaaaaaaaaaa),
)

-- the pair that a hash with a seed begins with
abbrev pub seed_pair : ℕ → ℕ × ℕ
seed_pair seed = mix (seed_words seed).0 (seed_words seed).1 (seed_words seed).1

-- the eight words that a block round changes
pub record Lanes : Type 0 where
  pub s1 : ℕ
  pub s2 : ℕ
  pub s3 : ℕ
  pub s4 : ℕ
  pub s5 : ℕ
  pub s6 : ℕ
  pub s7 : ℕ
  pub s8 : ℕ

-- the eight lanes, s1 first
abbrev pub in_order : Lanes → List ℕ
in_order s = s.s1 ∷ s.s2 ∷ s.s3 ∷ s.s4 ∷ s.s5 ∷ s.s6 ∷ s.s7 ∷ s.s8 ∷ []

-- the lanes of a pair
abbrev pub lanes : ℕ × ℕ → Lanes
lanes pair = record {
  s1 = pair.0;
  s2 = bit_xor (constant 2) pair.0;
  s3 = bit_xor (constant 3) pair.0;
  s4 = bit_xor (constant 4) pair.0;
  s5 = pair.1;
  s6 = bit_xor (constant 6) pair.1;
  s7 = bit_xor (constant 7) pair.1;
  s8 = bit_xor (constant 8) pair.1;
}

-- which words of a block are multiplied with each other: two indices for each product
abbrev pub places : ℕ → List ℕ
places v =
    if v == 4
    then 0 ∷ 1 ∷ 2 ∷ 3 ∷ 4 ∷ 5 ∷ 6 ∷ 7 ∷ []
    else 0 ∷ 4 ∷ 1 ∷ 5 ∷ 2 ∷ 6 ∷ 3 ∷ 7 ∷ []

-- the lanes after a round on a block of eight words, with a table of indices
unfoldable pub block_round_by : List ℕ → Lanes → List ℕ → Lanes
block_round_by table s ws =
    let word = λ (i : ℕ). slice_index ws (slice_index table i) in
    let r1 = bit_xor (word 0) s.s1 * bit_xor (word 1) s.s5 in
    let r2 = bit_xor (word 2) s.s2 * bit_xor (word 3) s.s6 in
    let r3 = bit_xor (word 4) s.s3 * bit_xor (word 5) s.s7 in
    let r4 = bit_xor (word 6) s.s4 * bit_xor (word 7) s.s8 in
    let t5 = plus s.s5 (high r1) in
    let t6 = plus s.s6 (high r2) in
    let t7 = plus s.s7 (high r3) in
    let t8 = plus s.s8 (high r4) in
    record {
      s1 = bit_xor t8 (low r1);
      s2 = bit_xor t5 (low r2);
      s3 = bit_xor t6 (low r3);
      s4 = bit_xor t7 (low r4);
      s5 = t5;
      s6 = t6;
      s7 = t7;
      s8 = t8;
    }

-- the block round of version v
abbrev pub block_round : ℕ → Lanes → List ℕ → Lanes
block_round v s ws = block_round_by (places v) s ws

-- the pair of the lanes: s1 to s4 xored and s5 to s8 xored if a block was absorbed, else s1 and s5
abbrev pub join : Bool → Lanes → ℕ × ℕ
join had_block s =
    if had_block
    then (
      bit_xor (bit_xor (bit_xor s.s1 s.s2) s.s3) s.s4,
      bit_xor (bit_xor (bit_xor s.s5 s.s6) s.s7) s.s8,
    )
    else (s.s1, s.s5)

-- the pair after a round on two words
abbrev pub pair_round : ℕ × ℕ → ℕ → ℕ → ℕ × ℕ
pair_round pair w0 w1 = mix (bit_xor w0 pair.0) (bit_xor w1 pair.1) pair.1

-- the hash from the pair of the closing's first mix: one more mix
abbrev pub mix_again : ℕ × ℕ → ℕ
mix_again pair = (mix pair.0 pair.1 pair.1).0

-- the hash from a pair and the one or two words that are left; there are never more or fewer
abbrev pub closing : ℕ × ℕ → List ℕ → ℕ
closing pair (w0 ∷ []) = mix_again (mix (bit_xor w0 pair.0) pair.1 pair.1)
closing pair (w0 ∷ w1 ∷ []) = mix_again (pair_round pair w0 w1)
closing pair _ = 0
