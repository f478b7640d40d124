-- Laws of xor: orders of words, words that cancel, and two masks.
use Rattle.std.proofs.Common.{◌≡◌, ℕ, ◌+◌, ◌^◌, ◌<◌, ap, ◌∙◌, sym, arith, lit<, mul_comm, bit_xor}
use Rattle.std.proofs.Common.{bit_and}
use Rattle.std.proofs.lemmas.Nat.{and_comm, and_assoc, and-not}
use Rattle.komihash.specs.Internals.{xor_again}
use Rattle.std.specs.Int.Bits.{xor_assoc, xor_comm, xor_disjoint}

-- the first two of three change places
pub xor_swap : (a b c : ℕ) → bit_xor a (bit_xor b c) ≡ bit_xor b (bit_xor a c)
xor_swap a b c = sym (xor_assoc a b c) ∙ ap (λ x. bit_xor x c) (xor_comm a b) ∙ xor_assoc b a c

-- by these laws `simp` puts words in one order
ruleset order = (xor_assoc, xor_comm, xor_swap)

-- a word is xored with a low half first, and then with the word that the half belongs to
pub xor_late : (w low e : ℕ) → bit_xor (bit_xor w low) e ≡ bit_xor w (bit_xor e low)
xor_late w low e = simp order

-- what block rounds need
pub ruleset reorder = (xor_late, mul_comm)

-- the middle two of four change places
pub xor_middle : (a b c d : ℕ)
    → bit_xor (bit_xor a b) (bit_xor c d) ≡ bit_xor (bit_xor a c) (bit_xor b d)
xor_middle a b c d = simp order

-- the first of four goes to the end
pub xor_turn : (a b c d : ℕ)
    → bit_xor (bit_xor (bit_xor a b) c) d ≡ bit_xor (bit_xor (bit_xor b c) d) a
xor_turn a b c d = simp order

-- xor with the same word twice cancels (`xor_again`), also in other orders
pub xor_back : (c x : ℕ) → bit_xor (bit_xor c x) c ≡ x
xor_back c x = xor_comm (bit_xor c x) c ∙ xor_again c x

pub xor_around : (c x : ℕ) → bit_xor c (bit_xor x c) ≡ x
xor_around c x = ap (bit_xor c) (xor_comm x c) ∙ xor_again c x

-- what joining the lanes needs: words and low halves change places, and a word met twice cancels
pub ruleset join_lanes = (xor_middle, xor_turn, xor_around)

-- the bits of a word at even and at odd places make the word
pub xor_masks : (n : ℕ) → n < 2 ^ 64
    → bit_xor (bit_and n 0x5555555555555555) (bit_and n 0xaaaaaaaaaaaaaaaa) ≡ n
xor_masks n h =
    let m : ℕ = 0x5555555555555555 in
    let k : ℕ = 0xaaaaaaaaaaaaaaaa in
    let none : bit_and m (bit_and n k) ≡ 0 =
    ap (bit_and m) (and_comm n k) ∙ sym (and_assoc n m k) in
    let apart : bit_and (bit_and n m) (bit_and n k) ≡ 0 =
    and_assoc (bit_and n k) n m ∙ ap (bit_and n) none ∙ and_comm n 0 in
    xor_disjoint (bit_and n m) (bit_and n k) apart
    ∙ omega (arith, and-not 64 m n (lit< tt) h, and_comm n m, and_comm n k)
