-- The padding of a message: its padding byte, and its padded words.
use Rattle.std.specs.Prelude.{◌≡◌, ◌↔◌, ℕ, Bool, ◌+◌, ◌-◌, ◌/◌, ◌%◌, ◌==◌, ◌&&◌, nat_le}
use Rattle.std.specs.Prelude.{List, [], ◌∷◌, ◌++◌, length, take, drop, replicate, slice_index}
use Rattle.std.specs.Prelude.{Option, IfSome, IfNone, IsSome, IsSomeAnd, IsNone, if◌then◌else◌}
use Rattle.komihash.specs.Borrows.{Mut}
use Rattle.komihash.specs.Words.{AreBytes, words_of}

-- whether version v has the padding byte 2, and so keeps the top bit of a stream's last block
abbrev pub has_two : ℕ → Bool
has_two v = v == 4

-- `has_two` as a proposition: such a version must keep the top bit
abbrev pub KeepsTopBit : ℕ → Type 0
KeepsTopBit v = v ≡ 4

-- whether the padding byte after a last byte b is 2: if the version has it, and b is at least 128
abbrev pub pads_with_two : ℕ → ℕ → Bool
pads_with_two v b = has_two v && nat_le 128 b

-- the padding byte: 2 after a last byte for which `pads_with_two` holds, else 1
abbrev pub padding_after : Bool → ℕ
padding_after top_bit = if top_bit then 2 else 1

-- the padding byte of a nonempty message in version v
abbrev pub padding_byte : ℕ → List ℕ → ℕ
padding_byte v m = padding_after (pads_with_two v (slice_index m (length m - 1)))

-- a nonempty message, its padding byte, and zeros up to a multiple of eight bytes
abbrev pub padded_bytes : ℕ → List ℕ → List ℕ
padded_bytes v m = m ++ padding_byte v m ∷ replicate (7 - length m % 8) 0

-- the padded words of a message in version v
abbrev pub padded_words : ℕ → List ℕ → List ℕ
padded_words v [] = 0 ∷ []
padded_words v (b ∷ m) = words_of (padded_bytes v (b ∷ m))

-- the words are the padded words of some message in version v
abbrev pub ArePadded : ℕ → List ℕ → Type 0
ArePadded v ws = (m : List ℕ) × AreBytes m × (padded_words v m ≡ ws)

-- ---- what a call does, which each version states alike

-- a call writes the padded words of a message to the front of `out`, leaves the rest, and returns
-- how many they are
pub record Padded (v : ℕ) (bytes : List ℕ) (out : Mut (List ℕ)) (result : ℕ) : Type 0 where
  pub count : result ≡ length bytes / 8 + 1
  pub padded : take result out.exit.now ≡ padded_words v bytes
  pub rest : drop result out.exit.now ≡ drop result out.entry.now
  -- derived, for the search, because no two messages have the same padded words
  pub only : (m : List ℕ) → AreBytes m → padded_words v m ≡ padded_words v bytes → m ≡ bytes

-- a call writes the message with these padded words to the front of `out`, leaves the rest, and
-- returns the message's length, or None, with nothing written, if there is no such message
pub record Unpadded (v : ℕ) (words : List ℕ) (out : Mut (List ℕ)) (result : Option ℕ) : Type 0 where
  pub message : IfSome result (λ n. padded_words v (take n out.exit.now) ≡ words)
  pub some : IsSome result ↔ ArePadded v words
  pub rest : IfSome result (λ n. drop n out.exit.now ≡ drop n out.entry.now)
  pub unchanged : IfNone result (out.exit.now ≡ out.entry.now)
  -- derived, for the search; `same`, because no two messages have the same padded words
  pub same : (m : List ℕ) → AreBytes m → padded_words v m ≡ words
      → IsSomeAnd result (λ n. take n out.exit.now ≡ m)
  pub length : IfSome result (λ n. n / 8 + 1 ≡ length words)
  pub none : IsNone result ↔ ¬ ArePadded v words
