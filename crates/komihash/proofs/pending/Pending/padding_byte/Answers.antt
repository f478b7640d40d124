-- The padding byte is that of the last byte, wherever it lies.
use Rattle.std.proofs.Common.{◌≡◌, ℕ, ◌<◌, ◌-◌, ◌*◌, ◌/◌, ◌%◌, ◌^◌, List, [], ◌∷◌, length, get_or}
use Rattle.std.proofs.Common.{bit_and, refl, ap, arith, ◌∙◌, get_or-take, get_or-drop}
use Rattle.std.proofs.lemmas.Nat.{and_mask}
use Rattle.komihash.specs.Internals.{pending_bytes, ArePending}
use Rattle.komihash.specs.Words.{AreBytes, word_of}
use Rattle.komihash.proofs.WordOf.{AreBytes-drop, word_of-drop}
use Rattle.komihash.proofs.PendingBytes.{get_or-pending, AreBytes-word}
use Rattle.komihash.proofs.pending.Pending.padding_byte.Goals as goal

low_byte : (xs : List ℕ) → AreBytes xs → word_of xs % 256 ≡ get_or xs 0 0
low_byte [] are = refl
low_byte (x ∷ xs) are = omega (arith, are 0)

-- a byte of the words
byte_at : {ws : List ℕ} {len : ℕ} → ArePending ws len → (i : ℕ) → i < len
    → bit_and (get_or ws (i / 8) 0 / 2 ^ (8 * (i % 8))) 255 ≡ get_or (pending_bytes ws len) i 0
byte_at are i lt =
    let of_word = AreBytes-word are (i / 8) in
    let rest = word_of-drop (i % 8) _ of_word in
    rw (and_mask _ 8, get_or-pending are (i / 8) (omega arith), ← rest)
    (low_byte _ (AreBytes-drop (i % 8) _ of_word)
    ∙ grind (arith, get_or-drop {A = ℕ}, get_or-take {A = ℕ}))

pub returns-clause-byte : goal.returns-clause-byte
returns-clause-byte g c =
    let are = c.self.invariant in
    let len = c.self.inside.len in
    let some : 0 < len = omega (arith, ap length c.self.view_is) in
    -- the byte that the code reads is the last one
    let last = byte_at are (len - 1) (omega arith) in
    rw (← c.self.view_is) (cc (last, are.count))
