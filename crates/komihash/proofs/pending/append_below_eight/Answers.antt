-- What does not fit in the partial word goes into the next one, which is 0. If all bytes fit, no
-- other word changes. The two cases stay apart, because the code takes word 0 after word 7.
use Rattle.std.proofs.Common.{◌≡◌, ℕ, zero, suc, ◌+◌, ◌-◌, ◌*◌, ◌/◌, ◌%◌, ◌^◌, ◌<◌, length, drop}
use Rattle.std.proofs.Common.{refl, ap, arith, ◌∙◌, sym, inl, inr, w64, take_all, length-drop}
use Rattle.std.proofs.lemmas.Bool.{cases_lt}
use Rattle.std.proofs.lemmas.List.{drop_all, set-get_or}
use Rattle.std.proofs.lemmas.Nat.{or_shifted, shr_below, le_or_l}
use Rattle.std.specs.Int.{rotate_left}
use Rattle.std.specs.Int.Bits.{or_zero_l, or_zero_r, or_self}
use Rattle.komihash.specs.Internals.{pending_bytes}
use Rattle.komihash.specs.Words.{word_of}
use Rattle.komihash.proofs.WordOf.{AreBytes-typed, shl_mod, word_of-drop, word_of-zeros}
use Rattle.komihash.proofs.PendingBytes.{PacksBut-put, PacksBut-all, PacksBut-partial}
use Rattle.komihash.proofs.PendingBytes.{packed_word-after, get_or-after_partial}
use Rattle.komihash.proofs.pending.append_below_eight.Goals as goal

-- a rotation has the bits that a shift to the left keeps, and those that it drops
rotated : (w b c : ℕ) → w < 2 ^ 64 → (b + c ≡ 64) × (0 < c)
    → rotate_left w64 w b ≡ w * 2 ^ b % 2 ^ 64 + w / 2 ^ c
rotated w zero c lt places = let all : c ≡ 64 = omega arith in rw all (grind (arith, or_self))
rotated w (suc b) c lt (sum, some) =
    grind (arith, shl_mod, or_shifted, shr_below)

pub returns : goal.returns
returns c =
    let bytes = c.args.bytes.now in
    let xs = pending_bytes c.args.words.now c.args.len in
    let over = c.args.len % 8 in
    let fit = 8 - over in
    let at = (c.args.len + 8) / 8 % 8 in
    -- the word of the bytes, of which the partial word takes those that fit
    let are = AreBytes-typed bytes c.type_inv.bytes in
    let word = c.read_partial_word-word.ensures ∙ word_of-zeros bytes 1 in
    let first = word ∙ ap word_of (sym (take_all 8 bytes (omega arith))) in
    let partial = PacksBut-partial c.requires.pending bytes _
    ((c.args.len + length bytes + 7) / 8) are first (omega arith) in
    -- the difference of the code is the word of those that don't fit
    let left = c.read_partial_word-word.result * 2 ^ (8 * over) % 2 ^ 64 in
    let rest : c.rotate_left.result - left ≡ word_of (drop fit bytes) =
    grind (arith, rotated, word, word_of-drop fit bytes are) in
    rw (c.word_index.ensures, rest) (elim (cases_lt fit (length bytes)) [
      | inl more ↦
          let zero = get_or-after_partial c.requires.pending at (omega arith) (omega arith) in
          let whole = take_all 8 (drop fit bytes) (omega (arith, length-drop fit bytes)) in
          let next = packed_word-after xs bytes at fit (omega arith) in
          PacksBut-all (PacksBut-put partial at (at + 1) _ (omega arith)
          (λ _. rw (zero, or_zero_l (word_of (drop fit bytes)), ← next, whole) refl)) (omega arith)
      | inr all ↦
          rw (drop_all fit bytes all, or_zero_r, set-get_or) (PacksBut-all partial (omega arith))
    ])

pub overflow_sub-words : goal.overflow_sub-words
overflow_sub-words c = grind (arith, le_or_l)
