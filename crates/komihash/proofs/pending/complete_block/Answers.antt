-- The last words have the last bytes, and those between follow the partial word.
use Rattle.std.proofs.Common.{◌≡◌, ℕ, ◌+◌, ◌-◌, ◌*◌, ◌/◌, ◌%◌, ◌≤◌, List, ◌++◌, length, take, drop}
use Rattle.std.proofs.Common.{set, arith, ◌∙◌, take_all, length-drop, rules}
use Rattle.komihash.specs.Internals.{pending_bytes, PacksBut}
use Rattle.std.proofs.lemmas.List.{drop-drop, drop-take, take-take}
use Rattle.komihash.specs.Words.{word_of}
use Rattle.komihash.proofs.WordOf.{AreBytes-typed, word_of-zeros}
use Rattle.komihash.proofs.PendingBytes.{PacksBut-put, PacksBut-all, PacksBut-partial}
use Rattle.komihash.proofs.PendingBytes.{packed_word-after}
use Rattle.komihash.proofs.pending.complete_block.Goals as goal

pub returns-then-is_short : goal.returns-then-is_short
returns-then-is_short c =
    let bytes = c.args.bytes.now in
    let are = AreBytes-typed bytes c.type_inv.bytes in
    let place : c.args.len / 8 ≡ 7 = omega arith in
    let word : c.read_partial_word.result ≡ word_of (take 8 bytes) =
    grind (arith, word_of-zeros bytes 1, take_all 8 bytes) in
    let partial = PacksBut-partial c.requires.pending bytes _ 8 are word (omega arith) in
    rw place at (PacksBut-all partial (omega arith))

-- a word of the n bytes from index m on is stored
put_word : (xs ys : List ℕ) {ws part : List ℕ} {gap : ℕ} → PacksBut ws (xs ++ ys) gap 8
    → (m n i k : ℕ) → part ≡ take n (drop m ys)
    → (i ≤ gap) × (k + 8 ≤ n) × (length xs + (m + k) ≡ 8 * i)
    → PacksBut (set ws i (word_of (take 8 (drop k part)))) (xs ++ ys) (i + 1) 8
put_word xs ys but m n i k is (le, within, place) =
    let sum : k + (n - k) ≡ n = omega arith in
    let rest = rw sum at (drop-take k (n - k) (drop m ys)) in
    let cut = take-take 8 (n - k) (drop k (drop m ys)) (omega arith) in
    PacksBut-put but i (i + 1) _ (omega arith)
    (λ _. rw is (grind (arith, rest, cut, drop-drop {A = ℕ}, packed_word-after xs ys i (m + k))))

pub returns-then-over_32 : goal.returns-then-over_32
returns-then-over_32 c =
    let xs = pending_bytes c.args.words.now c.args.len in
    let bytes = c.args.bytes.now in
    let m = length bytes - 32 in
    let from = 8 - c.args.len % 8 in
    let next = c.args.len / 8 % 4 + 1 in
    let partial = c.append_within_word.ensures 8 (omega arith) in
    let front : c.unwrap-front.result.now ≡ take 32 bytes = search rules in
    let back : c.unwrap-back.result.now ≡ take 32 (drop m bytes) =
    rw (take_all 32 (drop m bytes) (omega (arith, length-drop m bytes))) (search rules) in
    let p0 = put_word xs bytes partial 0 32 next from front (omega arith) in
    let p1 = put_word xs bytes p0 0 32 (next + 1) (from + 8) front (omega arith) in
    let p2 = put_word xs bytes p1 0 32 (next + 2) (from + 16) front (omega arith) in
    let p3 = put_word xs bytes p2 m 32 4 0 back (omega arith) in
    let p4 = put_word xs bytes p3 m 32 5 8 back (omega arith) in
    let p5 = put_word xs bytes p4 m 32 6 16 back (omega arith) in
    let p6 = put_word xs bytes p5 m 32 7 24 back (omega arith) in
    rw (c.store_two_words-then-over_32-2.ensures, c.store_two_words-then-over_32.ensures)
    (rw (c.store_two_words.ensures, c.word_at.ensures) (PacksBut-all p6 (omega arith)))

pub returns-then-over_16 : goal.returns-then-over_16
returns-then-over_16 c =
    let xs = pending_bytes c.args.words.now c.args.len in
    let bytes = c.args.bytes.now in
    let m = length bytes - 16 in
    let from = 8 - c.args.len % 8 in
    let next = c.args.len / 8 % 2 + 5 in
    let partial = c.append_within_word.ensures 8 (omega arith) in
    let front : c.unwrap-front-then-over_16.result.now ≡ take 16 bytes = search rules in
    let back : c.unwrap-back-then-over_16.result.now ≡ take 16 (drop m bytes) =
    rw (take_all 16 (drop m bytes) (omega (arith, length-drop m bytes))) (search rules) in
    let p0 = put_word xs bytes partial 0 16 next from front (omega arith) in
    let p1 = put_word xs bytes p0 m 16 6 0 back (omega arith) in
    let p2 = put_word xs bytes p1 m 16 7 8 back (omega arith) in
    rw (c.store_two_words-then-over_16.ensures, c.word_at-then-over_16.ensures)
    (PacksBut-all p2 (omega arith))

pub returns-else-over_16 : goal.returns-else-over_16
returns-else-over_16 c =
    let xs = pending_bytes c.args.words.now c.args.len in
    let bytes = c.args.bytes.now in
    let from = length bytes - 8 in
    let partial = c.append_within_word.ensures 8 (omega arith) in
    PacksBut-all (PacksBut-put partial 7 8 _ (omega arith)
    (λ _. c.last_word.ensures ∙ packed_word-after xs bytes 7 from (omega arith))) (omega arith)
