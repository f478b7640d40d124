-- Two words are set in the rest of the slice from index `at` on.
use Rattle.std.proofs.Common.{◌≡◌, ℕ, ◌+◌, ◌-◌, ◌≤◌, List, length, take, drop, set, arith}
use Rattle.std.proofs.Common.{take_all, get_or-drop, length-drop, take-append-drop, append-nil}
use Rattle.std.proofs.lemmas.List.{drop-set-add, take-set-le, drop_all}
use borrow.Rule.Slice.PartMut.{put_mid}
use Rattle.komihash.proofs.pending.store_two_chunks.Goals as goal

two_set : (ws : List ℕ) (at a b : ℕ) → at + 2 ≤ length ws
    → put_mid at (length ws - at) ws (set (set (take (length ws - at) (drop at ws)) 0 a) 1 b)
    ≡ set (set ws at a) (at + 1) b
two_set ws at a b le =
    let one = drop-set-add at ws 0 a in
    let two = drop-set-add at (set ws at a) 1 b in
    let cut = take-append-drop at (set (set ws at a) (at + 1) b) in
    grind (arith, take_all, drop_all, append-nil, length-drop {A = ℕ}, take-set-le {A = ℕ})

pub returns : goal.returns
returns c =
    let all = c.args.chunks.now in
    let at = c.args.at in
    let part = take_all (length all - at) (drop at all) (omega (arith, length-drop at all)) in
    rw (two_set c.args.words.now at _ _ (grind arith), c.from_le_bytes-first.ensures)
    (rw (c.from_le_bytes-second.ensures, part) (grind (arith, get_or-drop {A = List ℕ})))
