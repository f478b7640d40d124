-- The generator: its steps in two parts, each of its outputs, and the bytes of outputs that fill a
-- buffer, in two parts.
use Rattle.std.proofs.Common.{◌≡◌, ℕ, zero, suc, ◌+◌, ◌-◌, ◌*◌, ◌%◌, ◌<◌, ◌≤◌, [], ◌∷◌, ◌++◌}
use Rattle.std.proofs.Common.{length, refl, ap, sym, arith, ◌∙◌, zero-add, suc-add, w64}
use Rattle.std.proofs.Common.{slice_index, ◌^◌, append-nil, flat_map}
use Rattle.std.proofs.lemmas.Nat.{xor_lt}
use Rattle.std.proofs.lemmas.List.Concat.{flat_map-append}
use Rattle.std.specs.Int.{to_le_bytes}
use Rattle.std.proofs.lemmas.Grind.{elements}
use Rattle.komihash.specs.Generator.{next, after_steps, outputs, fill_steps, fill, after_fill}
use Rattle.komihash.specs.Words.{all_bytes}
use Rattle.komihash.proofs.AllBytes.{length-all_bytes}

-- ---- steps in two parts

pub after_steps-add : (v m n : ℕ) (s : ℕ × ℕ)
    → after_steps v (m + n) s ≡ after_steps v n (after_steps v m s)
unfolding after_steps
after_steps-add v zero n s = rw zero-add refl
after_steps-add v (suc m) n s = rw suc-add (after_steps-add v m n (next v s))

pub outputs-add : (v m n : ℕ) (s : ℕ × ℕ)
    → outputs v (m + n) s ≡ outputs v m s ++ outputs v n (after_steps v m s)
unfolding after_steps outputs
outputs-add v zero n s = rw zero-add refl
outputs-add v (suc m) n s = rw suc-add (ap (λ ws. (next v s).0 ∷ ws) (outputs-add v m n (next v s)))

-- ---- few steps, by which a number that is written out is found

pub after_steps-none : (v : ℕ) (s : ℕ × ℕ) → after_steps v 0 s ≡ s
unfolding after_steps
after_steps-none v s = refl

pub outputs-none : (v : ℕ) (s : ℕ × ℕ) → outputs v 0 s ≡ []
unfolding outputs
outputs-none v s = refl

pub after_steps-few : (v n : ℕ) (s : ℕ × ℕ) → 0 < n → n ≤ 8
    → after_steps v n s ≡ after_steps v (n - 1) (next v s)
unfolding after_steps
after_steps-few v zero s some few = absurd (omega arith)
after_steps-few v (suc n) s some few = grind arith

pub outputs-few : (v n : ℕ) (s : ℕ × ℕ) → 0 < n → n ≤ 8
    → outputs v n s ≡ (next v s).0 ∷ outputs v (n - 1) (next v s)
unfolding outputs
outputs-few v zero s some few = absurd (omega arith)
outputs-few v (suc n) s some few = grind arith

-- ---- each output

pub length-outputs : (v n : ℕ) (s : ℕ × ℕ) → length (outputs v n s) ≡ n
unfolding outputs
length-outputs v zero s = refl
length-outputs v (suc n) s = ap suc (length-outputs v n (next v s))

pub outputs-at : (v n k : ℕ) (s : ℕ × ℕ) → k < n
    → slice_index (outputs v n s) k ≡ (next v (after_steps v k s)).0
unfolding after_steps outputs
outputs-at v zero k s lt = absurd (omega arith)
outputs-at v (suc n) zero s lt = refl
outputs-at v (suc n) (suc k) s lt = outputs-at v n k (next v s) (omega arith)

-- output k, from the pair before it, which `fill_bytes` needs for each word that it writes
pub outputs-next : (v k n : ℕ) (s now : ℕ × ℕ) → k < n → now ≡ after_steps v k s
    → ((next v now).0 ≡ slice_index (outputs v n s) k) × (next v now ≡ after_steps v (k + 1) s)
    × (k < length (outputs v n s))
unfolding after_steps
outputs-next v k n s now lt is = grind (arith, outputs-at, after_steps-add v k 1 s, length-outputs)

-- ---- fills in two parts, the first of whole words

pub after_fill-add : (v x y : ℕ) (s : ℕ × ℕ) → x % 8 ≡ 0
    → after_fill v s (x + y) ≡ after_fill v (after_fill v s x) y
after_fill-add v x y s whole = grind (arith, after_steps-add v (fill_steps x) (fill_steps y) s)

-- a fill of whole words is the bytes of as many outputs
pub fill-whole : (v n : ℕ) (s : ℕ × ℕ)
    → fill v s (8 * n) ≡ flat_map (λ output. to_le_bytes w64 output) (outputs v n s)
fill-whole v n s = grind (arith, elements, length-all_bytes, length-outputs)

-- the reverse, for goals that begin with outputs
pub outputs-whole : (v n : ℕ) (s : ℕ × ℕ) → all_bytes (outputs v n s) ≡ fill v s (8 * n)
outputs-whole v n s = sym (fill-whole v n s)

pub after_fill-whole : (v n : ℕ) (s : ℕ × ℕ) → after_fill v s (8 * n) ≡ after_steps v n s
after_fill-whole v n s = ap (λ k. after_steps v k s) (omega arith)

-- a fill in two parts, the first of whole words, is a fill of both
pub fill-add : (v x y : ℕ) (s : ℕ × ℕ) → x % 8 ≡ 0
    → fill v s x ++ fill v (after_fill v s x) y ≡ fill v s (x + y)
fill-add v x y s whole =
    let more = outputs-add v (fill_steps x) (fill_steps y) s in
    grind (arith, elements, length-all_bytes, length-outputs, more, flat_map-append)

-- ---- one output, whose form depends on the version

pub next-lt : (v : ℕ) (s : ℕ × ℕ) → (next v s).0 < 2 ^ 64
unfolding next
next-lt v s =
    grind (arith, xor_lt 64)

pub fill-one : (v : ℕ) (s : ℕ × ℕ) → fill v s 8 ≡ to_le_bytes w64 (next v s).0
unfolding outputs
fill-one v s = fill-whole v 1 s ∙ append-nil (to_le_bytes w64 (next v s).0)

pub after_fill-one : (v : ℕ) (s : ℕ × ℕ) → after_fill v s 8 ≡ next v s
unfolding after_steps
after_fill-one v s = refl
