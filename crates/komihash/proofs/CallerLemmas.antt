-- Lemmas that prove no law, but that goals of callers need.
use Rattle.std.proofs.Common.{◌≡◌, ℕ, ◌+◌, ◌-◌, ◌/◌, ◌%◌, ◌<◌, ◌≤◌, ◌^◌, List, [], ◌∷◌, ◌++◌}
use Rattle.std.proofs.Common.{length, length-append, take, drop, get_or, Fits, w64, suc, arith}
use Rattle.std.proofs.Common.{◌∙◌, sym, ap, refl}
use Rattle.std.proofs.Math.Seq.{take-add, take-append_seam, drop-append_seam}
use Rattle.std.proofs.lemmas.Grind.{elements}
use Rattle.std.proofs.lemmas.List.{nil_from_length}
use Rattle.std.proofs.lemmas.List.Concat.{flat_map-append}
use Rattle.std.specs.Prelude.{bit_xor, slice_range, Option, Some, None}
use Rattle.komihash.specs.Borrows.{Mut}
use Rattle.komihash.specs.Calls.{answers_after}
use Rattle.komihash.specs.Generator.{next, after_steps, outputs, fill_steps, fill, after_fill}
use Rattle.komihash.specs.Hash.{komi}
use Rattle.komihash.specs.Padding.{ArePadded, Unpadded, padded_words}
use Rattle.komihash.specs.Rounds.{seed_words, constant}
use Rattle.komihash.specs.Saved.{IsTextAfter}
use Rattle.komihash.specs.Stream.{State, HasAbsorbed, absorb, answer}
use Rattle.komihash.specs.declared.stream.Call.{Call}
use Rattle.komihash.specs.declared.stream.Call.TheVariants.{Absorb, Answer}
use Rattle.komihash.proofs.AllBytes.{length-all_bytes}
use Rattle.komihash.proofs.CallLists.{HasAbsorbed-pending}
use Rattle.komihash.proofs.GeneratorFills.{outputs-add, length-outputs}
use Rattle.komihash.proofs.GeneratorFills.{after_steps-add, fill-add, after_fill-add}
use Rattle.komihash.proofs.PaddedWords.{padded_words-by_tail}
use Rattle.komihash.proofs.SavedTexts.{text-same_version, text-same_state}
use Rattle.komihash.proofs.Streams.{absorb-append, answer-joined}
use Rattle.komihash.proofs.Unpadding.{one_place, ArePadded-zero}
use Rattle.komihash.proofs.WholeWords.{length-packed_words}
use Rattle.komihash.proofs.Xor.{xor_back, xor_masks}

-- four outputs or steps at once, so that eight need two steps of the search
pub outputs-four : (v n : ℕ) (s : ℕ × ℕ) → 4 ≤ n → n ≤ 8
    → outputs v n s ≡ (next v s).0 ∷ (next v (next v s)).0 ∷ (next v (next v (next v s))).0
    ∷ (next v (next v (next v (next v s)))).0
    ∷ outputs v (n - 4) (next v (next v (next v (next v s))))
unfolding after_steps outputs
outputs-four v n s some few =
    let is : 4 + (n - 4) ≡ n = omega arith in
    grind (arith, outputs-add v 4 (n - 4) s, is)

pub after_steps-four : (v n : ℕ) (s : ℕ × ℕ) → 4 ≤ n → n ≤ 8
    → after_steps v n s ≡ after_steps v (n - 4) (next v (next v (next v (next v s))))
unfolding after_steps
after_steps-four v n s some few =
    let is : 4 + (n - 4) ≡ n = omega arith in
    grind (arith, after_steps-add v 4 (n - 4) s, is)

pub length-fill : (v n : ℕ) (s : ℕ × ℕ) → length (fill v s n) ≡ n
length-fill v n s = grind (arith, elements, length-outputs, length-all_bytes)

-- two fills are one, where a literal or a length is the sum
pub fill-parts : (v x y z : ℕ) (s : ℕ × ℕ) → x % 8 ≡ 0 → x + y ≡ z
    → fill v s x ++ fill v (after_fill v s x) y ≡ fill v s z
fill-parts v x y z s whole is = fill-add v x y s whole ∙ ap (fill v s) is

pub after_fill-parts : (v x y z : ℕ) (s : ℕ × ℕ) → x % 8 ≡ 0 → x + y ≡ z
    → after_fill v (after_fill v s x) y ≡ after_fill v s z
after_fill-parts v x y z s whole is = sym (after_fill-add v x y s whole) ∙ ap (after_fill v s) is

-- equal messages have one hash, such as a buffer that was filled and the bytes that filled it
pub komi-same : (v seed : ℕ) (m n : List ℕ) → m ≡ n → komi v seed m ≡ komi v seed n
komi-same v seed m n same = ap (komi v seed) same

-- outputs in parts, of which a number that is written out may be the sum
pub outputs-parts : (v x y z : ℕ) (s : ℕ × ℕ) → x + y ≡ z
    → outputs v x s ++ outputs v y (after_steps v x s) ≡ outputs v z s
outputs-parts v x y z s is = sym (outputs-add v x y s) ∙ ap (λ k. outputs v k s) is

pub after_steps-parts : (v x y z : ℕ) (s : ℕ × ℕ) → x + y ≡ z
    → after_steps v y (after_steps v x s) ≡ after_steps v z s
after_steps-parts v x y z s is = sym (after_steps-add v x y s) ∙ ap (λ k. after_steps v k s) is

-- ranges that are joined
pub range-front : (m : List ℕ) (a b : ℕ) → a ≤ b → take a m ++ slice_range m a b ≡ take b m
range-front m a b order =
    let is : a + (b - a) ≡ b = omega (arith, order) in
    sym (take-add a (b - a) m) ∙ ap (λ k. take k m) is

-- two cuts of one message lead to one state
pub absorb-recut : (v : ℕ) (s : State) (a b x y : List ℕ) → a ++ b ≡ x ++ y
    → absorb v (absorb v s a) b ≡ absorb v (absorb v s x) y
absorb-recut v s a b x y is =
    sym (absorb-append v s a b) ∙ ap (absorb v s) is ∙ absorb-append v s x y

-- after whole blocks, none is pending
pub HasAbsorbed-none_pending : (v seed : ℕ) (s : State) (m : List ℕ) → HasAbsorbed v seed s m
    → length m % 64 ≡ 0 → s.pending ≡ []
HasAbsorbed-none_pending v seed s m is whole =
    nil_from_length s.pending (HasAbsorbed-pending v seed s m is ∙ whole)

-- equal states and equal texts have equal hashes
pub HasAbsorbed-same_hash : (v seed other : ℕ) (s : State) (m n : List ℕ) → HasAbsorbed v seed s m
    → HasAbsorbed v other s n → komi v seed m ≡ komi v other n
unfolding HasAbsorbed
HasAbsorbed-same_hash v seed other s m n first second =
    sym (ap (answer v) first ∙ answer-joined v seed m)
    ∙ ap (answer v) second
    ∙ answer-joined v other n

pub IsTextAfter-same_hash : (v w seed other : ℕ) (m n bytes : List ℕ) → IsTextAfter v seed m bytes
    → IsTextAfter w other n bytes → komi v seed m ≡ komi w other n
unfolding IsTextAfter
IsTextAfter-same_hash v w seed other m n bytes first second =
    grind (arith, first, second, text-same_version, text-same_state, HasAbsorbed-same_hash)

-- no two seeds have the same words
pub seed_words-same : (x y : ℕ) → x < 2 ^ 64 → y < 2 ^ 64 → seed_words x ≡ seed_words y → x ≡ y
seed_words-same x y few_x few_y same =
    let back_x : bit_xor (bit_xor (seed_words x).0 (constant 1))
    (bit_xor (seed_words x).1 (constant 5)) ≡ x = simp xor_back (xor_masks x few_x) in
    let back_y : bit_xor (bit_xor (seed_words y).0 (constant 1))
    (bit_xor (seed_words y).1 (constant 5)) ≡ y = simp xor_back (xor_masks y few_y) in
    sym back_x
    ∙ ap (λ (p : ℕ × ℕ). bit_xor (bit_xor p.0 (constant 1)) (bit_xor p.1 (constant 5))) same
    ∙ back_y

-- a shorter fill is the front of a longer one
pub take-fill : (v m n : ℕ) (s : ℕ × ℕ) → m ≤ n → take m (fill v s n) ≡ fill v s m
take-fill v m n s le =
    let is : fill_steps m + (fill_steps n - fill_steps m) ≡ fill_steps n = omega arith in
    let more = outputs-add v (fill_steps m) (fill_steps n - fill_steps m) s in
    let same = ap (λ k. outputs v k s) is in
    grind (arith, elements, length-all_bytes, length-outputs, more, same, flat_map-append)

-- how many of the calls are an Answer, which is how many answers they give
pub count_of_answers : List Call → ℕ
count_of_answers [] = 0
count_of_answers (Absorb bytes ∷ calls) = count_of_answers calls
count_of_answers (Answer ∷ calls) = suc (count_of_answers calls)

pub length-answers_after : (f : List ℕ → ℕ) (m : List ℕ) (calls : List Call)
    → length (answers_after f m calls) ≡ count_of_answers calls
unfolding count_of_answers
length-answers_after f m [] = refl
length-answers_after f m (Absorb bytes ∷ calls) = length-answers_after f (m ++ bytes.now) calls
length-answers_after f m (Answer ∷ calls) = ap suc (length-answers_after f m calls)

-- the answers of any f are as many as those of g, which two runs of one list need
pub take-answers_after : (f g : List ℕ → ℕ) (m n : List ℕ) (calls : List Call) (rest : List ℕ)
    → take (length (answers_after g n calls)) (answers_after f m calls ++ rest)
    ≡ answers_after f m calls
take-answers_after f g m n calls rest =
    rw (length-answers_after g n calls ∙ sym (length-answers_after f m calls))
    (take-append_seam (answers_after f m calls) rest)

pub count_of_answers-le : (calls : List Call) → count_of_answers calls ≤ length calls
unfolding count_of_answers
count_of_answers-le [] = omega arith
count_of_answers-le (Absorb bytes ∷ calls) = omega (arith, count_of_answers-le calls)
count_of_answers-le (Answer ∷ calls) = omega (arith, count_of_answers-le calls)

-- how many padded words a message has
pub length-padded_words : (v : ℕ) (m : List ℕ) → length (padded_words v m) ≡ length m / 8 + 1
length-padded_words v m =
    rw (padded_words-by_tail v m) (grind (arith, length-append {A = ℕ}, length-packed_words))

-- the word 0 alone is that of the empty message, and a byte alone is the word of no message
pub Unpadded-zero : (v : ℕ) (out : Mut (List ℕ)) (result : Option ℕ) → Unpadded v (0 ∷ []) out result
    → 0 < length out.exit.now → result ≡ Some 0
Unpadded-zero v out None is room = grind (arith, is.same [])
Unpadded-zero v out (Some n) is room = grind (arith, elements, is.same [])

ArePadded-no_byte : (v w : ℕ) → 0 < w → w < 256 → ¬ ArePadded v (w ∷ [])
ArePadded-no_byte v w some small are =
    let fit : (k : ℕ) → Fits w64 (get_or (w ∷ []) k 0) = λ k. grind arith in
    let place = one_place v (w ∷ []) fit {r = 0} (omega arith)
    (record { place = omega arith; some = grind arith; last = grind arith }) are in
    absurd (omega (arith, place.0))

pub Unpadded-no_byte : (v w : ℕ) (out : Mut (List ℕ)) (result : Option ℕ)
    → Unpadded v (w ∷ []) out result → 0 < w → w < 256 → result ≡ None
Unpadded-no_byte v w out None is some small = refl
Unpadded-no_byte v w out (Some n) is some small =
    absurd (ArePadded-no_byte v w some small (is.some.0 refl))

-- words of which the last is 0 are those of no message, unless there is no other
pub Unpadded-zero_end : (v : ℕ) (ws : List ℕ) (out : Mut (List ℕ)) (result : Option ℕ)
    → Unpadded v ws out result → ((k : ℕ) → Fits w64 (get_or ws k 0)) → 1 < length ws
    → get_or ws (length ws - 1) 0 ≡ 0 → result ≡ None
Unpadded-zero_end v ws out None is fit many ends = refl
Unpadded-zero_end v ws out (Some n) is fit many ends =
    absurd (omega (arith, ArePadded-zero v ws fit (is.some.0 refl) ends))

-- fewer outputs are the front of more
pub take-outputs : (v m n : ℕ) (s : ℕ × ℕ) → m ≤ n → take m (outputs v n s) ≡ outputs v m s
take-outputs v m n s le =
    let is : m + (n - m) ≡ n = omega arith in
    let more = outputs-add v m (n - m) s in
    let same = ap (λ k. outputs v k s) is in
    grind (arith, elements, length-outputs, more, same)

-- what follows the whole words at the front of a fill
pub drop-fill : (v m n : ℕ) (s : ℕ × ℕ) → m % 8 ≡ 0 → m ≤ n
    → drop m (fill v s n) ≡ fill v (after_fill v s m) (n - m)
drop-fill v m n s whole le =
    let is : m + (n - m) ≡ n = omega arith in
    let more = fill-parts v m (n - m) n s whole is in
    let seam = drop-append_seam (fill v s m) (fill v (after_fill v s m) (n - m)) in
    let size : length (fill v s m) ≡ m = length-fill v m s in
    let both = fill v s m ++ fill v (after_fill v s m) (n - m) in
    ap (drop m) (sym more) ∙ ap (λ k. drop k both) (sym size) ∙ seam
