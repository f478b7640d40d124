-- The names of `komihash` that the contracts and proofs of callers may cite, with their arguments,
-- file by file, but for those that `calls.rt`, `laws.rt` and `by_search.rt` cite with theirs, and
-- then the records with their fields. The change that takes one away, or changes the number or the
-- types of its arguments, fails here or there, and needs a new major version.
use Rattle.std.specs.Prelude.{ℕ, Bool, true, List, [], ◌∷◌, Option, ◌≡◌, ◌↔◌, ◌<◌, ◌≤◌, ◌+◌, ◌/◌}
use Rattle.std.specs.Prelude.{◌++◌, ◌^◌, length, take, drop, slice_index}
use Rattle.std.specs.Prelude.{IfSome, IfNone, IsSome, IsSomeAnd, IsNone}
use Rattle.std.proofs.Common.{refl}
use Rattle.std.proofs.lemmas.Simd.{Each1-from_get_or}
use Rattle.komihash.specs.Borrows.{Mut}
use Rattle.komihash.specs.Calls.{products_of_answers}
use Rattle.komihash.specs.Counts.{Costs}
use Rattle.komihash.specs.Generator.{fill_steps}
use Rattle.komihash.specs.Hash.{komi, hash_from_lanes, hash_from_pair}
use Rattle.komihash.specs.Padding.{has_two, KeepsTopBit, pads_with_two, padding_after}
use Rattle.komihash.specs.Padding.{padding_byte, padded_bytes, padded_words, ArePadded}
use Rattle.komihash.specs.Padding.{Padded, Unpadded}
use Rattle.komihash.specs.Rounds.{fraction_of_pi, constant, low, high, plus, mix, seed_words}
use Rattle.komihash.specs.Rounds.{seed_pair, Lanes, in_order, lanes, places, block_round_by}
use Rattle.komihash.specs.Rounds.{block_round, join, pair_round, mix_again, closing}
use Rattle.komihash.specs.Saved.{lanes_at, pending_at, longest_text, flag_byte, head, text}
use Rattle.komihash.specs.Saved.{IsText, IsTextAfter, Stored, Restored}
use Rattle.komihash.specs.Stream.{State, start, absorb_byte, absorb, HasAbsorbed}
use Rattle.komihash.specs.Stream.{end_after_blocks, tail_of, answer, IsState, StateOf}
use Rattle.komihash.specs.Stream.{Started, Absorbed, Answered}
use Rattle.komihash.specs.Words.{AreBytes, AreWords, word_of, words_of, all_bytes}
use Rattle.komihash.specs.declared.stream.Call.{Call}
use Rattle.komihash.specs.declared.tally.Tally.{Tally}
use Rattle.komihash.proofs.Propositions.{HasAbsorbed-prop}

-- ---- by file of specs/

of_words : (List ℕ → Type 0) × (List ℕ → Type 0) × (List ℕ → ℕ) × (List ℕ → List ℕ)
    × (List ℕ → List ℕ)
of_words = (AreBytes, AreWords, word_of, words_of, all_bytes)

are_bytes_if : (xs : List ℕ) → ((k : ℕ) → slice_index xs k < 256) → AreBytes xs
are_bytes_if xs fits = fits

are_words_if : (ws : List ℕ) → ((k : ℕ) → slice_index ws k < 2 ^ 64) → AreWords ws
are_words_if ws fits = Each1-from_get_or _ ws 0 (λ k _. fits k)

of_padding : (ℕ → Bool) × (ℕ → Type 0) × (ℕ → ℕ → Bool) × (Bool → ℕ) × (ℕ → List ℕ → ℕ)
    × (ℕ → List ℕ → List ℕ) × (ℕ → List ℕ → List ℕ) × (ℕ → List ℕ → Type 0)
of_padding = (
  has_two,
  KeepsTopBit,
  pads_with_two,
  padding_after,
  padding_byte,
  padded_bytes,
  padded_words,
  ArePadded,
)

of_rounds : List ℕ × (ℕ → ℕ) × (ℕ → ℕ) × (ℕ → ℕ) × (ℕ → ℕ → ℕ) × (ℕ → ℕ → ℕ → ℕ × ℕ)
of_rounds = (fraction_of_pi, constant, low, high, plus, mix)

of_rounds_on_lanes : (Lanes → List ℕ) × (ℕ × ℕ → Lanes) × (ℕ → List ℕ)
    × (List ℕ → Lanes → List ℕ → Lanes) × (ℕ → Lanes → List ℕ → Lanes) × (Bool → Lanes → ℕ × ℕ)
of_rounds_on_lanes = (in_order, lanes, places, block_round_by, block_round, join)

of_rounds_on_pairs : (ℕ → ℕ × ℕ) × (ℕ → ℕ × ℕ) × (ℕ × ℕ → ℕ → ℕ → ℕ × ℕ) × (ℕ × ℕ → ℕ)
    × (ℕ × ℕ → List ℕ → ℕ)
of_rounds_on_pairs = (seed_words, seed_pair, pair_round, mix_again, closing)

of_hash : (ℕ → Lanes → Bool → List ℕ → ℕ) × (ℕ × ℕ → List ℕ → ℕ)
of_hash = (hash_from_lanes, hash_from_pair)

of_generator : ℕ → ℕ
of_generator = fill_steps

of_stream : (ℕ → State → ℕ → State) × (Bool → Bool → ℕ) × (ℕ → List ℕ → Bool → Bool → List ℕ)
of_stream = (absorb_byte, end_after_blocks, tail_of)

absorbed_once : (v seed : ℕ) (s : State) (m : List ℕ) → IsProp (HasAbsorbed v seed s m)
absorbed_once = HasAbsorbed-prop

of_saved : ℕ × ℕ × (Bool → ℕ) × (ℕ → State → List ℕ)
of_saved = (lanes_at, pending_at, flag_byte, head)

is_text_if : (v : ℕ) (s : State) → IsState v s → IsText v (text v s)
is_text_if v s is = (s, is, refl)

of_calls : ℕ → List Call → ℕ
of_calls = products_of_answers

-- ---- records, by each of their fields, but for those of `Absorbed` that only the search needs

lanes_record : Lanes → List ℕ
lanes_record s = s.s1 ∷ s.s2 ∷ s.s3 ∷ s.s4 ∷ s.s5 ∷ s.s6 ∷ s.s7 ∷ s.s8 ∷ []

state : (s : Lanes) (m : List ℕ) (had_block top_bit : Bool) → State
state s m had_block top_bit =
    record { lanes = s; pending = m; had_block = had_block; top_bit = top_bit }

state_of : (v : ℕ) (s : StateOf v) → IsState v s.state
state_of v s = s.is_state

is_state : (v : ℕ) (s : State) → IsState v s
    → AreWords (in_order s.lanes) × AreBytes s.pending × (length s.pending < 64)
is_state v s is = (is.words, is.bytes, is.few)

is_state_if : (v : ℕ) (s : State) → AreWords (in_order s.lanes) → AreBytes s.pending
    → length s.pending < 64 → (s.top_bit ≡ true → s.had_block ≡ true)
    → (s.top_bit ≡ true → v ≡ 4) → IsState v s
is_state_if v s words bytes few block version = record {
  words = words;
  bytes = bytes;
  few = few;
  top_bit_block = block;
  top_bit_version = version;
}

top_bit : (v : ℕ) (s : State) → IsState v s → s.top_bit ≡ true
    → (s.had_block ≡ true) × (v ≡ 4)
top_bit v s is set = (is.top_bit_block set, is.top_bit_version set)

started : (v seed : ℕ) (s : State) → Started v seed s → (s ≡ start seed) × HasAbsorbed v seed s []
started v seed s is = (is.state, is.message)

absorbed : {A : Type 0} (v : ℕ) (view : A → State) (stream : Mut A) (bytes : List ℕ)
    → Absorbed v view stream bytes
    → (view stream.exit.now ≡ absorb v (view stream.entry.now) bytes)
    × ((seed : ℕ) (m : List ℕ) → HasAbsorbed v seed (view stream.entry.now) m
    → HasAbsorbed v seed (view stream.exit.now) (m ++ bytes))
absorbed v view stream bytes is = (is.state, is.message)

answered : (v : ℕ) (s : State) (n : ℕ) → Answered v s n
    → (n ≡ answer v s) × ((seed : ℕ) (m : List ℕ) → HasAbsorbed v seed s m → n ≡ komi v seed m)
answered v s n is = (is.answer, is.hash)

stored : (v : ℕ) (s : State) (out : Mut (List ℕ)) (n : ℕ) → Stored v s out n
    → (n ≡ length (text v s)) × (n ≤ longest_text) × (take n out.exit.now ≡ text v s)
    × ((seed : ℕ) (m : List ℕ) → HasAbsorbed v seed s m
    → IsTextAfter v seed m (take n out.exit.now))
    × (drop n out.exit.now ≡ drop n out.entry.now)
stored v s out n is = (is.length, is.most, is.text, is.message, is.rest)

stored_once : (v : ℕ) (s : State) (out : Mut (List ℕ)) (n : ℕ) → Stored v s out n
    → (w : ℕ) (t : State) → IsState w t → text w t ≡ text v s → (w ≡ v) × (t ≡ s)
stored_once v s out n is w t is_state same =
    (is.version w t is_state same, is.only w t is_state same)

restored : {A : Type 0} (v : ℕ) (view : A → State) (bytes : List ℕ) (result : Option A)
    → Restored v view bytes result
    → IfSome result (λ stream. text v (view stream) ≡ bytes)
    × IfSome result (λ _. length bytes ≤ longest_text)
    × ((s : State) → IsState v s → text v s ≡ bytes → IsSomeAnd result (λ stream. view stream ≡ s))
    × ((seed : ℕ) (m : List ℕ) → IsTextAfter v seed m bytes
    → IsSomeAnd result (λ stream. HasAbsorbed v seed (view stream) m))
    × (IsNone result ↔ ¬ IsText v bytes)
restored v view bytes result is = (is.text, is.most, is.same, is.message, is.none)

padded_out : (v : ℕ) (bytes : List ℕ) (out : Mut (List ℕ)) (n : ℕ) → Padded v bytes out n
    → (n ≡ length bytes / 8 + 1) × (take n out.exit.now ≡ padded_words v bytes)
    × ((m : List ℕ) → AreBytes m → padded_words v m ≡ padded_words v bytes → m ≡ bytes)
    × (drop n out.exit.now ≡ drop n out.entry.now)
padded_out v bytes out n is = (is.count, is.padded, is.only, is.rest)

unpadded : (v : ℕ) (words m : List ℕ) (out : Mut (List ℕ)) (result : Option ℕ)
    → Unpadded v words out result
    → IfSome result (λ n. padded_words v (take n out.exit.now) ≡ words)
    × (AreBytes m → padded_words v m ≡ words → IsSomeAnd result (λ n. take n out.exit.now ≡ m))
    × (IsSome result ↔ ArePadded v words) × (IsNone result ↔ ¬ ArePadded v words)
unpadded v words m out result is = (is.message, is.same m, is.some, is.none)

unpadded_rest : (v : ℕ) (words : List ℕ) (out : Mut (List ℕ)) (result : Option ℕ)
    → Unpadded v words out result
    → IfSome result (λ n. drop n out.exit.now ≡ drop n out.entry.now)
    × IfSome result (λ n. n / 8 + 1 ≡ length words)
    × IfNone result (out.exit.now ≡ out.entry.now)
unpadded_rest v words out result is = (is.rest, is.length, is.unchanged)

raised : (tally : Mut Tally) (n k : ℕ) → Costs tally n k
    → (tally.exit.now.products ≡ tally.entry.now.products + n)
    × (tally.exit.now.kept_bytes ≡ tally.entry.now.kept_bytes + k)
raised tally n k is = (is.products, is.kept_bytes)
