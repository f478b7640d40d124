-- Lists of calls on a stream: how many bytes are pending after a write, what calls answer, the
-- bytes and the costs of calls, and what the first call of a list leaves to the others.
use Rattle.std.proofs.Common.{◌≡◌, ℕ, ◌+◌, ◌%◌, ◌<◌, List, [], ◌∷◌, ◌++◌, length, refl, arith}
use Rattle.std.proofs.Common.{sym, append_assoc, append-nil, length-append}
use Rattle.komihash.specs.Calls.{answers_after, onward, bytes_of_calls, AreAbsorbs, run_products}
use Rattle.komihash.specs.Calls.{products_of_answers, onward_products, onward_kept_bytes}
use Rattle.komihash.specs.Counts.{answer_products, hash_products}
use Rattle.komihash.specs.Hash.{komi}
use Rattle.komihash.specs.Stream.{State, HasAbsorbed, start, absorb, answer}
use Rattle.komihash.specs.declared.stream.Call.{Call}
use Rattle.komihash.specs.declared.stream.Call.TheVariants.{Absorb, Answer}
use Rattle.komihash.proofs.Blocks.{length-after_blocks}
use Rattle.komihash.proofs.Streams.{absorb-append, absorb-nothing, absorb-blocks, answer-joined}

-- ---- how many bytes are pending

-- all bytes since the last block are pending
pub absorb-pending : (v : ℕ) (s : State) (bytes : List ℕ) → length s.pending < 64
    → length (absorb v s bytes).pending ≡ (length s.pending + length bytes) % 64
absorb-pending v s bytes few =
    grind (arith, absorb-blocks, length-after_blocks, length-append {A = ℕ})

-- of a message, as many bytes are pending as stand after its whole blocks
pub HasAbsorbed-pending : (v seed : ℕ) (s : State) (m : List ℕ) → HasAbsorbed v seed s m
    → length s.pending ≡ length m % 64
unfolding HasAbsorbed
HasAbsorbed-pending v seed s m is = grind (arith, absorb-pending)

-- what the proof of `absorb_costs` of `src/tests/calls.rt` needs
pub ruleset costs = (absorb-pending)

-- ---- answers

-- the answers after m and after n are equal if f and g agree on all messages that begin with these
answers_after-same : (f g : List ℕ → ℕ) (m n : List ℕ) (calls : List Call)
    → ((x : List ℕ) → f (m ++ x) ≡ g (n ++ x)) → answers_after f m calls ≡ answers_after g n calls
answers_after-same f g m n [] same = refl
answers_after-same f g m n (Absorb bytes ∷ calls) same =
    answers_after-same f g (m ++ bytes.now) (n ++ bytes.now) calls
    (λ x. simp append_assoc (same (bytes.now ++ x)))
answers_after-same f g m n (Answer ∷ calls) same =
    grind (arith, append-nil, same [], answers_after-same f g m n calls same)

-- the answers of two lists are those of the first, and then those of the second after its bytes
pub answers_after-append : (f : List ℕ → ℕ) (m : List ℕ) (xs ys : List Call)
    → answers_after f m (xs ++ ys)
    ≡ answers_after f m xs ++ answers_after f (m ++ bytes_of_calls xs) ys
answers_after-append f m [] ys = grind (arith, append-nil)
answers_after-append f m (Absorb bytes ∷ xs) ys =
    grind (arith, append_assoc, answers_after-append f (m ++ bytes.now) xs ys)
answers_after-append f m (Answer ∷ xs) ys = grind (arith, answers_after-append f m xs ys)

-- the answers of a stream that absorbed a message are hashes
pub onward-message : (v seed : ℕ) (s : State) (m : List ℕ) (calls : List Call)
    → HasAbsorbed v seed s m
    → onward v s calls ≡ answers_after (komi v seed) m calls
unfolding HasAbsorbed
onward-message v seed s m calls is =
    answers_after-same (λ x. answer v (absorb v s x)) (komi v seed) [] m calls
    (λ x. rw (is, sym (absorb-append v (start seed) m x)) (answer-joined v seed (m ++ x)))

-- ---- bytes and costs

-- the bytes of two lists are those of the first, and then those of the second
pub bytes_of_calls-append : (xs ys : List Call)
    → bytes_of_calls (xs ++ ys) ≡ bytes_of_calls xs ++ bytes_of_calls ys
bytes_of_calls-append [] ys = refl
bytes_of_calls-append (Absorb bytes ∷ xs) ys =
    rw (bytes_of_calls-append xs ys) (sym (append_assoc bytes.now _ _))
bytes_of_calls-append (Answer ∷ xs) ys = bytes_of_calls-append xs ys

-- costs depend only on how many bytes came before, modulo 64
costs-modulo : (p q : ℕ) (calls : List Call) → p % 64 ≡ q % 64
    → (products_of_answers p calls ≡ products_of_answers q calls)
    × (onward_kept_bytes p calls ≡ onward_kept_bytes q calls)
costs-modulo p q [] same = (refl, refl)
costs-modulo p q (Absorb bytes ∷ calls) same =
    grind (arith, costs-modulo (p + length bytes.now) (q + length bytes.now) calls)
costs-modulo p q (Answer ∷ calls) same = grind (arith, costs-modulo p q calls)

-- the products of pieces and one answer at their end are those of the hash of their bytes
products_of_answers-pieces : (n : ℕ) (pieces : List Call) → AreAbsorbs pieces
    → products_of_answers n (pieces ++ Answer ∷ [])
    ≡ answer_products ((n + length (bytes_of_calls pieces)) % 64)
products_of_answers-pieces n [] only = omega arith
products_of_answers-pieces n (Absorb bytes ∷ pieces) only =
    let size = length-append bytes.now (bytes_of_calls pieces) in
    omega (arith, products_of_answers-pieces (n + length bytes.now) pieces only)
products_of_answers-pieces n (Answer ∷ pieces) only = absurd only

pub run_products-pieces : (pieces : List Call) → AreAbsorbs pieces
    → run_products (pieces ++ Answer ∷ []) ≡ hash_products (length (bytes_of_calls pieces))
run_products-pieces pieces only =
    search (arith, bytes_of_calls-append, append-nil, products_of_answers-pieces)

-- ---- the first of several calls

-- the first call leads from the state s to the state `next`, from which the others go on
pub record CallFirst (v : ℕ) (s next : State) (call : Call) (calls : List Call) : Type 0 where
  pub answers : onward v s (call ∷ calls) ≡ onward v s (call ∷ []) ++ onward v next calls
  pub state : absorb v s (bytes_of_calls (call ∷ calls)) ≡ absorb v next (bytes_of_calls calls)
  pub products : onward_products (length s.pending) (call ∷ calls)
      ≡ onward_products (length s.pending) (call ∷ []) + onward_products (length next.pending) calls
  pub kept_bytes : onward_kept_bytes (length s.pending) (call ∷ calls)
      ≡ onward_kept_bytes (length s.pending) (call ∷ [])
      + onward_kept_bytes (length next.pending) calls

-- the first call of a list, of which a turn of `run_on` makes one
pub onward-first : (v : ℕ) (s next : State) (call : Call) (calls : List Call)
    → length s.pending < 64 → next ≡ absorb v s (bytes_of_calls (call ∷ []))
    → CallFirst v s next call calls
onward-first v s next (Absorb bytes) calls few is =
    let size = length-append bytes.now (bytes_of_calls calls) in
    let pending = absorb-pending v s bytes.now few in
    let rest = costs-modulo (length s.pending + length bytes.now)
    (length (absorb v s bytes.now).pending) calls (omega arith) in
    grind (arith, append-nil, answers_after-same, absorb-append)
onward-first v s next Answer calls few is = grind (arith, absorb-nothing)
