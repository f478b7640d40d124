-- A list of calls on a stream: its answers, the bytes that it absorbs, and what it costs.
use Rattle.std.specs.Prelude.{ℕ, ◌+◌, ◌*◌, ◌/◌, ◌%◌, List, [], ◌∷◌, ◌++◌, length}
use Rattle.komihash.specs.Counts.{answer_products, absorb_kept_bytes}
use Rattle.komihash.specs.Hash.{komi}
use Rattle.komihash.specs.Stream.{State, absorb, answer}
use Rattle.komihash.specs.declared.stream.Call.{Call}
use Rattle.komihash.specs.declared.stream.Call.TheVariants.{Absorb, Answer}

-- for each Answer in order, f of the bytes m followed by those that the calls before it absorb
abbrev pub answers_after : (List ℕ → ℕ) → List ℕ → List Call → List ℕ
answers_after f m [] = []
answers_after f m (Absorb bytes ∷ calls) = answers_after f (m ++ bytes.now) calls
answers_after f m (Answer ∷ calls) = f m ∷ answers_after f m calls

-- the answers of a new stream: the hashes of all bytes before each
abbrev pub answers : ℕ → ℕ → List Call → List ℕ
answers v seed calls = answers_after (komi v seed) [] calls

-- the answers of a stream that goes on from state s
abbrev pub onward : ℕ → State → List Call → List ℕ
onward v s calls = answers_after (λ m. answer v (absorb v s m)) [] calls

-- the bytes of all calls, joined
abbrev pub bytes_of_calls : List Call → List ℕ
bytes_of_calls [] = []
bytes_of_calls (Absorb bytes ∷ calls) = bytes.now ++ bytes_of_calls calls
bytes_of_calls (Answer ∷ calls) = bytes_of_calls calls

-- none of the calls is an Answer
abbrev pub AreAbsorbs : List Call → Type 0
AreAbsorbs [] = Unit {0}
AreAbsorbs (Absorb bytes ∷ calls) = AreAbsorbs calls
AreAbsorbs (Answer ∷ calls) = ⊥

-- the products of the answers alone, where n modulo 64 bytes are pending before the first call
abbrev pub products_of_answers : ℕ → List Call → ℕ
products_of_answers n [] = 0
products_of_answers n (Absorb bytes ∷ calls) = products_of_answers (n + length bytes.now) calls
products_of_answers n (Answer ∷ calls) = answer_products (n % 64) + products_of_answers n calls

-- the products of calls where p bytes are pending: four for each whole block of the pending and the
-- absorbed bytes, and those of the answers
abbrev pub onward_products : ℕ → List Call → ℕ
onward_products p calls =
    4 * ((p + length (bytes_of_calls calls)) / 64) + products_of_answers p calls

-- how many bytes calls copy into a stream, where n modulo 64 are pending before the first call
abbrev pub onward_kept_bytes : ℕ → List Call → ℕ
onward_kept_bytes n [] = 0
onward_kept_bytes n (Absorb bytes ∷ calls) =
    absorb_kept_bytes (n % 64) (length bytes.now) + onward_kept_bytes (n + length bytes.now) calls
onward_kept_bytes n (Answer ∷ calls) = onward_kept_bytes n calls

-- the products and the kept bytes of calls on a new stream, with the one product of its start
abbrev pub run_products : List Call → ℕ
run_products calls = 1 + onward_products 0 calls

abbrev pub run_kept_bytes : List Call → ℕ
run_kept_bytes calls = onward_kept_bytes 0 calls
