-- A stream: its state, how it absorbs bytes one after the other, and what it answers.
use Rattle.std.specs.Prelude.{ℕ, ◌<◌, ◌≡◌, ◌==◌, Bool, true, false, if◌then◌else◌}
use Rattle.std.specs.Prelude.{List, [], ◌∷◌, ◌++◌, length}
use Rattle.komihash.specs.Borrows.{Mut}
use Rattle.komihash.specs.Hash.{komi, hash_from_pair}
use Rattle.komihash.specs.Rounds.{Lanes, in_order, seed_pair, lanes, block_round, join}
use Rattle.komihash.specs.Padding.{KeepsTopBit, pads_with_two, padding_after, padded_words}
use Rattle.komihash.specs.Words.{AreBytes, AreWords, words_of}

-- eight lanes; the pending bytes, which no block has taken yet; whether a block was absorbed; and
-- in version 4 whether the last byte of the last block is at least 128
pub record State : Type 0 where
  pub lanes : Lanes
  pub pending : List ℕ
  pub had_block : Bool
  pub top_bit : Bool

-- the new stream of a seed
abbrev pub start : ℕ → State
start seed = record {
  lanes = lanes (seed_pair seed);
  pending = [];
  had_block = false;
  top_bit = false;
}

-- the state after one byte: the byte is pending, and once 64 are, they go through one block round
abbrev pub absorb_byte : ℕ → State → ℕ → State
absorb_byte v s b =
    let bytes = s.pending ++ b ∷ [] in
    if length bytes == 64
    then record {
      lanes = block_round v s.lanes (words_of bytes);
      pending = [];
      had_block = true;
      top_bit = pads_with_two v b;
    }
    else record s { pending = bytes }

-- the state after bytes, one after the other
unfoldable pub absorb : ℕ → State → List ℕ → State
absorb v s [] = s
absorb v s (b ∷ bytes) = absorb v (absorb_byte v s b) bytes

-- the state is that of a new stream of the seed once it has absorbed the message, however cut
unfoldable pub HasAbsorbed : ℕ → ℕ → State → List ℕ → Type 0
HasAbsorbed v seed s m = s ≡ absorb v (start seed) m

-- the byte that ends a stream with none pending: the padding byte of the last block, or 0 if no
-- block was absorbed
abbrev pub end_after_blocks : Bool → Bool → ℕ
end_after_blocks had_block top_bit = if had_block then padding_after top_bit else 0

-- the words that an answer has left: the padded words of the pending bytes, or if there are none
-- the byte that ends the stream
abbrev pub tail_of : ℕ → List ℕ → Bool → Bool → List ℕ
tail_of v (b ∷ m) had_block top_bit = padded_words v (b ∷ m)
tail_of v [] had_block top_bit = end_after_blocks had_block top_bit ∷ []

-- what a stream answers
unfoldable pub answer : ℕ → State → ℕ
answer v s = hash_from_pair (join s.had_block s.lanes) (tail_of v s.pending s.had_block s.top_bit)

-- a state of version v: the lanes are words, at most 63 bytes are pending, and the bit is set only
-- if a block was absorbed, and only in version 4
pub record IsState (v : ℕ) (s : State) : Type 0 where
  pub words : AreWords (in_order s.lanes)
  pub bytes : AreBytes s.pending
  pub few : length s.pending < 64
  pub top_bit_block : s.top_bit ≡ true → s.had_block ≡ true
  pub top_bit_version : s.top_bit ≡ true → KeepsTopBit v

-- what contracts see of a stream of version v: a state, and that it is one of this version
pub record StateOf (v : ℕ) : Type 0 where
  pub state : State
  pub is_state : IsState v state

-- ---- what a call does, which the trait and the stream of callers state alike

-- a new stream is in the first state of its seed, and has absorbed nothing
pub record Started (v seed : ℕ) (new : State) : Type 0 where
  pub state : new ≡ start seed
  -- derived, for the search
  pub message : HasAbsorbed v seed new []

-- a stream, whose state `view` gives, absorbs bytes
pub record Absorbed {A : Type 0} (v : ℕ) (view : A → State) (stream : Mut A) (bytes : List ℕ)
    : Type 0 where
  pub state : view stream.exit.now ≡ absorb v (view stream.entry.now) bytes
  -- derived, for the search: the message is then longer by these bytes
  pub message : (seed : ℕ) (m : List ℕ) → HasAbsorbed v seed (view stream.entry.now) m
      → HasAbsorbed v seed (view stream.exit.now) (m ++ bytes)
  -- the same in three more forms, by which the search finds proofs for callers that write numbers
  pub joined : (seed : ℕ) (m all : List ℕ) → HasAbsorbed v seed (view stream.entry.now) m
      → m ++ bytes ≡ all → HasAbsorbed v seed (view stream.exit.now) all
  pub in_parts : (seed : ℕ) (m x : List ℕ) → HasAbsorbed v seed (view stream.entry.now) (m ++ x)
      → HasAbsorbed v seed (view stream.exit.now) (m ++ (x ++ bytes))
  pub parts_joined : (seed : ℕ) (m x all : List ℕ)
      → HasAbsorbed v seed (view stream.entry.now) (m ++ x) → x ++ bytes ≡ all
      → HasAbsorbed v seed (view stream.exit.now) (m ++ all)

-- a stream answers: with the hash of the message that it has absorbed, if there is one
pub record Answered (v : ℕ) (now : State) (result : ℕ) : Type 0 where
  pub answer : result ≡ answer v now
  -- derived, for the search
  pub hash : (seed : ℕ) (m : List ℕ) → HasAbsorbed v seed now m → result ≡ komi v seed m
