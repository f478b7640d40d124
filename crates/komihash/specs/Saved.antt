-- The saved text of a stream, which is a list of bytes.
use Rattle.std.specs.Prelude.{ℕ, ◌≡◌, ◌≤◌, ◌↔◌, Bool, List, [], ◌∷◌, ◌++◌, length, take, drop}
use Rattle.std.specs.Prelude.{Option, IfSome, IsSomeAnd, IsNone, if◌then◌else◌}
use Rattle.komihash.specs.Borrows.{Mut}
use Rattle.komihash.specs.Rounds.{in_order}
use Rattle.komihash.specs.Stream.{State, IsState, HasAbsorbed}
use Rattle.komihash.specs.Words.{all_bytes}

-- where the lanes and the pending bytes begin, and the length of the longest text
abbrev pub lanes_at : ℕ
lanes_at = 4

abbrev pub pending_at : ℕ
pending_at = 68

abbrev pub longest_text : ℕ
longest_text = 131

-- a flag as a byte
abbrev pub flag_byte : Bool → ℕ
flag_byte flag = if flag then 1 else 0

-- the first four bytes: the version, whether a block was absorbed, the top bit that only version 4
-- keeps, and how many bytes are pending
abbrev pub head : ℕ → State → List ℕ
head v s = v ∷ flag_byte s.had_block ∷ flag_byte s.top_bit ∷ length s.pending ∷ []

-- the text of a state in version v: the first four bytes, the eight lanes, the pending bytes
unfoldable pub text : ℕ → State → List ℕ
text v s = head v s ++ all_bytes (in_order s.lanes) ++ s.pending

-- the bytes are the text of some state of version v
abbrev pub IsText : ℕ → List ℕ → Type 0
IsText v bytes = (s : State) × IsState v s × (text v s ≡ bytes)

-- the bytes are the text of a stream of version v that began from the seed and has absorbed m
unfoldable pub IsTextAfter : ℕ → ℕ → List ℕ → List ℕ → Type 0
IsTextAfter v seed m bytes = (s : State) × IsState v s × HasAbsorbed v seed s m × (text v s ≡ bytes)

-- ---- what a call does, which the trait and each stream state alike

-- a call writes the text of a stream to the front of `out`, leaves the rest, and returns the length
-- of the text
pub record Stored (v : ℕ) (now : State) (out : Mut (List ℕ)) (result : ℕ) : Type 0 where
  pub length : result ≡ length (text v now)
  pub text : take result out.exit.now ≡ text v now
  pub rest : drop result out.exit.now ≡ drop result out.entry.now
  -- derived, for the search, because `now` is a state, and no two states share a text; the field
  -- `text` hides the function
  pub most : result ≤ longest_text
  pub message : (seed : ℕ) (m : List ℕ) → HasAbsorbed v seed now m
      → IsTextAfter v seed m (take result out.exit.now)
  pub version : (w : ℕ) (s : State) → IsState w s
      → Rattle.komihash.specs.Saved.text w s ≡ Rattle.komihash.specs.Saved.text v now → w ≡ v
  pub only : (w : ℕ) (s : State) → IsState w s
      → Rattle.komihash.specs.Saved.text w s ≡ Rattle.komihash.specs.Saved.text v now → s ≡ now

-- a call returns the stream whose text the bytes are, where `view` gives its state, or None if
-- they are the text of no state
pub record Restored {A : Type 0} (v : ℕ) (view : A → State) (bytes : List ℕ) (result : Option A)
    : Type 0 where
  pub text : IfSome result (λ stream. text v (view stream) ≡ bytes)
  pub none : IsNone result ↔ ¬ IsText v bytes
  -- derived, for the search, because no two states share a text
  pub same : (s : State) → IsState v s → Rattle.komihash.specs.Saved.text v s ≡ bytes
      → IsSomeAnd result (λ stream. view stream ≡ s)
  pub message : (seed : ℕ) (m : List ℕ) → IsTextAfter v seed m bytes
      → IsSomeAnd result (λ stream. HasAbsorbed v seed (view stream) m)
  pub most : IfSome result (λ _. length bytes ≤ longest_text)
