-- Saved texts: how their parts are put together, how the state is read back from one, which bytes
-- are one, and what the calls that save and resume say.
use Rattle.std.proofs.Common.{◌≡◌, ℕ, ◌+◌, ◌-◌, ◌/◌, ◌≤◌, ◌↔◌, List, [], ◌∷◌, ◌++◌, length, take}
use Rattle.std.proofs.Common.{drop, get_or, refl, arith, Fits, w8, Some, length-drop, length-take}
use Rattle.std.proofs.Common.{take-append-drop, slice_index, ◌==◌}
use Rattle.std.proofs.lemmas.Slice.{take-put_mid, drop-put_mid}
use borrow.Rule.Slice.PartMut.{put_mid}
use Rattle.std.proofs.lemmas.Grind.{elements}
use Rattle.komihash.specs.Rounds.{Lanes, in_order}
use Rattle.komihash.specs.Saved.{lanes_at, pending_at, longest_text, text, IsText, IsTextAfter}
use Rattle.komihash.specs.Borrows.{Mut}
use Rattle.komihash.specs.Saved.{Restored, Stored}
use Rattle.komihash.specs.Stream.{State, IsState, HasAbsorbed}
use Rattle.komihash.specs.Internals.{IsHead, whole_words, xor_again}
use Rattle.komihash.specs.Words.{AreBytes, AreWords}
use Rattle.komihash.proofs.WholeWords.{length-whole_words}
use Rattle.komihash.proofs.AllBytes.{packed_words-all_bytes}
use Rattle.komihash.proofs.AllBytes.{all_bytes-whole_words, AreWords-packed_words}
use Rattle.komihash.proofs.WordOf.{AreBytes-typed, AreBytes-take, AreBytes-drop}

-- ---- the parts of a text

-- if bytes are put from `a` to `n`, they end what is before `n`, and what is after it stays, as
-- `write_pending` needs
pub part-put : (a n : ℕ) (out part bytes : List ℕ) → a ≤ n → n ≤ length out
    → length part ≡ length (take (n - a) (drop a out)) → take (n - a) part ≡ bytes
    → (take n (put_mid a (n - a) out part) ≡ take a out ++ bytes)
    × (drop n (put_mid a (n - a) out part) ≡ drop n out)
part-put a n out part bytes le within room is = grind (arith, elements, take-put_mid, drop-put_mid)

-- ---- a text, and the state that is read from it

-- the lanes from their words
abbrev pub lanes_from : List ℕ → Lanes
lanes_from ws = record {
  s1 = slice_index ws 0;
  s2 = slice_index ws 1;
  s3 = slice_index ws 2;
  s4 = slice_index ws 3;
  s5 = slice_index ws 4;
  s6 = slice_index ws 5;
  s7 = slice_index ws 6;
  s8 = slice_index ws 7;
}

-- the state that is read from a text
abbrev pub state_of : List ℕ → State
state_of bytes = record {
  lanes = lanes_from (whole_words (take 64 (drop lanes_at bytes)));
  pending = drop pending_at bytes;
  had_block = slice_index bytes 1 == 1;
  top_bit = slice_index bytes 2 == 1;
}

-- the text of a state gives it back
state_of-text : (v : ℕ) (s : State) → AreWords (in_order s.lanes) → state_of (text v s) ≡ s
unfolding text
state_of-text v s are =
    let words = packed_words-all_bytes (in_order s.lanes) are in grind (arith, words)

pub length-text : (v : ℕ) (s : State) → length (text v s) ≡ pending_at + length s.pending
unfolding text
length-text v s = omega arith

pub IsTextAfter-most : (v seed : ℕ) (m bytes : List ℕ) → IsTextAfter v seed m bytes
    → length bytes ≤ longest_text
unfolding IsTextAfter
IsTextAfter-most v seed m bytes (s, is, absorbed, same) = grind (arith, length-text v s)

-- two states never share a text
module _ (v w : ℕ) (s t : State) (same : text v s ≡ text w t) where
  pub text-same_version : v ≡ w
  unfolding text
  text-same_version = cc

  pub text-same_state : AreWords (in_order s.lanes) → AreWords (in_order t.lanes) → s ≡ t
  text-same_state first second = grind (arith, state_of-text v s first, state_of-text w t second)

-- ---- which bytes are a text

-- eight words, read as lanes, are in order these words
pub in_order-back : (ws : List ℕ) → length ws ≡ 8 → in_order (lanes_from ws) ≡ ws
in_order-back (a ∷ b ∷ c ∷ d ∷ e ∷ f ∷ g ∷ h ∷ []) eight = refl
in_order-back ws eight = absurd (omega arith)

-- what the proof of `from_order` needs
pub ruleset lanes_of_words = (in_order-back, xor_again)

-- the same as IsText by the first four bytes and the length, as the code tests it
pub record IsLaidOut (v : ℕ) (bytes : List ℕ) : Type 0 where
  pub head : IsHead v bytes
  pub size : length bytes ≡ pending_at + slice_index bytes 3

-- bytes that are laid out so are the text of the state that is read from them
module _ (v : ℕ) (bytes : List ℕ) (are : AreBytes bytes) (laid : IsLaidOut v bytes) where
  abbrev lanes : List ℕ
  lanes = take 64 (drop lanes_at bytes)

  length-lanes : length lanes ≡ 64
  length-lanes = omega (arith, laid.size, length-drop {A = ℕ}, length-take {A = ℕ})

  AreBytes-lanes : AreBytes lanes
  AreBytes-lanes = AreBytes-take 64 (drop lanes_at bytes) (AreBytes-drop lanes_at bytes are)

  lanes-back : in_order (lanes_from (whole_words lanes)) ≡ whole_words lanes
  lanes-back = grind (arith, in_order-back, length-whole_words, length-lanes)

  laid_out-text : text v (state_of bytes) ≡ bytes
  unfolding text
  laid_out-text =
      let words = all_bytes-whole_words lanes AreBytes-lanes (omega (arith, length-lanes)) in
      grind (arith, laid.size, lanes-back, take-append-drop 64 (drop lanes_at bytes))

  laid_out-state : IsState v (state_of bytes)
  laid_out-state =
      let words = AreWords-packed_words (length lanes / 8) lanes AreBytes-lanes in
      let size = length-drop pending_at bytes in
      grind (arith, words, AreBytes-drop pending_at bytes are, lanes-back, size)

pub IsLaidOut-text : (v : ℕ) (bytes : List ℕ) → ((k : ℕ) → Fits w8 (get_or bytes k 0))
    → IsLaidOut v bytes ↔ IsText v bytes
unfolding text
IsLaidOut-text v bytes typed =
    let are = AreBytes-typed bytes typed in
    grind (arith, laid_out-state v bytes are, laid_out-text v bytes are)

-- ---- what the calls say

-- a state whose parts are read from a text is the one that has this text
pub restored : (v : ℕ) (bytes : List ℕ) (now : State) → IsText v bytes
    → in_order now.lanes ≡ whole_words (take 64 (drop lanes_at bytes))
    → now.pending ≡ drop pending_at bytes → now.had_block ≡ (slice_index bytes 1 == 1)
    → now.top_bit ≡ (slice_index bytes 2 == 1)
    → IsState v now × Restored v (λ (s : State). s) bytes (Some now)
unfolding IsTextAfter
restored v bytes now (s, is, of_s) lanes pending had_block top_bit =
    grind (arith, state_of-text, length-text)

-- the text of a stream that has absorbed a message is a text after this message
pub text-after : (v seed : ℕ) (s : State) (m bytes : List ℕ) → IsState v s → HasAbsorbed v seed s m
    → text v s ≡ bytes → IsTextAfter v seed m bytes
unfolding IsTextAfter
text-after v seed s m bytes is after same = search arith

-- what a call says that writes the text of a state to the front of `out`
pub stored : (v : ℕ) (now : State) (out : Mut (List ℕ)) (result : ℕ) → IsState v now
    → result ≡ length (text v now) → take result out.exit.now ≡ text v now
    → drop result out.exit.now ≡ drop result out.entry.now → Stored v now out result
stored v now out result is size same rest =
    grind (arith, length-text, text-after, text-same_version, text-same_state)

-- what the proof of `store` needs
pub ruleset store_laws = (length-text, text-after, text-same_version, text-same_state)
