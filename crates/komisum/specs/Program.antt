-- What the program reads and writes, and when it ends with a fault.
use Rattle.std.specs.Prelude.{◌≡◌, ◌≢◌, ◌↔◌, ℕ, ◌+◌, ◌-◌, ◌/◌, ◌%◌, ◌^◌, ◌<◌, ◌≤◌, true, false}
use Rattle.std.specs.Prelude.{List, ◌++◌, codes, get_or, map, IfSome, MatchResult}
use Rattle.std.specs.List.{range_with_len}
use Rattle.std.specs.declared.option.Option.{Option}
use Rattle.std.specs.declared.result.Result.{Result}
use Rattle.std.specs.Io.KnownBytes.{Appends, IsAtEnd}
use Rattle.komihash.specs.Hash.{komi}
use Rattle.komisum.specs.Settings.{number_of}
use Rattle.komisum.specs.Watched.{AppendsPrefix, Takes}
use Rattle.komisum.specs.declared.ending.Ending.{Ending}
use Rattle.komisum.specs.declared.ending.Ending.TheVariants.{Shown, Failed, Refused}
use Rattle.komisum.specs.declared.faults.Fault.TheVariants.{Read, TooLong, Write}
use Rattle.komisum.specs.declared.ending.Refusal.{Refusal}
use Rattle.komisum.specs.declared.settings.Version.{Version}
use Rattle.komisum.specs.declared.watched.Watched.{Watched}

-- the most bytes that an input may have
abbrev pub longest_input : ℕ
longest_input = 2 ^ 40

-- the most bytes that one read asks for
abbrev pub chunk_length : ℕ
chunk_length = 4096

-- the hexadecimal digit of a number at an index from 0, the highest of sixteen, to 15
abbrev pub digit_at : ℕ → ℕ → ℕ
digit_at number index = get_or (codes "0123456789abcdef") (number / 16 ^ (15 - index) % 16) 0

-- the line of a number: its sixteen digits and a newline
unfoldable pub line : ℕ → List ℕ
line number = map (digit_at number) (range_with_len 0 16) ++ codes "\n"

-- the line of the hash of a message with a seed in a version
abbrev pub hash_line : Version → ℕ → List ℕ → List ℕ
hash_line version seed message = line (komi (number_of version) seed message)

-- how `show` ends, which took the reader from old to new and the writer from before to after
pub record Shows {R W : Type 0} (version : Version) (seed : ℕ) (ending : Ending)
    (remaining : R → Option (List ℕ)) (old new : Watched R)
    (contents : W → Option (List ℕ)) (before after : Watched W) : Type 0 where
  -- the ending is a fault exactly if the fault's cause occurred, and never a refusal
  pub read : (ending ≡ Failed Read) ↔ (new.failed ≡ true)
  pub too_long : Takes remaining old new (λ taken.
      (ending ≡ Failed TooLong) ↔ ((new.failed ≡ false) × (longest_input < taken)))
  pub write : (ending ≡ Failed Write) ↔ (after.failed ≡ true)
  pub begun : (refusal : Refusal) → ending ≢ Refused refusal
  -- all of the input is read before a write, and never much beyond the limit
  pub all : ending ≡ Shown → IsAtEnd (remaining new.inner)
  pub all_before : ending ≡ Failed Write → IsAtEnd (remaining new.inner)
  pub bound : Takes remaining old new (λ taken. taken ≤ longest_input + chunk_length)
  pub read_bound : ending ≡ Failed Read → Takes remaining old new (λ taken. taken ≤ longest_input)
  -- the line is written, or a prefix of it if a write failed, or nothing
  pub line : ending ≡ Shown → IfSome (remaining old.inner) (λ bytes.
      Appends (contents before.inner) (contents after.inner) (hash_line version seed bytes))
  pub partial : ending ≡ Failed Write → IfSome (remaining old.inner) (λ bytes.
      AppendsPrefix (contents before.inner) (contents after.inner) (hash_line version seed bytes))
  pub read_unwritten : ending ≡ Failed Read → after ≡ before
  pub too_long_unwritten : ending ≡ Failed TooLong → after ≡ before

-- the program ended as the arguments ask: as `show` does with their version and seed, or with their
-- refusal, with nothing read and nothing written
abbrev pub EndsAsAsked : {R W : Type 0} → Ending → Result (Version × ℕ) Refusal
    → (R → Option (List ℕ)) → (old new : Watched R)
    → (W → Option (List ℕ)) → (before after : Watched W) → Type 0
EndsAsAsked ending asked remaining old new contents before after = MatchResult asked
    (λ settings. Shows settings.0 settings.1 ending remaining old new contents before after)
    (λ refusal. (ending ≡ Refused refusal) × (new ≡ old) × (after ≡ before))
