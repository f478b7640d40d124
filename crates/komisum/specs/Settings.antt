-- The version and the seed that the program's arguments ask for.
use Rattle.std.specs.Prelude.{ℕ, Bool, List, [], ◌∷◌, length, map, ◌&&◌, ◌||◌, bytes_eq, codes}
use Rattle.std.specs.Prelude.{if◌then◌else◌, None, Some, Ok, Err, String, string_bytes}
use Rattle.std.specs.Int.{is_in_range}
use Rattle.std.specs.List.{list_all}
use Rattle.std.specs.declared.option.Option.{Option}
use Rattle.std.specs.declared.result.Result.{Result}
use Rattle.std.specs.declared.io.Error.{Error}
use Rattle.std.specs.declared.io.ErrorKind.{ErrorKind}
use Rattle.std.specs.declared.io.ErrorKind.TheVariants.{OutOfMemory}
use Rattle.std.specs.declared.vec.IntoIter.{IntoIter}
use Rattle.std.specs.IoError.{error_kind}
use Rattle.std.specs.Option.{ok_or, option_zip}
use Rattle.std.specs.Str.Parse.{digits_value}
use Rattle.std.specs.Vec.Iter.{into_iter_items}
use Rattle.komisum.specs.declared.ending.Refusal.{Refusal}
use Rattle.komisum.specs.declared.ending.Refusal.TheVariants.{NoMemory, Usage}
use Rattle.komisum.specs.declared.settings.Version.{Version}
use Rattle.komisum.specs.declared.settings.Version.TheVariants.{Four, Five}

-- the number of a version
abbrev pub number_of : Version → ℕ
number_of Four = 4
number_of Five = 5

-- the version that an argument asks for
abbrev pub version_of : List ℕ → Option Version
version_of argument =
    if bytes_eq argument (codes "4") then Some Four
    else if bytes_eq argument (codes "5") then Some Five
    else None

-- one of the characters `0-9a-f`
abbrev pub is_hex_digit : ℕ → Bool
is_hex_digit c = is_in_range 48 57 c || is_in_range 97 102 c

-- the seed that an argument asks for, by one to sixteen digits to base 16
abbrev pub seed_of : List ℕ → Option ℕ
seed_of argument =
    if is_in_range 1 16 (length argument) && list_all is_hex_digit argument
    then Some (digits_value 16 argument)
    else None

-- what arguments ask for: version 5 and seed 0 if there are none, or the version and seed of two
abbrev pub settings_of : List (List ℕ) → Option (Version × ℕ)
settings_of [] = Some (Five, 0)
settings_of (version ∷ seed ∷ []) = option_zip (version_of version) (seed_of seed)
settings_of _ = None

-- the refusal for an error in place of the arguments: wrong usage, unless memory was refused
abbrev pub refusal_of : ErrorKind → Refusal
refusal_of OutOfMemory = NoMemory
refusal_of _ = Usage

-- what arguments ask for, or a refusal: wrong usage if there are some, but not exactly a version
-- and a seed
abbrev pub settings_or_refusal :
    {A B : Type 0} → Result (IntoIter (String A) B) Error → Result (Version × ℕ) Refusal
settings_or_refusal (Ok arguments) =
    ok_or (settings_of (map string_bytes (into_iter_items arguments))) Usage
settings_or_refusal (Err error) = Err (refusal_of (error_kind error))
