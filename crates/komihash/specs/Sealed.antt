-- What a tally owns besides its numbers, and the key to it. `specs/Lib.antt` keeps this file
-- private: no other crate can name the key or unfold these definitions.
use Rattle.std.specs.Prelude.{ℕ, ◌≡◌, refl}
use Rattle.std.specs.Coded.{Unit-prop}
use base.Fml.{Fml, ftrue}

-- what a tally of these numbers owns: nothing, but no other crate can know that
pub owned_by_tally : ℕ → ℕ → Fml
owned_by_tally products kept_bytes = ftrue

pub Key : Type 0
Key = Unit {0}

pub key : Key
unfolding Key
key = tt

pub Key-prop : IsProp Key
unfolding Key
Key-prop = Unit-prop

-- with the key, a proof can make what a tally of any numbers owns
pub opened : Key → (products kept_bytes : ℕ) → owned_by_tally products kept_bytes ≡ ftrue
unfolding owned_by_tally
opened _ products kept_bytes = refl
