-- What calls through watched readers and writers move, and when they have failed.
use Rattle.std.specs.Prelude.{ℕ, Bool, true, nat_lt, ◌==◌, ◌&&◌, List, length, take}
use Rattle.std.specs.Prelude.{Ok, Err, IfSome}
use Rattle.std.specs.declared.option.Option.{Option}
use Rattle.std.specs.declared.result.Result.{Result}
use Rattle.std.specs.Io.KnownBytes.{Appends, Consumes}
use Rattle.komisum.specs.declared.watched.Watched.{Watched}

-- a write of n bytes has failed: it returned an error, or of at least one byte it accepted none
abbrev pub write_failed : {E : Type 0} → Result ℕ E → ℕ → Bool
write_failed (Ok taken) n = nat_lt 0 n && (taken == 0)
write_failed (Err error) n = true

-- a reader whose bytes are known gave some number of them, of which P holds
abbrev pub Takes :
    {R : Type 0} → (R → Option (List ℕ)) → (old new : Watched R) → (ℕ → Type 0) → Type 0
Takes remaining old new P = IfSome (remaining old.inner) (λ _. (bytes : List ℕ)
    × Consumes (remaining old.inner) (remaining new.inner) bytes × P (length bytes))

-- a writer's known bytes grow by a prefix of bs, which may be empty
abbrev pub AppendsPrefix : (old new : Option (List ℕ)) → List ℕ → Type 0
AppendsPrefix old new bs = (n : ℕ) × Appends old new (take n bs)
