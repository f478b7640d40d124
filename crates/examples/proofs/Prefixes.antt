-- A text that stands after its length ends where the length says.
use Rattle.std.proofs.Common.{◌≡◌, ◌^◌, ◌<◌, ◌∙◌, ℕ, List, ◌++◌, length, take, drop, ap, sym}
use Rattle.std.proofs.Math.Seq.{take-append_seam, drop-append_seam}
use Rattle.std.proofs.lemmas.Nat.{from_le_bytes-to_le_bytes_8}
use Rattle.std.specs.Int.{from_le_bytes, w64}
use Rattle.examples.specs.Profiles.{bytes_of_text}

pub text_ends : (x y s t : List ℕ) → length x < 2 ^ 64 → length y < 2 ^ 64
    → bytes_of_text x ++ s ≡ bytes_of_text y ++ t → (x ≡ y) × (s ≡ t)
unfolding bytes_of_text
text_ends x y s t few_x few_y same =
    let size : length x ≡ length y =
    sym (from_le_bytes-to_le_bytes_8 (length x) few_x)
    ∙ ap (λ bytes. from_le_bytes w64 (take 8 bytes)) same
    ∙ from_le_bytes-to_le_bytes_8 (length y) few_y in
    let rest : x ++ s ≡ y ++ t = ap (drop 8) same in (
      sym (take-append_seam x s) ∙ ap (take (length x)) rest ∙ rw size (take-append_seam y t),
      sym (drop-append_seam x s) ∙ ap (drop (length x)) rest ∙ rw size (drop-append_seam y t),
    )
