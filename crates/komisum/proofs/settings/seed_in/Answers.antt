-- The standard library parses these digits as they are. It would also take capitals and a plus.
use Rattle.std.proofs.Common.{◌≡◌, ℕ, ◌<◌, ◌≤◌, List, [], ◌∷◌, length, true, Ok, arith, refl, rules}
use Rattle.std.proofs.Math.Nat.{pow-le-pow_right}
use Rattle.std.proofs.lemmas.Bool.Decides.{nat_tests}
use Rattle.std.proofs.lemmas.Int.Digits.{digits_value-lt}
use Rattle.std.proofs.lemmas.Iterator.{YieldsList-from_slice}
use Rattle.std.proofs.lemmas.Iterator.Search.{all_from_yields_List}
use Rattle.std.proofs.lemmas.Result.{Ok-from_Ok_iff}
use Rattle.std.specs.List.{list_all}
use Rattle.std.specs.Str.Parse.{AllDigits, ParsesUnsigned, digits_value, without_leading_plus}
use Rattle.std.specs.declared.result.Result.{Result}
use Rattle.komisum.specs.Settings.{is_hex_digit}
use Rattle.komisum.proofs.settings.seed_in.Goals as goal

-- each has a value below 16, and none is a plus
plain : (bs : List ℕ) → list_all is_hex_digit bs ≡ true
    → AllDigits 16 bs × (without_leading_plus bs ≡ bs)
plain [] h = (tt, refl)
plain (b ∷ bs) h =
    ((grind (arith, nat_tests), (plain bs (grind arith)).0), grind (arith, nat_tests))

-- the number that up to sixteen of them write fits a word
parsed : {E : Type 0} (bs : List ℕ) (r : Result ℕ E) → ParsesUnsigned 64 16 bs r
    → list_all is_hex_digit bs ≡ true → 0 < length bs → length bs ≤ 16
    → r ≡ Ok (digits_value 16 bs)
parsed bs r parses digits some few =
    grind (arith, plain, Ok-from_Ok_iff, digits_value-lt, pow-le-pow_right)

pub returns : goal.returns
returns c =
    let bs = c.args.argument.now in
    let digits : c.all.result ≡ list_all is_hex_digit bs =
    all_from_yields_List _ _ _ _ c.all.ensures.ran (YieldsList-from_slice bs cc)
    (λ x b q k. search rules) in
    grind (arith, nat_tests, parsed)
