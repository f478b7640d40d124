-- What a shuffle needs beside the laws.
use Rattle.std.proofs.lemmas.List.Sorted.{IsPermutation-refl, IsPermutation-trans}
use Rattle.komihash.proofs.LawLemmas.{laws}

pub ruleset permutations = (laws, IsPermutation-refl, IsPermutation-trans)
