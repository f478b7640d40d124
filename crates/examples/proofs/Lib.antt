mod Permutations
mod Prefixes
