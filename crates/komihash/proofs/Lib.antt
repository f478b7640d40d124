mod AllBytes
mod Blocks
mod CallLists
mod CallerLemmas
mod GeneratorFills
mod HashPaths
mod HashWords
pub mod LawLemmas
mod PaddedWords
mod PendingBytes
pub mod Propositions
mod SavedTexts
mod Streams
mod TallyProofs
mod Unpadding
mod WholeWords
mod WordOf
mod Xor
