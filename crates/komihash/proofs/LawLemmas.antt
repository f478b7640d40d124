-- Lemmas about the definitions. They prove the laws of `src/laws.rt`, and the search finds most
-- laws in a crate that names the ruleset `laws` in its root file. Some prove no law, but callers
-- need them, as `of_the_lemmas` of `promises` shows.
use Rattle.std.proofs.Common.{append-nil, append_assoc, length-append, take_all}
use Rattle.std.proofs.lemmas.Grind.{take_at_read, take-set_at}
use Rattle.std.proofs.lemmas.List.{map-append}
use Rattle.std.proofs.lemmas.List.Concat.{flat_map-append}
use Rattle.std.proofs.lemmas.List.Sums.{fold-append}
use Rattle.komihash.proofs.CallLists.{answers_after-append, bytes_of_calls-append}
use Rattle.komihash.proofs.CallLists.{run_products-pieces, HasAbsorbed-pending}
use Rattle.komihash.proofs.AllBytes.{le_bytes-digits}
use Rattle.komihash.proofs.GeneratorFills.{after_steps-add, outputs-add, fill-add, after_fill-add}
use Rattle.komihash.proofs.GeneratorFills.{after_steps-none, outputs-none, after_steps-few}
use Rattle.komihash.proofs.GeneratorFills.{outputs-few, next-lt, fill-one, after_fill-one}
use Rattle.komihash.proofs.GeneratorFills.{length-outputs, outputs-at, fill-whole, outputs-whole}
use Rattle.komihash.proofs.GeneratorFills.{after_fill-whole}
use Rattle.komihash.proofs.Unpadding.{padded_words-same}
use Rattle.komihash.proofs.SavedTexts.{text-same_version, text-same_state, IsTextAfter-most}
use Rattle.komihash.proofs.SavedTexts.{length-text}
use Rattle.komihash.proofs.Streams.{absorb-append, absorb-nothing, answer-joined}
use Rattle.komihash.proofs.Streams.{HasAbsorbed-same_state, IsTextAfter-same_text}
use Rattle.komihash.proofs.HashPaths.{komi-same_below_64}
use Rattle.komihash.proofs.HashWords.{komi-lt}
use Rattle.komihash.proofs.CallerLemmas.{outputs-four, after_steps-four, length-fill, fill-parts}
use Rattle.komihash.proofs.CallerLemmas.{after_fill-parts, absorb-recut, HasAbsorbed-none_pending}
use Rattle.komihash.proofs.CallerLemmas.{HasAbsorbed-same_hash, IsTextAfter-same_hash}
use Rattle.komihash.proofs.CallerLemmas.{seed_words-same, take-fill, drop-fill, take-outputs}
use Rattle.komihash.proofs.CallerLemmas.{komi-same, outputs-parts, after_steps-parts, range-front}
use Rattle.komihash.proofs.CallerLemmas.{length-answers_after, take-answers_after}
use Rattle.komihash.proofs.CallerLemmas.{count_of_answers-le, length-padded_words}
use Rattle.komihash.proofs.CallerLemmas.{Unpadded-zero, Unpadded-no_byte, Unpadded-zero_end}

pub ruleset of_hashes = (komi-lt, komi-same_below_64, fold-append, le_bytes-digits)

pub ruleset of_streams = (
  absorb-append,
  absorb-nothing,
  answer-joined,
  HasAbsorbed-pending,
  HasAbsorbed-same_state,
  IsTextAfter-same_text,
  length-append,
)

pub ruleset of_calls = (answers_after-append, bytes_of_calls-append, run_products-pieces)

pub ruleset of_texts_and_words =
    (text-same_version, text-same_state, IsTextAfter-most, length-text, padded_words-same)

pub ruleset of_steps =
    (after_steps-add, outputs-add, after_steps-none, outputs-none, after_steps-few, outputs-few)

pub ruleset of_outputs = (
  length-outputs,
  outputs-at,
  fill-add,
  after_fill-add,
  fill-whole,
  outputs-whole,
  after_fill-whole,
  next-lt,
  fill-one,
  after_fill-one,
)

-- what loops need, also those that write several times for each item
pub ruleset of_items = (
  flat_map-append,
  append-nil,
  append_assoc,
  map-append,
  take_at_read,
  take-set_at,
  take_all,
)

pub ruleset of_callers = (
  outputs-four,
  after_steps-four,
  length-fill,
  fill-parts,
  after_fill-parts,
  komi-same,
  outputs-parts,
  after_steps-parts,
  range-front,
  absorb-recut,
  HasAbsorbed-none_pending,
  HasAbsorbed-same_hash,
  IsTextAfter-same_hash,
  seed_words-same,
  take-fill,
  drop-fill,
  take-outputs,
  length-answers_after,
  take-answers_after,
  count_of_answers-le,
  length-padded_words,
  Unpadded-zero,
  Unpadded-no_byte,
  Unpadded-zero_end,
)

pub ruleset laws =
    (of_hashes, of_streams, of_calls, of_texts_and_words, of_steps, of_outputs, of_items, of_callers)
