-- With no pending bytes, one word is left. Otherwise the tail is read as its whole words and a
-- final word, which is `answer-by_pair`. The rounds leave one of an odd number of whole words.
use Rattle.std.proofs.Common.{arith}
use Rattle.std.proofs.lemmas.List.{nil_from_length, drop_all, drop_more}
use Rattle.komihash.proofs.WholeWords.{length-whole_words}
use Rattle.komihash.proofs.Streams.{answer-by_pair, answer-none, tail_end-pending, answered}
use Rattle.komihash.proofs.stream.streamed.StreamedKomihashKomiStream.answer.Goals as goal

pub returns-then-none_pending-clause-answered : goal.returns-then-none_pending-clause-answered
returns-then-none_pending-clause-answered g c =
    answered g.row.V _ _ (grind (arith, nil_from_length, answer-none))

pub returns-clause-answered : goal.returns-clause-answered
returns-clause-answered g c =
    let words = length-whole_words in
    answered
    g.row.V
    _
    _
    (grind (arith, words, drop_all, drop_more, answer-by_pair, tail_end-pending))
