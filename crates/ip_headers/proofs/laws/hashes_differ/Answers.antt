use Rattle.ip_headers.specs.HashWords.{hash_word}
use Rattle.ip_headers.specs.steps.WordBytes.{first_word, words_after}
use Rattle.ip_headers.proofs.laws.hashes_differ.Goals as goal

pub returns-clause-differ : goal.returns-clause-differ
returns-clause-differ c equal =
    let a = c.args.one in
    let b = c.args.other in
    let sources = c.hash_words_differ.ensures in
    let destinations = c.hash_words_differ-2.ensures in
    let first = first_word (hash_word a.kind a.source) (hash_word b.kind b.source) _ _
    sources.range c.hash_words_differ-3.ensures.range equal in
    let second = first_word (hash_word a.kind a.destination) (hash_word b.kind b.destination) _ _
    destinations.range c.hash_words_differ-4.ensures.range (words_after _ _ _ _ equal) in
    let kind = sources.kind first in
    let source = sources.endpoint first in
    let destination = destinations.endpoint second in
    λ i. record { kind = kind i; source = source i; destination = destination i }
