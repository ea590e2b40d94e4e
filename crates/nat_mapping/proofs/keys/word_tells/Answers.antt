use Rattle.nat_mapping.proofs.Names.{first_word, hash_word, words_after}
use Rattle.nat_mapping.proofs.keys.word_tells.Goals as goal

pub returns : goal.returns
returns c rest others equal =
    let word = first_word (hash_word c.args.kind c.args.endpoint) (hash_word c.args.other_kind c.args.other) rest others
    c.hash_words_differ.ensures.range c.hash_words_differ-2.ensures.range equal in
    (c.hash_words_differ.ensures.kind word, c.hash_words_differ.ensures.endpoint word, words_after _ _ rest others equal)
