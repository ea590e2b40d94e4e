-- What the readers of elements look through, in one name for each kind.
use Rattle.nft_expressions.specs.Elements.{element, key, range, comment}
use Rattle.nft_expressions.specs.steps.Reading.{key_after, range_after, one_or_prefix}

unfoldable pub ranges : Unit {0}
unfolding range comment range_after one_or_prefix
ranges = tt

unfoldable pub elements : Unit {0}
unfolding element key comment key_after range_after one_or_prefix
elements = tt
