-- The words for why a record has no valid packet, as in a report (own).
use Rattle.std.specs.Prelude.{ℕ, List, codes}
use Rattle.ip_headers.specs.declared.view.HeaderFault.{HeaderFault}
use Rattle.ip_headers.specs.declared.view.HeaderFault.TheVariants.{Short, Version, HeaderLength, Length, Truncated}
use Rattle.ip_headers.specs.declared.view.HeaderFault.TheVariants.{Checksum, Fragment, Transport}

abbrev pub word_of : HeaderFault → List ℕ
word_of Short = codes "short"
word_of Version = codes "version"
word_of HeaderLength = codes "hlen"
word_of Length = codes "length"
word_of Truncated = codes "truncated"
word_of Checksum = codes "checksum"
word_of Fragment = codes "fragment"
word_of Transport = codes "transport"
