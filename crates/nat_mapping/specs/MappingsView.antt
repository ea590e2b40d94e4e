-- What `Mappings` shows to its users (own).
use Rattle.std.specs.Prelude.{ℕ, List}
use Rattle.ip_headers.specs.declared.tuple.Mapping.{Mapping}

-- the mappings held, each once for each holder; for how many calls of `hold` memory is reserved; how many
-- pools of ports are kept, each with a bitmap of 65,536 bits
pub record MappingsView : Type 0 where
  pub held : List Mapping
  pub room : ℕ
  pub pools : ℕ
