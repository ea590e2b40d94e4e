-- Kind and ports of a payload.
use Rattle.std.specs.Prelude.{ℕ, ◌==◌, ◌||◌, Bool, List, Option}
use Rattle.std.specs.Option.{option_map}
use Rattle.ip_headers.specs.declared.tuple.Kind.{Kind}
use Rattle.ip_headers.specs.Tuple.{kind_of, port_from, port_to}

-- protocols whose ports or identifier are in the first 8 bytes of the payload
abbrev pub has_ports : ℕ → Bool
has_ports number = number == 1 || number == 6 || number == 17

-- a kind with its two ports
abbrev pub kind_with_ports : Option Kind → List ℕ → Option (Kind × ℕ × ℕ)
kind_with_ports found payload = option_map (λ one. (one, port_from one payload, port_to one payload)) found

abbrev pub kind_and_ports : ℕ → List ℕ → Option (Kind × ℕ × ℕ)
kind_and_ports number payload = kind_with_ports (kind_of number payload) payload
