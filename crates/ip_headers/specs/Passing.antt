-- The tests on a record's bytes, as facts (RFC 791, section 3.1).
use Rattle.std.specs.Prelude.{◌≡◌, ℕ, ◌≤◌, false, List, length}
use Rattle.ip_headers.specs.Sum.{ones_sum_of}
use Rattle.ip_headers.specs.Header.{header, header_len, total_len, version, protocol}
use Rattle.ip_headers.specs.Header.{is_fragment, payload_of}
use Rattle.ip_headers.specs.Transport.{transport_is_malformed}

-- the tests on the header except that for fragments
pub record PassesHeader (bytes : List ℕ) : Type 0 where
  pub long : 20 ≤ header_len bytes
  pub head : header_len bytes ≤ total_len bytes
  pub whole : total_len bytes ≤ length bytes
  pub four : version bytes ≡ 4
  pub sum : ones_sum_of (header bytes) ≡ 65535

-- all tests
pub record Passes (bytes : List ℕ) : Type 0 where
  pub head : PassesHeader bytes
  pub unbroken : is_fragment bytes ≡ false
  pub transport : transport_is_malformed (protocol bytes) (payload_of bytes) ≡ false
