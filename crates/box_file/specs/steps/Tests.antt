-- The checks on the lines of a box file.
use Rattle.std.specs.Prelude.{◌≡◌, ◌&&◌, not, Bool, List, Option, Some, None, if◌then◌else◌, ℕ, nat_eq}
use Rattle.std.specs.List.{list_any}
use Rattle.std.specs.Borrow.{Bor}
use Rattle.std.specs.Cmp.Lexicographic.{pointwise}
use Rattle.std.specs.HashSet.{HashSet, contains}
use Rattle.box_file.specs.Box.{Interface, NamedRoute, Idle, Line, interfaces_in, is_named, routes_in, defaults_in, idles_in, is_malformed, is_repeated}
use Rattle.box_file.specs.Box.{has_unknown, is_too_large, is_out_of_range}
use Rattle.box_file.specs.declared.fault.BoxFault.{BoxFault}
use Rattle.box_file.specs.declared.fault.BoxFault.TheVariants as faults

-- the set has the names of the interfaces
abbrev pub Knows : {S : Type 0} → HashSet (Bor (List ℕ)) S → List Interface → Type 0
Knows known interfaces = (n : Bor (List ℕ))
    → contains (λ x y. pointwise nat_eq x.now y.now) known n ≡ list_any (is_named n.now) interfaces

-- the name isn't in the set
abbrev pub lacks : {S : Type 0} → HashSet (Bor (List ℕ)) S → Bor (List ℕ) → Bool
lacks known n = not (contains (λ x y. pointwise nat_eq x.now y.now) known n)

-- one key with two values
abbrev pub two_values : {K V : Type 0} → (K → K → Bool) → (V → V → Bool) → K × V → K × V → Bool
two_values same_key same_value x y = same_key x.0 y.0 && not (same_value x.1 y.1)

-- the lines split by kind
pub record AreLinesByKind (lines : List Line) (interfaces : List Interface) (routes : List NamedRoute)
    (defaults : List (List ℕ)) (idles : List Idle) : Type 0 where
  pub interfaces_are : interfaces ≡ interfaces_in lines
  pub routes_are : routes ≡ routes_in lines
  pub defaults_are : defaults ≡ defaults_in lines
  pub idles_are : idles ≡ idles_in lines

-- the first fault that applies to a text with these lines
abbrev pub least_fault_of : List ℕ → List Interface → List NamedRoute → List (List ℕ) → List Idle
    → Option BoxFault
least_fault_of text interfaces routes defaults idles =
    if is_malformed defaults then Some faults.Form
    else if is_repeated interfaces routes idles then Some faults.Repeated
    else if has_unknown interfaces routes defaults then Some faults.UnknownName
    else if is_too_large text interfaces routes then Some faults.TooLarge
    else if list_any is_out_of_range idles then Some faults.OutOfRange
    else None
