-- The numbers of symbolic constants fit their types.
use Rattle.std.proofs.Common.{◌≡◌, ℕ, ◌^◌, ◌<◌, Bool, true, false, cond, List, [], ◌∷◌, Option, Some, refl, arith}
use Rattle.std.specs.Prelude.{nat_lt, unwrap_or}
use Rattle.std.specs.List.{list_all}
use Rattle.std.specs.Str.{bytes_eq}
use Rattle.std.proofs.lemmas.Bool.{ltb-true, and_parts}
use Rattle.nft_tree.specs.declared.selector.ValueType.{ValueType}
use Rattle.nft_tree.specs.declared.selector.ValueType.TheVariants as types
use Rattle.nft_tree.specs.ValueTypes.{entry_in, number_in, words_of, type_width}

first-fits : (most n : ℕ) (here : Bool) (rest : Option ℕ) → n < most → unwrap_or rest 0 < most → unwrap_or (cond here (Some n) rest) 0 < most
first-fits most n true rest fits others = fits
first-fits most n false rest fits others = others

entries-fit : (most : ℕ) (entries : List (List ℕ × ℕ)) (word : List ℕ) → 0 < most
    → list_all (λ (e : List ℕ × ℕ). nat_lt e.1 most) entries ≡ true → unwrap_or (entry_in entries word) 0 < most
entries-fit most [] word some each = some
entries-fit most (e ∷ es) word some each =
    let parts = and_parts (nat_lt e.1 most) (list_all (λ (e : List ℕ × ℕ). nat_lt e.1 most) es) each in
    first-fits most e.1 (bytes_eq e.0 word) (entry_in es word) (ltb-true e.1 most parts.0) (entries-fit most es word some parts.1)

pub word-fits : (t : ValueType) (word : List ℕ) → unwrap_or (number_in (words_of t) word) 0 < 2 ^ type_width t
word-fits types.Address w = entries-fit (2 ^ 32) (words_of types.Address) w (omega arith) refl
word-fits types.Protocol w = entries-fit (2 ^ 8) (words_of types.Protocol) w (omega arith) refl
word-fits types.Service w = entries-fit (2 ^ 16) (words_of types.Service) w (omega arith) refl
word-fits types.TcpFlag w = entries-fit (2 ^ 8) (words_of types.TcpFlag) w (omega arith) refl
word-fits types.IcmpType w = entries-fit (2 ^ 8) (words_of types.IcmpType) w (omega arith) refl
word-fits types.InterfaceName w = entries-fit (2 ^ 128) (words_of types.InterfaceName) w (omega arith) refl
word-fits types.InterfaceIndex w = entries-fit (2 ^ 32) (words_of types.InterfaceIndex) w (omega arith) refl
word-fits types.Mark w = entries-fit (2 ^ 32) (words_of types.Mark) w (omega arith) refl
word-fits types.Family w = entries-fit (2 ^ 8) (words_of types.Family) w (omega arith) refl
word-fits types.CtState w = entries-fit (2 ^ 32) (words_of types.CtState) w (omega arith) refl
word-fits types.CtDirection w = entries-fit (2 ^ 8) (words_of types.CtDirection) w (omega arith) refl
word-fits types.CtStatus w = entries-fit (2 ^ 32) (words_of types.CtStatus) w (omega arith) refl
