-- Lines in range set one value for each timeout.
use Rattle.box_file.proofs.Names.{AreLimits, Bool, Bool-set, Idle, IdleKind, IfSome_at, IsTrue, List, Some, ap, arith, false, find, idle_for}
use Rattle.box_file.proofs.Names.{is_of_kind, is_out_of_range, limit_for, list_any, minimum_for, nat_lt, refl}
use Rattle.box_file.proofs.Names.{nat_tests, seconds_of, subst, sym, true, usual_limits, ℕ, ◌&&◌, ◌<◌, ◌^◌, ◌≡◌}
use Rattle.box_file.proofs.ListLaws.{each_fails, found_all}
use Rattle.box_file.specs.declared.idle_line.IdleKind.TheVariants as kinds
use Rattle.box_file.specs.declared.limits.Limits.{Limits}

-- ---- timeouts by their values

abbrev Numbers : Type 0
Numbers = ℕ × ℕ × ℕ × ℕ × ℕ

abbrev are_positive : Numbers → Bool
are_positive n = nat_lt 0 n.0 && nat_lt 0 n.1 && nat_lt 0 n.2 && nat_lt 0 n.3 && nat_lt 0 n.4

abbrev made : (n : Numbers) → IsTrue (are_positive n) → Limits
made n p = record { established = n.0; transitory = n.1; udp = n.2; echo = n.3; other = n.4; positive = p }

same_made : (m n : Numbers) → m ≡ n → (p : IsTrue (are_positive m)) (q : IsTrue (are_positive n)) → made m p ≡ made n q
same_made m n e p =
    let P : Numbers → Type 0 = λ k. (q : IsTrue (are_positive k)) → made m p ≡ made k q in
    subst P e (λ q. ap (made m) (Bool-set _ _ p q))

abbrev numbers : Limits → Numbers
numbers l = (l.established, l.transitory, l.udp, l.echo, l.other)

pub same_limits : (l m : Limits) → ((k : IdleKind) → limit_for l k ≡ limit_for m k) → l ≡ m
same_limits l m same =
    let all : numbers l ≡ numbers m =
    cc (same kinds.Established, same kinds.Transitory, same kinds.Udp, same kinds.Echo, same kinds.Other) in
    same_made (numbers l) (numbers m) all l.positive m.positive

-- ---- lines in range

pub some_limit : (k : IdleKind) → (0 < minimum_for k) × (0 < limit_for usual_limits k)
some_limit k = grind arith

-- the line for a kind sets a second at least, and no more than a `u32` holds
pub found : (k : IdleKind) (i : Idle) (is : List Idle) → list_any is_out_of_range is ≡ false
    → Some i ≡ find (is_of_kind k) is → (0 < seconds_of i) × (seconds_of i < 2 ^ 32)
found k i is e there =
    let right = IfSome_at (find (is_of_kind k) is) (λ j. is_out_of_range j ≡ false) i (sym there)
    (found_all (λ j. is_out_of_range j ≡ false) (is_of_kind k) is (each_fails is_out_of_range is e)) in
    grind (arith, some_limit i.kind, right)

limit_positive : (k : IdleKind) (is : List Idle) → list_any is_out_of_range is ≡ false → nat_lt 0 (idle_for is k) ≡ true
limit_positive k is e = grind (arith, nat_tests, found k, some_limit k)

-- lines in range set all timeouts
pub limits_of : (is : List Idle) → list_any is_out_of_range is ≡ false → Limits
limits_of is e =
    let some = λ (k : IdleKind). limit_positive k is e in
    made (idle_for is kinds.Established, idle_for is kinds.Transitory, idle_for is kinds.Udp, idle_for is kinds.Echo, idle_for is kinds.Other)
    (rw (some kinds.Established, some kinds.Transitory, some kinds.Udp, some kinds.Echo, some kinds.Other) refl)

pub are_limits : (is : List Idle) (e : list_any is_out_of_range is ≡ false) → AreLimits is (limits_of is e)
unfolding limits_of
are_limits is e k = grind arith
